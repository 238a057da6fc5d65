use Rattle.std.proofs.Common.{sym, subst}
use Rattle.ct_base.specs.Slots.{IsSlot}
use Rattle.ct_call.specs.Mounted.{Volume}
use Rattle.ct_dir.specs.Directory.{dir_of}
use Rattle.ct_fs.proofs.system.Fs.name_of.Goals as goal

pub name_at-requires-clause-used : goal.name_at-requires-clause-used
name_at-requires-clause-used g c =
    subst (λ (v : Volume g.row.D.Denot). IsSlot (dir_of (g.D.Pm.words v.dev) c.args.dir) c.args.offset) (sym c.mounted.view_is) (c.requires.slot _ c.in-Some.ensures.mount)
