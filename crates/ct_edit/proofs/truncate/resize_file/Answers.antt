use Rattle.std.proofs.Common.{◌∙◌, ap, inl, arith}
use Rattle.ct_base.specs.declared.inode.Inode.{Inode}
use Rattle.ct_base.specs.Inode.{inode}
use Rattle.ct_base.specs.View.{view}
use Rattle.ct_tree.specs.Content.{resized}
use Rattle.ct_tree.specs.Lands.{files}
use Rattle.ct_commit.proofs.Landed.{rest_as}
use Rattle.ct_call.proofs.Resting.{idle_phase}
use Rattle.ct_edit.specs.Changed.{ChangesOrNot}
use Rattle.ct_edit.proofs.Resized.{grows_never, same_changes}
use Rattle.ct_edit.proofs.truncate.resize_file.Goals as goal

pub returns-then-len-size-clause-changes : goal.returns-then-len-size-clause-changes
returns-then-len-size-clause-changes g c = same_changes (g.D.Pm.words c.args.dev) c.requires.live c.get-size.ensures c.if-len-size.true

pub returns-then-len-size-clause-moved : goal.returns-then-len-size-clause-moved
returns-then-len-size-clause-moved g c level goes =
    absurd (grows_never (g.D.Pm.words c.args.dev) (inode (view (g.D.Pm.words c.args.dev)) c.args.file) (let is = c.if-len-size.true ∙ ap (λ (f : Inode). f.size) c.get-size.ensures in omega (arith, is)) c.requires.plan goes)

pub returns-then-len-size-clause-phase : goal.returns-then-len-size-clause-phase
returns-then-len-size-clause-phase g c =
    idle_phase (ChangesOrNot (files (g.D.Pm.words c.args.dev)) c.args.file (resized c.args.len)) c.requires.mounted (g.met.D.Pm.replays c.args.dev) (inl (rest_as c.requires.mounted.rest))
