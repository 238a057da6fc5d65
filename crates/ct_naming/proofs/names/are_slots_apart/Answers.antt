use Rattle.std.proofs.Common.{◌≢◌, refl, sym, ap, subst, ◌∙◌, arith}
use Rattle.ct_base.specs.declared.inode.Inode.{Inode}
use Rattle.ct_base.specs.Inode.{inode}
use Rattle.ct_base.specs.View.{inode_count, view}
use Rattle.ct_dir.proofs.Readable.{readable}
use Rattle.ct_dir.specs.Directory.{IsReadable}
use Rattle.ct_naming.specs.Spelling.{AreSlotsApart}
use Rattle.ct_naming.proofs.Naming.{dir_is, no_slot}
use Rattle.ct_naming.proofs.Spelt.{neighbours_apart, slots_apart}
use Rattle.ct_naming.proofs.names.are_slots_apart.Goals as goal

pub returns-then-dir-ne-DIRECTORY_KIND : goal.returns-then-dir-ne-DIRECTORY_KIND
returns-then-dir-ne-DIRECTORY_KIND g c =
    let w = g.D.Pm.words c.args.dev.now in
    let kind = ap (λ (f : Inode). f.kind) c.get-dir.ensures in
    let other : (inode (view w) c.args.n).kind ≢ 2 = λ two. c.if-dir-ne-DIRECTORY_KIND.true (kind ∙ two) in
    (λ on o k so sk same. absurd (no_slot (view w) (inode_count w) c.args.n c.requires.number other o so), λ all. refl)

pub returns : goal.returns
returns g c =
    let w = g.D.Pm.words c.args.dev.now in
    let fits = g.met.D.Pm.words_fit c.args.dev.now in
    let dir = c.get-dir.result in
    let is = dir_is w c.requires.number c.get-dir.ensures in
    let kind = ap (λ (f : Inode). f.kind) c.get-dir.ensures in
    let reads = subst (IsReadable w) (sym c.get-dir.ensures) (readable w (inode_count w) c.args.n c.requires.tables c.requires.number (omega (arith, kind)) c.requires.placed c.requires.entries) in
    let list = c.in_ok-names.ensures in (
      λ on. subst AreSlotsApart (sym is) (slots_apart reads fits list.names list.sorted (c.are_neighbours_apart.ensures.0 on)),
      λ apart. c.are_neighbours_apart.ensures.1 (neighbours_apart reads fits list.names (subst AreSlotsApart is apart)),
    )
