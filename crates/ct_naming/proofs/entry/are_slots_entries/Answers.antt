use Rattle.std.proofs.Common.{◌≢◌, ℕ, refl, sym, ap, subst, ◌∙◌}
use Rattle.ct_base.specs.declared.inode.Inode.{Inode}
use Rattle.ct_base.specs.Inode.{inode}
use Rattle.ct_base.specs.Objects.{Object, objects}
use Rattle.ct_base.specs.Rules.{IsEntry}
use Rattle.ct_base.specs.Slots.{IsSlot}
use Rattle.ct_base.specs.View.{inode_count, view}
use Rattle.ct_naming.proofs.Naming.{dir_is, no_slot}
use Rattle.ct_naming.proofs.entry.are_slots_entries.Goals as goal

pub returns-then-dir-ne-DIRECTORY_KIND : goal.returns-then-dir-ne-DIRECTORY_KIND
returns-then-dir-ne-DIRECTORY_KIND g c =
    let w = g.D.Pm.words c.args.dev.now in
    let kind = ap (λ (f : Inode). f.kind) c.get-dir.ensures in
    let other : (inode (view w) c.args.n).kind ≢ 2 = λ two. c.if-dir-ne-DIRECTORY_KIND.true (kind ∙ two) in
    (λ on o s. absurd (no_slot (view w) (inode_count w) c.args.n c.requires.number other o s), λ all. refl)

pub returns : goal.returns
returns g c =
    let w = g.D.Pm.words c.args.dev.now in
    let fs = objects (view w) (inode_count w) in
    let is = dir_is w c.requires.number c.get-dir.ensures in
    let P : Object → Type 0 = λ f. (o : ℕ) → IsSlot f o → IsEntry fs f o in
    (λ on. subst P (sym is) (c.has_entries.ensures.0 on), λ all. c.has_entries.ensures.1 (subst P is all))
