-- What was found for a new entry is what its record asks for.
use Rattle.std.proofs.Common.{ℕ, ◌%◌, List, ap, ◌∙◌, subst}
use Rattle.ct_base.specs.declared.inode.Inode.{Inode}
use Rattle.ct_base.specs.Objects.{Object}
use Rattle.ct_base.specs.Rules.{placed, Sound}
use Rattle.ct_base.specs.Slots.{IsSlot}
use Rattle.ct_base.specs.View.{view, inode_count}
use Rattle.ct_state.proofs.Bytes.{objects-in}
use Rattle.ct_tree.specs.Lands.{files}
use Rattle.ct_enter.proofs.Wanted.{free_unused}
use Rattle.ct_find.specs.Spots.{IsNextSlot}

-- neither the first empty slot nor the end of a directory is used
pub next_unused : {img : List ℕ} {dir : ℕ} {f : Inode} {offset : ℕ} → Sound img → IsNextSlot img dir f offset → IsSlot (files img dir) offset → ⊥
next_unused {img} {dir} sound next slot =
    let size = ap (λ (g : Object). g.size) (objects-in (view img) (inode_count img) dir next.live.number) in
    let whole = (sound placed dir next.live).slots (ap (λ (g : Inode). g.kind) next.is ∙ next.kind) in
    free_unused (files img dir) (ap (λ n. n % 256) size ∙ whole) (subst (λ o. IsSlot (files img dir) o) next.first slot)
