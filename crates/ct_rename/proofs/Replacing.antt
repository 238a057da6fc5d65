-- An entry whose place is that of another, once that is gone with its object.
use Rattle.std.proofs.Common.{◌≡◌, ◌≢◌, ℕ, ◌+◌, ◌*◌, ◌/◌, ◌<◌, ◌≤◌, List, sym, ap, subst, ◌∙◌, inl, inr, arith}
use Rattle.ct_base.specs.declared.inode.Inode.{Inode}
use Rattle.ct_base.specs.Inode.{IsIn, IsNumber, inode, part_bytes}
use Rattle.ct_base.specs.Objects.{Object, no_object}
use Rattle.ct_base.specs.Rules.{Owns, apart, part_of, slots}
use Rattle.ct_base.specs.Settled.{IsShut}
use Rattle.ct_base.specs.Slots.{IsSlot, slot_inode}
use Rattle.ct_base.specs.View.{view, inode_count}
use Rattle.ct_commit.proofs.Pages.{base_whole, room_of}
use Rattle.ct_state.specs.Edits.{HasTail, detach}
use Rattle.ct_state.proofs.Addressed.{object_tail}
use Rattle.ct_state.proofs.Edits.{detaches, other_at, turns_of}
use Rattle.ct_state.proofs.Turning.{Kept}
use Rattle.ct_state.proofs.Relinks.{kept_slot}
use Rattle.ct_tree.specs.Lands.{files}
use Rattle.ct_remove.specs.Asked.{IsAsked}
use Rattle.ct_remove.specs.Erased.{Removes}
use Rattle.ct_remove.proofs.Asked.{dir_object, dir_other}
use Rattle.ct_remove.proofs.Removing.{count_same, files_are, removed_settled, words}
use Rattle.ct_rename.specs.Moves.{CanMove}
use Rattle.ct_rename.proofs.Moving.{from_live}

-- a page of another's partition is none of the object that goes
pub other_page : {w : List ℕ} {k s j : ℕ} → IsAsked w k s j → (p n : ℕ) → Owns (view w) (inode_count w) p → p ≢ j → n < part_bytes (inode (view w) p).level
    → Owns (view w) (inode_count w) j → IsIn (part_of (view w) j) (((inode (view w) p).base + n) / 4096 * 4096) → ⊥
other_page {w} {k} {s} {j} a p n owns other lt mine inside =
    let whole = base_whole (room_of w a.rest.sound owns) in
    elim (a.rest.sound apart p j owns mine other) [
      | inl before ↦ omega (arith, before, inside.from, lt)
      | inr after ↦ omega (arith, after, inside.to, whole)
    ]

module _ {w : List ℕ} {d o k s i j : ℕ} {name : List ℕ} (can : CanMove w d o k s i name) (asked : IsAsked w k s j) where
  pub from_other : d ≢ j
  from_other is = asked.leaf.bare o (subst (λ n. IsSlot (files w n) o) is can.slot)

  module _ {mid : List ℕ} (r : Removes w mid k s j) where
    pub inode_same : (p : ℕ) → IsNumber (inode_count w) p → p ≢ j → inode (view mid) p ≡ inode (view w) p
    inode_same p number other =
        let w0 = words asked r p 0 number other (omega arith) in
        let w1 = words asked r p 1 number other (omega arith) in
        let w2 = words asked r p 2 number other (omega arith) in
        let w3 = words asked r p 3 number other (omega arith) in
        λ t. record { kind = w0 t; size = w1 t; base = w2 t; level = w3 t }

    pub from_same : inode (view mid) d ≡ inode (view w) d
    from_same = inode_same d (from_live can).number from_other

    pub to_same : inode (view mid) k ≡ inode (view w) k
    to_same = inode_same k can.owns.live.number (dir_other asked)

    module _ (away : d ≡ k → o ≢ s) where
      tail : HasTail (files w k)
      tail = subst HasTail (sym (dir_object asked)) (object_tail (view w) k)

      kept : Kept (files w d) (detach (files w) k s d) o
      kept =
          let e = detaches (files w) k s asked.leaf.slot.dir tail asked.leaf.slot.aligned in
          kept_slot (turns_of (asked.rest.sound slots) e.others e.rewrites) d o (λ here at. away here at) can.slot

      object_is : files mid d ≡ detach (files w) k s d
      object_is = ap (λ (fs : ℕ → Object). fs d) (files_are asked r) ∙ other_at (detach (files w) k s) j no_object d from_other

      -- it may move still
      pub can_still : IsShut mid → CanMove mid d o k s i name
      can_still shut = record {
        rest = removed_settled asked r shut;
        slot = subst (λ f. IsSlot f o) (sym object_is) kept.slot;
        child = ap (λ f. slot_inode f o) object_is ∙ kept.inode ∙ can.child;
        owns = record {
          live = record {
            number = record { from = can.owns.live.number.from; to = omega (arith, can.owns.live.number.to, count_same asked r) };
            used = λ z. can.owns.live.used (ap (λ (f : Inode). f.kind) (sym to_same) ∙ z);
          };
          level = subst (λ (f : Inode). f.level ≤ 9) (sym to_same) can.owns.level;
        };
        kind = ap (λ (f : Inode). f.kind) to_same ∙ can.kind;
        aligned = can.aligned;
        low = subst (λ (f : Inode). s ≤ f.size) (sym to_same) can.low;
        fits = subst (λ (f : Inode). s + 256 ≤ part_bytes f.level) (sym to_same) can.fits;
        few = can.few;
        some = can.some;
        lawful = can.lawful;
      }
