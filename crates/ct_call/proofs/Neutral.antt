-- Pages that are made leave what the words stand for.
use Rattle.std.proofs.Common.{◌≡◌, ℕ, ◌+◌, ◌*◌, ◌^◌, ◌≤◌, true, false, List, refl, sym, ◌∙◌, subst, arith}
use Rattle.ct_base.specs.Inode.{IsIn}
use Rattle.ct_base.specs.Rules.{Owns, part_of, IsMappedInParts, mapped}
use Rattle.ct_base.specs.Settled.{IsShut}
use Rattle.ct_base.specs.State.{SameState}
use Rattle.ct_base.specs.View.{view, inode_count}
use Rattle.ct_base.specs.Walk.{page_at}
use Rattle.ct_base.specs.Wants.{Want, is_wanted}
use Rattle.ct_frames.specs.Free.{FreePages}
use Rattle.ct_state.specs.Alike.{Alike, IsWhole}
use Rattle.ct_state.proofs.Carry.{view-same}
use Rattle.ct_state.proofs.Neutral.{seen-bounds}
use Rattle.ct_state.proofs.States.{SameHead}
use Rattle.ct_walk.specs.Growth.{Grown}
use Rattle.ct_call.specs.Mounted.{AreOwned}
use Rattle.ct_commit.specs.Rest.{IsAtRest, IsUnstaged}
use Rattle.ct_commit.proofs.Resting.{rest_alike, slots_stay}
use Rattle.ct_record.proofs.Lawful.{shut_few}
use Rattle.ct_state.proofs.Shut.{shut_state}

module _ {old new : List ℕ} {wants : List Want} {before after : FreePages} (rest : IsAtRest old) (g : Grown old new wants before after) (own : AreOwned old wants) where
  count_same : inode_count new ≡ inode_count old
  count_same = g.low 3 (omega arith)

  pub grown_alike : Alike old new
  grown_alike = record { bytes = view-same old new (λ v seen. g.bytes v (seen-bounds v seen).0); inodes = count_same }

  old_whole : IsWhole old
  old_whole = record { tables = rest.tables; mapped = rest.sound mapped }

  pub grown_whole : IsWhole new
  grown_whole = record {
    tables = g.tables;
    mapped = subst (λ b. IsMappedInParts new b (inode_count new)) (sym grown_alike.bytes) (subst (λ c. IsMappedInParts new (view old) c) (sym count_same) (λ p low out. at p low out (is_wanted wants 4 p) refl));
  }
    where
      at : (p : ℕ) → 10 * 2 ^ 27 ≤ p → ((i : ℕ) → Owns (view old) (inode_count old) i → IsIn (part_of (view old) i) (p * 4096) → ⊥) → (is : Rattle.std.specs.Prelude.Bool) → is_wanted wants 4 p ≡ is → page_at new 4 p ≡ 0
      at p low out true is = let o = own.pages p low is in absurd (out o.0 o.1 o.2)
      at p low out false is = g.cells 4 p (omega arith) is ∙ rest.sound mapped p low out

  pub grown_unstaged : IsUnstaged old → IsUnstaged new
  grown_unstaged none = slots_stay old new g.tables (λ k lt. g.cells 1 (2 + k) (omega arith) (own.staging k lt)) none

  grown_shut : IsShut new
  grown_shut = (g.low 512 (omega arith) ∙ rest.shut.0, g.low 527 (omega arith) ∙ rest.shut.1)

  same_head : SameHead old new
  same_head = record { lawful = rest.head.recorded; lawful_too = (shut_few 0 new grown_shut).lawful; words = λ w lt. g.low w (omega (arith, lt)); size = g.size }

  pub grown_rests : IsAtRest new
  grown_rests = rest_alike rest grown_alike grown_whole (λ w lt. g.low w (omega (arith, lt))) g.size grown_shut

  pub grown_state : SameState old new
  grown_state = shut_state same_head rest.shut grown_shut old_whole grown_whole grown_alike
