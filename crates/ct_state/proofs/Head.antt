-- What settling leaves of page 0.
use Rattle.std.proofs.Common.{◌≡◌, ℕ, zero, suc, ◌<◌, List, length, ◌∙◌, arith}
use Rattle.std.specs.Prelude.{slice_index}
use Rattle.ct_base.specs.Walk.{word}
use Rattle.ct_base.specs.View.{inode_count}
use Rattle.ct_base.specs.Settled.{Named, with_pairs, pairs_behind, open_pairs, cleared, settled, IsTarget, HaveTargets, IsRecord}
use Rattle.ct_image.proofs.Pairs.{length-with_pairs, with_pairs_off, named_target}
use Rattle.ct_state.proofs.Settle.{cleared_off}

behind_target : (long short : ℕ) (img : List ℕ) (w : ℕ) → HaveTargets 528 long img → HaveTargets 520 short img → Named (pairs_behind long short img) w → IsTarget img w
behind_target zero short img w longs shorts named = named_target 520 short img w shorts named
behind_target (suc n) short img w longs shorts named = named_target 528 (suc n) img w longs named

-- what the open record names lies in page 33 or after it
pub open_target : (img : List ℕ) (w : ℕ) → IsRecord img → Named (open_pairs img) w → IsTarget img w
open_target img w is named = behind_target (slice_index img 512) (slice_index img 527) img w is.long_targets is.short_targets named

module _ (img : List ℕ) (is : IsRecord img) where
  pub settled_head : (w : ℕ) → w < 512 → word (settled img) w ≡ word img w
  unfolding settled
  settled_head w low =
      cleared_off (with_pairs (open_pairs img) img) w (λ e. omega arith) (λ e. omega arith) (λ slot. omega (arith, slot.from))
      ∙ with_pairs_off (open_pairs img) img w (λ named. omega (arith, (open_target img w is named).0))

  pub settled_inodes : inode_count (settled img) ≡ inode_count img
  settled_inodes = settled_head 3 (omega arith)

  pub settled_size : length (settled img) ≡ length img
  unfolding settled
  settled_size = length-with_pairs cleared (with_pairs (open_pairs img) img) ∙ length-with_pairs (open_pairs img) img
