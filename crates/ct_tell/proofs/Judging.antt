-- What the first rule that fails leaves, and how many pairs a record has.
use Rattle.std.proofs.Common.{◌≡◌, ◌≢◌, ◌∙◌, ℕ, zero, suc, ◌<◌, ◌≤◌, List, Option, length, refl, sym, subst, arith, inl}
use Rattle.std.specs.Prelude.{Contains, slice_index}
use Rattle.ct_base.specs.Free.{HasFreePages, IsFreePage, IsRising}
use Rattle.ct_base.specs.Head.{HasHead}
use Rattle.ct_base.specs.Walk.{page_count}
use Rattle.ct_base.specs.declared.layout.TheConstants.{FIRST_PAGE}
use Rattle.ct_base.specs.Settled.{settled, open_pairs, pairs_at, pairs_behind}
use Rattle.ct_check.proofs.Firsts.{first_body}
use Rattle.ct_check.proofs.Heads.{head_most}
use Rattle.ct_check.specs.First.{MountHolds, MountRule, body, head}
use Rattle.ct_commit.specs.Rest.{IsMounted}
use Rattle.ct_call.proofs.Vacant.{has_free}
use Rattle.ct_frames.specs.Free.{FreePages}
use Rattle.ct_mount.proofs.Agreeing.{off_agree}
use Rattle.ct_mount.specs.Mounting.{IsFirst, IsSettledFrom}
use Rattle.ct_pm.specs.Images.{History}
use Rattle.ct_state.proofs.Settle.{AgreeOffRecord, cells_off}
use Rattle.ct_tree.specs.Lands.{Lands}
use Rattle.ct_tree.specs.Ordered.{IsTree}
use Rattle.ct_tree.specs.Tree.{Tree}
use Rattle.ct_tell.specs.Held.{IsCount}
use Rattle.ct_tell.specs.declared.held.Counts.{Counts}
use Rattle.ct_tell.proofs.Answering.{tree_of}

-- past rule 7 the head is lawful
pub has_head : (img : List ℕ) (rule : ℕ) → IsFirst img rule → 8 ≤ rule → HasHead img
has_head img rule (head r, is, f) late = let most = head_most r in absurd (omega (arith, is, most, late))
has_head img rule (body r, is, f) late = (first_body img r f).0

length-pairs_at : (from n : ℕ) (words : List ℕ) → length (pairs_at from n words) ≡ n
length-pairs_at from zero words = refl
length-pairs_at from (suc n) words = omega (arith, length-pairs_at from n words)

pairs_long : (long short : ℕ) (words : List ℕ) → long ≢ 0 → length (pairs_behind long short words) ≡ long
pairs_long zero short words some = absurd (some refl)
pairs_long (suc n) short words some = length-pairs_at 528 (suc n) words

pairs_short : (long short : ℕ) (words : List ℕ) → long ≡ 0 → length (pairs_behind long short words) ≡ short
pairs_short zero short words shut = length-pairs_at 520 short words
pairs_short (suc n) short words shut = absurd (omega (arith, shut))

-- as many pairs as the open gate says
pub pairs_counted : (words : List ℕ) → slice_index words 512 ≢ 0 → length (open_pairs words) ≡ slice_index words 512
pairs_counted words some = pairs_long (slice_index words 512) (slice_index words 527) words some

pub short_counted : (words : List ℕ) → slice_index words 512 ≡ 0 → length (open_pairs words) ≡ slice_index words 527
short_counted words shut = pairs_short (slice_index words 512) (slice_index words 527) words shut

-- ---- free pages

module _ {f g : List ℕ} (a : AgreeOffRecord f g) where
  pages_same : page_count g ≡ page_count f
  pages_same = a.words 2 (inl (omega arith))

  free_too : (p : ℕ) → IsFreePage g p → IsFreePage f p
  free_too p free = record {
    from = free.from;
    to = let to = free.to in omega (arith, to, pages_same);
    free = λ used. free.free (record { depth = used.depth; number = used.number; from = used.from; to = used.to; seen = used.seen; is = cells_off a used.depth used.number ∙ used.is });
  }

  free_back : (p : ℕ) → IsFreePage f p → IsFreePage g p
  free_back p free = record {
    from = free.from;
    to = let to = free.to in omega (arith, to, pages_same);
    free = λ used. free.free (record { depth = used.depth; number = used.number; from = used.from; to = used.to; seen = used.seen; is = sym (cells_off a used.depth used.number) ∙ used.is });
  }

  -- words that agree off the record have the same free pages
  free_off : (n : ℕ) → HasFreePages g n → HasFreePages f n
  free_off n h = record {
    pages = h.pages;
    are = record { rising = h.are.rising; exact = λ p. (λ c. free_too p ((h.are.exact p).0 c), λ u. (h.are.exact p).1 (free_back p u)) };
    many = h.many;
  }

-- those of a mount are those of what the image settles to
pub free_settled : {was now : List ℕ} {told : Option History} {frames : FreePages} → IsSettledFrom was now told → IsMounted now told frames → (n : ℕ) → n ≡ length frames.free → IsRising frames.free → ((q : ℕ) → Contains frames.free q → (FIRST_PAGE ≤ q) × (q < frames.pages)) → HasFreePages (settled was) n
free_settled {was} {now} {told} {frames} s mounted n many rising within =
    free_off (off_agree s.words) n (subst (HasFreePages now) (sym many) (has_free now mounted.unstaged mounted.agrees rising within))

-- the image that is mounted has a head, and lands on a tree
pub tree_told : (img : List ℕ) (counts : Counts) → ((r : MountRule) → MountHolds img r) → ((t : Tree) → IsTree t → Lands img t → IsCount t counts) → (t : Tree) × IsTree t × Lands img t × IsCount t counts
tree_told img counts holds each = let u = tree_of holds in (u.0, u.1, u.2, each u.0 u.1 u.2)
