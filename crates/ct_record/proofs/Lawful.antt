-- A record is lawful in an image, and page 0 stays.
use Rattle.std.proofs.Common.{◌≡◌, ℕ, ◌+◌, ◌*◌, ◌<◌, ◌≤◌, List, sym, ◌∙◌, inl, inr, arith}
use Rattle.std.specs.Prelude.{slice_index}
use Rattle.ct_base.specs.Settled.{Pair, Named, with_pairs, open_pairs, cleared, settled, HasFewPairs, IsRecord, IsShut}
use Rattle.ct_pm.specs.Device.{SameOff}
use Rattle.ct_record.specs.Record.{AreApart, KeepsHead, SettlesTo}
use Rattle.ct_image.proofs.Pairs.{with_pairs_off}
use Rattle.ct_record.proofs.Settles.{cleared_in, length-settled, open_target}

-- a closed record has no pairs
pub shut_few : (most : ℕ) (words : List ℕ) → IsShut words → HasFewPairs most words
shut_few most words shut = record {
  lawful = record {
    long = omega (arith, shut.0);
    short = omega (arith, shut.1);
    one = λ some. shut.1;
    long_targets = λ k below. absurd (omega (arith, shut.0));
    short_targets = λ k below. absurd (omega (arith, shut.1));
  };
  few = omega (arith, shut.0);
}

pub few_more : {most more : ℕ} (words : List ℕ) → most ≤ more → HasFewPairs most words → HasFewPairs more words
few_more words le is = record { lawful = is.lawful; few = omega (arith, is.few) }

-- as many pairs as there are
pub few_here : (words : List ℕ) → IsRecord words → HasFewPairs (slice_index words 512) words
few_here words is = record { lawful = is; few = omega arith }

-- what has the same words up to page 32 has the same record
pub few_alike : (words image : List ℕ) → IsRecord words → ((word : ℕ) → word < 16896 → slice_index image word ≡ slice_index words word) → HasFewPairs (slice_index words 512) image
few_alike words image is same =
    let long = same 512 (omega arith) in
    let short = same 527 (omega arith) in
    let pages : slice_index image 2 ≡ slice_index words 2 = same 2 (omega arith) in
    record {
      lawful = record {
        long = omega (arith, long, is.long);
        short = omega (arith, short, is.short);
        one = λ some. short ∙ is.one (omega (arith, long));
        long_targets = λ k below.
            let target = is.long_targets k (omega (arith, long)) in
            let there = same (528 + 2 * k) (omega (arith, long, is.long)) in
            (omega (arith, target.0, there), omega (arith, target.1, there, pages));
        short_targets = λ k below.
            let target = is.short_targets k (omega (arith, short)) in
            let there = same (520 + 2 * k) (omega (arith, short, is.short)) in
            (omega (arith, target.0, there), omega (arith, target.1, there, pages));
      };
      few = omega (arith, long);
    }

-- while a record is applied, it stays
pub moved_few : (words image : List ℕ) → IsRecord words → SameOff (Named (open_pairs words)) image words → HasFewPairs (slice_index words 512) image
moved_few words image is same = few_alike words image is (λ word low. same.others word (λ named. omega (arith, low, (open_target words word is named).0)))

-- settling changes no word of page 0
settled_head : (words : List ℕ) → IsRecord words → (word : ℕ) → word < 512 → slice_index (settled words) word ≡ slice_index words word
unfolding settled
settled_head words is word low =
    with_pairs_off cleared (with_pairs (open_pairs words) words) word (λ named. elim (cleared_in word named) [ inl inside ↦ omega (arith, inside.0) | inr staging ↦ omega (arith, staging.0) ])
    ∙ with_pairs_off (open_pairs words) words word (λ named. omega (arith, low, (open_target words word is named).0))

pub settles_head : (words image : List ℕ) → IsRecord words → IsRecord image → SettlesTo words image → KeepsHead words image
settles_head words image is was settles = record {
  size = sym (length-settled image) ∙ settles.size ∙ length-settled words;
  head = λ word low. sym (settled_head image was word low) ∙ settles.others word (λ inside. omega (arith, inside.0)) ∙ settled_head words is word low;
}

-- pairs off the record leave both gates closed
pub pairs_shut : (pairs : List Pair) (words : List ℕ) → AreApart pairs → IsShut words → IsShut (with_pairs pairs words)
pairs_shut pairs words apart shut =
    (with_pairs_off pairs words 512 (λ named. omega (arith, apart 512 named)) ∙ shut.0, with_pairs_off pairs words 527 (λ named. omega (arith, apart 527 named)) ∙ shut.1)
