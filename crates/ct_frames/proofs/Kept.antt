-- What holds of the frames holds after a page is given or taken.
use Rattle.std.proofs.Common.{◌≡◌, ◌≢◌, ℕ, ◌+◌, ◌-◌, ◌/◌, ◌<◌, ◌≤◌, Bool, true, false, min, List, length, get_or, replicate, ap, ◌∙◌, inl, inr, arith}
use Rattle.std.proofs.lemmas.Bool.{cases_eq, cases_lt, both_ways}
use Rattle.std.proofs.lemmas.List.{get_or-replicate, get_or_past, length-replicate}
use Rattle.ct_frames.specs.Free.{listed, is_set, rising, ZeroBelow, AreFrames}
use Rattle.ct_frames.proofs.Masks.{is_set-zero}
use Rattle.ct_frames.proofs.Lists.{listed-inserted, listed-without, listed-skip, listed-all, length-inserted, length-without}

-- One bit differs.
pub record OneBit (old new : List ℕ) (page : ℕ) (bit : Bool) : Type 0 where
  pub here : is_set new page ≡ bit
  pub others : (q : ℕ) → q ≢ page → is_set new q ≡ is_set old q
  pub words : (k : ℕ) → k ≢ page / 64 → get_or new k 0 ≡ get_or old k 0
  pub size : length new ≡ length old

-- no bit stands in a word of zeros
pub from_word : (words : List ℕ) (from page : ℕ) → ZeroBelow words from → is_set words page ≡ true → from ≤ page / 64
from_word words from page zeros is =
    elim (cases_lt (page / 64) from) [
      | inl lt ↦ absurd (both_ways _ (is_set-zero words page (zeros (page / 64) lt)) is)
      | inr le ↦ le
    ]

pub frames_given : (old new : List ℕ) (pages from total page : ℕ) → AreFrames old pages from total → OneBit old new page true → 34 ≤ page → page < pages → is_set old page ≡ false
    → AreFrames new pages (min from (page / 64)) (total + 1)
frames_given old new pages from total page a one low high not =
    let gives = listed-inserted (is_set old) (is_set new) pages 0 page (omega arith) (omega arith) not one.here one.others in
    record {
      least = a.least;
      most = a.most;
      size = omega (arith, a.size, one.size);
      short = omega (arith, a.short, one.size);
      first = omega (arith, a.first, one.size);
      zeros = λ k lt. one.words k (omega arith) ∙ a.zeros k (omega arith);
      low = λ q lt. one.others q (omega arith) ∙ a.low q lt;
      high = λ q le. one.others q (omega arith) ∙ a.high q le;
      count = omega (arith, a.count, ap length gives, length-inserted page (listed (is_set old) pages 0));
    }

pub frames_taken : (old new : List ℕ) (pages from from' total page : ℕ) → AreFrames old pages from total → OneBit old new page false → page < pages → is_set old page ≡ true
    → from' ≤ length old → ZeroBelow old from' → AreFrames new pages from' (total - 1)
frames_taken old new pages from from' total page a one high is in_range zeros =
    let takes = listed-without (is_set old) (is_set new) pages 0 page (omega arith) (omega arith) is one.here one.others in
    let word = from_word old from' page zeros is in
    record {
      least = a.least;
      most = a.most;
      size = omega (arith, a.size, one.size);
      short = omega (arith, a.short, one.size);
      first = omega (arith, in_range, one.size);
      zeros = λ k lt. one.words k (omega (arith, word)) ∙ zeros k lt;
      low = λ q lt. elim (cases_eq q page) [ inl here ↦ ap (is_set new) here ∙ one.here | inr away ↦ one.others q away ∙ a.low q lt ];
      high = λ q le. one.others q (omega arith) ∙ a.high q le;
      count = omega (arith, a.count, ap length takes, length-without (is_set old) pages 0 page (omega arith) (omega arith) is);
    }

-- a page whose bit is set is one of those
pub in_pages : (words : List ℕ) (pages from total page : ℕ) → AreFrames words pages from total → is_set words page ≡ true → (34 ≤ page) × (page < pages)
in_pages words pages from total page a is = (
  elim (cases_lt page 34) [ inl lt ↦ absurd (both_ways _ (a.low page lt) is) | inr le ↦ le ],
  elim (cases_lt page pages) [ inl lt ↦ lt | inr le ↦ absurd (both_ways _ (a.high page le) is) ],
)

-- all free, with no bit outside
pub listed-full : (words : List ℕ) (pages : ℕ) → 34 ≤ pages → ((q : ℕ) → q < 34 → is_set words q ≡ false) → ((q : ℕ) → 34 ≤ q → q < pages → is_set words q ≡ true)
    → listed (is_set words) pages 0 ≡ rising (pages - 34) 34
listed-full words pages least low set =
    listed-skip (is_set words) 34 pages (pages - 34) 0 34 (omega arith) (omega arith) (λ q p l. low q (omega arith))
    ∙ listed-all (is_set words) (pages - 34) 34 (λ q p l. set q p (omega arith))

pub is_set-zeros : (n q : ℕ) → is_set (replicate n 0) q ≡ false
is_set-zeros n q =
    is_set-zero _ q (elim (cases_lt (q / 64) n) [
      | inl lt ↦ get_or-replicate n (q / 64) 0 0 lt
      | inr le ↦ get_or_past _ (q / 64) 0 (omega (arith, length-replicate {A = ℕ} n 0))
    ])
