-- An image whose root table is empty, and its free pages.
use Rattle.std.proofs.Common.{◌≡◌, ℕ, zero, suc, ◌+◌, ◌-◌, ◌*◌, ◌<◌, ◌≤◌, List, length, get_or, set, replicate, sym, ap, subst, ◌∙◌, inl, inr, arith}
use Rattle.std.specs.Prelude.{Contains}
use Rattle.std.proofs.lemmas.Bool.{cases_eq, cases_lt}
use Rattle.std.proofs.lemmas.List.{get_or-set_same, get_or-set_other, length-set, get_or-replicate, get_or_past, length-replicate}
use Rattle.ct_base.specs.Walk.{word, page_at, page_count, AreTables}
use Rattle.ct_image.proofs.Steps.{page_at-root}
use Rattle.ct_image.proofs.Write.{IsBlank, blank_tables, blank_below, past-root}
use Rattle.ct_frames.specs.Free.{rising}
use Rattle.ct_frames.specs.Agrees.{Agrees}

word-zeros : (n k : ℕ) → word (replicate n 0) k ≡ 0
word-zeros n k = elim (cases_lt k n) [
  | inl lt ↦ get_or-replicate n k 0 0 lt
  | inr past ↦ get_or_past (replicate n 0) k 0 (omega (arith, length-replicate {A = ℕ} n 0))
]

-- zeros, with the page count
pub blank_fresh : (pages : ℕ) → 34 ≤ pages → IsBlank (set (replicate (512 * pages) 0) 2 pages)
blank_fresh pages least =
    let zeros = replicate (512 * pages) 0 in
    let size : length zeros ≡ 512 * pages = length-replicate {A = ℕ} (512 * pages) 0 in
    let count : get_or (set zeros 2 pages) 2 0 ≡ pages = get_or-set_same zeros 2 pages 0 (omega (arith, size)) in
    record {
      some = omega (arith, count, least);
      there = omega (arith, count, size, length-set zeros 2 pages);
      root = λ i lt. get_or-set_other zeros 2 (33 * 512 + i) pages 0 (λ is. omega (arith, is)) ∙ word-zeros (512 * pages) (33 * 512 + i);
    }

in_rising : (n lo q : ℕ) → lo ≤ q → q < lo + n → Contains (rising n lo) q
in_rising zero lo q low high = absurd (omega arith)
in_rising (suc n) lo q low high = elim (cases_eq lo q) [
  | inl here ↦ (0, omega arith, here)
  | inr away ↦ let rest = in_rising n (suc lo) q (omega (arith, away)) (omega arith) in (suc rest.0, omega (arith, rest.1), rest.2)
]

rising_low : (n lo q k : ℕ) → k < length (rising n lo) → get_or (rising n lo) k q ≡ q → lo ≤ q
rising_low zero lo q k lt is = absurd (omega arith)
rising_low (suc n) lo q zero lt is = omega (arith, is)
rising_low (suc n) lo q (suc k) lt is = omega (arith, rising_low n (suc lo) q k (omega arith) is)

-- all pages from 34 on are free
pub agrees_blank : (img : List ℕ) (pages : ℕ) → IsBlank img → page_count img ≡ pages → Agrees img (record { pages = pages; free = rising (pages - 34) 34 })
agrees_blank img pages b count = record {
  pages = sym count;
  free = λ q free d x le is. reached d x q (rising_low (pages - 34) 34 q free.0 free.1 free.2) is;
  all = λ q low high. inl (in_rising (pages - 34) 34 q low (omega (arith, count, b.some, high)));
}
  where
    reached : (d x q : ℕ) → 34 ≤ q → page_at img d x ≡ q → ⊥
    reached zero zero q low is = omega (arith, page_at-root img, is)
    reached zero (suc x) q low is = omega (arith, past-root img (suc x) (λ z. omega arith), is)
    reached (suc d) x q low is = omega (arith, blank_below b d x, is)

-- the words of a device of zeros whose page count is set
pub blank_device : (words zeros : List ℕ) (pages : ℕ) → 34 ≤ pages → zeros ≡ replicate (512 * pages) 0 → words ≡ set zeros 2 pages
    → AreTables words × Agrees words (record { pages = pages; free = rising (pages - 34) 34 })
blank_device words zeros pages least none is =
    let whole : words ≡ set (replicate (512 * pages) 0) 2 pages = is ∙ ap (λ (l : List ℕ). set l 2 pages) none in
    let b : IsBlank words = subst IsBlank (sym whole) (blank_fresh pages least) in
    let size : length zeros ≡ 512 * pages = ap length none ∙ length-replicate {A = ℕ} (512 * pages) 0 in
    let count : page_count words ≡ pages = ap (λ (l : List ℕ). word l 2) is ∙ get_or-set_same zeros 2 pages 0 (omega (arith, size)) in
    (blank_tables b, agrees_blank words pages b count)
