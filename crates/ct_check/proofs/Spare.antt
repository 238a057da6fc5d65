-- The pages without a mark, of those that a loop has passed.
use Rattle.std.proofs.Common.{◌≡◌, ◌≢◌, ℕ, ◌+◌, ◌-◌, ◌<◌, ◌≤◌, Bool, true, false, List, refl, sym, ap, ◌∙◌, inl, inr, arith}
use Rattle.std.specs.Prelude.{nat_lt, not, if◌then◌else◌, Contains, ◌↔◌}
use Rattle.std.proofs.lemmas.Bool.{cases_eq, cases_lt, both_ways, cond-true, cond-false, lt-ltb, le-ltb}
use Rattle.ct_frames.specs.Free.{listed, without, rising}
use Rattle.ct_frames.proofs.Lists.{listed-same, listed-skip, listed-all, listed-without, in_listed, listed_passes}
use Rattle.ct_marks.specs.Marks.{is_marked}

-- page q is free once the pages below k were passed
unfoldable pub is_spare : List ℕ → ℕ → ℕ → Bool
is_spare marks k q = if nat_lt q 34 then false else (if nat_lt q k then not (is_marked marks q) else true)

spare_low : (marks : List ℕ) (k q : ℕ) → q < 34 → is_spare marks k q ≡ false
unfolding is_spare
spare_low marks k q lt = cond-true _ _ _ (lt-ltb q 34 lt)

spare_passed : (marks : List ℕ) (k q : ℕ) → 34 ≤ q → q < k → is_spare marks k q ≡ not (is_marked marks q)
unfolding is_spare
spare_passed marks k q low lt = cond-false _ _ _ (le-ltb q 34 low) ∙ cond-true _ _ _ (lt-ltb q k lt)

pub spare_ahead : (marks : List ℕ) (k q : ℕ) → 34 ≤ q → k ≤ q → is_spare marks k q ≡ true
unfolding is_spare
spare_ahead marks k q low le = cond-false _ _ _ (le-ltb q 34 low) ∙ cond-false _ _ _ (le-ltb q k le)

spare_other : (marks : List ℕ) (k q : ℕ) → q ≢ k → is_spare marks (k + 1) q ≡ is_spare marks k q
spare_other marks k q ne = elim (cases_lt q 34) [
  | inl lt ↦ spare_low marks (k + 1) q lt ∙ sym (spare_low marks k q lt)
  | inr low ↦ elim (cases_lt q k) [
    | inl lt ↦ spare_passed marks (k + 1) q low (omega arith) ∙ sym (spare_passed marks k q low lt)
    | inr ge ↦ spare_ahead marks (k + 1) q low (omega arith) ∙ sym (spare_ahead marks k q low ge)
  ]
]

module _ (marks : List ℕ) (pages : ℕ) where
  -- none was passed
  pub spare_start : 34 ≤ pages → rising (pages - 34) 34 ≡ listed (is_spare marks 34) pages 0
  spare_start least = sym
      (listed-skip (is_spare marks 34) 34 pages (pages - 34) 0 34 (omega arith) (omega arith) (λ q p l. spare_low marks 34 q (omega arith))
      ∙ listed-all (is_spare marks 34) (pages - 34) 34 (λ q p l. spare_ahead marks 34 q p p))

  pub spare_there : (k : ℕ) → 34 ≤ k → k < pages → Contains (listed (is_spare marks k) pages 0) k
  spare_there k low high = in_listed (is_spare marks k) pages 0 k (omega arith) (omega arith) (spare_ahead marks k k low (omega arith))

  -- one with a mark is passed
  pub spare_marked : (k : ℕ) → 34 ≤ k → k < pages → is_marked marks k ≡ true → without k (listed (is_spare marks k) pages 0) ≡ listed (is_spare marks (k + 1)) pages 0
  spare_marked k low high on = sym (listed-without (is_spare marks k) (is_spare marks (k + 1)) pages 0 k (omega arith) (omega arith)
      (spare_ahead marks k k low (omega arith)) (spare_passed marks (k + 1) k low (omega arith) ∙ ap not on) (spare_other marks k))

  -- and one without
  pub spare_unmarked : (k : ℕ) → 34 ≤ k → is_marked marks k ≡ false → listed (is_spare marks k) pages 0 ≡ listed (is_spare marks (k + 1)) pages 0
  spare_unmarked k low off = sym (listed-same (is_spare marks k) (is_spare marks (k + 1)) pages 0 (λ q p l. elim (cases_eq q k) [
    | inl here ↦
        ap (is_spare marks (k + 1)) here ∙ spare_passed marks (k + 1) k low (omega arith) ∙ ap not off
        ∙ sym (spare_ahead marks k k low (omega arith)) ∙ ap (is_spare marks k) (sym here)
    | inr other ↦ spare_other marks k q other
  ]))

  -- all were passed
  pub spare_all : (q : ℕ) → Contains (listed (is_spare marks pages) pages 0) q ↔ ((34 ≤ q) × (q < pages) × (is_marked marks q ≡ false))
  spare_all q = (
    λ has.
        let p = listed_passes (is_spare marks pages) pages 0 q has in
        elim (cases_lt q 34) [
          | inl lt ↦ absurd (both_ways _ (spare_low marks pages q lt) p.2)
          | inr low ↦ (low, omega (arith, p.1), unmarked (is_marked marks q) (sym (spare_passed marks pages q low (omega (arith, p.1))) ∙ p.2))
        ],
    λ is. in_listed (is_spare marks pages) pages 0 q (omega arith) (omega (arith, is.1)) (spare_passed marks pages q is.0 is.1 ∙ ap not is.2),
  )
    where
      unmarked : (b : Bool) → not b ≡ true → b ≡ false
      unmarked true e = cc
      unmarked false e = refl
