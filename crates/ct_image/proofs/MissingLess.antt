-- A link takes one from what is missing, where its cell is wanted.
use Rattle.std.proofs.Common.{◌≡◌, ◌≢◌, ℕ, zero, suc, ◌+◌, ◌*◌, ◌^◌, ◌<◌, ◌≤◌, Bool, true, false, cond, List, refl, sym, ap, subst, ◌∙◌, inl, inr, arith}
use Rattle.std.specs.Prelude.{◌==◌, ◌&&◌}
use Rattle.std.proofs.lemmas.Bool.{cases_eq, eq-eqb, ne_eqb, and_from, and_left, and_right, and_parts, cases_Bool}
use Rattle.ct_base.specs.Walk.{page_at}
use Rattle.ct_base.specs.Wants.{count_below, Want, is_wanted, missing_at, missing}
use Rattle.ct_image.proofs.Unreached.{Unreached, unreached_at}
use Rattle.ct_image.proofs.Link.{Links, link_at, linked}
use Rattle.ct_image.proofs.Below.{below-range, page_at-below}

pub count_below-same : (p q : ℕ → Bool) (n : ℕ) → ((x : ℕ) → x < n → q x ≡ p x) → count_below q n ≡ count_below p n
unfolding count_below
count_below-same p q zero same = refl
count_below-same p q (suc n) same =
    ap (λ t. cond t 1 0 + count_below q n) (same n (omega arith)) ∙ ap (λ k. cond (p n) 1 0 + k) (count_below-same p q n (λ x lt. same x (omega arith)))

-- one number that passed passes no more
pub count_below-less : (p q : ℕ → Bool) (n a : ℕ) → a < n → p a ≡ true → q a ≡ false → ((x : ℕ) → x ≢ a → q x ≡ p x) → count_below q n + 1 ≡ count_below p n
unfolding count_below
count_below-less p q zero a lt is not same = absurd (omega arith)
count_below-less p q (suc n) a lt is not same =
    elim (cases_eq a n) [
      | inl last ↦
          let rest = count_below-same p q n (λ x l. same x (omega (arith, last))) in
          rw (ap p (sym last) ∙ is, ap q (sym last) ∙ not) (omega (arith, rest))
      | inr before ↦
          let rest = count_below-less p q n a (omega (arith, before)) is not same in
          rw (same n (λ e. before (sym e))) (omega (arith, rest))
    ]

pub count_below-none : (p : ℕ → Bool) (n : ℕ) → ((x : ℕ) → x < n → p x ≡ false) → count_below p n ≡ 0
unfolding count_below
count_below-none p zero none = refl
count_below-none p (suc n) none =
    let rest = count_below-none p n (λ x lt. none x (omega arith)) in
    rw (none n (omega arith)) (omega (arith, rest))

pub count_below-some : (p : ℕ → Bool) (n a : ℕ) → a < n → p a ≡ true → 0 < count_below p n
unfolding count_below
count_below-some p zero a lt is = absurd (omega arith)
count_below-some p (suc n) a lt is =
    elim (cases_eq a n) [
      | inl last ↦ rw (ap p (sym last) ∙ is) (omega arith)
      | inr before ↦ omega (arith, count_below-some p n a (omega (arith, before)) is)
    ]

pub count_below-le : (p q : ℕ → Bool) (n : ℕ) → ((x : ℕ) → x < n → p x ≡ true → q x ≡ true) → count_below p n ≤ count_below q n
unfolding count_below
count_below-le p q zero more = omega arith
count_below-le p q (suc n) more =
    let rest = count_below-le p q n (λ x lt. more x (omega arith)) in
    elim (cases_Bool (p n)) [
      | inl t ↦ rw (t, more n (omega arith) t) (omega (arith, rest))
      | inr f ↦ rw f (omega (arith, rest))
    ]

pub missing_at-same : (old new : List ℕ) (wants : List Want) (d : ℕ) → ((x : ℕ) → page_at new d x ≡ page_at old d x) → missing_at new wants d ≡ missing_at old wants d
unfolding missing_at
missing_at-same old new wants d same = count_below-same _ _ (512 ^ d) (λ x lt. ap (λ k. is_wanted wants d x && (k == 0)) (same x))

-- what is written on a page that no cell has leaves as much missing
pub missing_unreached : {old new : List ℕ} {p : ℕ} → Unreached old new p → (wants : List Want) → missing new wants ≡ missing old wants
unfolding missing
missing_unreached {old} {new} u wants =
    let at = λ (d : ℕ) (le : d ≤ 4). missing_at-same old new wants d (λ x. unreached_at u d x le) in
    omega (arith, at 1 (omega arith), at 2 (omega arith), at 3 (omega arith), at 4 (omega arith))

missing_at_some : (img : List ℕ) (wants : List Want) (d x : ℕ) → x < 512 ^ d → is_wanted wants d x ≡ true → page_at img d x ≡ 0 → 0 < missing_at img wants d
unfolding missing_at
missing_at_some img wants d x lt wanted none = count_below-some _ (512 ^ d) x lt (and_from _ _ wanted (eq-eqb _ 0 none))

-- a wanted cell that is absent is missing
pub missing_some : (img : List ℕ) (wants : List Want) (d x : ℕ) → 1 ≤ d → d ≤ 4 → x < 512 ^ d → is_wanted wants d x ≡ true → page_at img d x ≡ 0 → 0 < missing img wants
unfolding missing
missing_some img wants zero x from to lt wanted none = absurd (omega arith)
missing_some img wants (suc zero) x from to lt wanted none = omega (arith, missing_at_some img wants 1 x lt wanted none)
missing_some img wants (suc (suc zero)) x from to lt wanted none = omega (arith, missing_at_some img wants 2 x lt wanted none)
missing_some img wants (suc (suc (suc zero))) x from to lt wanted none = omega (arith, missing_at_some img wants 3 x lt wanted none)
missing_some img wants (suc (suc (suc (suc zero)))) x from to lt wanted none = omega (arith, missing_at_some img wants 4 x lt wanted none)
missing_some img wants (suc (suc (suc (suc (suc d))))) x from to lt wanted none = absurd (omega arith)

missing_at_none : (img : List ℕ) (wants : List Want) (d : ℕ) → ((x : ℕ) → is_wanted wants d x ≡ true → page_at img d x ≢ 0) → missing_at img wants d ≡ 0
unfolding missing_at
missing_at_none img wants d there = count_below-none _ (512 ^ d) (λ x lt. elim (cases_Bool (is_wanted wants d x)) [
  | inl wanted ↦ and_right _ _ (ne_eqb _ 0 (there x wanted))
  | inr not ↦ and_left _ _ not
])

-- nothing is missing where each wanted cell is there
pub missing_none : (img : List ℕ) (wants : List Want) → ((d x : ℕ) → 1 ≤ d → d ≤ 4 → is_wanted wants d x ≡ true → page_at img d x ≢ 0) → missing img wants ≡ 0
unfolding missing
missing_none img wants there =
    let at = λ (d : ℕ) (from : 1 ≤ d) (to : d ≤ 4). missing_at_none img wants d (λ x wanted. there d x from to wanted) in
    omega (arith, at 1 (omega arith) (omega arith), at 2 (omega arith) (omega arith), at 3 (omega arith) (omega arith), at 4 (omega arith) (omega arith))

missing_at_le : (img : List ℕ) (wants more : List Want) (d : ℕ) → ((x : ℕ) → is_wanted wants d x ≡ true → is_wanted more d x ≡ true) → missing_at img wants d ≤ missing_at img more d
unfolding missing_at
missing_at_le img wants more d each = count_below-le _ _ (512 ^ d) (λ x lt both.
    let p : (is_wanted wants d x ≡ true) × ((page_at img d x == 0) ≡ true) = and_parts _ _ both in
    and_from _ _ (each x p.0) p.1)

-- more is missing of more wants
pub missing_le : (img : List ℕ) (wants more : List Want) → ((d x : ℕ) → is_wanted wants d x ≡ true → is_wanted more d x ≡ true) → missing img wants ≤ missing img more
unfolding missing
missing_le img wants more each =
    let at = λ (d : ℕ). missing_at_le img wants more d (each d) in
    omega (arith, at 1, at 2, at 3, at 4)

module _ {old new : List ℕ} {d x i p : ℕ} (l : Links old new d x i p) (wants : List Want) where
  -- at the depth of the cell there is one less
  pub missing_less : is_wanted wants (suc d) (x * 512 + i) ≡ true → missing_at new wants (suc d) + 1 ≡ missing_at old wants (suc d)
  unfolding missing_at
  missing_less wanted =
      let a = x * 512 + i in
      let there : page_at new (suc d) a ≢ 0 = λ none. omega (arith, l.low, sym (linked l) ∙ none) in
      let range = below-range new 33 (suc d) a (λ none. there (page_at-below new (suc d) a ∙ none)) in
      count_below-less _ _ (512 ^ suc d) a range
      (and_from _ _ wanted (eq-eqb _ 0 l.absent))
      (and_right _ _ (ne_eqb _ 0 there))
      (λ y other. elim (link_at l (suc d) y (omega (arith, l.depth))) [
        | inl same ↦ ap (λ k. is_wanted wants (suc d) y && (k == 0)) same
        | inr cell ↦ absurd (other cell.1)
      ])

  -- at each other depth there are as many
  pub missing_same : (e : ℕ) → e ≤ 4 → e ≢ suc d → missing_at new wants e ≡ missing_at old wants e
  unfolding missing_at
  missing_same e le other =
      count_below-same _ _ (512 ^ e) (λ y lt. elim (link_at l e y le) [
        | inl same ↦ ap (λ k. is_wanted wants e y && (k == 0)) same
        | inr cell ↦ absurd (other cell.0)
      ])

  pub missing_link : is_wanted wants (suc d) (x * 512 + i) ≡ true → missing new wants + 1 ≡ missing old wants
  unfolding missing
  missing_link wanted =
      elim (cases_eq d 0) [
        | inl d0 ↦ omega (arith, at 1 (omega (arith, d0)), missing_same 2 (omega arith) (omega (arith, d0)), missing_same 3 (omega arith) (omega (arith, d0)), missing_same 4 (omega arith) (omega (arith, d0)))
        | inr n0 ↦ elim (cases_eq d 1) [
          | inl d1 ↦ omega (arith, at 2 (omega (arith, d1)), missing_same 1 (omega arith) (omega (arith, d1)), missing_same 3 (omega arith) (omega (arith, d1)), missing_same 4 (omega arith) (omega (arith, d1)))
          | inr n1 ↦ elim (cases_eq d 2) [
            | inl d2 ↦ omega (arith, at 3 (omega (arith, d2)), missing_same 1 (omega arith) (omega (arith, d2)), missing_same 2 (omega arith) (omega (arith, d2)), missing_same 4 (omega arith) (omega (arith, d2)))
            | inr n2 ↦
                let d3 : d ≡ 3 = omega (arith, l.depth) in
                omega (arith, at 4 (omega (arith, d3)), missing_same 1 (omega arith) (omega (arith, d3)), missing_same 2 (omega arith) (omega (arith, d3)), missing_same 3 (omega arith) (omega (arith, d3)))
          ]
        ]
      ]
    where
      at : (e : ℕ) → suc d ≡ e → missing_at new wants e + 1 ≡ missing_at old wants e
      at e is = subst (λ (k : ℕ). missing_at new wants k + 1 ≡ missing_at old wants k) is (missing_less wanted)
