-- The plan of each form of a rename: there is one, and one alone.
use Rattle.std.proofs.Common.{◌≡◌, ◌≢◌, ℕ, ◌/◌, ◌^◌, ◌≤◌, ◌++◌, Bool, true, false, List, [], ◌∷◌, Some, None, Option, refl, sym, ap, subst, ◌∙◌, inl, inr, arith}
use Rattle.std.specs.Prelude.{◌==◌, ◌&&◌, ◌||◌}
use Rattle.std.proofs.lemmas.Bool.{and_right, cases_Bool, cases_eq, ne_eqb}
use Rattle.ct_base.specs.declared.inode.Inode.{Inode}
use Rattle.ct_base.specs.Inode.{Partition, part}
use Rattle.ct_base.specs.Plan.{grown, growth_wants, next_part, page_want}
use Rattle.ct_base.specs.View.{view, inode_count}
use Rattle.ct_base.specs.Walk.{page_at}
use Rattle.ct_base.specs.Wants.{Want, count_below, is_on_path, is_wanted, missing, missing_at}
use Rattle.ct_enter.proofs.Wanted.{at_address}
use Rattle.ct_grow.proofs.Wanting.{above_there}
use Rattle.ct_plan.proofs.Same.{is_wanted-append}

or_no : (a b : Bool) → b ≡ false → (a || b) ≡ a
or_no true b is = refl
or_no false b is = is

-- a page that is there is not missing, nor is a table above it
on_there : (img : List ℕ) (d x v : ℕ) → 1 ≤ d → d ≤ 4 → page_at img 4 (v / 4096) ≢ 0 → is_on_path d x (page_want v) ≡ true → page_at img d x ≢ 0
on_there img d x v low high there on = elim (cases_eq d 4) [
  | inl four ↦
      let at = at_address 4 x v (subst (λ n. is_on_path n x (page_want v) ≡ true) four on) in
      let same : v / 4096 ≡ x = omega (arith, at.0, at.1) in
      λ z. there (ap (page_at img 4) same ∙ ap (λ n. page_at img n x) (sym four) ∙ z)
  | inr less ↦ elim (cases_eq d 3) [
    | inl three ↦
        let at = at_address 3 x v (subst (λ n. is_on_path n x (page_want v) ≡ true) three on) in
        let same : v / 4096 / 512 ^ 1 ≡ x = omega (arith, at.0, at.1) in
        λ z. above_there img 1 3 (v / 4096) there (ap (page_at img 3) same ∙ ap (λ n. page_at img n x) (sym three) ∙ z)
    | inr less' ↦ elim (cases_eq d 2) [
      | inl two ↦
          let at = at_address 2 x v (subst (λ n. is_on_path n x (page_want v) ≡ true) two on) in
          let same : v / 4096 / 512 ^ 2 ≡ x = omega (arith, at.0, at.1) in
          λ z. above_there img 2 2 (v / 4096) there (ap (page_at img 2) same ∙ ap (λ n. page_at img n x) (sym two) ∙ z)
      | inr one' ↦
          let one : d ≡ 1 = omega (arith, low, high, less, less', one') in
          let at = at_address 1 x v (subst (λ n. is_on_path n x (page_want v) ≡ true) one on) in
          let same : v / 4096 / 512 ^ 3 ≡ x = omega (arith, at.0, at.1) in
          λ z. above_there img 3 1 (v / 4096) there (ap (page_at img 1) same ∙ ap (λ n. page_at img n x) (sym one) ∙ z)
    ]
  ]
]

module _ (img : List ℕ) (xs : List Want) (v : ℕ) (there : page_at img 4 (v / 4096) ≢ 0) where
  same_cell : (d x : ℕ) → 1 ≤ d → d ≤ 4 → (is_wanted (xs ++ page_want v ∷ []) d x && (page_at img d x == 0)) ≡ (is_wanted xs d x && (page_at img d x == 0))
  same_cell d x low high = elim (cases_Bool (is_on_path d x (page_want v))) [
    | inl on ↦
        let some = ne_eqb (page_at img d x) 0 (on_there img d x v low high there on) in
        and_right (is_wanted (xs ++ page_want v ∷ []) d x) (page_at img d x == 0) some ∙ sym (and_right (is_wanted xs d x) (page_at img d x == 0) some)
    | inr off ↦
        let none : is_wanted (page_want v ∷ []) d x ≡ false = or_no (is_on_path d x (page_want v)) false refl ∙ off in
        ap (λ b. b && (page_at img d x == 0)) (is_wanted-append xs (page_want v ∷ []) d x ∙ or_no (is_wanted xs d x) (is_wanted (page_want v ∷ []) d x) none)
  ]

  same_at : (d : ℕ) → 1 ≤ d → d ≤ 4 → missing_at img (xs ++ page_want v ∷ []) d ≡ missing_at img xs d
  unfolding missing_at
  same_at d low high = ap (λ (p : ℕ → Bool). count_below p (512 ^ d)) (λ i x. same_cell d x low high i)

  pub missing_there : missing img (xs ++ page_want v ∷ []) ≡ missing img xs
  unfolding missing
  missing_there = omega (arith, same_at 1 (omega arith) (omega arith), same_at 2 (omega arith) (omega arith), same_at 3 (omega arith) (omega arith), same_at 4 (omega arith) (omega arith))

append_one : (xs : List Want) (a b : Want) → xs ++ (a ∷ b ∷ []) ≡ (xs ++ (a ∷ [])) ++ (b ∷ [])
append_one [] a b = refl
append_one (x ∷ xs) a b = ap (λ (l : List Want). x ∷ l) (append_one xs a b)

-- the same growth, with the page of an inode that is there
pub grown_there : (img : List ℕ) (f : Inode) (g : Option ℕ) (X : Partition → Want) (v : ℕ) → page_at img 4 (v / 4096) ≢ 0
    → missing img (grown (view img) (inode_count img) f g (λ new. X new ∷ page_want v ∷ [])).wants ≡ missing img (grown (view img) (inode_count img) f g (λ new. X new ∷ [])).wants
grown_there img f None X v there = missing_there img (X (part f) ∷ []) v there
grown_there img f (Some level) X v there =
    let p = next_part (view img) (inode_count img) level in
    ap (missing img) (append_one (growth_wants f p) (X p) (page_want v)) ∙ missing_there img (growth_wants f p ++ (X p ∷ [])) v there

pub grown_growth : (b : ℕ → ℕ) (count : ℕ) (f : Inode) (g : Option ℕ) (more : Partition → List Want) → (grown b count f g more).growth ≡ g
grown_growth b count f None more = refl
grown_growth b count f (Some level) more = refl
