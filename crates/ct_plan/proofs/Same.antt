-- Lists of wants that want the same cells: as much is missing of them, and they may be joined.
use Rattle.std.proofs.Common.{◌≡◌, ℕ, ◌+◌, ◌-◌, ◌*◌, ◌^◌, ◌<◌, ◌≤◌, Bool, true, false, List, [], ◌∷◌, ◌++◌, refl, sym, ap, ◌∙◌, arith}
use Rattle.std.specs.Prelude.{◌==◌, ◌&&◌, ◌||◌}
use Rattle.ct_base.specs.Walk.{page_at}
use Rattle.ct_base.specs.Wants.{Want, is_on_path, is_wanted, missing_at, missing}
use Rattle.ct_image.proofs.MissingLess.{count_below-same}

missing_at_same : (img : List ℕ) (wants few : List Want) (d : ℕ) → ((x : ℕ) → is_wanted few d x ≡ is_wanted wants d x) → missing_at img few d ≡ missing_at img wants d
unfolding missing_at
missing_at_same img wants few d same = count_below-same _ _ (512 ^ d) (λ x lt. ap (λ t. t && (page_at img d x == 0)) (same x))

-- as much is missing of wants that want the same cells
pub missing_same : (img : List ℕ) (wants few : List Want) → ((d x : ℕ) → 1 ≤ d → d ≤ 4 → is_wanted wants d x ≡ is_wanted few d x) → missing img wants ≡ missing img few
unfolding missing
missing_same img wants few same =
    let at = λ (d : ℕ) (from : 1 ≤ d) (to : d ≤ 4). missing_at_same img few wants d (λ x. same d x from to) in
    omega (arith, at 1 (omega arith) (omega arith), at 2 (omega arith) (omega arith), at 3 (omega arith) (omega arith), at 4 (omega arith) (omega arith))

pub is_wanted-append : (xs ys : List Want) (d x : ℕ) → is_wanted (xs ++ ys) d x ≡ (is_wanted xs d x || is_wanted ys d x)
is_wanted-append [] ys d x = refl
is_wanted-append (want ∷ xs) ys d x =
    ap (λ t. is_on_path d x want || t) (is_wanted-append xs ys d x) ∙ assoc (is_on_path d x want) (is_wanted xs d x) (is_wanted ys d x)
  where
    assoc : (p q r : Bool) → (p || (q || r)) ≡ ((p || q) || r)
    assoc true q r = refl
    assoc false q r = refl

-- lists that want the same are joined to lists that do
pub same_append : (xs ys us vs : List Want) (d x : ℕ) → is_wanted xs d x ≡ is_wanted us d x → is_wanted ys d x ≡ is_wanted vs d x
    → is_wanted (xs ++ ys) d x ≡ is_wanted (us ++ vs) d x
same_append xs ys us vs d x one two =
    is_wanted-append xs ys d x ∙ ap (λ t. t || is_wanted ys d x) one ∙ ap (λ t. is_wanted us d x || t) two ∙ sym (is_wanted-append us vs d x)

-- ---- a want cut in two
