-- The names of entries in their order: which comes after which.
use Rattle.std.proofs.Common.{◌≡◌, ◌∙◌, ℕ, zero, suc, ◌+◌, List, [], ◌∷◌, Some, None, refl, ap, subst, arith, false}
use Rattle.std.specs.Prelude.{slice_get}
use Rattle.std.specs.declared.cmp.Ordering.TheVariants.{Less}
use Rattle.std.specs.Ordering.{ordering_reverse}
use Rattle.std.proofs.lemmas.Cmp.{nat_list_cmp_total, tied_itself}
use Rattle.ct_base.specs.Path.{name_cmp}
use Rattle.ct_look.specs.Looks.{is_later, is_less, next_name}
use Rattle.ct_tree.specs.Ordered.{AreEntries, IsBelow}
use Rattle.ct_tree.specs.Step.{names_in}
use Rattle.ct_tree.specs.Tree.{Entries, none, entry}

-- a name before the entries is before each of them
below_each : (y : List ℕ) (es : Entries) (i : ℕ) (x : List ℕ) → IsBelow y es → slice_get (names_in es) i ≡ Some x → name_cmp y x ≡ Less
below_each y none i x below is = absurd (cc)
below_each y (entry z node rest) zero x below is = let same : z ≡ x = cc in subst (λ n. name_cmp y n ≡ Less) same below.0
below_each y (entry z node rest) (suc i) x below is = below_each y rest i x below.1 is

not_later : (x y : List ℕ) → name_cmp y x ≡ Less → is_later (Some x) y ≡ false
not_later x y less = ap is_less (nat_list_cmp_total.antisymm x y ∙ ap ordering_reverse less)

itself : (x : List ℕ) → is_later (Some x) x ≡ false
itself x = ap is_less (tied_itself nat_list_cmp_total x)

-- the first name later than one that is before all
first_later : (y : List ℕ) (es : Entries) → IsBelow y es → next_name (Some y) (names_in es) ≡ slice_get (names_in es) 0
first_later y none below = refl
first_later y (entry z node rest) below = rw below.0 refl

-- the first name later than the one with a number is the next one
pub next_later : (es : Entries) (i : ℕ) (x : List ℕ) → AreEntries es → slice_get (names_in es) i ≡ Some x → next_name (Some x) (names_in es) ≡ slice_get (names_in es) (i + 1)
next_later none i x ordered is = absurd (cc)
next_later (entry y node rest) zero x ordered is =
    let same : y ≡ x = cc in
    subst (λ n. next_name (Some n) (y ∷ names_in rest) ≡ slice_get (names_in rest) 0) same (rw (itself y) (first_later y rest ordered.2))
next_later (entry y node rest) (suc i) x ordered is =
    let more : suc (i + 1) ≡ suc i + 1 = omega arith in
    subst (λ n. next_name (Some x) (y ∷ names_in rest) ≡ slice_get (y ∷ names_in rest) n) more (rw (not_later x y (below_each y rest i x ordered.2 is)) (next_later rest i x ordered.3 is))

pub first_name : (xs : List (List ℕ)) → next_name None xs ≡ slice_get xs 0
first_name [] = refl
first_name (x ∷ xs) = refl
