-- The names of a directory, one after another, each the first that is later than the one before.
use Rattle.std.proofs.Common.{◌≡◌, ◌≢◌, ◌∙◌, ℕ, zero, suc, ◌+◌, ◌<◌, ◌≤◌, false, List, [], ◌∷◌, Some, None, length, length-take, get_or, map, refl, sym, ap, subst, inl, inr, arith}
use Rattle.std.specs.Prelude.{◌==◌, slice_get}
use Rattle.std.specs.Option.{option_map}
use Rattle.std.specs.Ordering.{is_lt, ordering_reverse}
use Rattle.std.specs.declared.cmp.Ordering.{Ordering}
use Rattle.std.specs.declared.cmp.Ordering.TheVariants.{Less, Equal, Greater}
use Rattle.std.proofs.lemmas.Bool.{cases_lt, eqb-false, false≢true}
use Rattle.std.proofs.lemmas.Cmp.{nat_list_cmp_total, tied_itself}
use Rattle.std.proofs.lemmas.List.{get_or-take}
use Rattle.std.proofs.lemmas.List.Elements.{at_from_Contains}
use Rattle.std.proofs.lemmas.List.Sorted.{ranks_by, sorted_far}
use Rattle.std.proofs.lemmas.Map.Keys.{apart_from_distinct}
use Rattle.std.proofs.lemmas.Map.Lookups.{exact_bytes}
use Rattle.std.proofs.lemmas.Option.{slice_get-get_or, slice_get-map, slice_get_past}
use Rattle.ct_base.specs.Objects.{Object}
use Rattle.ct_base.specs.Path.{name_cmp}
use Rattle.ct_base.specs.Slots.{IsSlot, slot_name}
use Rattle.ct_dir.proofs.Choosing.{greater_later}
use Rattle.ct_dir.specs.Directory.{IsNext, dir_of}
use Rattle.ct_dir.specs.Sorting.{AreSorted}
use Rattle.ct_tree.specs.Ordered.{AreEntries, IsBelow}
use Rattle.ct_tree.specs.Stands.{IsDir, StandIn}
use Rattle.ct_tree.specs.Step.{names_in}
use Rattle.ct_tree.specs.Tree.{Entries, none, entry}
use Rattle.ct_look.proofs.Listed.{slot_next}
use Rattle.ct_look.specs.Looks.{AreSlots, is_later, is_less, next_name}
use Rattle.ct_look.specs.declared.seen.Listing.{Listing}

-- a name before the entries is before each of them
below_each : (y : List ℕ) (es : Entries) (i : ℕ) (x : List ℕ) → IsBelow y es → slice_get (names_in es) i ≡ Some x → name_cmp y x ≡ Less
below_each y none i x below is = absurd (cc)
below_each y (entry z node rest) zero x below is = let same : z ≡ x = cc in subst (λ n. name_cmp y n ≡ Less) same below.0
below_each y (entry z node rest) (suc i) x below is = below_each y rest i x below.1 is

not_later : (x y : List ℕ) → name_cmp y x ≡ Less → is_later (Some x) y ≡ false
not_later x y less = ap is_less (greater_later y x less)

itself : (x : List ℕ) → is_later (Some x) x ≡ false
itself x = ap is_less (tied_itself nat_list_cmp_total x)

-- the first name later than one that is before all
first_later : (y : List ℕ) (es : Entries) → IsBelow y es → next_name (Some y) (names_in es) ≡ slice_get (names_in es) 0
first_later y none below = refl
first_later y (entry z node rest) below = rw below.0 refl

-- the first name later than the one with a number is the next one
pub next_later : (es : Entries) (i : ℕ) (x : List ℕ) → AreEntries es → slice_get (names_in es) i ≡ Some x → next_name (Some x) (names_in es) ≡ slice_get (names_in es) (i + 1)
next_later none i x ordered is = absurd (cc)
next_later (entry y node rest) zero x ordered is =
    let same : y ≡ x = cc in
    subst (λ n. next_name (Some n) (y ∷ names_in rest) ≡ slice_get (names_in rest) 0) same (rw (itself y) (first_later y rest ordered.2))
next_later (entry y node rest) (suc i) x ordered is =
    let more : suc (i + 1) ≡ suc i + 1 = omega arith in
    subst (λ n. next_name (Some x) (y ∷ names_in rest) ≡ slice_get (y ∷ names_in rest) n) more (rw (not_later x y (below_each y rest i x ordered.2 is)) (next_later rest i x ordered.3 is))

pub first_name : (xs : List (List ℕ)) → next_name None xs ≡ slice_get xs 0
first_name [] = refl
first_name (x ∷ xs) = refl

-- lists with the same elements
same_gets : {X : Type 0} (xs ys : List X) → ((k : ℕ) → slice_get xs k ≡ slice_get ys k) → xs ≡ ys
same_gets [] [] same = refl
same_gets [] (y ∷ ys) same = let first = same 0 in absurd cc
same_gets (x ∷ xs) [] same = let first = same 0 in absurd cc
same_gets (x ∷ xs) (y ∷ ys) same =
    let first : Some x ≡ Some y = same 0 in
    let here : x ≡ y = cc in
    ap (λ z. z ∷ xs) here ∙ ap (λ zs. y ∷ zs) (same_gets xs ys (λ k. same (suc k)))

-- Offsets in the byte order of the names in their slots: each name is the next after the one before.
module _ {f : Object} {xs : List ℕ} (apart : (o k : ℕ) → IsSlot f o → IsSlot f k → slot_name f o ≡ slot_name f k → o ≡ k) (s : AreSorted f xs) where
  not_less : (i j d : ℕ) → i ≤ j → j < length xs → name_cmp (slot_name f (get_or xs j d)) (slot_name f (get_or xs i d)) ≢ Less
  not_less i j d le lt less =
      let far = sorted_far (λ x y. is_lt (name_cmp (slot_name f x) (slot_name f y))) (ranks_by nat_list_cmp_total (slot_name f)) xs s.sorted i j d le lt in
      false≢true (sym far ∙ ap is_lt less)

  rises : (i d : ℕ) → i + 1 < length xs → name_cmp (slot_name f (get_or xs i d)) (slot_name f (get_or xs (i + 1) d)) ≡ Less
  rises i d lt = from (name_cmp y x) refl
    where
      x : List ℕ
      x = slot_name f (get_or xs i d)

      y : List ℕ
      y = slot_name f (get_or xs (i + 1) d)

      from : (o : Ordering) → name_cmp y x ≡ o → name_cmp x y ≡ Less
      from Less is = absurd (not_less i (i + 1) d (omega arith) lt is)
      from Equal is =
          let one = apart (get_or xs i d) (get_or xs (i + 1) d) (s.offsets.each i d (omega arith)) (s.offsets.each (i + 1) d lt) (sym (exact_bytes y x is)) in
          absurd (eqb-false _ _ (apart_from_distinct ◌==◌ xs i (i + 1) d s.offsets.once (omega arith) lt) one)
      from Greater is = nat_list_cmp_total.antisymm x y ∙ ap ordering_reverse is

  first : (d : ℕ) → 0 < length xs → IsNext f None (get_or xs 0 d)
  first d lt = record {
    slot = s.offsets.each 0 d lt;
    later = tt;
    least = λ k slot later.
        let at = at_from_Contains xs k (s.offsets.all k slot) in
        subst (λ o. name_cmp (slot_name f o) (slot_name f (get_or xs 0 d)) ≢ Less) (at.2 d) (not_less 0 at.0 d (omega arith) at.1);
  }

  after : (i d : ℕ) → i + 1 < length xs → IsNext f (Some (slot_name f (get_or xs i d))) (get_or xs (i + 1) d)
  after i d lt = record {
    slot = s.offsets.each (i + 1) d lt;
    later = rises i d lt;
    least = λ k slot later.
        let at = at_from_Contains xs k (s.offsets.all k slot) in
        let here = at.2 d in
        elim (cases_lt i at.0) [
          | inl on ↦ subst (λ o. name_cmp (slot_name f o) (slot_name f (get_or xs (i + 1) d)) ≢ Less) here (not_less (i + 1) at.0 d (omega (arith, on)) at.1)
          | inr before ↦ absurd (not_less at.0 i d before (omega (arith, lt)) (subst (λ o. name_cmp (slot_name f (get_or xs i d)) (slot_name f o) ≡ Less) (sym here) later))
        ];
  }

  module _ (fs : ℕ → Object) (es : Entries) (are : AreEntries es) (is : IsDir f es) (st : StandIn fs f es) where
    name_is : (k d : ℕ) → k < length xs → slice_get (names_in es) k ≡ Some (slot_name f (get_or xs k d))
    name_is zero d lt = sym (first_name (names_in es)) ∙ slot_next fs f es is st None are (get_or xs 0 d) (first d lt)
    name_is (suc k) d lt =
        let on : k + 1 ≡ suc k = omega arith in
        let x = slot_name f (get_or xs k d) in
        let next = slot_next fs f es is st (Some x) are (get_or xs (k + 1) d) (after k d (omega (arith, lt))) in
        subst (λ n. slice_get (names_in es) n ≡ Some (slot_name f (get_or xs n d))) on (sym (next_later es k x are (name_is k d (omega (arith, lt)))) ∙ next)

    -- where there are as many, they are all names of the directory
    pub names_sorted : length xs ≡ length (names_in es) → names_in es ≡ map (slot_name f) xs
    names_sorted size = same_gets (names_in es) (map (slot_name f) xs) each
      where
        each : (k : ℕ) → slice_get (names_in es) k ≡ slice_get (map (slot_name f) xs) k
        each k = elim (cases_lt k (length xs)) [
          | inl in_it ↦ name_is k 0 in_it ∙ sym (slice_get-map (slot_name f) xs k ∙ ap (option_map (slot_name f)) (slice_get-get_or xs k 0 in_it))
          | inr past ↦ slice_get_past (names_in es) k (omega (arith, size, past)) ∙ sym (slice_get-map (slot_name f) xs k ∙ ap (option_map (slot_name f)) (slice_get_past xs k past))
        ]

-- each offset that was put is that of a slot
pub slot_put : {img offsets : List ℕ} {listing : Listing} → AreSlots img offsets listing → (k d : ℕ) → k < listing.count → listing.count ≤ length offsets → IsSlot (dir_of img listing.dir) (get_or offsets k d)
slot_put {img} {offsets} {listing} s k d lt room =
    let long = length-take listing.count offsets in
    subst (IsSlot (dir_of img listing.dir)) (get_or-take listing.count offsets k d lt) (s.slots k d (omega (arith, long, lt, room)))
