-- The slots of a directory and the entries for which it stands.
use Rattle.std.proofs.Common.{◌≡◌, ◌≢◌, ℕ, zero, suc, ◌+◌, ◌*◌, ◌/◌, ◌%◌, ◌≤◌, Bool, true, false, List, [], ◌∷◌, Option, Some, None, length, refl, sym, ap, ◌∙◌, subst, ◌⊎◌, inl, inr, arith}
use Rattle.std.specs.Prelude.{◌==◌, ◌||◌, if◌then◌else◌}
use Rattle.std.specs.List.{AllByRecursion, IsDistinct}
use Rattle.std.specs.Set.{is_member}
use Rattle.std.specs.Str.{bytes_eq}
use Rattle.std.specs.declared.cmp.Ordering.{Ordering}
use Rattle.std.specs.declared.cmp.Ordering.TheVariants.{Less, Equal, Greater}
use Rattle.std.proofs.lemmas.Bool.{cases_Bool, eqb-false}
use Rattle.std.proofs.lemmas.Cmp.{nat_list_cmp_total, nat_list_eq_equiv, tied_itself}
use Rattle.std.proofs.lemmas.Map.Made.{length-from_same_keys}
use Rattle.std.proofs.lemmas.Slice.Eq.{bytes_eq-Decides}
use Rattle.ct_base.specs.Inode.{little}
use Rattle.ct_base.specs.Named.{Named}
use Rattle.ct_base.specs.Objects.{Object}
use Rattle.ct_base.specs.Path.{name_cmp}
use Rattle.ct_base.specs.Slots.{IsSlot, Entry, entries, entries_from, entry_at, slot_name}
use Rattle.ct_dir.specs.Directory.{IsLater, IsNext}
use Rattle.ct_state.proofs.Listing.{IsOneOf, listed_slot, slot_listed}
use Rattle.ct_state.proofs.Unique.{below_has}
use Rattle.ct_tree.specs.Ordered.{AreEntries, IsBelow}
use Rattle.ct_tree.specs.Stands.{HasName, IsDir, StandIn}
use Rattle.ct_tree.specs.Step.{count, names_in}
use Rattle.ct_tree.specs.Tree.{Entries, none, entry}
use Rattle.ct_look.specs.Looks.{is_later, is_less, next_name}

same_test : (a b : Bool) → (a ≡ true → b ≡ true) → (b ≡ true → a ≡ true) → a ≡ b
same_test true true to from = refl
same_test true false to from = sym (to refl)
same_test false true to from = from refl
same_test false false to from = refl

or_cases : (a b : Bool) → (a || b) ≡ true → (a ≡ true) ⊎ (b ≡ true)
or_cases true b is = inl refl
or_cases false b is = inr is

or_left : (a b : Bool) → a ≡ true → (a || b) ≡ true
or_left true b is = refl
or_left false b is = cc

or_right : (a b : Bool) → b ≡ true → (a || b) ≡ true
or_right true b is = refl
or_right false b is = is

not_true : (a : Bool) → (a ≡ true → ⊥) → a ≡ false
not_true true off = absurd (off refl)
not_true false off = refl

differ : (x y : List ℕ) → x ≢ y → bytes_eq x y ≡ false
differ x y other = not_true (bytes_eq x y) (λ is. other ((bytes_eq-Decides x y).0 is))

less_differs : (x y : List ℕ) → name_cmp x y ≡ Less → x ≢ y
less_differs x y less is =
    let equal : name_cmp x y ≡ Equal = subst (λ k. name_cmp x k ≡ Equal) is (tied_itself nat_list_cmp_total x) in absurd (cc)

-- the names of a tree's entries differ
below_apart : (x : List ℕ) (es : Entries) → IsBelow x es → AllByRecursion (λ y. bytes_eq x y ≡ false) (names_in es)
below_apart x none below = tt
below_apart x (entry y node rest) below = (differ x y (less_differs x y below.0), below_apart x rest below.1)

names_apart : (es : Entries) → AreEntries es → IsDistinct bytes_eq (names_in es)
unfolding IsDistinct
names_apart none are = tt
names_apart (entry x node rest) are = (below_apart x rest are.2, names_apart rest are.3)

has_member : (x : List ℕ) (es : Entries) → HasName x es → is_member bytes_eq (names_in es) x ≡ true
has_member x none has = absurd has
has_member x (entry y node rest) (inl same) = or_left (bytes_eq x y) _ ((bytes_eq-Decides x y).1 same)
has_member x (entry y node rest) (inr has) = or_right (bytes_eq x y) _ (has_member x rest has)

member_has : (x : List ℕ) (es : Entries) → is_member bytes_eq (names_in es) x ≡ true → HasName x es
member_has x none is = absurd (cc)
member_has x (entry y node rest) is = elim (or_cases (bytes_eq x y) (is_member bytes_eq (names_in rest) x) is) [
  | inl here ↦ inl ((bytes_eq-Decides x y).0 here)
  | inr more ↦ inr (member_has x rest more)
]

-- there are as many names as entries
pub names_count : (es : Entries) → length (names_in es) ≡ count es
names_count none = refl
names_count (entry x node rest) = omega (arith, names_count rest)

-- the names of a directory's slots
names_of_slots : List Entry → List (List ℕ)
names_of_slots [] = []
names_of_slots (e ∷ more) = e.name ∷ names_of_slots more

slots_count : (l : List Entry) → length (names_of_slots l) ≡ length l
unfolding names_of_slots
slots_count [] = refl
slots_count (e ∷ more) = ap suc (slots_count more)

listed_member : (x : List ℕ) (e : Entry) (l : List Entry) → IsOneOf e l → x ≡ e.name → is_member bytes_eq (names_of_slots l) x ≡ true
unfolding names_of_slots
listed_member x e [] one is = absurd one
listed_member x e (y ∷ l) (inl same) is = or_left (bytes_eq x y.name) _ ((bytes_eq-Decides x y.name).1 (is ∙ ap (λ (k : Entry). k.name) same))
listed_member x e (y ∷ l) (inr one) is = or_right (bytes_eq x y.name) _ (listed_member x e l one is)

member_listed : (x : List ℕ) (l : List Entry) → is_member bytes_eq (names_of_slots l) x ≡ true → (e : Entry) × IsOneOf e l × (x ≡ e.name)
unfolding names_of_slots
member_listed x [] is = absurd (cc)
member_listed x (y ∷ l) is = elim (or_cases (bytes_eq x y.name) (is_member bytes_eq (names_of_slots l) x) is) [
  | inl here ↦ (y, inl refl, (bytes_eq-Decides x y.name).0 here)
  | inr more ↦ let m = member_listed x l more in (m.0, inr m.1, m.2)
]

module _ (f : Object) (dir : f.kind ≡ 2) (apart : (o k : ℕ) → IsSlot f o → IsSlot f k → slot_name f o ≡ slot_name f k → o ≡ k) where
  later_slots : (x : List ℕ) (n o : ℕ) → o % 256 ≡ 0 → o + 256 * n ≤ f.size → ((k : ℕ) → o ≤ k → IsSlot f k → x ≢ slot_name f k) → AllByRecursion (λ y. bytes_eq x y ≡ false) (names_of_slots (entries_from f o n))
  unfolding entries_from names_of_slots
  later_slots x zero o whole fits other = tt
  later_slots x (suc n) o whole fits other = elim (cases_Bool (little f.at o 256 == 0)) [
    | inl empty ↦ rw empty (later_slots x n (o + 256) (omega arith) (omega arith) (λ k le. other k (omega arith)))
    | inr used ↦
        let slot : IsSlot f o = record { dir = dir; below = omega arith; aligned = whole; used = λ z. eqb-false (little f.at o 256) 0 used z } in
        rw used (differ x (slot_name f o) (other o (omega arith) slot), later_slots x n (o + 256) (omega arith) (omega arith) (λ k le. other k (omega arith)))
  ]

  slots_apart : (n o : ℕ) → o % 256 ≡ 0 → o + 256 * n ≤ f.size → IsDistinct bytes_eq (names_of_slots (entries_from f o n))
  unfolding entries_from names_of_slots IsDistinct
  slots_apart zero o whole fits = tt
  slots_apart (suc n) o whole fits = elim (cases_Bool (little f.at o 256 == 0)) [
    | inl empty ↦ rw empty (slots_apart n (o + 256) (omega arith) (omega arith))
    | inr used ↦
        let slot : IsSlot f o = record { dir = dir; below = omega arith; aligned = whole; used = λ z. eqb-false (little f.at o 256) 0 used z } in
        rw used (
          later_slots (slot_name f o) n (o + 256) (omega arith) (omega arith) (λ k le s is. absurd (omega (arith, apart o k slot s is, le))),
          slots_apart n (o + 256) (omega arith) (omega arith),
        )
  ]

-- the name of an entry is that of a slot
pub entry_slot : (fs : ℕ → Object) (f : Object) (x : List ℕ) (es : Entries) → StandIn fs f es → HasName x es → Named f x
entry_slot fs f x none st has = absurd has
entry_slot fs f x (entry y node rest) st (inl same) = let s = st.0.0 in record { offset = s.offset; slot = s.slot; name = s.name ∙ sym same }
entry_slot fs f x (entry y node rest) st (inr has) = entry_slot fs f x rest st.1 has

module _ (fs : ℕ → Object) (f : Object) (es : Entries) (are : AreEntries es) (is : IsDir f es) (st : StandIn fs f es) where
  -- there are as many used slots as entries
  pub slots_counted : ((o k : ℕ) → IsSlot f o → IsSlot f k → slot_name f o ≡ slot_name f k → o ≡ k) → f.size % 256 ≡ 0 → length (entries f) ≡ count es
  slots_counted apart whole =
      let slots = names_of_slots (entries f) in
      let same : length (names_of_slots (entries f)) ≡ length (names_in es) =
      length-from_same_keys nat_list_eq_equiv slots (names_in es) (slots_apart f is.kind apart (f.size / 256) 0 (omega arith) (omega arith)) (names_apart es are) (λ x. same_test (is_member bytes_eq slots x) (is_member bytes_eq (names_in es) x) (to x) (from x)) in
      sym (slots_count (entries f)) ∙ same ∙ names_count es
    where
      to : (x : List ℕ) → is_member bytes_eq (names_of_slots (entries f)) x ≡ true → is_member bytes_eq (names_in es) x ≡ true
      to x member =
          let m = member_listed x (entries f) member in
          let s = listed_slot f m.0 is.kind m.1 in
          has_member x es (subst (λ y. HasName y es) (sym (m.2 ∙ ap (λ (e : Entry). e.name) s.2)) (is.names s.0 s.1))

      from : (x : List ℕ) → is_member bytes_eq (names_in es) x ≡ true → is_member bytes_eq (names_of_slots (entries f)) x ≡ true
      from x member =
          let s = entry_slot fs f x es st (member_has x es member) in
          listed_member x (entry_at f s.offset) (entries f) (slot_listed f s.offset whole s.slot) (sym s.name)

less_is : (o : Ordering) → is_less o ≡ true → o ≡ Less
less_is Less is = refl
less_is Equal is = cc
less_is Greater is = cc

later_is : (after : Option (List ℕ)) (x : List ℕ) → IsLater after x → is_later after x ≡ true
later_is None x later = refl
later_is (Some after) x later = ap is_less later

is_later_so : (after : Option (List ℕ)) (x : List ℕ) → is_later after x ≡ true → IsLater after x
is_later_so None x later = tt
is_later_so (Some after) x later = less_is (name_cmp after x) later

-- the least of the names that are later is the next
next_at : (after : Option (List ℕ)) (x y : List ℕ) (others : List (List ℕ)) (b : Bool) → is_later after y ≡ b → (b ≡ true → x ≡ y) → (b ≡ false → next_name after others ≡ Some x) → next_name after (y ∷ others) ≡ Some x
next_at after x y others true is here more = ap (λ b. if b then Some y else next_name after others) is ∙ ap Some (sym (here refl))
next_at after x y others false is here more = ap (λ b. if b then Some y else next_name after others) is ∙ more refl

least_next : (after : Option (List ℕ)) (x : List ℕ) (es : Entries) → AreEntries es → HasName x es → is_later after x ≡ true
    → ((y : List ℕ) → HasName y es → is_later after y ≡ true → name_cmp y x ≢ Less) → next_name after (names_in es) ≡ Some x
least_next after x none are has later least = absurd has
least_next after x (entry y node rest) are (inl same) later least =
    next_at after x y (names_in rest) (is_later after y) refl (λ b. same) (λ off. let here : is_later after y ≡ true = subst (λ k. is_later after k ≡ true) same later in absurd (cc))
least_next after x (entry y node rest) are (inr more) later least =
    next_at after x y (names_in rest) (is_later after y) refl (λ on. absurd (least y (inl refl) on (below_has y x rest are.2 more))) (λ off. least_next after x rest are.3 more later (λ z h. least z (inr h)))

-- where none is later there is none
none_next : (after : Option (List ℕ)) (es : Entries) → ((y : List ℕ) → HasName y es → is_later after y ≡ true → ⊥) → next_name after (names_in es) ≡ None
none_next after none off = refl
none_next after (entry y node rest) off =
    ap (λ b. if b then Some y else next_name after (names_in rest)) (not_true (is_later after y) (off y (inl refl))) ∙ none_next after rest (λ z h. off z (inr h))

module _ (fs : ℕ → Object) (f : Object) (es : Entries) (is : IsDir f es) (st : StandIn fs f es) (after : Option (List ℕ)) where
  pub slot_next : AreEntries es → (o : ℕ) → IsNext f after o → next_name after (names_in es) ≡ Some (slot_name f o)
  slot_next are o n = least_next after (slot_name f o) es are (is.names o n.slot) (later_is after (slot_name f o) n.later) least
    where
      least : (y : List ℕ) → HasName y es → is_later after y ≡ true → name_cmp y (slot_name f o) ≢ Less
      least y has later =
          let s = entry_slot fs f y es st has in
          subst (λ k. name_cmp k (slot_name f o) ≢ Less) s.name (n.least s.offset s.slot (subst (IsLater after) (sym s.name) (is_later_so after y later)))

  pub no_slot_next : ((o : ℕ) → IsSlot f o → IsLater after (slot_name f o) → ⊥) → next_name after (names_in es) ≡ None
  no_slot_next off = none_next after es (λ y has later. let s = entry_slot fs f y es st has in off s.offset s.slot (subst (IsLater after) (sym s.name) (is_later_so after y later)))
