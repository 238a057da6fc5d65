-- Names of a directory, listed and put in order.
use Rattle.std.proofs.Common.{◌≡◌, ◌≢◌, ℕ, zero, suc, ◌+◌, ◌-◌, ◌*◌, ◌/◌, ◌%◌, ◌^◌, ◌<◌, ◌≤◌, true, false, List, [], ◌∷◌, ◌++◌, length, get_or, length-append, refl, sym, ap, subst, ◌∙◌, inl, inr, arith}
use Rattle.std.specs.Cmp.Lexicographic.{slice_cmp}
use Rattle.std.specs.Int.{w64, swap_bytes}
use Rattle.std.specs.List.Sorted.{IsPermutation, IsSortedByKey}
use Rattle.std.specs.Ordering.{is_eq, is_lt, nat_cmp, ordering_reverse}
use Rattle.std.specs.declared.cmp.Ordering.{Ordering}
use Rattle.std.specs.declared.cmp.Ordering.TheVariants.{Less, Equal, Greater}
use Rattle.std.proofs.lemmas.Bool.{cases_eq, cases_lt, false≢true, ne_eqb, eqb-false, eq-eqb}
use Rattle.std.proofs.lemmas.Cmp.{nat_list_cmp_total, tied_itself}
use Rattle.std.proofs.lemmas.List.{get_or_append_left, get_or_push}
use Rattle.std.proofs.lemmas.List.Elements.{All-push, All-weaker, Contains-push, Contains-append_left, at_from_Contains}
use Rattle.std.proofs.lemmas.List.Sorted.{All-permutation, Contains-permutation}
use Rattle.std.proofs.lemmas.Map.Keys.{IsDistinct-from_apart, IsDistinct-IsPermutation, apart_from_distinct}
use Rattle.std.proofs.lemmas.Map.Lookups.{exact_bytes}
use Rattle.ct_base.specs.declared.inode.Inode.{Inode}
use Rattle.ct_base.specs.Inode.{little}
use Rattle.ct_base.specs.Path.{name_cmp}
use Rattle.ct_base.specs.Rules.{IsPlaced}
use Rattle.ct_base.specs.Slots.{IsSlot, slot_name}
use Rattle.ct_base.specs.Walk.{page_at, word, AreTables}
use Rattle.ct_dir.proofs.Held.{Lies, laid, used_there, word_there}
use Rattle.ct_dir.proofs.Sorting.{key_first, key_order, slot_stands}
use Rattle.ct_dir.specs.Directory.{IsReadable, dir_of}
use Rattle.ct_dir.specs.Sorting.{name_key, name_word, slot_place}
use Rattle.ct_naming.specs.declared.spelled.Spelled.{Spelled}
use Rattle.ct_naming.specs.Spelling.{AreNeighboursApart, AreSlotsApart, AreSpelled, IsSpelled, Spells, key, same_slot}

-- one more slot, the first from an offset on
pub spell_more : {img : List ℕ} {dir : Inode} {at : ℕ} {xs : List Spelled} → Spells img dir at xs → (s : Spelled) → IsSpelled img dir s → at ≤ s.offset
    → ((o : ℕ) → at ≤ o → o < s.offset → IsSlot (dir_of img dir) o → ⊥) → Spells img dir (s.offset + 256) (xs ++ s ∷ [])
spell_more {img} {dir} {at} {xs} p s is on passed = record {
  each = All-push (IsSpelled img dir) xs s p.each is;
  low = All-push (λ t. t.offset < s.offset + 256) xs s (All-weaker (λ t. t.offset < at) (λ t. t.offset < s.offset + 256) (λ t lt. omega arith) xs p.low) (omega arith);
  all = λ o lt slot. elim (cases_lt o at) [
    | inl old ↦ let h = p.all o old slot in record { name = h.name; has = Contains-append_left xs (s ∷ []) h.name h.has; is = h.is }
    | inr new ↦ elim (cases_lt o s.offset) [
      | inl between ↦ absurd (passed o new between slot)
      | inr from ↦ record { name = s; has = Contains-push xs s; is = omega (arith, slot.aligned, is.slot.aligned) }
    ]
  ];
  rises = λ i j d lt below.
      let size = length-append xs (s ∷ []) in
      elim (cases_lt j (length xs)) [
        | inl inside ↦
            let a = ap (λ (t : Spelled). t.offset) (get_or_append_left xs (s ∷ []) d i (omega arith)) in
            let b = ap (λ (t : Spelled). t.offset) (get_or_append_left xs (s ∷ []) d j inside) in
            omega (arith, a, b, p.rises i j d lt inside)
        | inr past ↦
            let a = ap (λ (t : Spelled). t.offset) (get_or_append_left xs (s ∷ []) d i (omega (arith, size, below))) in
            let b = ap (λ (t : Spelled). t.offset) (get_or_push xs s d j (omega (arith, size, below))) in
            omega (arith, a, b, on, p.low i d (omega (arith, size, below)))
      ];
}

pub spell_all : {img : List ℕ} {dir : Inode} {at : ℕ} {xs : List Spelled} → Spells img dir at xs → ((o : ℕ) → at ≤ o → IsSlot (dir_of img dir) o → ⊥) → AreSpelled img dir xs
spell_all {img} {dir} {at} {xs} p none = record {
  each = p.each;
  all = λ o slot. elim (cases_lt o at) [
    | inl old ↦ p.all o old slot
    | inr new ↦ absurd (none o new slot)
  ];
  once = IsDistinct-from_apart same_slot xs (λ i j d lt below. ne_eqb _ _ (λ same. omega (arith, same, p.rises i j d lt below)));
}

flips : (x y : Spelled) → same_slot x y ≡ same_slot y x
flips x y = elim (cases_eq x.offset y.offset) [
  | inl same ↦ eq-eqb x.offset y.offset same ∙ sym (eq-eqb y.offset x.offset (sym same))
  | inr other ↦ ne_eqb _ _ other ∙ sym (ne_eqb _ _ (λ e. other (sym e)))
]

pub names_moved : {img : List ℕ} {dir : Inode} (xs ys : List Spelled) → IsPermutation xs ys → AreSpelled img dir xs → AreSpelled img dir ys
names_moved {img} {dir} xs ys moved p = record {
  each = All-permutation (IsSpelled img dir) xs ys moved p.each;
  all = λ o slot. let h = p.all o slot in record { name = h.name; has = Contains-permutation xs ys h.name moved h.has; is = h.is };
  once = IsDistinct-IsPermutation same_slot flips xs ys moved p.once;
}

-- the first word of the name in a slot
pub first_is : {img : List ℕ} {dir : Inode} {o : ℕ} → AreTables img → ((w : ℕ) → word img w < 2 ^ 64) → IsPlaced dir → IsSlot (dir_of img dir) o
    → name_word img (slot_place img dir o) 0 ≡ swap_bytes w64 (little (dir_of img dir).at (o + 8) 8)
first_is {img} {dir} {o} tables fits placed s =
    let whole = placed.slots s.dir in
    let lies : Lies img dir o = record { tables = tables; fits = fits; laid = laid placed (omega (arith, s.below)); below = omega (arith, s.below, s.aligned, whole); aligned = s.aligned } in
    let place = page_at img 4 ((dir.base + o) / 4096) * 512 + o % 4096 / 8 in
    let here : place + 1 + 0 ≡ place + 1 = omega arith in
    ap (λ p. name_word img p 0) (slot_stands tables fits placed s)
    ∙ ap (λ w. swap_bytes w64 (word img w)) here
    ∙ ap (swap_bytes w64) (word_there lies 1 (omega arith) (used_there img dir o tables fits placed s) ∙ ap (λ a. little (dir_of img dir).at a 8) (omega arith))

abbrev order : List ℕ → List ℕ → Ordering
order x y = slice_cmp nat_cmp x y

pub alike_to : (x y : List ℕ) (o : Ordering) → o ≡ order x y → is_eq o ≡ true → x ≡ y
alike_to x y Less is eq = absurd (false≢true eq)
alike_to x y Equal is eq = exact_bytes x y (sym is)
alike_to x y Greater is eq = absurd (false≢true eq)

pub alike_from : (x y : List ℕ) (o : Ordering) → o ≡ order x y → x ≡ y → is_eq o ≡ true
alike_from x y o is same = ap is_eq (is ∙ ap (order x) (sym same) ∙ tied_itself nat_list_cmp_total x)

-- ---- names are the same where their words are

module _ {img : List ℕ} {dir : Inode} (readable : IsReadable img dir) (fits : (w : ℕ) → word img w < 2 ^ 64) {s t : Spelled} (a : IsSpelled img dir s) (b : IsSpelled img dir t) where
  pub same_key : slot_name (dir_of img dir) s.offset ≡ slot_name (dir_of img dir) t.offset → key img dir s ≡ key img dir t
  same_key same =
      let x = slot_name (dir_of img dir) t.offset in
      let equal = key_order readable fits a.slot b.slot ∙ ap (λ n. name_cmp n x) same ∙ tied_itself nat_list_cmp_total x in
      let keys : name_key img dir s.offset ≡ name_key img dir t.offset = exact_bytes (name_key img dir s.offset) (name_key img dir t.offset) equal in
      let first : s.first ≡ t.first = a.first ∙ key_first img dir s.offset t.offset keys ∙ sym b.first in
      ap (λ n. n ∷ name_key img dir s.offset) first ∙ ap (λ ns. t.first ∷ ns) keys

  pub key_name : key img dir s ≡ key img dir t → slot_name (dir_of img dir) s.offset ≡ slot_name (dir_of img dir) t.offset
  key_name same =
      let keys : name_key img dir s.offset ≡ name_key img dir t.offset = cc in
      let equal = ap (λ ns. order ns (name_key img dir t.offset)) keys ∙ tied_itself nat_list_cmp_total (name_key img dir t.offset) in
      exact_bytes (slot_name (dir_of img dir) s.offset) (slot_name (dir_of img dir) t.offset) (sym (key_order readable fits a.slot b.slot) ∙ equal)

-- ---- keys in order of which neighbours differ rise

rises_from : (x y : List ℕ) → is_lt (order y x) ≡ false → x ≢ y → order x y ≡ Less
rises_from x y not_less ne = nat_list_cmp_total.antisymm x y ∙ from (order y x) refl
  where
    from : (o : Ordering) → order y x ≡ o → ordering_reverse (order y x) ≡ Less
    from Less is = absurd (false≢true (sym not_less ∙ ap is_lt is))
    from Equal is = absurd (ne (sym (exact_bytes y x is)))
    from Greater is = ap ordering_reverse is

not_below_itself : (x : List ℕ) → order x x ≡ Less → ⊥
not_below_itself x less = let back = nat_list_cmp_total.antisymm x x in let e : Less ≡ Greater = sym less ∙ back ∙ ap ordering_reverse less in absurd cc

module _ (by : Spelled → List ℕ) (xs : List Spelled) (sorted : IsSortedByKey by (slice_cmp nat_cmp) xs) (apart : (k : ℕ) (d : Spelled) → k + 1 < length xs → by (get_or xs k d) ≢ by (get_or xs (k + 1) d)) where
  rise : (gap k : ℕ) (d : Spelled) → k + suc gap < length xs → order (by (get_or xs k d)) (by (get_or xs (k + suc gap) d)) ≡ Less
  rise zero k d lt = rises_from _ _ (sorted k d (omega arith) (omega arith)) (apart k d (omega arith))
  rise (suc gap) k d lt =
      let at : k + suc gap + 1 ≡ k + suc (suc gap) = omega arith in
      let next = rises_from (by (get_or xs (k + suc gap) d)) (by (get_or xs (k + suc gap + 1) d)) (sorted (k + suc gap) d (omega arith) (omega arith)) (apart (k + suc gap) d (omega arith)) in
      subst (λ j. order (by (get_or xs k d)) (by (get_or xs j d)) ≡ Less) at
      (nat_list_cmp_total.trans (by (get_or xs k d)) (by (get_or xs (k + suc gap) d)) (by (get_or xs (k + suc gap + 1) d)) (rise gap k d (omega arith)) next)

  differ : (j k : ℕ) (d : Spelled) → j < k → k < length xs → by (get_or xs j d) ≢ by (get_or xs k d)
  differ j k d lt below same =
      let at : j + suc (k - suc j) ≡ k = omega arith in
      let less = subst (λ i. order (by (get_or xs j d)) (by (get_or xs i d)) ≡ Less) at (rise (k - suc j) j d (omega arith)) in
      not_below_itself (by (get_or xs k d)) (subst (λ ws. order ws (by (get_or xs k d)) ≡ Less) same less)

module _ {img : List ℕ} {dir : Inode} (readable : IsReadable img dir) (fits : (w : ℕ) → word img w < 2 ^ 64) {xs : List Spelled} (names : AreSpelled img dir xs) where
  pub slots_apart : IsSortedByKey (key img dir) (slice_cmp nat_cmp) xs → AreNeighboursApart img dir xs → AreSlotsApart (dir_of img dir)
  slots_apart sorted apart o k so sk same =
      let f = dir_of img dir in
      let h = names.all o so in
      let i = names.all k sk in
      let p = at_from_Contains xs h.name h.has in
      let q = at_from_Contains xs i.name i.has in
      let d : Spelled = h.name in
      let hp = names.each p.0 d p.1 in
      let iq = names.each q.0 d q.1 in
      let op : (get_or xs p.0 d).offset ≡ o = ap (λ (t : Spelled). t.offset) (p.2 d) ∙ h.is in
      let kq : (get_or xs q.0 d).offset ≡ k = ap (λ (t : Spelled). t.offset) (q.2 d) ∙ i.is in
      let keys = same_key readable fits hp iq (ap (slot_name f) op ∙ same ∙ sym (ap (slot_name f) kq)) in
      elim (cases_eq p.0 q.0) [
        | inl here ↦ sym op ∙ ap (λ j. (get_or xs j d).offset) here ∙ kq
        | inr other ↦ elim (cases_lt p.0 q.0) [
          | inl lt ↦ absurd (differ (key img dir) xs sorted apart p.0 q.0 d lt q.1 keys)
          | inr ge ↦ absurd (differ (key img dir) xs sorted apart q.0 p.0 d (omega arith) p.1 (sym keys))
        ]
      ]

  pub neighbours_apart : AreSlotsApart (dir_of img dir) → AreNeighboursApart img dir xs
  neighbours_apart apart k d lt same =
      let a = names.each k d (omega arith) in
      let b = names.each (k + 1) d lt in
      let one = apart (get_or xs k d).offset (get_or xs (k + 1) d).offset a.slot b.slot (key_name readable fits a b same) in
      eqb-false _ _ (apart_from_distinct same_slot xs k (k + 1) d names.once (omega arith) lt) one
