-- The slots of a directory, met one after another and put in the byte order of their names.
use Rattle.std.proofs.Common.{◌≡◌, ◌≢◌, ℕ, zero, suc, ◌+◌, ◌-◌, ◌*◌, ◌/◌, ◌%◌, ◌^◌, ◌<◌, ◌≤◌, Bool, List, [], ◌∷◌, ◌++◌, length, get_or, length-append, refl, sym, ap, subst, ◌∙◌, inl, inr, arith}
use Rattle.std.proofs.Math.Nat.{pow-suc}
use Rattle.std.specs.Prelude.{Some, None, ◌==◌, All, Contains}
use denote.Param.Members.{Mut}
use denote.Ref.{Bor}
use Rattle.std.specs.Cmp.{IsStrictWeakOrder}
use Rattle.std.specs.Cmp.Lexicographic.{slice_cmp}
use Rattle.std.specs.Fn.{Called, ComparesAs}
use Rattle.std.specs.Int.{w64, swap_bytes}
use Rattle.std.specs.List.Sorted.{IsPermutation, IsSortedBy, IsSortedByKey}
use Rattle.std.specs.Ordering.{is_lt, nat_cmp, ordering_then}
use Rattle.std.specs.declared.cmp.Ordering.{Ordering}
use Rattle.std.specs.declared.cmp.Ordering.TheVariants.{Less, Equal, Greater}
use Rattle.std.proofs.lemmas.Bool.{cases_eq, cases_lt, ne_eqb, eq-eqb}
use Rattle.std.proofs.lemmas.Cmp.{nat_list_cmp_total}
use Rattle.std.proofs.lemmas.Fn.{always_returns_same}
use Rattle.std.proofs.lemmas.List.{get_or_append_left, get_or_push}
use Rattle.std.proofs.lemmas.List.Elements.{All-nil, All-push, All-weaker, Contains-push, Contains-append_left}
use Rattle.std.proofs.lemmas.List.Sorted.{All-permutation, Contains-permutation, ranks_by}
use Rattle.std.proofs.lemmas.Map.Keys.{IsDistinct-from_apart, IsDistinct-IsPermutation}
use Rattle.ct_base.specs.declared.inode.Inode.{Inode}
use Rattle.ct_base.specs.Objects.{Object}
use Rattle.ct_base.specs.Path.{name_cmp}
use Rattle.ct_base.specs.Rules.{IsPlaced}
use Rattle.ct_base.specs.Slots.{IsSlot, slot_name}
use Rattle.ct_base.specs.Walk.{next, page_at, walk, word, AreTables}
use Rattle.ct_image.proofs.Steps.{next-zero, page_at-high, page_at-next, walk-cell}
use Rattle.ct_walk.proofs.Entries.{some_page-there}
use Rattle.ct_walk.specs.Pages.{some_page}
use Rattle.ct_dir.proofs.Choosing.{is_name-nonzero, name_small, name_word as slot_word}
use Rattle.ct_dir.proofs.Held.{used_there}
use Rattle.ct_dir.proofs.Matching.{head_length, name_size}
use Rattle.ct_dir.proofs.Orders.{bytes_cmp, name_cmp-bytes, then_assoc, words_cmp-bytes}
use Rattle.ct_dir.proofs.Spelling.{held_slot}
use Rattle.ct_dir.proofs.Stepping.{meets_slot}
use Rattle.ct_dir.specs.Directory.{AreEmpty, IsReadable, dir_of}
use Rattle.ct_dir.specs.Keys.{word_after, words_cmp}
use Rattle.ct_dir.specs.Reading.{Holds}
use Rattle.ct_dir.specs.Sorting.{AreOffsets, AreSorted, name_key, name_word, place_in, slot_place, values}
use Rattle.ct_dir.specs.declared.slot.Slot.{Slot}

-- the offsets of the slots before one, by rising offset
pub record Puts (f : Object) (at : ℕ) (xs : List ℕ) : Type 0 where
  pub each : All (IsSlot f) xs
  pub low : All (λ o. o < at) xs
  pub all : (o : ℕ) → o < at → IsSlot f o → Contains xs o
  pub rises : (i j d : ℕ) → i < j → j < length xs → get_or xs i d < get_or xs j d

pub puts_none : (f : Object) → Puts f 0 []
puts_none f = record {
  each = All-nil (IsSlot f);
  low = All-nil (λ o. o < 0);
  all = λ o lt s. absurd (omega arith);
  rises = λ i j d lt below. absurd (omega arith);
}

-- one more slot, the first from an offset on
pub puts_more : {f : Object} {at : ℕ} {xs : List ℕ} (o : ℕ) → Puts f at xs → IsSlot f o → at ≤ o → AreEmpty f at o → Puts f (o + 256) (xs ++ o ∷ [])
puts_more {f} {at} {xs} o p is on passed = record {
  each = All-push (IsSlot f) xs o p.each is;
  low = All-push (λ t. t < o + 256) xs o (All-weaker (λ t. t < at) (λ t. t < o + 256) (λ t lt. omega arith) xs p.low) (omega arith);
  all = λ k lt slot. elim (cases_lt k at) [
    | inl old ↦ Contains-append_left xs (o ∷ []) k (p.all k old slot)
    | inr new ↦ elim (cases_lt k o) [
      | inl between ↦ absurd (passed k new between slot)
      | inr from ↦ let same : o ≡ k = omega (arith, slot.aligned, is.aligned) in subst (Contains (xs ++ o ∷ [])) same (Contains-push xs o)
    ]
  ];
  rises = λ i j d lt below.
      let size = length-append xs (o ∷ []) in
      elim (cases_lt j (length xs)) [
        | inl inside ↦
            let a = get_or_append_left xs (o ∷ []) d i (omega arith) in
            let b = get_or_append_left xs (o ∷ []) d j inside in
            omega (arith, a, b, p.rises i j d lt inside)
        | inr past ↦
            let a = get_or_append_left xs (o ∷ []) d i (omega (arith, size, below)) in
            let b = get_or_push xs o d j (omega (arith, size, below)) in
            omega (arith, a, b, on, p.low i d (omega (arith, size, below)))
      ];
}

-- and all of them once none is left
pub puts_all : {f : Object} {at : ℕ} {xs : List ℕ} → Puts f at xs → AreEmpty f at f.size → AreOffsets f xs
puts_all {f} {at} {xs} p none = record {
  each = p.each;
  all = λ o slot. elim (cases_lt o at) [
    | inl old ↦ p.all o old slot
    | inr new ↦ absurd (none o new slot.below slot)
  ];
  once = IsDistinct-from_apart ◌==◌ xs (λ i j d lt below. ne_eqb _ _ (λ same. omega (arith, same, p.rises i j d lt below)));
}

flips : (x y : ℕ) → (x == y) ≡ (y == x)
flips x y = elim (cases_eq x y) [
  | inl same ↦ eq-eqb x y same ∙ sym (eq-eqb y x (sym same))
  | inr other ↦ ne_eqb _ _ other ∙ sym (ne_eqb _ _ (λ e. other (sym e)))
]

pub offsets_moved : {f : Object} (xs ys : List ℕ) → IsPermutation xs ys → AreOffsets f xs → AreOffsets f ys
offsets_moved {f} xs ys moved p = record {
  each = All-permutation (IsSlot f) xs ys moved p.each;
  all = λ o slot. Contains-permutation xs ys o moved (p.all o slot);
  once = IsDistinct-IsPermutation ◌==◌ flips xs ys moved p.once;
}

-- ---- where a slot stands

past : (img : List ℕ) (d x : ℕ) → 512 ^ d ≤ x → page_at img d x ≡ 0
unfolding page_at
past img zero zero le = absurd (omega arith)
past img zero (suc x) le = refl
past img (suc d) x le = page_at-next img d x ∙ ap (λ t. next img t (x % 512)) (past img d (x / 512) (omega (arith, le, pow-suc 512 d))) ∙ next-zero img (x % 512)

pub place_past : (img : List ℕ) (dir : Inode) (o : ℕ) → 2 ^ 48 ≤ dir.base + o → None ≡ slot_place img dir o
place_past img dir o le = ap (λ p. place_in p o) (sym (past img 4 ((dir.base + o) / 4096) (omega arith)))

place_of_none : (page o : ℕ) → None ≡ some_page page → None ≡ place_in page o
place_of_none zero o is = refl
place_of_none (suc page) o is = absurd cc

place_of_some : (page o p : ℕ) → Some p ≡ some_page page → Some (p * 512 + o % 4096 / 256 * 32) ≡ place_in page o
place_of_some zero o p is = absurd cc
place_of_some (suc page) o p is = let same : p ≡ suc page = cc in ap (λ k. Some (k * 512 + o % 4096 / 256 * 32)) same

module _ (img : List ℕ) (dir : Inode) (o v : ℕ) (at : v ≡ dir.base + o) (high : v < 2 ^ 48) where
  cell : walk img v ≡ page_at img 4 ((dir.base + o) / 4096)
  cell = walk-cell img v high ∙ ap (λ a. page_at img 4 (a / 4096)) at

  pub place_none : None ≡ some_page (walk img v) → None ≡ slot_place img dir o
  place_none none = place_of_none (page_at img 4 ((dir.base + o) / 4096)) o (none ∙ ap some_page cell)

  pub place_some : (p : ℕ) → Some p ≡ some_page (walk img v) → Some (p * 512 + o % 4096 / 256 * 32) ≡ slot_place img dir o
  place_some p some = place_of_some (page_at img 4 ((dir.base + o) / 4096)) o p (some ∙ ap some_page cell)

page_of_some : (page p : ℕ) → Some p ≡ some_page page → p ≡ page
page_of_some zero p is = absurd cc
page_of_some (suc page) p is = cc

pub place_inside : (img : List ℕ) (v p o : ℕ) → AreTables img → v < 2 ^ 48 → Some p ≡ some_page (walk img v) → p * 512 + o % 4096 / 256 * 32 + 32 ≤ length img
place_inside img v p o tables high some =
    let is = page_of_some (walk img v) p some ∙ walk-cell img v high in
    omega (arith, is, page_at-high img 4 (v / 4096) tables.some, tables.there)

there_in : (page o : ℕ) → page ≢ 0 → o % 256 ≡ 0 → place_in page o ≡ Some (page * 512 + o % 4096 / 8)
there_in zero o there aligned = absurd (there refl)
there_in (suc page) o there aligned = let same : o % 4096 / 256 * 32 ≡ o % 4096 / 8 = omega arith in ap (λ k. Some (suc page * 512 + k)) same

-- the place of a slot that is used
pub slot_stands : {img : List ℕ} {dir : Inode} {o : ℕ} → AreTables img → ((w : ℕ) → word img w < 2 ^ 64) → IsPlaced dir → IsSlot (dir_of img dir) o
    → slot_place img dir o ≡ Some (page_at img 4 ((dir.base + o) / 4096) * 512 + o % 4096 / 8)
slot_stands {img} {dir} {o} tables fits placed s = there_in (page_at img 4 ((dir.base + o) / 4096)) o (used_there img dir o tables fits placed s) s.aligned

values-first : (f : ℕ → ℕ) (k n : ℕ) → values f k (suc n) ≡ f k ∷ values f (k + 1) n
unfolding values
values-first f k n = refl

values-none : (f : ℕ → ℕ) (k : ℕ) → values f k 0 ≡ []
unfolding values
values-none f k = refl

-- keys that are the same have the same first word
pub key_first : (img : List ℕ) (dir : Inode) (a b : ℕ) → name_key img dir a ≡ name_key img dir b → name_word img (slot_place img dir a) 0 ≡ name_word img (slot_place img dir b) 0
key_first img dir a b same =
    let f = name_word img (slot_place img dir a) in
    let g = name_word img (slot_place img dir b) in
    let both : f 0 ∷ values f 1 31 ≡ g 0 ∷ values g 1 31 = sym (values-first f 0 31) ∙ same ∙ values-first g 0 31 in
    cc

abbrev order : List ℕ → List ℕ → Ordering
order x y = slice_cmp nat_cmp x y

then_itself : (o p : Ordering) → o ≢ Equal → o ≡ ordering_then o p
then_itself Less p ne = refl
then_itself Equal p ne = absurd (ne refl)
then_itself Greater p ne = refl

order-step : (f g : ℕ → ℕ) (k n : ℕ) → order (values f k (suc n)) (values g k (suc n)) ≡ ordering_then (nat_cmp (f k) (g k)) (order (values f (k + 1) n) (values g (k + 1) n))
order-step f g k n = ap (λ xs. order xs (values g k (suc n))) (values-first f k n) ∙ ap (order (f k ∷ values f (k + 1) n)) (values-first g k n)

-- The values before one are the same: one that differs decides, and one that does not leaves it to the others.
module _ (f g : ℕ → ℕ) (k : ℕ) (so_far : order (values f 0 32) (values g 0 32) ≡ order (values f k (32 - k)) (values g k (32 - k))) where
  pub order_decided : (o : Ordering) → k < 32 → o ≡ nat_cmp (f k) (g k) → o ≢ Equal → o ≡ order (values f 0 32) (values g 0 32)
  order_decided o lt is ne =
      let size : 32 - k ≡ suc (31 - k) = omega arith in
      let rest = order (values f (k + 1) (31 - k)) (values g (k + 1) (31 - k)) in
      then_itself o rest ne ∙ ap (λ p. ordering_then p rest) is ∙ sym (order-step f g k (31 - k)) ∙ ap (λ n. order (values f k n) (values g k n)) (sym size) ∙ sym so_far

  pub order_goes_on : k < 32 → nat_cmp (f k) (g k) ≡ Equal → order (values f 0 32) (values g 0 32) ≡ order (values f (k + 1) (32 - (k + 1))) (values g (k + 1) (32 - (k + 1)))
  order_goes_on lt is =
      let size : 32 - k ≡ suc (32 - (k + 1)) = omega arith in
      so_far ∙ ap (λ n. order (values f k n) (values g k n)) size ∙ order-step f g k (32 - (k + 1)) ∙ ap (λ p. ordering_then p (order (values f (k + 1) (32 - (k + 1))) (values g (k + 1) (32 - (k + 1))))) is

  pub order_ends : 32 ≤ k → Equal ≡ order (values f 0 32) (values g 0 32)
  order_ends le =
      let size : 32 - k ≡ 0 = omega arith in
      sym (so_far ∙ ap (λ n. order (values f k n) (values g k n)) size ∙ ap (λ xs. order xs (values g k 0)) (values-none f k) ∙ ap (order []) (values-none g k))

-- ---- the order of words is that of names

then_equal : (o : Ordering) → ordering_then o Equal ≡ o
then_equal Less = refl
then_equal Equal = refl
then_equal Greater = refl

order-words : (v w f g : ℕ → ℕ) (k n : ℕ) → ((j : ℕ) → k ≤ j → j < k + n → f j ≡ swap_bytes w64 (v j)) → ((j : ℕ) → k ≤ j → j < k + n → g j ≡ swap_bytes w64 (w j))
    → order (values f k (suc n)) (values g k (suc n)) ≡ ordering_then (words_cmp v w k n) (nat_cmp (f (k + n)) (g (k + n)))
unfolding words_cmp
order-words v w f g k zero left right =
    let here : k + 0 ≡ k = omega arith in
    let none : order (values f (k + 1) 0) (values g (k + 1) 0) ≡ Equal = ap (λ xs. order xs (values g (k + 1) 0)) (values-none f (k + 1)) ∙ ap (order []) (values-none g (k + 1)) in
    order-step f g k 0 ∙ ap (ordering_then (nat_cmp (f k) (g k))) none ∙ then_equal (nat_cmp (f k) (g k)) ∙ ap (λ j. nat_cmp (f j) (g j)) (sym here)
order-words v w f g k (suc n) left right =
    let last : k + 1 + n ≡ k + suc n = omega arith in
    let rest = order-words v w f g (k + 1) n (λ j from to. left j (omega arith) (omega arith)) (λ j from to. right j (omega arith) (omega arith)) in
    let head : nat_cmp (f k) (g k) ≡ nat_cmp (swap_bytes w64 (v k)) (swap_bytes w64 (w k)) = ap (λ x. nat_cmp x (g k)) (left k (omega arith) (omega arith)) ∙ ap (nat_cmp (swap_bytes w64 (v k))) (right k (omega arith) (omega arith)) in
    order-step f g k (suc n) ∙ ap (λ o. ordering_then o (order (values f (k + 1) (suc n)) (values g (k + 1) (suc n)))) head
    ∙ ap (ordering_then (nat_cmp (swap_bytes w64 (v k)) (swap_bytes w64 (w k)))) (rest ∙ ap (λ j. ordering_then (words_cmp v w (k + 1) n) (nat_cmp (f j) (g j))) last)
    ∙ sym (then_assoc (nat_cmp (swap_bytes w64 (v k)) (swap_bytes w64 (w k))) (words_cmp v w (k + 1) n) (nat_cmp (f (k + suc n)) (g (k + suc n))))

-- a slot that is used, as it stands on the device
slot_of : List ℕ → Inode → ℕ → Slot
slot_of img dir o =
    let place = page_at img 4 ((dir.base + o) / 4096) * 512 + o % 4096 / 8 in record { offset = o; place = place; head = word img place }

module _ {img : List ℕ} {dir : Inode} (readable : IsReadable img dir) (fits : (w : ℕ) → word img w < 2 ^ 64) where
  module _ {o : ℕ} (s : IsSlot (dir_of img dir) o) where
    held : Holds img (dir_of img dir) (slot_of img dir o)
    unfolding slot_of
    held = held_slot (page_at img 4 ((dir.base + o) / 4096)) (slot_of img dir o) (meets_slot o readable fits s) s (sym (some_page-there _ (used_there img dir o readable.tables fits readable.placed s))) refl refl refl

    stands : slot_place img dir o ≡ Some (slot_of img dir o).place
    unfolding slot_of
    stands = slot_stands readable.tables fits readable.placed s

    word_is : (k : ℕ) → k < 31 → name_word img (slot_place img dir o) k ≡ swap_bytes w64 (word_after img (slot_of img dir o) k)
    word_is k lt = ap (λ p. name_word img p k) stands ∙ rw (ne_eqb k 31 (λ e. omega arith)) refl

    length_is : name_word img (slot_place img dir o) 31 ≡ length (slot_name (dir_of img dir) o)
    unfolding slot_of
    length_is = ap (λ p. name_word img p 31) stands ∙ head_length held ∙ sym (name_size held)

  -- of slots that are used it is the byte order of their names
  pub key_order : {a b : ℕ} → IsSlot (dir_of img dir) a → IsSlot (dir_of img dir) b → order (name_key img dir a) (name_key img dir b) ≡ name_cmp (slot_name (dir_of img dir) a) (slot_name (dir_of img dir) b)
  unfolding slot_of
  key_order {a} {b} sa sb =
      let y = slot_name (dir_of img dir) a in
      let x = slot_name (dir_of img dir) b in
      let ha = held sa in
      let hb = held sb in
      let v = word_after img (slot_of img dir a) in
      let w = word_after img (slot_of img dir b) in
      let f = name_word img (slot_place img dir a) in
      let g = name_word img (slot_place img dir b) in
      let bytes = words_cmp-bytes v w (λ j. get_or y j 0) (λ j. get_or x j 0) 0 31 (name_small ha) (name_small hb) (λ j lt. slot_word ha j lt) (λ j lt. slot_word hb j lt) in
      order-words v w f g 0 31 (λ j from to. word_is sa j to) (λ j from to. word_is sb j to)
      ∙ ap (λ o. ordering_then o (nat_cmp (f 31) (g 31))) bytes
      ∙ ap (λ n. ordering_then (bytes_cmp (λ j. get_or y j 0) (λ j. get_or x j 0) 0 248) (nat_cmp n (g 31))) (length_is sa)
      ∙ ap (λ n. ordering_then (bytes_cmp (λ j. get_or y j 0) (λ j. get_or x j 0) 0 248) (nat_cmp (length y) n)) (length_is sb)
      ∙ sym (name_cmp-bytes y x 248 (is_name-nonzero y ha.text.name) (omega (arith, name_size ha, ha.text.length)))

  -- so are offsets that are sorted by it
  pub keys_sorted : (xs : List ℕ) → AreOffsets (dir_of img dir) xs → IsSortedByKey (name_key img dir) (slice_cmp nat_cmp) xs → AreSorted (dir_of img dir) xs
  keys_sorted xs offsets sorted = record {
    offsets = offsets;
    sorted = λ k d low lt.
        let is = key_order (offsets.each (k + 1) d lt) (offsets.each k d (omega arith)) in
        ap is_lt (sym is) ∙ sorted k d low lt;
  }

-- what a sort by an order of keys ensures, where each call gives that order
pub sorted_from : {X : Type 0} (by : X → List ℕ) {F : Type 0} {g : Mut F (Bor X × (Bor X × Unit {0})) Ordering} {f : F} (xs : List X)
    → ((lt : X → X → Bool) → IsStrictWeakOrder lt → ComparesAs g lt f → IsSortedBy lt xs)
    → ((a : Bor X × (Bor X × Unit {0})) (r : Ordering) (f' : F) → Called g f a r f' → (r ≡ slice_cmp nat_cmp (by a.0.now) (by a.1.0.now)) × (f' ≡ f)) → IsSortedByKey by (slice_cmp nat_cmp) xs
sorted_from by {g = g} {f = f} xs up h =
    up (λ x y. is_lt (slice_cmp nat_cmp (by x) (by y))) (ranks_by nat_list_cmp_total by)
    (always_returns_same g (λ a r. is_lt r ≡ is_lt (slice_cmp nat_cmp (by a.0.now) (by a.1.0.now))) f (λ a r f' k. (ap is_lt (h a r f' k).0, (h a r f' k).1)))
