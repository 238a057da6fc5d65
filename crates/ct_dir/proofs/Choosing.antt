-- The least name of those later than a name: slots are compared, and the best is kept.
use Rattle.std.proofs.Common.{◌≡◌, ◌≢◌, ℕ, zero, suc, ◌+◌, ◌*◌, ◌/◌, ◌%◌, ◌^◌, ◌<◌, Bool, true, false, List, [], ◌∷◌, length, get_or, slice_index, refl, sym, ap, ◌∙◌, subst, inl, inr, Option, Some, None, arith}
use Rattle.std.specs.Prelude.{◌↔◌, ◌&&◌, ◌==◌, not, nat_lt, nat_le}
use Rattle.std.specs.List.{list_all}
use Rattle.std.specs.Str.{bytes_eq}
use Rattle.std.specs.Ordering.{nat_cmp, ordering_then, ordering_index, ordering_reverse}
use Rattle.std.specs.declared.cmp.Ordering.{Ordering}
use Rattle.std.specs.declared.cmp.Ordering.TheVariants.{Less, Equal, Greater}
use Rattle.std.proofs.lemmas.Bool.{cases_lt, and_parts, eq-eqb, true≢false, false≢true}
use Rattle.std.proofs.lemmas.Cmp.{nat_list_cmp_total, tied_itself}
use Rattle.ct_base.specs.Inode.{little}
use Rattle.ct_base.specs.Objects.{Object}
use Rattle.ct_base.specs.Path.{is_name, name_cmp}
use Rattle.ct_base.specs.Slots.{IsSlot, slot_inode, slot_length, slot_name}
use Rattle.ct_dir.proofs.Matching.{head_length, name_size, word_is}
use Rattle.ct_dir.proofs.Orders.{bytes_cmp, name_cmp-bytes, words_cmp-bytes}
use Rattle.ct_dir.proofs.Texts.{bytes_from-at, get_or-end, name_words-at, name_words-is, text_words}
use Rattle.ct_dir.specs.Keys.{AreKeys, IsKey, word_after, words_cmp}
use Rattle.ct_base.specs.declared.inode.Inode.{Inode}
use Rattle.ct_dir.proofs.Stepping.{Brings}
use Rattle.ct_dir.specs.Directory.{AreEmpty, IsLater, IsNext, dir_of}
use Rattle.ct_dir.specs.Nearest.{AreBest, IsBefore, IsBest, IsLeast}
use Rattle.ct_dir.specs.Reading.{Holds}
use Rattle.ct_dir.specs.declared.order.Best.{Best}
use Rattle.ct_dir.specs.declared.lookup.Found.{Found}
use Rattle.ct_dir.specs.declared.names.Key.{Key}
use Rattle.ct_dir.specs.declared.slot.Slot.{Slot}

-- no byte of a name is 0
name_nonzero : (x : List ℕ) → list_all (λ b. not (b == 0) && not (b == 47)) x ≡ true → (k : ℕ) → k < length x → get_or x k 0 ≢ 0
name_nonzero [] all k lt = absurd (omega arith)
name_nonzero (b ∷ x) all zero lt = λ is.
    let here : (not (b == 0) && not (b == 47)) ≡ true = (and_parts (not (b == 0) && not (b == 47)) (list_all (λ b. not (b == 0) && not (b == 47)) x) all).0 in
    let some : not (b == 0) ≡ true = (and_parts (not (b == 0)) (not (b == 47)) here).0 in
    let none : not (b == 0) ≡ false = ap not (eq-eqb b 0 is) in
    true≢false (sym some ∙ none)
name_nonzero (b ∷ x) all (suc k) lt = name_nonzero x (and_parts (not (b == 0) && not (b == 47)) (list_all (λ b. not (b == 0) && not (b == 47)) x) all).1 k (omega arith)

pub is_name-nonzero : (x : List ℕ) → is_name x ≡ true → (k : ℕ) → k < length x → get_or x k 0 ≢ 0
is_name-nonzero x is =
    name_nonzero x (and_parts (nat_lt 0 (length x) && nat_le (length x) 248 && not (bytes_eq x (46 ∷ [])) && not (bytes_eq x (46 ∷ 46 ∷ []))) (list_all (λ b. not (b == 0) && not (b == 47)) x) is).1

module _ {img : List ℕ} {f : Object} {slot : Slot} (h : Holds img f slot) where
  pub name_small : (k : ℕ) → get_or (slot_name f slot.offset) k 0 < 256
  name_small k = elim (cases_lt k (slot_length f slot.offset)) [
    | inl lt ↦ subst (λ b. b < 256) (sym (bytes_from-at f.at (slot.offset + 8) (slot_length f slot.offset) k lt)) (h.small (slot.offset + 8 + k))
    | inr ge ↦ subst (λ b. b < 256) (sym (get_or-end (slot_name f slot.offset) k (omega (arith, name_size h, ge)))) (omega arith)
  ]

  pub name_word : (k : ℕ) → k < 31 → word_after img slot k ≡ little (λ j. get_or (slot_name f slot.offset) j 0) (8 * k) 8
  name_word k lt = word_is h k lt ∙ text_words f slot.offset (slot_name f slot.offset) k h.text refl lt ∙ name_words-at (slot_name f slot.offset) k lt

  -- what a comparison of a slot with a key says of names
  pub compared : {x : List ℕ} {key : Key} (r : Ordering) → IsKey x key → r ≡ ordering_then (words_cmp (word_after img slot) (slice_index key.words) 0 31) (nat_cmp (slot.head / 2 ^ 32) key.length) → r ≡ name_cmp (slot_name f slot.offset) x
  compared {x} {key} r k is =
      let y = slot_name f slot.offset in
      let bytes = words_cmp-bytes (word_after img slot) (slice_index key.words) (λ j. get_or y j 0) (λ j. get_or x j 0) 0 31 name_small k.bytes (λ j lt. name_word j (omega arith)) (λ j lt. ap (λ ws. get_or ws j 0) k.words ∙ name_words-at x j (omega arith)) in
      let names = name_cmp-bytes y x 248 (is_name-nonzero y h.text.name) (omega (arith, name_size h, h.text.length)) in
      let left : slot.head / 2 ^ 32 ≡ length y = head_length h ∙ sym (name_size h) in
      is ∙ ap (λ o. ordering_then o (nat_cmp (slot.head / 4294967296) key.length)) bytes
      ∙ ap (λ n. ordering_then (bytes_cmp (λ j. get_or y j 0) (λ j. get_or x j 0) 0 248) (nat_cmp n key.length)) left
      ∙ ap (λ n. ordering_then (bytes_cmp (λ j. get_or y j 0) (λ j. get_or x j 0) 0 248) (nat_cmp (length y) n)) k.length ∙ sym names

  -- the key of a slot that was read is that of its name
  pub key_read : (key : Key) → length key.words ≡ 31 → ((k : ℕ) → k < 31 → get_or key.words k 0 ≡ word_after img slot k) → key.length ≡ slot.head / 2 ^ 32 → IsKey (slot_name f slot.offset) key
  key_read key size words is =
      record {
        words = name_words-is key.words (slot_name f slot.offset) size (λ k lt. words k lt ∙ name_word k lt);
        length = is ∙ head_length h ∙ sym (name_size h);
        bytes = name_small;
      }

-- one name is later than another where that is less
pub later_greater : (x y : List ℕ) → name_cmp y x ≡ Greater → name_cmp x y ≡ Less
later_greater x y is = nat_list_cmp_total.antisymm x y ∙ ap ordering_reverse is

pub greater_later : (x y : List ℕ) → name_cmp x y ≡ Less → name_cmp y x ≡ Greater
greater_later x y is = nat_list_cmp_total.antisymm y x ∙ ap ordering_reverse is

is_greater : (r : Ordering) → (ordering_index r == 2) ≡ true → r ≡ Greater
is_greater Less is = absurd (false≢true is)
is_greater Equal is = absurd (false≢true is)
is_greater Greater is = refl

is_less : (r : Ordering) → (ordering_index r == 0) ≡ true → r ≡ Less
is_less Less is = refl
is_less Equal is = absurd (false≢true is)
is_less Greater is = absurd (false≢true is)

-- the test of a slot against the name that it is to come after
pub later_test : {img : List ℕ} {f : Object} {slot : Slot} (x : Option (List ℕ)) (after : Option Key) (key : Key) (r : Ordering) (b : Bool) → Holds img f slot → AreKeys x after → after ≡ Some key
    → r ≡ ordering_then (words_cmp (word_after img slot) (slice_index key.words) 0 31) (nat_cmp (slot.head / 2 ^ 32) key.length) → b ≡ (ordering_index r == 2) → b ≡ true ↔ IsLater x (slot_name f slot.offset)
later_test None None key r b h keys is answer test = absurd (none_some is)
  where
    none_some : {key : Key} → None ≡ Some key → ⊥
    none_some e = cc
later_test None (Some k) key r b h keys is answer test = absurd keys
later_test (Some x) None key r b h keys is answer test = absurd keys
later_test {img} {f} {slot} (Some x) (Some k) key r b h keys is answer test =
    let same : k ≡ key = cc in
    let K : Key → Type 0 = λ k. IsKey x k in
    let names = compared h r (subst K same keys) answer in (
      λ yes. later_greater x (slot_name f slot.offset) (sym names ∙ is_greater r (sym test ∙ yes)),
      λ later. test ∙ ap (λ o. ordering_index o == 2) (names ∙ greater_later x (slot_name f slot.offset) later),
    )

-- the test of a slot against the best so far
pub nearer_test : {img : List ℕ} {f : Object} {slot : Slot} (x : Option (List ℕ)) (best : Option Best) (b : Best) (r : Ordering) (t : Bool) → Holds img f slot → AreBest x best → best ≡ Some b
    → r ≡ ordering_then (words_cmp (word_after img slot) (slice_index b.key.words) 0 31) (nat_cmp (slot.head / 2 ^ 32) b.key.length) → t ≡ (ordering_index r == 0) → t ≡ true ↔ IsBefore x (slot_name f slot.offset)
nearer_test None None b r t h keys is answer test = absurd (none_some is)
  where
    none_some : {b : Best} → None ≡ Some b → ⊥
    none_some e = cc
nearer_test None (Some k) b r t h keys is answer test = absurd keys
nearer_test (Some x) None b r t h keys is answer test = absurd keys
nearer_test {img} {f} {slot} (Some x) (Some k) b r t h keys is answer test =
    let same : k ≡ b = cc in
    let K : Best → Type 0 = λ k. IsKey x k.key in
    let names = compared h r (subst K same keys) answer in
    (λ yes. sym names ∙ is_less r (sym test ∙ yes), λ less. test ∙ ap (λ o. ordering_index o == 0) (names ∙ less))

-- the slots before an offset and those that were passed
before_passed : {f : Object} {k : ℕ} (at o : ℕ) (P : Type 0) → AreEmpty f at o → o % 256 ≡ 0 → k < o + 256 → IsSlot f k → (k < at → P) → (k ≡ o → P) → P
before_passed {f} {k} at o P empty aligned lt s before here = elim (cases_lt k at) [
  | inl low ↦ before low
  | inr ge ↦ elim (cases_lt k o) [
    | inl below ↦ absurd (empty k (omega arith) below s)
    | inr past ↦ here (omega (arith, s.aligned, aligned, lt, past))
  ]
]

-- the walk passed a slot that is no better
pub best_kept : {img : List ℕ} {dir : Inode} {at after : ℕ} {slot : Slot} (x : Option (List ℕ)) (best : Option Best) → Brings img dir at after slot
    → ((y : List ℕ) → IsLater x (slot_name (dir_of img dir) slot.offset) → AreBest (Some y) best → name_cmp (slot_name (dir_of img dir) slot.offset) y ≢ Less)
    → (AreBest None best → IsLater x (slot_name (dir_of img dir) slot.offset) → ⊥) → IsBest (dir_of img dir) x at best → IsBest (dir_of img dir) x after best
best_kept {img} {dir} {at} {after} {slot} x None b no_less no_later so_far =
    let f = dir_of img dir in
    λ k lt s later. before_passed at slot.offset ⊥ b.passed b.used.aligned (omega (arith, lt, b.to)) s (λ low. so_far k low s later) (λ here. no_later tt (subst (λ o. IsLater x (slot_name f o)) here later))
best_kept {img} {dir} {at} {after} {slot} x (Some best) b no_less no_later so_far =
    let f = dir_of img dir in
    record {
      slot = so_far.slot;
      inode = so_far.inode;
      key = so_far.key;
      later = so_far.later;
      least = λ k lt s later.
          before_passed at slot.offset (name_cmp (slot_name f k) (slot_name f best.found.offset) ≢ Less) b.passed b.used.aligned (omega (arith, lt, b.to)) s (λ low. so_far.least k low s later)
          (λ here. subst (λ o. name_cmp (slot_name f o) (slot_name f best.found.offset) ≢ Less) (sym here) (no_less (slot_name f best.found.offset) (subst (λ o. IsLater x (slot_name f o)) here later) so_far.key));
    }

-- the walk met a slot that is better
pub best_taken : {img : List ℕ} {dir : Inode} {at after : ℕ} {slot : Slot} (x : Option (List ℕ)) (best : Option Best) (found : Found) (key : Key) → Brings img dir at after slot
    → IsLater x (slot_name (dir_of img dir) slot.offset) → ((y : List ℕ) → AreBest (Some y) best → name_cmp (slot_name (dir_of img dir) slot.offset) y ≡ Less)
    → found.offset ≡ slot.offset → slot_inode (dir_of img dir) slot.offset ≡ found.inode → IsKey (slot_name (dir_of img dir) slot.offset) key
    → IsBest (dir_of img dir) x at best → IsLeast (dir_of img dir) x after (record { found = found; key = key })
best_taken {img} {dir} {at} {after} {slot} x best found key b later less offset inode is so_far =
    let f = dir_of img dir in
    let L : ℕ → Type 0 = λ o. IsLater x (slot_name f o) in
    let I : ℕ → Type 0 = λ o. IsSlot f o in
    let K : ℕ → Type 0 = λ o. IsKey (slot_name f o) key in
    record {
      slot = subst I (sym offset) b.used;
      inode = ap (slot_inode f) offset ∙ inode;
      key = subst K (sym offset) is;
      later = subst L (sym offset) later;
      least = λ k lt s late. subst (λ o. name_cmp (slot_name f k) (slot_name f o) ≢ Less) (sym offset)
          (before_passed at slot.offset (name_cmp (slot_name f k) (slot_name f slot.offset) ≢ Less) b.passed b.used.aligned (omega (arith, lt, b.to)) s
          (λ low. earlier best less so_far k low s late)
          (λ here. subst (λ o. name_cmp (slot_name f o) (slot_name f slot.offset) ≢ Less) (sym here) (λ lower. absurd_orders (sym lower ∙ tied_itself nat_list_cmp_total (slot_name f slot.offset)))));
    }
  where
    absurd_orders : Less ≡ Equal → ⊥
    absurd_orders e = cc

    earlier : (best : Option Best) → ((y : List ℕ) → AreBest (Some y) best → name_cmp (slot_name (dir_of img dir) slot.offset) y ≡ Less) → IsBest (dir_of img dir) x at best
        → (k : ℕ) → k < at → IsSlot (dir_of img dir) k → IsLater x (slot_name (dir_of img dir) k) → name_cmp (slot_name (dir_of img dir) k) (slot_name (dir_of img dir) slot.offset) ≢ Less
    earlier None less so_far k low s late lower = so_far k low s late
    earlier (Some best) less so_far k low s late lower =
        so_far.least k low s late (nat_list_cmp_total.trans (slot_name (dir_of img dir) k) (slot_name (dir_of img dir) slot.offset) (slot_name (dir_of img dir) best.found.offset) lower (less (slot_name (dir_of img dir) best.found.offset) so_far.key))

-- at the end the best is the next
pub best_next : {f : Object} {x : Option (List ℕ)} (at : ℕ) (best : Best) → IsLeast f x at best → AreEmpty f at f.size → IsNext f x best.found.offset
best_next {f} {x} at best b empty =
    record {
      slot = b.slot;
      later = b.later;
      least = λ k s late. elim (cases_lt k at) [ inl low ↦ b.least k low s late | inr ge ↦ absurd (empty k (omega arith) s.below s) ];
    }

pub none_later : {f : Object} (x : Option (List ℕ)) (at : ℕ) → IsBest f x at None → AreEmpty f at f.size → (o : ℕ) → IsSlot f o → IsLater x (slot_name f o) → ⊥
none_later {f} x at none empty o s late = elim (cases_lt o at) [ inl low ↦ none o low s late | inr ge ↦ empty o (omega arith) s.below s ]
