-- Slots of a directory, as the words of a device show them.
use Rattle.std.proofs.Common.{◌≡◌, ◌≢◌, ℕ, ◌+◌, ◌-◌, ◌*◌, ◌/◌, ◌%◌, ◌^◌, ◌<◌, ◌≤◌, true, List, length, sym, ap, subst, ◌∙◌, inl, inr, arith}
use Rattle.std.proofs.lemmas.Bool.{both_ways, cases_lt, eq-eqb, ne_eqb}
use Rattle.std.specs.Prelude.{◌==◌, not}
use Rattle.ct_base.specs.declared.inode.Inode.{Inode}
use Rattle.ct_base.specs.Inode.{inode, little, IsNumber}
use Rattle.ct_base.specs.Objects.{Object, objects}
use Rattle.ct_base.specs.Path.{is_name}
use Rattle.ct_base.specs.Rules.{IsEntry, IsPlaced}
use Rattle.ct_base.specs.Slots.{IsSlot, bytes_from, slot_inode, slot_length, slot_name}
use Rattle.ct_base.specs.Walk.{word, page_at, AreTables}
use Rattle.ct_base.specs.Words.{place_at}
use Rattle.ct_state.proofs.Bytes.{bytes_from-same, objects-cases, objects-in, little-zero, little-none}
use Rattle.ct_dir.proofs.Held.{Lies, laid, dir-small, slot_inside, used_there, word_there}
use Rattle.ct_dir.proofs.Texts.{head_parts, little-byte}
use Rattle.ct_dir.specs.Directory.{AreEmpty, dir_of}
use Rattle.ct_dir.specs.Keys.{byte_of}
use Rattle.ct_naming.specs.declared.slot.Slot.{Slot}
use Rattle.ct_naming.specs.Slots.{Meets, Skips, Stands, byte_at}

pub lies : {img : List ℕ} {dir : Inode} {o : ℕ} → AreTables img → ((w : ℕ) → word img w < 2 ^ 64) → IsPlaced dir → dir.kind ≡ 2 → o % 256 ≡ 0 → o < dir.size → Lies img dir o
lies {img} {dir} {o} tables fits placed kind aligned below =
    let whole = placed.slots kind in
    record { tables = tables; fits = fits; laid = laid placed (omega arith); below = omega (arith, whole); aligned = aligned }

module _ {img : List ℕ} {dir : Inode} {o : ℕ} (l : Lies img dir o) (kind : dir.kind ≡ 2) (place : ℕ) (at : place ≡ place_at img (dir.base + o)) (there : page_at img 4 ((dir.base + o) / 4096) ≢ 0) where
  place_is : place ≡ page_at img 4 ((dir.base + o) / 4096) * 512 + o % 4096 / 8
  place_is = let even = l.laid.aligned in let same : (dir.base + o) % 4096 ≡ o % 4096 = omega arith in omega (arith, at, same)

  look_word : (k : ℕ) → k < 32 → word img (place + k) ≡ little (dir_of img dir).at (o + 8 * k) 8
  look_word k lt = ap (λ p. word img (p + k)) place_is ∙ word_there l k lt there

  pub look_inside : place + 32 ≤ length img
  look_inside = omega (arith, place_is, slot_inside l there)

  pub look_used : (((w : ℕ) → place ≤ w → w < place + 32 → word img w ≡ 0) → ⊥) → Stands img (dir_of img dir) o place
  look_used some = record {
    slot = record {
      dir = kind;
      below = omega (arith, l.below);
      aligned = l.aligned;
      used = λ none. some (λ w from to.
          let k = w - place in
          let f = dir_of img dir in
          let is : place + k ≡ w = omega arith in
          ap (word img) (sym is) ∙ look_word k (omega arith)
          ∙ little-zero f.at (o + 8 * k) 8 (λ i lt. let here : o + 8 * k + i ≡ o + (8 * k + i) = omega arith in ap f.at here ∙ little-none f.at o 256 (8 * k + i) none (omega arith)));
    };
    inside = look_inside;
    words = look_word;
  }

  pub look_empty : ((w : ℕ) → place ≤ w → w < place + 32 → word img w ≡ 0) → Skips (dir_of img dir) o (o + 256)
  look_empty zeros = record {
    on = omega arith;
    aligned = omega (arith, l.aligned);
    empty = λ p from to slot.
        let f = dir_of img dir in
        let here : p ≡ o = omega (arith, slot.aligned, l.aligned) in
        slot.used (ap (λ q. little f.at q 256) here ∙ little-zero f.at o 256 (λ k lt.
        let split : o + k ≡ o + 8 * (k / 8) + k % 8 = omega arith in
        ap f.at split ∙ little-none f.at (o + 8 * (k / 8)) 8 (k % 8) (sym (look_word (k / 8) (omega arith)) ∙ zeros (place + k / 8) (omega arith) (omega arith)) (omega arith)));
  }

-- the slots of pages that are absent
pub look_absent : {img : List ℕ} {dir : Inode} {o : ℕ} → Lies img dir o → IsPlaced dir → (absent next : ℕ) → 0 < absent → next + dir.base ≡ ((dir.base + o) / 4096 + absent) * 4096
    → ((y : ℕ) → (dir.base + o) / 4096 ≤ y → y < (dir.base + o) / 4096 + absent → page_at img 4 y ≡ 0) → Skips (dir_of img dir) o next
look_absent {img} {dir} {o} l placed absent next some is gone = record {
  on = omega arith;
  aligned = let even = l.laid.aligned in omega arith;
  empty = λ p from to slot. used_there img dir p l.tables l.fits placed slot (gone ((dir.base + p) / 4096) (omega arith) (omega arith));
}

module _ (img : List ℕ) (dir : Inode) {o place : ℕ} (s : Stands img (dir_of img dir) o place) where
  byte_is : (k : ℕ) → k < 256 → byte_at img place k ≡ (dir_of img dir).at (o + k)
  byte_is k lt =
      let f = dir_of img dir in
      let split : o + 8 * (k / 8) + k % 8 ≡ o + k = omega arith in
      ap (λ w. byte_of w (k % 8)) (s.words (k / 8) (omega arith)) ∙ little-byte f.at (o + 8 * (k / 8)) 8 (k % 8) (λ i _. dir-small img dir (o + 8 * (k / 8) + i)) (omega arith) ∙ ap f.at split

  head_is : word img place ≡ little (dir_of img dir).at o 8
  head_is =
      let p : place + 0 ≡ place = omega arith in
      let q : o + 8 * 0 ≡ o = omega arith in
      ap (word img) (sym p) ∙ s.words 0 (omega arith) ∙ ap (λ k. little (dir_of img dir).at k 8) q

  pub inode_is : word img place % 2 ^ 32 ≡ slot_inode (dir_of img dir) o
  inode_is = ap (λ w. w % 4294967296) head_is ∙ (head_parts (dir_of img dir) o (dir-small img dir)).0

  pub length_is : word img place / 2 ^ 32 ≡ slot_length (dir_of img dir) o
  length_is = ap (λ w. w / 4294967296) head_is ∙ (head_parts (dir_of img dir) o (dir-small img dir)).1

  name_is : slot_length (dir_of img dir) o ≤ 248 → bytes_from (byte_at img place) 8 (slot_length (dir_of img dir) o) ≡ slot_name (dir_of img dir) o
  name_is short =
      let f = dir_of img dir in
      bytes_from-same f.at (byte_at img place) (o + 8) 8 (slot_length f o) (λ k lt. let here : o + (8 + k) ≡ o + 8 + k = omega arith in byte_is (8 + k) (omega arith) ∙ ap f.at here)

  -- what a slot's words have to be
  pub entry_from : {fs : ℕ → Object} (inode length : ℕ) → inode ≡ word img place % 2 ^ 32 → length ≡ word img place / 2 ^ 32 → (fs inode).kind ≢ 0 → length ≤ 248
      → is_name (bytes_from (byte_at img place) 8 length) ≡ true → ((k : ℕ) → 8 + length ≤ k → k < 256 → byte_at img place k ≡ 0) → IsEntry fs (dir_of img dir) o
  entry_from {fs} inode length i n live short name padding =
      let f = dir_of img dir in
      let size = n ∙ length_is in
      let fits : slot_length f o ≤ 248 = omega (arith, size) in
      record {
        live = λ none. live (ap (λ k. (fs k).kind) (i ∙ inode_is) ∙ none);
        length = fits;
        name = ap is_name (sym (name_is fits)) ∙ ap (λ k. is_name (bytes_from (byte_at img place) 8 k)) (sym size) ∙ name;
        padding = λ k from to. sym (byte_is k to) ∙ padding k (omega (arith, size)) to;
      }

  pub entry_live : {fs : ℕ → Object} (inode : ℕ) → inode ≡ word img place % 2 ^ 32 → IsEntry fs (dir_of img dir) o → (fs inode).kind ≢ 0
  entry_live {fs} inode i e none = e.live (ap (λ k. (fs k).kind) (sym (i ∙ inode_is)) ∙ none)

  pub entry_short : {fs : ℕ → Object} (length : ℕ) → length ≡ word img place / 2 ^ 32 → IsEntry fs (dir_of img dir) o → length ≤ 248
  entry_short length n e = omega (arith, n ∙ length_is, e.length)

  pub entry_name : {fs : ℕ → Object} (length : ℕ) → length ≡ word img place / 2 ^ 32 → IsEntry fs (dir_of img dir) o → is_name (bytes_from (byte_at img place) 8 length) ≡ true
  entry_name length n e = ap (λ k. is_name (bytes_from (byte_at img place) 8 k)) (n ∙ length_is) ∙ ap is_name (name_is e.length) ∙ e.name

  pub entry_padded : {fs : ℕ → Object} (length : ℕ) → length ≡ word img place / 2 ^ 32 → IsEntry fs (dir_of img dir) o → (k : ℕ) → 8 + length ≤ k → k < 256 → byte_at img place k ≡ 0
  entry_padded length n e k from to = byte_is k to ∙ e.padding k (omega (arith, n ∙ length_is)) to

-- what holds of the slots that were passed holds of one more, and in the end of all
module _ (img : List ℕ) (dir : Inode) {at : ℕ} (P : ℕ → Type 0) (so_far : (o : ℕ) → o < at → IsSlot (dir_of img dir) o → P o) where
  pub met_more : {slot : Slot} → Meets img dir at slot → P slot.offset → (o : ℕ) → o < slot.offset + 256 → IsSlot (dir_of img dir) o → P o
  met_more {slot} m here o lt s = elim (cases_lt o at) [
    | inl old ↦ so_far o old s
    | inr new ↦ elim (cases_lt o slot.offset) [
      | inl between ↦ absurd (m.passed o new between s)
      | inr from ↦ let same : slot.offset ≡ o = omega (arith, s.aligned, m.stands.slot.aligned) in subst P same here
    ]
  ]

  pub met_all : AreEmpty (dir_of img dir) at dir.size → (o : ℕ) → IsSlot (dir_of img dir) o → P o
  met_all none o s = elim (cases_lt o at) [
    | inl old ↦ so_far o old s
    | inr new ↦ absurd (none o new s.below s)
  ]

-- an object that is live has a number
pub live_number : (b : ℕ → ℕ) (count n : ℕ) → (objects b count n).kind ≢ 0 → IsNumber count n
live_number b count n live = elim (objects-cases b count n) [
  | inl in_it ↦ in_it.0
  | inr out ↦ absurd (live (ap (λ (f : Object). f.kind) out.1))
]

pub kind_is : (b : ℕ → ℕ) (count n : ℕ) → IsNumber count n → (objects b count n).kind ≡ (inode b n).kind
kind_is b count n number = ap (λ (f : Object). f.kind) (objects-in b count n number)

pub some_from : (k m : ℕ) → m ≡ k → not (k == 0) ≡ true → m ≢ 0
some_from k m is on none = both_ways (not (k == 0)) (ap not (eq-eqb k 0 (sym is ∙ none))) on

pub some_to : (k m : ℕ) → m ≡ k → m ≢ 0 → not (k == 0) ≡ true
some_to k m is some = ap not (ne_eqb k 0 (λ none. some (is ∙ none)))
