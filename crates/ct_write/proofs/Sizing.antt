-- One size becomes another.
use Rattle.std.proofs.Common.{◌≡◌, ◌≢◌, ℕ, zero, suc, ◌+◌, ◌-◌, ◌*◌, ◌/◌, ◌%◌, ◌^◌, ◌<◌, ◌≤◌, ◌⊎◌, List, [], ◌∷◌, ◌++◌, refl, sym, ap, subst, ◌∙◌, inl, inr, arith}
use Rattle.std.specs.Prelude.{All, length}
use Rattle.std.proofs.lemmas.Bool.{lt-ltb, or_left}
use Rattle.std.proofs.lemmas.List.Elements.{All-head, All-tail}
use Rattle.ct_base.specs.Exchange.{Exchanged, HasTables, Outside}
use Rattle.ct_base.specs.Inode.{inode}
use Rattle.ct_base.specs.View.{view}
use Rattle.ct_words.proofs.Shown.{little-shown}
use Rattle.ct_base.specs.Settled.{Pair, Named}
use Rattle.ct_base.specs.Walk.{word, word_in, byte, byte_in, page_at, AreTables}
use Rattle.ct_base.specs.Words.{word_at, place_at, pairs_to, Rewrites}
use Rattle.ct_image.proofs.Partner.{partner-other}
use Rattle.ct_image.proofs.Beside.{Beside, beside_cells, beside_count, beside_tables, beside_words}
use Rattle.ct_image.proofs.Steps.{walk-cell}
use Rattle.ct_inode.proofs.Rewritten.{word_inside, word_outside}
use Rattle.ct_record.specs.Record.{InRecord}
use Rattle.ct_swap.specs.Swap.{IsEntry, swap_pairs, first_pair, second_pair}
use Rattle.ct_words.specs.Drafted.{MapsAlike}
use Rattle.ct_words.specs.Shown.{shown_word}
use Rattle.ct_pm.specs.Device.{SameOff}
use Rattle.ct_record.proofs.Under.{under_beside}
use Rattle.ct_write.specs.Recorded.{IsBare, Recorded, Sized}

byte_in-word : (img : List ℕ) (page o : ℕ) → byte_in img page o ≡ word_in img page (o / 8) / 256 ^ (o % 8) % 256
byte_in-word img zero o = sym (ap (λ q. q % 256) (Rattle.std.proofs.Math.Nat.zero-div (256 ^ (o % 8))))
byte_in-word img (suc page) o = refl

-- a byte is one of the eight of a word
pub byte-word : (img : List ℕ) (v : ℕ) → v < 2 ^ 48 → byte img v ≡ word_at img (8 * (v / 8)) / 256 ^ (v % 4096 % 8) % 256
unfolding word_at
byte-word img v high =
    let page : v / 4096 ≡ 8 * (v / 8) / 4096 = omega arith in
    let index : v % 4096 / 8 ≡ 8 * (v / 8) % 4096 / 8 = omega arith in
    ap (λ t. byte_in img t (v % 4096)) (walk-cell img v high)
    ∙ byte_in-word img (page_at img 4 (v / 4096)) (v % 4096)
    ∙ ap (λ k. word_in img (page_at img 4 k) (v % 4096 / 8) / 256 ^ (v % 4096 % 8) % 256) page
    ∙ ap (λ k. word_in img (page_at img 4 (8 * (v / 8) / 4096)) k / 256 ^ (v % 4096 % 8) % 256) index

pub sized_by : {old new : List ℕ} {i at size : ℕ} {values : List ℕ} → size < 2 ^ 64 → Rewrites old new at values → at ≡ 64 * i + 8 → values ≡ size ∷ [] → Sized old new i size
sized_by {old} {new} {i} {at} {size} {values} fits r is are =
    let count : length values ≡ 1 = ap length are in
    let aligned : at % 8 ≡ 0 = omega (arith, is) in
    record {
      tables = r.tables;
      cells = r.cells;
      is = ap (λ x. x % 2 ^ 64) (ap (word_at new) (omega (arith, is)) ∙ word_inside r aligned 0 (omega (arith, count)) ∙ ap (λ (l : List ℕ). Rattle.std.specs.Prelude.slice_index l 0) are) ∙ omega (arith, fits);
      bytes = λ v lt off.
          byte-word new v lt
          ∙ ap (λ x. x / 256 ^ (v % 4096 % 8) % 256) (word_outside r aligned (8 * (v / 8)) (elim off [ inl before ↦ inl (omega (arith, is)) | inr past ↦ inr (omega (arith, is, count)) ]))
          ∙ sym (byte-word old v lt);
      head = r.head;
      size = r.size;
    }

pub sized_none : {img : List ℕ} {i was size : ℕ} → AreTables img → shown_word img (64 * i + 8) ≡ was → size ≡ was → Sized img img i size
sized_none tables is same = record { tables = tables; cells = λ d x le. refl; is = is ∙ sym same; bytes = λ v lt off. refl; head = λ w lt. refl; size = refl }

-- the inode has it
pub sized_inode : {old new : List ℕ} {i size : ℕ} → Sized old new i size → i ≤ 1048576 → (inode (view new) i).size ≡ size
sized_inode {new = new} {i = i} s few =
    let at : 64 * i + 8 * 1 ≡ 64 * i + 8 = omega arith in
    little-shown new (64 * i + 8 * 1) (omega arith) (or_left _ _ (lt-ltb (64 * i + 8 * 1) 1099511627776 (omega arith))) ∙ ap (shown_word new) at ∙ s.is

-- a word of a page that is not exchanged stays
pub exchanged_word : {old new : List ℕ} {a b n : ℕ} → Exchanged old new a b n → (v : ℕ) → Outside a b n (v / 4096) → page_at old 4 (v / 4096) ≢ 0 → word_at new v ≡ word_at old v
unfolding word_at
exchanged_word {old} {new} {a} {b} {n} e v out there =
    ap (λ p. word_in new p (v % 4096 / 8)) (e.pages (v / 4096) ∙ ap (page_at old 4) (partner-other a b n (v / 4096) out))
    ∙ same (page_at old 4 (v / 4096)) there (e.contents (v / 4096) (v % 4096 / 8) (omega arith) there)
  where
    same : (page : ℕ) → page ≢ 0 → word new (page * 512 + v % 4096 / 8) ≡ word old (page * 512 + v % 4096 / 8) → word_in new page (v % 4096 / 8) ≡ word_in old page (v % 4096 / 8)
    same zero ne is = absurd (ne refl)
    same (suc page) ne is = is

-- ---- words on no page of slot 2 or above

pub entry_bare : (img : List ℕ) (w : ℕ) → AreTables img → IsEntry img w → IsBare img w
entry_bare img w tables e q high is =
    let same : page_at img e.depth e.number ≡ page_at img 4 q = omega (arith, e.is, e.small, is) in
    let few = e.few in
    omega (arith, (tables.once e.depth e.number 4 q (omega arith) (omega arith) e.there same).0, few)

pub bare_back : {img now : List ℕ} → Beside img now → (w : ℕ) → IsBare now w → IsBare img w
bare_back s w bare q high is = bare q high (beside_cells s 4 q ∙ is)

-- the word of a size
pub size_bare : (img : List ℕ) (i at : ℕ) → AreTables img → at ≡ 64 * i + 8 → i ≤ 1048576 → page_at img 4 (at / 4096) ≢ 0 → (w : ℕ) → w ≡ place_at img at → IsBare img w
size_bare img i at tables is few there w here q high same =
    let one : page_at img 4 (at / 4096) ≡ page_at img 4 q = omega (arith, here, same) in
    omega (arith, (tables.once 4 (at / 4096) 4 q (omega arith) (omega arith) there one).1, is)

named_append : (ps qs : List Pair) (w : ℕ) → Named (ps ++ qs) w → Named ps w ⊎ Named qs w
named_append [] qs w named = inr named
named_append (p ∷ ps) qs w (inl here) = inl (inl here)
named_append (p ∷ ps) qs w (inr later) = elim (named_append ps qs w later) [ inl first ↦ inl (inr first) | inr second ↦ inr second ]

-- the words of an exchange are entries
pub swap_entries : (img : List ℕ) (a b : ℕ) (ps : List (ℕ × ℕ)) → All (HasTables img a b) ps → (w : ℕ) → Named (swap_pairs img a b ps) w → IsEntry img w
swap_entries img a b [] there w named = absurd named
swap_entries img a b (piece ∷ ps) there w named =
    let here = All-head (HasTables img a b) piece ps there in
    let k = piece.1 in
    elim (named_append (swap_pairs img a b ps) (second_pair img (a + piece.0) (b + piece.0) k ∷ first_pair img (a + piece.0) (b + piece.0) k ∷ []) w named) [
      | inl rest ↦ swap_entries img a b ps (All-tail (HasTables img a b) piece ps there) w rest
      | inr two ↦ elim two [
        | inl second ↦ record { depth = 3 - k; number = (b + piece.0) / 512 ^ (k + 1); index = (b + piece.0) / 512 ^ k % 512; few = omega arith; small = Rattle.std.proofs.Math.Nat.mod-lt ((b + piece.0) / 512 ^ k) (omega arith); there = here.1; is = second }
        | inr more ↦ elim more [
          | inl first ↦ record { depth = 3 - k; number = (a + piece.0) / 512 ^ (k + 1); index = (a + piece.0) / 512 ^ k % 512; few = omega arith; small = Rattle.std.proofs.Math.Nat.mod-lt ((a + piece.0) / 512 ^ k) (omega arith); there = here.0; is = first }
          | inr none ↦ absurd none
        ]
      ]
    ]

-- each word that the pairs of an exchange name, and no others were drafted before
pub swaps_bare : (img : List ℕ) (a b : ℕ) (ps : List (ℕ × ℕ)) (before qs : List Pair) → AreTables img → All (HasTables img a b) ps → before ≡ [] → qs ≡ swap_pairs img a b ps ++ before → (w : ℕ) → Named qs w → IsBare img w
swaps_bare img a b ps before qs tables there none is w named =
    elim (named_append (swap_pairs img a b ps) before w (subst (λ (l : List Pair). Named l w) is named)) [
      | inl swap ↦ entry_bare img w tables (swap_entries img a b ps there w swap)
      | inr old ↦ absurd (subst (λ (l : List Pair). Named l w) none old)
    ]

-- a size was drafted
pub sizes_bare : (img : List ℕ) (i at : ℕ) (values : List ℕ) (before qs : List Pair) → AreTables img → at ≡ 64 * i + 8 → i ≤ 1048576 → page_at img 4 (at / 4096) ≢ 0 → length values ≡ 1 → qs ≡ pairs_to (place_at img at) values (length values) ++ before
    → (w : ℕ) → Named qs w → Named before w ⊎ IsBare img w
sizes_bare img i at values before qs tables is few there one added w named =
    elim (named_append (pairs_to (place_at img at) values 1) before w (subst (λ (l : List Pair). Named l w) (added ∙ ap (λ (k : ℕ). pairs_to (place_at img at) values k ++ before) one) named)) [
      | inl here ↦ inr (size_bare img i at tables is few there w (at_place here))
      | inr old ↦ inl old
    ]
  where
    at_place : Named (pairs_to (place_at img at) values 1) w → w ≡ place_at img at
    at_place (inl here) = here ∙ omega arith
    at_place (inr none) = absurd none

-- the pages of root slot 0 stay through an exchange of others
pub slot_maps : {img now changed : List ℕ} {a b n : ℕ} → AreTables img → Beside img now → Exchanged img changed a b n → 2 * 2 ^ 27 ≤ a → 2 * 2 ^ 27 ≤ b → MapsAlike 0 now changed
slot_maps {img} {now} {changed} {a} {b} {n} tables s e first second = record {
  tables = beside_tables s tables;
  after = e.tables;
  count = e.count ∙ sym (beside_count s);
  same = λ p slot. e.pages p ∙ ap (page_at img 4) (partner-other a b n p (record { first = λ le. absurd (omega (arith, slot)); second = λ le. absurd (omega (arith, slot)) })) ∙ sym (beside_cells s 4 p);
}

pub recorded_by : {img mid last : List ℕ} {i a b n len : ℕ} → Exchanged img mid a b n → ((w : ℕ) → w < 512 → word mid w ≡ word img w) → Sized mid last i len → Recorded img last i a b n len
recorded_by {mid = mid} e head sized = record { middle = mid; exchanged = e; head = head; sized = sized }

-- a size, once its record is complete
pub sized_done : (i len : ℕ) (start changed done : List ℕ) → Sized start changed i len → SameOff InRecord done changed → Sized start done i len
sized_done i len start changed done sized same =
    let beside = under_beside changed done same in
    record {
      tables = beside_tables beside sized.tables;
      cells = λ d x le. beside_cells beside d x ∙ sized.cells d x le;
      is = ap (λ x. x % 2 ^ 64) (beside_words beside (64 * i + 8)) ∙ sized.is;
      bytes = λ v lt off.
          byte-word done v lt ∙ ap (λ x. x / 256 ^ (v % 4096 % 8) % 256) (beside_words beside (8 * (v / 8))) ∙ sym (byte-word changed v lt) ∙ sized.bytes v lt off;
      head = λ w lt. beside.front w lt ∙ sized.head w lt;
      size = beside.size ∙ sized.size;
    }

-- and the record of a write
pub recorded_done : (i a b n len : ℕ) (start changed done : List ℕ) → Recorded start changed i a b n len → SameOff InRecord done changed → Recorded start done i a b n len
recorded_done i a b n len start changed done r same = record { middle = r.middle; exchanged = r.exchanged; head = r.head; sized = sized_done i len r.middle changed done r.sized same }
