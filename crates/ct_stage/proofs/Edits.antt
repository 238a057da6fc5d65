-- Bytes and words once an edit is made.
use Rattle.std.proofs.Common.{◌≡◌, ◌≢◌, ℕ, Result, Ok, Err, Some, None, ◌/◌, zero, suc, ◌+◌, ◌-◌, ◌*◌, ◌^◌, ◌%◌, ◌<◌, ◌≤◌, true, false, List, length, refl, sym, ap, ◌∙◌, ◌⊎◌, inl, inr, arith}
use Rattle.std.specs.Int.{w64, from_le_bytes, to_le_bytes}
use Rattle.std.specs.Prelude.{OnOk, nat_le, nat_lt, ◌&&◌, slice_index, slice_set}
use Rattle.std.proofs.lemmas.Bool.{cases_lt, le-leb, lt-ltb, leb-true, ltb-true, and_from, and_left, and_right, or_right, false_from_ne_true}
use Rattle.std.proofs.lemmas.Grind.{get_or-set_at}
use Rattle.std.proofs.lemmas.List.{ext_get_or, get_or-set_other, length-set}
use Rattle.std.proofs.Math.Nat.{div-div-eq-div-mul, pow-suc}
use Rattle.ct_base.specs.Inode.{little}
use Rattle.ct_base.specs.Ranges.{eight}
use Rattle.ct_base.specs.View.{view, is_seen}
use Rattle.ct_base.specs.Walk.{word, word_in, page_at, byte, byte_in}
use Rattle.ct_base.specs.Words.{word_at}
use Rattle.ct_image.proofs.Steps.{walk-cell}
use Rattle.ct_parts.proofs.Bytes.{get-eight}
use Rattle.ct_parts.proofs.Stand.{little-eight, little-bytes}
use Rattle.ct_state.proofs.Bytes.{little-same}
use Rattle.ct_walk.proofs.Entries.{some_page-is, some_page-none}
use Rattle.ct_walk.specs.Pages.{some_page}
use Rattle.ct_words.specs.Shown.{shown_word}
use Rattle.ct_words.proofs.Shown.{little-shown, shown-fits, view-small}
use Rattle.ct_stage.specs.declared.edit.Given.{Given}
use Rattle.ct_stage.specs.declared.edit.Given.TheVariants.{Same}
use Rattle.ct_stage.specs.declared.edit.Edit.{Edit}
use Rattle.ct_stage.specs.Edited.{given_at, edited, staged_words, AreBytes, IsWordOf}
use Rattle.ct_stage.specs.Staged.{Holds}

pub edited-in : (b : ℕ → ℕ) (edit : Edit) (a : ℕ) → edit.from ≤ a → a < edit.to → edited b edit a ≡ given_at edit.given (a - edit.from)
unfolding edited
edited-in b edit a from to = rw (le-leb edit.from a from, lt-ltb a edit.to to) refl

pub edited-off : (b : ℕ → ℕ) (edit : Edit) (a : ℕ) → (a < edit.from) ⊎ (edit.to ≤ a) → edited b edit a ≡ b a
unfolding edited
edited-off b edit a (inl before) =
    let not : nat_le edit.from a ≡ false = false_from_ne_true _ (λ t. omega (arith, leb-true edit.from a t, before)) in
    rw (and_left (nat_le edit.from a) (nat_lt a edit.to) not) refl
edited-off b edit a (inr past) =
    let not : nat_lt a edit.to ≡ false = false_from_ne_true _ (λ t. omega (arith, ltb-true a edit.to t, past)) in
    rw (and_right (nat_le edit.from a) (nat_lt a edit.to) not) refl

-- a byte off the edit is the one that is there
pub byte_off_edit : (b : ℕ → ℕ) (edit : Edit) (a r : ℕ) → (a < edit.from) ⊎ (edit.to ≤ a) → r ≡ b a → r ≡ edited b edit a
byte_off_edit b edit a r off is = is ∙ sym (edited-off b edit a off)

-- a byte of the edit
pub byte_in_edit : (b : ℕ → ℕ) (edit : Edit) (given : Given) (a r : ℕ) → edit.from ≤ a → a < edit.to → edit.given ≡ given → r ≡ given_at given (a - edit.from) → r ≡ edited b edit a
byte_in_edit b edit given a r from to is at = at ∙ ap (λ (g : Given). given_at g (a - edit.from)) (sym is) ∙ sym (edited-in b edit a from to)

-- a word off the edit is the one that is there
pub word_off_edit : (b : ℕ → ℕ) (edit : Edit) (a r : ℕ) → (a + 8 ≤ edit.from) ⊎ (edit.to ≤ a) → r ≡ little b a 8 → r ≡ little (edited b edit) a 8
word_off_edit b edit a r off is =
    is ∙ sym (little-same b (edited b edit) a a 8 (λ k lt. edited-off b edit (a + k) (elim off [ inl before ↦ inl (omega (arith, before)) | inr past ↦ inr (omega (arith, past)) ])))

-- a word of the edit
pub word_in_edit : (b : ℕ → ℕ) (edit : Edit) (a at r : ℕ) → edit.from ≤ a → a + 8 ≤ edit.to → at ≡ a - edit.from → r ≡ little (given_at edit.given) at 8 → r ≡ little (edited b edit) a 8
word_in_edit b edit a at r from to is word =
    word ∙ sym (little-same (given_at edit.given) (edited b edit) at a 8 (λ k lt. edited-in b edit (a + k) (omega (arith, from)) (omega (arith, to, lt)) ∙ ap (given_at edit.given) (omega (arith, is, from))))

-- a word of one byte
pub same_word : (byte at : ℕ) → byte * 72340172838076673 ≡ little (given_at (Same byte)) at 8
unfolding little
same_word byte at = omega arith

-- two pages that one byte fills
pub same_pages : (b : ℕ → ℕ) (edit : Edit) (byte at k : ℕ) → edit.given ≡ Same byte → 4096 ≤ at → edit.from ≤ at - 4096 → at + 4096 ≤ edit.to → k < 512
    → little (edited b edit) (at - 4096 + 8 * k) 8 ≡ little (edited b edit) (at + 8 * k) 8
same_pages b edit byte at k is low from to lt =
    little-same (edited b edit) (edited b edit) (at + 8 * k) (at - 4096 + 8 * k) 8 (λ j small.
    filled (at - 4096 + 8 * k + j) (omega (arith, from)) (omega (arith, to, low, lt, small)) ∙ sym (filled (at + 8 * k + j) (omega (arith, from, low)) (omega (arith, to, lt, small))))
  where
    filled : (a : ℕ) → edit.from ≤ a → a < edit.to → edited b edit a ≡ byte
    filled a low high = edited-in b edit a low high ∙ ap (λ (g : Given). given_at g (a - edit.from)) is

-- The first i of eight bytes are those once the edit is made, and the others are those of a word.
pub record MixedTo (edit : Edit) (a old i : ℕ) (bytes : List ℕ) : Type 0 where
  pub size : length bytes ≡ 8
  pub done : (b : ℕ → ℕ) → IsWordOf b a old → (j : ℕ) → j < i → slice_index bytes j ≡ edited b edit (a + j)
  pub left : (b : ℕ → ℕ) → IsWordOf b a old → (j : ℕ) → i ≤ j → j < 8 → slice_index bytes j ≡ b (a + j)

pub mixed_none : (edit : Edit) (a old : ℕ) (bytes : List ℕ) → bytes ≡ to_le_bytes w64 old → MixedTo edit a old 0 bytes
mixed_none edit a old bytes is = record {
  size = ap length is;
  done = λ b word j lt. absurd (omega (arith, lt));
  left = λ b word j from lt.
      ap (λ (l : List ℕ). slice_index l j) (is ∙ ap (to_le_bytes w64) word.1 ∙ little-bytes b a word.0) ∙ get-eight (λ t. b (a + t)) j lt;
}

pub mixed_more : {edit : Edit} {a old i byte : ℕ} {bytes : List ℕ} → MixedTo edit a old i bytes → i < 8
    → ((b : ℕ → ℕ) → slice_index bytes i ≡ b (a + i) → byte ≡ edited b edit (a + i)) → MixedTo edit a old (i + 1) (slice_set bytes i byte)
mixed_more {edit} {a} {old} {i} {byte} {bytes} m lt here = record {
  size = length-set bytes i byte ∙ m.size;
  done = λ b word j below. elim (cases_lt j i) [
    | inl before ↦ get_or-set_other bytes i j byte 0 (λ is. omega (arith, is, before)) ∙ m.done b word j before
    | inr from ↦
        let at : j ≡ i = omega (arith, below, from) in
        get_or-set_at bytes i j byte 0 at (omega (arith, lt, m.size)) ∙ here b (m.left b word i (omega arith) lt) ∙ ap (λ n. edited b edit (a + n)) (sym at)
  ];
  left = λ b word j from below. get_or-set_other bytes i j byte 0 (λ is. omega (arith, is, from)) ∙ m.left b word j (omega (arith, from)) below;
}

pub mixed_all : {edit : Edit} {a old r : ℕ} {bytes : List ℕ} (i : ℕ) → MixedTo edit a old i bytes → 8 ≤ i → r ≡ from_le_bytes w64 bytes
    → (b : ℕ → ℕ) → IsWordOf b a old → r ≡ little (edited b edit) a 8
mixed_all {edit} {a} {bytes = bytes} i m all is b word =
    let list : bytes ≡ eight (λ t. edited b edit (a + t)) =
    ext_get_or 0 bytes (eight (λ t. edited b edit (a + t))) m.size (λ j lt.
    m.done b word j (omega (arith, lt, m.size, all)) ∙ sym (get-eight (λ t. edited b edit (a + t)) j (omega (arith, lt, m.size)))) in
    is ∙ ap (from_le_bytes w64) list ∙ sym (little-eight (edited b edit) a)

-- ---- the words of an old page

-- an address on the page of a first address
word_on : (img : List ℕ) (at k : ℕ) → at % 4096 ≡ 0 → k < 512 → word_at img (at + 8 * k) ≡ word_in img (page_at img 4 (at / 4096)) k
unfolding word_at
word_on img at k aligned lt =
    let page : (at + 8 * k) / 4096 ≡ at / 4096 = omega arith in
    let index : (at + 8 * k) % 4096 / 8 ≡ k = omega arith in
    ap (λ n. word_in img (page_at img 4 n) ((at + 8 * k) % 4096 / 8)) page ∙ ap (word_in img (page_at img 4 (at / 4096))) index

word_in-there : (img : List ℕ) (page k : ℕ) → page ≢ 0 → word_in img page k ≡ word img (page * 512 + k)
word_in-there img zero k ne = absurd (ne refl)
word_in-there img (suc page) k ne = refl

-- the words of the page are the words there
pub old_there : (img : List ℕ) (at page k w : ℕ) → at % 4096 ≡ 0 → k < 512 → Some page ≡ some_page (page_at img 4 (at / 4096)) → w < 2 ^ 64 → w ≡ word img (page * 512 + k) → w ≡ shown_word img (at + 8 * k)
old_there img at page k w aligned lt some fits is =
    let p = some_page-is page _ some in
    shown-fits img (at + 8 * k) w fits (is ∙ ap (λ q. word img (q * 512 + k)) (sym p.0) ∙ sym (word_in-there img _ k p.1) ∙ sym (word_on img at k aligned lt))

-- without a page they are 0
pub old_absent : (img : List ℕ) (at k w : ℕ) → at % 4096 ≡ 0 → k < 512 → None ≡ some_page (page_at img 4 (at / 4096)) → w ≡ 0 → w ≡ shown_word img (at + 8 * k)
old_absent img at k w aligned lt none is =
    let zero : word_at img (at + 8 * k) ≡ 0 = word_on img at k aligned lt ∙ ap (λ page. word_in img page k) (some_page-none _ none) in
    omega (arith, is, zero)

seen_high : (a : ℕ) → 10 * 2 ^ 39 ≤ a → a < 2 ^ 48 → is_seen a ≡ true
seen_high a low high = or_right (nat_lt a 1099511627776) (nat_le 5497558138880 a && nat_lt a 281474976710656) (and_from _ _ (le-leb 5497558138880 a low) (lt-ltb a 281474976710656 high))

-- a word off the staging slots is that of the bytes there
pub old_word : (img : List ℕ) (a w : ℕ) → 10 * 2 ^ 39 ≤ a → a < 2 ^ 48 → a % 8 ≡ 0 → w ≡ shown_word img a → IsWordOf (view img) a w
old_word img a w low high aligned is = (view-small img, is ∙ sym (little-shown img a aligned (seen_high a low high)))

-- ---- the bytes of a staged page

-- a byte of a word
pub little-byte : (f : ℕ → ℕ) (a n k : ℕ) → ((v : ℕ) → f v < 256) → k < n → little f a n / 256 ^ k % 256 ≡ f (a + k)
unfolding little
little-byte f a zero k small lt = absurd (omega arith)
little-byte f a (suc n) zero small lt =
    let here : f (a + 0) ≡ f a = ap f (omega arith) in
    let low = small a in
    omega (arith, here, low)
little-byte f a (suc n) (suc k) small lt =
    let wide : 256 ^ suc k ≡ 256 * 256 ^ k = omega (arith, pow-suc 256 k) in
    let down : little f a (suc n) / 256 ^ suc k ≡ little f a (suc n) / 256 / 256 ^ k = ap (λ w. little f a (suc n) / w) wide ∙ sym (div-div-eq-div-mul (little f a (suc n)) 256 (256 ^ k)) in
    let low = small a in
    let rest : (f a + 256 * little f (a + 1) n) / 256 ≡ little f (a + 1) n = omega (arith, low) in
    ap (λ q. q % 256) down ∙ ap (λ q. q / 256 ^ k % 256) rest ∙ little-byte f (a + 1) n k small (omega arith) ∙ ap f (omega arith)

edited-small : (img : List ℕ) (edit : Edit) (a : ℕ) → AreBytes edit → edited (view img) edit a < 256
edited-small img edit a bytes = elim (cases_lt a edit.from) [
  | inl before ↦ omega (arith, edited-off (view img) edit a (inl before), view-small img a)
  | inr from ↦ elim (cases_lt a edit.to) [
    | inl within ↦ omega (arith, edited-in (view img) edit a from within, bytes (a - edit.from))
    | inr past ↦ omega (arith, edited-off (view img) edit a (inr past), view-small img a)
  ]
]

byte_in-there : (img : List ℕ) (page o : ℕ) → page ≢ 0 → byte_in img page o ≡ word img (page * 512 + o / 8) / 256 ^ (o % 8) % 256
byte_in-there img zero o ne = absurd (ne refl)
byte_in-there img (suc page) o ne = refl

pub staged_byte : (img new : List ℕ) (edit : Edit) (n p o : ℕ) → AreBytes edit → n < 2 ^ 36 → o < 4096 → Holds new n (staged_words img edit p) → byte new (n * 4096 + o) ≡ edited (view img) edit (p * 4096 + o)
staged_byte img new edit n p o bytes low lt holds =
    let v = n * 4096 + o in
    let page : v / 4096 ≡ n = omega arith in
    let offset : v % 4096 ≡ o = omega arith in
    let at : p * 4096 + 8 * (o / 8) + o % 8 ≡ p * 4096 + o = omega arith in
    ap (λ t. byte_in new t (v % 4096)) (walk-cell new v (omega arith) ∙ ap (page_at new 4) page) ∙ ap (byte_in new (page_at new 4 n)) offset
    ∙ byte_in-there new (page_at new 4 n) o holds.0 ∙ ap (λ w. w / 256 ^ (o % 8) % 256) (holds.1 (o / 8) (omega arith))
    ∙ little-byte (edited (view img) edit) (p * 4096 + 8 * (o / 8)) 8 (o % 8) (λ a. edited-small img edit a bytes) (omega arith) ∙ ap (edited (view img) edit) at

pub staged_bytes : {T E : Type 0} (r : Result T E) (img new : List ℕ) (edit : Edit) (first count side : ℕ) → first + count ≤ 3 * 2 ^ 27 → OnOk r ((j : ℕ) → j < count → Holds new (first + j) (staged_words img edit (side + j)))
    → OnOk r (AreBytes edit → (j o : ℕ) → j < count → o < 4096 → byte new ((first + j) * 4096 + o) ≡ edited (view img) edit ((side + j) * 4096 + o))
staged_bytes (Ok done) img new edit first count side to holds = λ bytes j o lt small. staged_byte img new edit (first + j) (side + j) o bytes (omega arith) small (holds j lt)
staged_bytes (Err e) img new edit first count side to holds = tt
