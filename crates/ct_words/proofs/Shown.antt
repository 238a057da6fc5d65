-- Words of an image by address, and their bytes.
use Rattle.std.proofs.Common.{◌≡◌, ℕ, zero, suc, ◌+◌, ◌*◌, ◌/◌, ◌%◌, ◌^◌, ◌<◌, true, List, refl, sym, ap, ◌∙◌, inl, inr, arith}
use Rattle.std.proofs.Math.Nat.{pow-suc, div-div-eq-div-mul}
use Rattle.std.proofs.lemmas.Bool.{cases_Bool, lt-ltb, ltb-true, le-leb, leb-true, or_cases, or_left, or_right, and_parts, and_from}
use Rattle.std.specs.Prelude.{nat_lt, nat_le, ◌&&◌}
use Rattle.ct_base.specs.Walk.{page_at, byte, byte_in, word_in, walk}
use Rattle.ct_base.specs.Words.{word_at}
use Rattle.ct_base.specs.View.{is_seen, view}
use Rattle.ct_base.specs.Inode.{little}
use Rattle.ct_image.proofs.Steps.{walk-cell}
use Rattle.ct_words.specs.Shown.{shown_word}

-- n bytes that are those of a number below 256 ^ n
little-digits : (b : ℕ → ℕ) (v x n : ℕ) → ((k : ℕ) → k < n → b (v + k) ≡ x / 256 ^ k % 256) → x < 256 ^ n → little b v n ≡ x
unfolding little
little-digits b v x zero digits small = omega arith
little-digits b v x (suc n) digits small =
    let first_is : b (v + 0) ≡ x / 256 ^ 0 % 256 = digits 0 (omega arith) in
    let first : b v ≡ x % 256 = ap b (omega arith) ∙ first_is ∙ ap (λ q. q % 256) one in
    let others : little b (v + 1) n ≡ x / 256 = little-digits b (v + 1) (x / 256) n (λ k lt.
    ap b (omega arith) ∙ digits (suc k) (omega arith) ∙ ap (λ q. q % 256) (ap (λ w. x / w) (wide k) ∙ sym (div-div-eq-div-mul x 256 (256 ^ k)))) (omega (arith, small, pow-suc 256 n)) in
    omega (arith, first, others)
  where
    one : x / 256 ^ 0 ≡ x
    one = omega arith

    wide : (k : ℕ) → 256 ^ suc k ≡ 256 * 256 ^ k
    wide k = omega (arith, pow-suc 256 k)

-- the low eight bytes of a number are those of its rest
low_digit : (x k : ℕ) → k < 8 → x / 256 ^ k % 256 ≡ x % 2 ^ 64 / 256 ^ k % 256
low_digit x zero lt = omega arith
low_digit x (suc zero) lt = omega arith
low_digit x (suc (suc zero)) lt = omega arith
low_digit x (suc (suc (suc zero))) lt = omega arith
low_digit x (suc (suc (suc (suc zero)))) lt = omega arith
low_digit x (suc (suc (suc (suc (suc zero))))) lt = omega arith
low_digit x (suc (suc (suc (suc (suc (suc zero)))))) lt = omega arith
low_digit x (suc (suc (suc (suc (suc (suc (suc zero))))))) lt = omega arith
low_digit x (suc (suc (suc (suc (suc (suc (suc (suc k)))))))) lt = absurd (omega arith)

byte_in-word : (img : List ℕ) (page o : ℕ) → byte_in img page o ≡ word_in img page (o / 8) / 256 ^ (o % 8) % 256
byte_in-word img zero o = sym (ap (λ q. q % 256) (Rattle.std.proofs.Math.Nat.zero-div (256 ^ (o % 8))))
byte_in-word img (suc page) o = refl

view-byte : (img : List ℕ) (v : ℕ) → is_seen v ≡ true → view img v ≡ byte img v
unfolding view
view-byte img v seen = rw seen refl

byte_in-small : (img : List ℕ) (page o : ℕ) → byte_in img page o < 256
byte_in-small img zero o = omega arith
byte_in-small img (suc page) o = omega arith

pub view-small : (img : List ℕ) (v : ℕ) → view img v < 256
unfolding view
view-small img v =
    elim (cases_Bool (is_seen v)) [
      | inl t ↦ rw t (byte_in-small img (walk img v) (v % 4096))
      | inr f ↦ rw f (omega arith)
    ]

-- an address that is looked at
seen-below : (v : ℕ) → is_seen v ≡ true → v < 281474976710656
seen-below v is =
    elim (or_cases (nat_lt v 1099511627776) (nat_le 5497558138880 v && nat_lt v 281474976710656) is) [
      | inl low ↦ omega (arith, ltb-true v 1099511627776 low)
      | inr high ↦ ltb-true v 281474976710656 (and_parts (nat_le 5497558138880 v) (nat_lt v 281474976710656) high).1
    ]

-- the eight bytes of an aligned word are looked at where the first is
seen-word : (a k : ℕ) → a % 8 ≡ 0 → k < 8 → is_seen a ≡ true → is_seen (a + k) ≡ true
seen-word a k aligned lt is =
    elim (or_cases (nat_lt a 1099511627776) (nat_le 5497558138880 a && nat_lt a 281474976710656) is) [
      | inl low ↦ let at = ltb-true a 1099511627776 low in or_left _ _ (lt-ltb (a + k) 1099511627776 (omega arith))
      | inr high ↦
          let both = and_parts (nat_le 5497558138880 a) (nat_lt a 281474976710656) high in
          let from = leb-true 5497558138880 a both.0 in
          let to = ltb-true a 281474976710656 both.1 in
          or_right _ _ (and_from _ _ (le-leb 5497558138880 (a + k) (omega arith)) (lt-ltb (a + k) 281474976710656 (omega arith)))
    ]

-- the eight bytes from an aligned address on
pub little-shown : (img : List ℕ) (a : ℕ) → a % 8 ≡ 0 → is_seen a ≡ true → little (view img) a 8 ≡ shown_word img a
unfolding word_at
little-shown img a aligned seen =
    let w = word_in img (page_at img 4 (a / 4096)) (a % 4096 / 8) in
    let below = seen-below a seen in
    little-digits (view img) a (w % 2 ^ 64) 8 (λ k lt.
    let page : (a + k) / 4096 ≡ a / 4096 = omega arith in
    let index : (a + k) % 4096 / 8 ≡ a % 4096 / 8 = omega arith in
    let last : (a + k) % 4096 % 8 ≡ k = omega arith in
    view-byte img (a + k) (seen-word a k aligned lt seen)
    ∙ ap (λ t. byte_in img t ((a + k) % 4096)) (walk-cell img (a + k) (seen-below (a + k) (seen-word a k aligned lt seen)) ∙ ap (page_at img 4) page)
    ∙ byte_in-word img (page_at img 4 (a / 4096)) ((a + k) % 4096)
    ∙ ap (λ j. word_in img (page_at img 4 (a / 4096)) j / 256 ^ ((a + k) % 4096 % 8) % 256) index
    ∙ ap (λ j. w / 256 ^ j % 256) last ∙ low_digit w k lt) (omega arith)

-- a byte that is looked at is one of the eight of a word
pub byte-shown : (img : List ℕ) (v : ℕ) → is_seen v ≡ true → byte img v ≡ shown_word img (8 * (v / 8)) / 256 ^ (v % 8) % 256
unfolding word_at
byte-shown img v seen =
    let a = 8 * (v / 8) in
    let high : v < 281474976710656 = seen-below v seen in
    let page : v / 4096 ≡ 8 * (v / 8) / 4096 = omega arith in
    let index : v % 4096 / 8 ≡ 8 * (v / 8) % 4096 / 8 = omega arith in
    let last : v % 4096 % 8 ≡ v % 8 = omega arith in
    ap (λ t. byte_in img t (v % 4096)) (walk-cell img v high)
    ∙ byte_in-word img (page_at img 4 (v / 4096)) (v % 4096)
    ∙ ap (λ k. word_in img (page_at img 4 k) (v % 4096 / 8) / 256 ^ (v % 4096 % 8) % 256) page
    ∙ ap (λ k. word_in img (page_at img 4 (8 * (v / 8) / 4096)) k / 256 ^ (v % 4096 % 8) % 256) index
    ∙ ap (λ k. word_in img (page_at img 4 (8 * (v / 8) / 4096)) (8 * (v / 8) % 4096 / 8) / 256 ^ k % 256) last
    ∙ low_digit (word_in img (page_at img 4 (8 * (v / 8) / 4096)) (8 * (v / 8) % 4096 / 8)) (v % 8) (omega arith)

-- a word that fits is shown whole
pub shown-fits : (img : List ℕ) (a w : ℕ) → w < 2 ^ 64 → w ≡ word_at img a → w ≡ shown_word img a
shown-fits img a w fits is = omega (arith, is)
