-- A number read from bytes is the word that stands there.
use Rattle.std.proofs.Common.{◌≡◌, ℕ, zero, suc, ◌+◌, ◌*◌, ◌/◌, ◌%◌, ◌^◌, ◌<◌, ◌≤◌, true, List, refl, sym, ap, ◌∙◌, arith}
use Rattle.std.proofs.Math.Nat.{pow-suc, div-div-eq-div-mul}
use Rattle.ct_base.specs.Walk.{page_at, byte_in, word_in}
use Rattle.ct_image.proofs.Steps.{walk-cell}
use Rattle.ct_base.specs.View.{is_seen, view}
use Rattle.ct_base.specs.Inode.{little}
use Rattle.ct_state.proofs.Carry.{view-seen}

-- n bytes that are those of a number below 256 ^ n
pub little-digits : (b : ℕ → ℕ) (v x n : ℕ) → ((k : ℕ) → k < n → b (v + k) ≡ x / 256 ^ k % 256) → x < 256 ^ n → little b v n ≡ x
unfolding little
little-digits b v x zero digits small = omega arith
little-digits b v x (suc n) digits small =
    let first_is : b (v + 0) ≡ x / 256 ^ 0 % 256 = digits 0 (omega arith) in
    let first : b v ≡ x % 256 = ap b (omega arith) ∙ first_is ∙ ap (λ q. q % 256) one in
    let others : little b (v + 1) n ≡ x / 256 = little-digits b (v + 1) (x / 256) n (λ k lt.
    ap b (omega arith) ∙ digits (suc k) (omega arith) ∙ ap (λ q. q % 256) (ap (λ w. x / w) (wide k) ∙ sym (div-div-eq-div-mul x 256 (256 ^ k)))) (omega (arith, small, pow-suc 256 n)) in
    omega (arith, first, others)
  where
    one : x / 256 ^ 0 ≡ x
    one = omega arith

    wide : (k : ℕ) → 256 ^ suc k ≡ 256 * 256 ^ k
    wide k = omega (arith, pow-suc 256 k)

byte_in-word : (img : List ℕ) (page o : ℕ) → byte_in img page o ≡ word_in img page (o / 8) / 256 ^ (o % 8) % 256
byte_in-word img zero o = sym (ap (λ q. q % 256) (Rattle.std.proofs.Math.Nat.zero-div (256 ^ (o % 8))))
byte_in-word img (suc page) o = refl

-- the eight bytes from an aligned address on are the word of its page
pub little-word : (img : List ℕ) (v : ℕ) → v % 8 ≡ 0 → v + 8 ≤ 2 ^ 48 → ((k : ℕ) → k < 8 → is_seen (v + k) ≡ true) → word_in img (page_at img 4 (v / 4096)) (v % 4096 / 8) < 2 ^ 64
    → little (view img) v 8 ≡ word_in img (page_at img 4 (v / 4096)) (v % 4096 / 8)
little-word img v aligned high seen small =
    little-digits (view img) v (word_in img (page_at img 4 (v / 4096)) (v % 4096 / 8)) 8 (λ k lt.
    let page : (v + k) / 4096 ≡ v / 4096 = omega arith in
    let index : (v + k) % 4096 / 8 ≡ v % 4096 / 8 = omega arith in
    let last : (v + k) % 4096 % 8 ≡ k = omega arith in
    view-seen img (v + k) (seen k lt) ∙ ap (λ t. byte_in img t ((v + k) % 4096)) (walk-cell img (v + k) (omega arith) ∙ ap (page_at img 4) page)
    ∙ byte_in-word img (page_at img 4 (v / 4096)) ((v + k) % 4096)
    ∙ ap (λ j. word_in img (page_at img 4 (v / 4096)) j / 256 ^ ((v + k) % 4096 % 8) % 256) index
    ∙ ap (λ j. word_in img (page_at img 4 (v / 4096)) (v % 4096 / 8) / 256 ^ j % 256) last) (omega (arith, small))
