-- Bytes that are put into a buffer, part after part.
use Rattle.std.proofs.Common.{◌≡◌, ℕ, ◌+◌, ◌-◌, ◌*◌, ◌/◌, ◌%◌, ◌<◌, ◌≤◌, List, length, min, get_or, refl, sym, ap, ◌∙◌, inl, inr, arith, rules}
use Rattle.std.specs.Int.{w64, to_le_bytes}
use Rattle.std.proofs.lemmas.Bool.{cases_lt}
use Rattle.std.proofs.lemmas.List.{places}
use borrow.Rule.Slice.PartMut.{put_mid}
use Rattle.ct_base.specs.Walk.{byte, byte_in}
use Rattle.ct_dir.proofs.Spelling.{le_byte}
use Rattle.ct_look.specs.Content.{Fills, byte_of_word}

pub fills_none : (old : List ℕ) (place n : ℕ) (b : ℕ → ℕ) → n ≡ 0 → Fills old old place n b
fills_none old place n b none = record { size = refl; here = λ k lt. absurd (omega (arith, lt, none)); others = λ k off. refl }

-- one part, and then another behind it
pub fills_then : (old mid new : List ℕ) (place next n m all : ℕ) (b c : ℕ → ℕ) → Fills old mid place n b → Fills mid new next m c → next ≡ place + n → all ≡ n + m → ((k : ℕ) → k < m → c k ≡ b (n + k)) → Fills old new place all b
fills_then old mid new place next n m all b c one two at sum same = record {
  size = two.size ∙ one.size;
  here = λ k lt. elim (cases_lt k n) [
    | inl less ↦ two.others (place + k) (inl (omega (arith, less, at))) ∙ one.here k less
    | inr more ↦
        let shift : next + (k - n) ≡ place + k = omega (arith, more, at) in
        let there : n + (k - n) ≡ k = omega (arith, more) in
        ap (λ i. get_or new i 0) (sym shift) ∙ two.here (k - n) (omega (arith, more, lt, sum)) ∙ same (k - n) (omega (arith, more, lt, sum)) ∙ ap b there
  ];
  others = λ k off. elim off [
    | inl before ↦ two.others k (inl (omega (arith, before, at))) ∙ one.others k (inl before)
    | inr past ↦ two.others k (inr (omega (arith, past, at, sum))) ∙ one.others k (inr (omega (arith, past, sum)))
  ];
}

-- a part of a buffer was written over
pub fills_part : (old part : List ℕ) (place n : ℕ) (b : ℕ → ℕ) → place + n ≤ length old → length part ≡ n → ((k : ℕ) → k < n → get_or part k 0 ≡ b k) → Fills old (put_mid place n old part) place n b
fills_part old part place n b room long bytes = record {
  size = search (rules, places);
  here = λ k lt. grind (arith, places, bytes k lt);
  others = λ k off. elim off [ inl before ↦ grind (arith, places) | inr past ↦ grind (arith, places) ];
}

pub le_bytes : (bytes : List ℕ) (w : ℕ) → bytes ≡ to_le_bytes w64 w → (k : ℕ) → k < 8 → get_or bytes k 0 ≡ byte_of_word w k
le_bytes bytes w is k lt = ap (λ bs. get_or bs k 0) is ∙ le_byte w k lt

-- bytes before whole words, the words, and bytes behind them
pub fills_run : (img old m n new : List ℕ) (page from place count head words tail : ℕ) → head ≡ min count ((8 - from % 8) % 8) → words ≡ (count - head) / 8 → tail ≡ (count - head) % 8
    → Fills old m place head (λ k. byte_in img page (from + k)) → Fills m n (place + head) (8 * words) (λ k. byte_in img page (8 * ((from + head) / 8) + k))
    → Fills n new (place + (head + 8 * words)) tail (λ k. byte_in img page (from + (head + 8 * words) + k)) → Fills old new place count (λ k. byte_in img page (from + k))
fills_run img old m n new page from place count head words tail is_head is_words is_tail one two three =
    let b : ℕ → ℕ = λ k. byte_in img page (from + k) in
    let two_is : Fills old n place (head + 8 * words) b = fills_then old m n place (place + head) head (8 * words) (head + 8 * words) b (λ k. byte_in img page (8 * ((from + head) / 8) + k)) one two refl refl (λ k lt. ap (byte_in img page) (omega (arith, lt, is_head, is_words))) in
    fills_then old n new place (place + (head + 8 * words)) (head + 8 * words) tail count b (λ k. byte_in img page (from + (head + 8 * words) + k)) two_is three refl (omega (arith, is_head, is_words, is_tail)) (λ k lt. ap (byte_in img page) (omega arith))

-- the bytes of one page more
pub fills_page : (img old mid new : List ℕ) (from done more v : ℕ) → v ≡ from + done → Fills old mid 0 done (λ k. byte img (from + k)) → Fills mid new done more (λ k. byte img (v + k)) → Fills old new 0 (done + more) (λ k. byte img (from + k))
fills_page img old mid new from done more v at had here =
    fills_then old mid new 0 done done more (done + more) (λ k. byte img (from + k)) (λ k. byte img (v + k)) had here (omega arith) refl (λ k lt. ap (byte img) (omega (arith, at)))
