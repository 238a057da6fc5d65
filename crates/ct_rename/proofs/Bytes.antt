-- The bytes of a slot that is written.
use Rattle.std.proofs.Common.{◌≡◌, ℕ, suc, ◌+◌, ◌-◌, ◌*◌, ◌/◌, ◌%◌, ◌^◌, ◌<◌, List, length, get_or, refl, sym, ap, ◌∙◌, inl, inr, arith}
use Rattle.std.specs.Prelude.{slice_index}
use Rattle.std.proofs.lemmas.Bool.{cases_lt, lt-ltb, le-ltb}
use Rattle.ct_base.specs.Inode.{little}
use Rattle.ct_dir.proofs.Texts.{little-byte, slot_words-at, slot_words-head}
use Rattle.ct_dir.specs.Packed.{slot_words}
use Rattle.ct_state.specs.Edits.{slot_byte}

-- the words of a slot have its bytes
pub slot_bytes : (i : ℕ) (x : List ℕ) (k : ℕ) → k < 256 → ((j : ℕ) → get_or x j 0 < 256) → slice_index (slot_words i x) (k / 8) / 256 ^ (k % 8) % 256 ≡ slot_byte i x k
slot_bytes i x k lt small = elim (cases_lt k 8) [
  | inl low ↦
      let word : k / 8 ≡ 0 = omega arith in
      let byte : k % 8 ≡ k = omega arith in
      let here : slot_byte i x k ≡ (i + 4294967296 * length x) / 256 ^ k % 256 = rw (lt-ltb k 8 low) refl in
      ap (λ j. get_or (slot_words i x) j 0 / 256 ^ (k % 8) % 256) word ∙ ap (λ v. v / 256 ^ (k % 8) % 256) (slot_words-head i x)
      ∙ ap (λ j. (i + 4294967296 * length x) / 256 ^ j % 256) byte ∙ sym here
  | inr high ↦
      let n = k - 8 in
      let word : k / 8 ≡ suc ((k - 8) / 8) = omega arith in
      let byte : k % 8 ≡ (k - 8) % 8 = omega arith in
      let back : 8 * ((k - 8) / 8) + (k - 8) % 8 ≡ k - 8 = omega arith in
      let here : slot_byte i x k ≡ slice_index x (k - 8) = rw (le-ltb k 8 high) refl in
      ap (λ j. get_or (slot_words i x) j 0 / 256 ^ (k % 8) % 256) word
      ∙ ap (λ v. v / 256 ^ (k % 8) % 256) (slot_words-at i x ((k - 8) / 8) (omega arith)) ∙ ap (λ j. little (λ m. get_or x m 0) (8 * ((k - 8) / 8)) 8 / 256 ^ j % 256) byte
      ∙ little-byte (λ m. get_or x m 0) (8 * ((k - 8) / 8)) 8 ((k - 8) % 8) (λ j _. small (8 * ((k - 8) / 8) + j)) (omega arith) ∙ ap (λ m. get_or x m 0) back ∙ sym here
]
