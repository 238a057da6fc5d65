-- A slot whose bytes are those of the words of a name and an inode.
use Rattle.std.proofs.Common.{◌≡◌, ◌≢◌, ℕ, zero, suc, ◌+◌, ◌-◌, ◌*◌, ◌/◌, ◌%◌, ◌^◌, ◌<◌, ◌≤◌, true, List, [], ◌∷◌, length, get_or, ap, ◌∙◌, inl, inr, arith}
use Rattle.std.specs.Prelude.{◌&&◌, ◌==◌, not, nat_lt, nat_le}
use Rattle.std.specs.List.{list_all}
use Rattle.std.specs.Str.{bytes_eq}
use Rattle.std.proofs.lemmas.Bool.{cases_lt, and_parts, ltb-true, leb-true}
use Rattle.ct_base.specs.Inode.{little}
use Rattle.ct_base.specs.Objects.{Object}
use Rattle.ct_base.specs.Path.{is_name}
use Rattle.ct_base.specs.Slots.{bytes_from, slot_inode, slot_length, slot_name}
use Rattle.ct_state.proofs.Bytes.{little-below, little-none, little-zero}
use Rattle.ct_state.proofs.Words.{little-digits}
use Rattle.ct_dir.proofs.Texts.{bytes_from-text, get_or-end, little-byte, length-slot_words, slot_words-head, slot_words-at}
use Rattle.ct_dir.specs.Packed.{slot_words}

pub record IsWritten (f : Object) (o inode : ℕ) (x : List ℕ) : Type 0 where
  pub bytes : (k : ℕ) → k < 256 → f.at (o + k) ≡ get_or (slot_words inode x) (k / 8) 0 / 256 ^ (k % 8) % 256
  pub some : 1 ≤ inode
  pub few : inode ≤ 1048576
  pub name : is_name x ≡ true
  pub small : (k : ℕ) → get_or x k 0 < 256

-- the length of a name
pub is_name-length : (x : List ℕ) → is_name x ≡ true → (1 ≤ length x) × (length x ≤ 248)
is_name-length x is =
    let a = nat_lt 0 (length x) in
    let b = nat_le (length x) 248 in
    let c = not (bytes_eq x (46 ∷ [])) in
    let d = not (bytes_eq x (46 ∷ 46 ∷ [])) in
    let abcd : (a && b && c && d) ≡ true = (and_parts (a && b && c && d) (list_all (λ b. not (b == 0) && not (b == 47)) x) is).0 in
    let abc : (a && b && c) ≡ true = (and_parts (a && b && c) d abcd).0 in
    let ab : (a && b) ≡ true = (and_parts (a && b) c abc).0 in
    (ltb-true 0 (length x) (and_parts a b ab).0, leb-true (length x) 248 (and_parts a b ab).1)

-- each word of a slot fits
pub slot_words-fit : (inode : ℕ) (x : List ℕ) (k : ℕ) → inode < 2 ^ 32 → length x ≤ 248 → ((j : ℕ) → get_or x j 0 < 256) → get_or (slot_words inode x) k 0 < 2 ^ 64
slot_words-fit inode x zero few short small = omega (arith, slot_words-head inode x)
slot_words-fit inode x (suc k) few short small =
    elim (cases_lt k 31) [
      | inl lt ↦ omega (arith, slot_words-at inode x k lt, little-below (λ j. get_or x j 0) (8 * k) 8 (λ j _. small (8 * k + j)))
      | inr ge ↦ omega (arith, get_or-end (slot_words inode x) (suc k) (omega (arith, length-slot_words inode x, ge)))
    ]

module _ {f : Object} {o inode : ℕ} {x : List ℕ} (w : IsWritten f o inode x) where
  head_byte : (k : ℕ) → k < 8 → f.at (o + k) ≡ (inode + 4294967296 * length x) / 256 ^ k % 256
  head_byte k lt =
      let word : k / 8 ≡ 0 = omega arith in
      let byte : k % 8 ≡ k = omega arith in
      w.bytes k (omega arith) ∙ ap (λ j. get_or (slot_words inode x) j 0 / 256 ^ (k % 8) % 256) word ∙ ap (λ v. v / 256 ^ (k % 8) % 256) (slot_words-head inode x)
      ∙ ap (λ j. (inode + 4294967296 * length x) / 256 ^ j % 256) byte

  pub written_inode : slot_inode f o ≡ inode
  written_inode = little-digits f.at o inode 4 (λ k lt. head_byte k (omega arith) ∙ low inode (length x) k lt) (omega (arith, w.few))
    where
      low : (c n k : ℕ) → k < 4 → (c + 4294967296 * n) / 256 ^ k % 256 ≡ c / 256 ^ k % 256
      low c n zero lt = omega arith
      low c n (suc zero) lt = omega arith
      low c n (suc (suc zero)) lt = omega arith
      low c n (suc (suc (suc zero))) lt = omega arith
      low c n (suc (suc (suc (suc k)))) lt = absurd (omega arith)

  pub written_length : slot_length f o ≡ length x
  written_length =
      let short = is_name-length x w.name in
      little-digits f.at (o + 4) (length x) 4 (λ k lt. ap f.at (omega arith) ∙ head_byte (4 + k) (omega arith) ∙ high inode (length x) k lt (omega (arith, w.few))) (omega (arith, short.1))
    where
      high : (c n k : ℕ) → k < 4 → c < 4294967296 → (c + 4294967296 * n) / 256 ^ (4 + k) % 256 ≡ n / 256 ^ k % 256
      high c n zero lt small = omega arith
      high c n (suc zero) lt small = omega arith
      high c n (suc (suc zero)) lt small = omega arith
      high c n (suc (suc (suc zero))) lt small = omega arith
      high c n (suc (suc (suc (suc k)))) lt small = absurd (omega arith)

  text_byte : (k : ℕ) → k < 248 → f.at (o + 8 + k) ≡ get_or x k 0
  text_byte k lt =
      let word : (8 + k) / 8 ≡ suc (k / 8) = omega arith in
      let byte : (8 + k) % 8 ≡ k % 8 = omega arith in
      let place : o + 8 + k ≡ o + (8 + k) = omega arith in
      let back : 8 * (k / 8) + k % 8 ≡ k = omega arith in
      ap f.at place ∙ w.bytes (8 + k) (omega arith) ∙ ap (λ j. get_or (slot_words inode x) j 0 / 256 ^ ((8 + k) % 8) % 256) word
      ∙ ap (λ v. v / 256 ^ ((8 + k) % 8) % 256) (slot_words-at inode x (k / 8) (omega arith)) ∙ ap (λ j. little (λ j. get_or x j 0) (8 * (k / 8)) 8 / 256 ^ j % 256) byte
      ∙ little-byte (λ j. get_or x j 0) (8 * (k / 8)) 8 (k % 8) (λ j _. w.small (8 * (k / 8) + j)) (omega arith) ∙ ap (λ j. get_or x j 0) back

  pub written_name : slot_name f o ≡ x
  written_name =
      let short = is_name-length x w.name in
      ap (bytes_from f.at (o + 8)) written_length ∙ bytes_from-text f.at (o + 8) x (λ k lt. text_byte k (omega (arith, lt, short.1)))

  pub written_padding : (k : ℕ) → 8 + length x ≤ k → k < 256 → f.at (o + k) ≡ 0
  written_padding k low high =
      let place : o + k ≡ o + 8 + (k - 8) = omega arith in
      ap f.at place ∙ text_byte (k - 8) (omega arith) ∙ get_or-end x (k - 8) (omega arith)

  pub written_used : little f.at o 256 ≢ 0
  written_used none =
      let zeros : slot_inode f o ≡ 0 = little-zero f.at o 4 (λ k lt. little-none f.at o 256 k none (omega arith)) in
      omega (arith, written_inode, zeros, w.some)
