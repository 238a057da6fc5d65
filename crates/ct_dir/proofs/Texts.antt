-- Slots and their names, by bytes and by words of eight bytes.
use Rattle.std.proofs.Common.{◌≡◌, ℕ, zero, suc, ◌+◌, ◌*◌, ◌/◌, ◌%◌, ◌^◌, ◌<◌, ◌≤◌, List, [], ◌∷◌, length, get_or, refl, sym, ap, ◌∙◌, subst, inl, inr, arith}
use Rattle.std.proofs.Math.Nat.{pow-suc, div-div-eq-div-mul}
use Rattle.std.proofs.lemmas.Bool.{cases_lt}
use Rattle.std.proofs.lemmas.Grind.{same_number_lists}
use Rattle.ct_base.specs.Inode.{little}
use Rattle.ct_base.specs.Objects.{Object}
use Rattle.ct_base.specs.Slots.{bytes_from, slot_inode, slot_length, slot_name}
use Rattle.ct_state.proofs.Bytes.{little-same}
use Rattle.ct_dir.specs.Directory.{IsText}
use Rattle.ct_dir.specs.Packed.{words_from, name_words, slot_words}

-- byte i of the number whose bytes stand from a place on
pub little-byte : (b : ℕ → ℕ) (v n i : ℕ) → ((k : ℕ) → k < n → b (v + k) < 256) → i < n → little b v n / 256 ^ i % 256 ≡ b (v + i)
unfolding little
little-byte b v zero i small lt = absurd (omega arith)
little-byte b v (suc n) zero small lt =
    let first : b v < 256 = subst (λ x. b x < 256) (omega arith) (small 0 (omega arith)) in
    let one : (b v + 256 * little b (v + 1) n) / 256 ^ 0 ≡ b v + 256 * little b (v + 1) n = omega arith in
    let at : b (v + 0) ≡ b v = ap b (omega arith) in
    omega (arith, first, one, at)
little-byte b v (suc n) (suc i) small lt =
    let first : b v < 256 = subst (λ x. b x < 256) (omega arith) (small 0 (omega arith)) in
    let rest : (b v + 256 * little b (v + 1) n) / 256 ≡ little b (v + 1) n = omega arith in
    let wide : 256 ^ suc i ≡ 256 * 256 ^ i = omega (arith, pow-suc 256 i) in
    let down : (b v + 256 * little b (v + 1) n) / 256 ^ suc i ≡ little b (v + 1) n / 256 ^ i =
    ap (λ w. (b v + 256 * little b (v + 1) n) / w) wide ∙ sym (div-div-eq-div-mul (b v + 256 * little b (v + 1) n) 256 (256 ^ i)) ∙ ap (λ q. q / 256 ^ i) rest in
    ap (λ q. q % 256) down ∙ little-byte b (v + 1) n i (λ k lt. subst (λ x. b x < 256) (omega arith) (small (suc k) (omega arith))) (omega arith) ∙ ap b (omega arith)

-- two ranges of bytes with one number are the same
pub little-apart : (b c : ℕ → ℕ) (v w n : ℕ) → ((k : ℕ) → k < n → b (v + k) < 256) → ((k : ℕ) → k < n → c (w + k) < 256) → little b v n ≡ little c w n → (k : ℕ) → k < n → b (v + k) ≡ c (w + k)
little-apart b c v w n small_b small_c same k lt = sym (little-byte b v n k small_b lt) ∙ ap (λ x. x / 256 ^ k % 256) same ∙ little-byte c w n k small_c lt

-- the bytes from a place on are those of a text
pub bytes_from-text : (b : ℕ → ℕ) (v : ℕ) (x : List ℕ) → ((k : ℕ) → k < length x → b (v + k) ≡ get_or x k 0) → bytes_from b v (length x) ≡ x
unfolding bytes_from
bytes_from-text b v [] same = refl
bytes_from-text b v (y ∷ ys) same =
    let first : b v ≡ y = ap b (omega arith) ∙ same 0 (omega arith) in
    let rest : bytes_from b (v + 1) (length ys) ≡ ys = bytes_from-text b (v + 1) ys (λ k lt. ap b (omega arith) ∙ same (suc k) (omega arith)) in
    cc

-- byte k of a slot's name
pub bytes_from-at : (b : ℕ → ℕ) (v n k : ℕ) → k < n → get_or (bytes_from b v n) k 0 ≡ b (v + k)
unfolding bytes_from
bytes_from-at b v zero k lt = absurd (omega arith)
bytes_from-at b v (suc n) zero lt = ap b (omega arith)
bytes_from-at b v (suc n) (suc k) lt = bytes_from-at b (v + 1) n k (omega arith) ∙ ap b (omega arith)

pub length-bytes_from : (b : ℕ → ℕ) (v n : ℕ) → length (bytes_from b v n) ≡ n
unfolding bytes_from
length-bytes_from b v zero = refl
length-bytes_from b v (suc n) = ap suc (length-bytes_from b (v + 1) n)

pub get_or-end : (x : List ℕ) (k : ℕ) → length x ≤ k → get_or x k 0 ≡ 0
get_or-end [] k le = refl
get_or-end (y ∷ ys) zero le = absurd (omega arith)
get_or-end (y ∷ ys) (suc k) le = get_or-end ys k (omega arith)

-- the bytes after the head of a slot are those of its name, and zeros
pub text_bytes : (f : Object) (o k : ℕ) → IsText f o → k < 248 → f.at (o + 8 + k) ≡ get_or (slot_name f o) k 0
text_bytes f o k t lt =
    let n = length-bytes_from f.at (o + 8) (slot_length f o) in
    elim (cases_lt k (slot_length f o)) [
      | inl below ↦ sym (bytes_from-at f.at (o + 8) (slot_length f o) k below)
      | inr past ↦
          let here : f.at (o + (8 + k)) ≡ 0 = t.padding (8 + k) (omega arith) (omega arith) in
          ap f.at (omega arith) ∙ here ∙ sym (get_or-end (slot_name f o) k (omega (arith, n, past)))
    ]

-- the words of a text
pub words_from-at : (x : List ℕ) (o n k : ℕ) → k < n → get_or (words_from x o n) k 0 ≡ little (λ j. get_or x j 0) (o + 8 * k) 8
unfolding words_from
words_from-at x o zero k lt = absurd (omega arith)
words_from-at x o (suc n) zero lt = ap (λ v. little (λ j. get_or x j 0) v 8) (omega arith)
words_from-at x o (suc n) (suc k) lt = words_from-at x (o + 8) n k (omega arith) ∙ ap (λ v. little (λ j. get_or x j 0) v 8) (omega arith)

pub length-words_from : (x : List ℕ) (o n : ℕ) → length (words_from x o n) ≡ n
unfolding words_from
length-words_from x o zero = refl
length-words_from x o (suc n) = ap suc (length-words_from x (o + 8) n)

pub name_words-at : (x : List ℕ) (k : ℕ) → k < 31 → get_or (name_words x) k 0 ≡ little (λ j. get_or x j 0) (8 * k) 8
unfolding name_words
name_words-at x k lt = words_from-at x 0 31 k lt ∙ ap (λ v. little (λ j. get_or x j 0) v 8) (omega arith)

pub length-name_words : (x : List ℕ) → length (name_words x) ≡ 31
unfolding name_words
length-name_words x = length-words_from x 0 31

-- The words of a slot with a name are those of the name.
pub text_words : (f : Object) (o : ℕ) (x : List ℕ) (k : ℕ) → IsText f o → slot_name f o ≡ x → k < 31 → little f.at (o + 8 + 8 * k) 8 ≡ get_or (name_words x) k 0
text_words f o x k t name lt =
    little-same (λ j. get_or x j 0) f.at (8 * k) (o + 8 + 8 * k) 8 (λ i below.
    ap f.at (omega arith) ∙ text_bytes f o (8 * k + i) t (omega arith) ∙ ap (λ y. get_or y (8 * k + i) 0) name)
    ∙ sym (name_words-at x k lt)

-- And where a slot has the length of a name and its words, it has the name.
pub words_text : (f : Object) (o : ℕ) (x : List ℕ) → ((k : ℕ) → f.at k < 256) → ((k : ℕ) → get_or x k 0 < 256) → length x ≤ 248 → slot_length f o ≡ length x
    → ((k : ℕ) → 8 * k < length x → little f.at (o + 8 + 8 * k) 8 ≡ get_or (name_words x) k 0) → slot_name f o ≡ x
words_text f o x small_f small_x short size words =
    ap (bytes_from f.at (o + 8)) size ∙ bytes_from-text f.at (o + 8) x (λ k lt.
    let same = words (k / 8) (omega arith) ∙ name_words-at x (k / 8) (omega arith) in
    let is : f.at (o + 8 + 8 * (k / 8) + k % 8) ≡ get_or x (8 * (k / 8) + k % 8) 0 =
    little-apart f.at (λ j. get_or x j 0) (o + 8 + 8 * (k / 8)) (8 * (k / 8)) 8 (λ i _. small_f _) (λ i _. small_x _) same (k % 8) (omega arith) in
    ap f.at (omega arith) ∙ is ∙ ap (λ j. get_or x j 0) (omega arith))

-- the head of a slot, by its eight bytes
pub head_parts : (f : Object) (o : ℕ) → ((k : ℕ) → f.at k < 256) → (little f.at o 8 % 2 ^ 32 ≡ slot_inode f o) × (little f.at o 8 / 2 ^ 32 ≡ slot_length f o)
unfolding little
head_parts f o small =
    let s0 = small o in
    let s1 = small (o + 1) in
    let s2 = small (o + 1 + 1) in
    let s3 = small (o + 1 + 1 + 1) in
    let e4 : f.at (o + 1 + 1 + 1 + 1) ≡ f.at (o + 4) = ap f.at (omega arith) in
    let e5 : f.at (o + 1 + 1 + 1 + 1 + 1) ≡ f.at (o + 4 + 1) = ap f.at (omega arith) in
    let e6 : f.at (o + 1 + 1 + 1 + 1 + 1 + 1) ≡ f.at (o + 4 + 1 + 1) = ap f.at (omega arith) in
    let e7 : f.at (o + 1 + 1 + 1 + 1 + 1 + 1 + 1) ≡ f.at (o + 4 + 1 + 1 + 1) = ap f.at (omega arith) in
    (omega (arith, s0, s1, s2, s3), omega (arith, s0, s1, s2, s3, e4, e5, e6, e7))

-- a list of so many words that are those of a name
pub name_words-is : (words x : List ℕ) → length words ≡ 31 → ((k : ℕ) → k < 31 → get_or words k 0 ≡ little (λ j. get_or x j 0) (8 * k) 8) → words ≡ name_words x
name_words-is words x size same = same_number_lists words (name_words x) (size ∙ sym (length-name_words x)) (λ k lt. same k (omega (arith, size, lt)) ∙ sym (name_words-at x k (omega (arith, size, lt))))

pub length-slot_words : (inode : ℕ) (x : List ℕ) → length (slot_words inode x) ≡ 32
unfolding slot_words
length-slot_words inode x = ap suc (length-name_words x)

pub slot_words-head : (inode : ℕ) (x : List ℕ) → get_or (slot_words inode x) 0 0 ≡ inode + 2 ^ 32 * length x
unfolding slot_words
slot_words-head inode x = refl

pub slot_words-at : (inode : ℕ) (x : List ℕ) (k : ℕ) → k < 31 → get_or (slot_words inode x) (suc k) 0 ≡ little (λ j. get_or x j 0) (8 * k) 8
unfolding slot_words
slot_words-at inode x k lt = name_words-at x k lt

pub slot_words-is : (words : List ℕ) (inode : ℕ) (x : List ℕ) → length words ≡ 32 → get_or words 0 0 ≡ inode + 2 ^ 32 * length x
    → ((k : ℕ) → k < 31 → get_or words (k + 1) 0 ≡ little (λ j. get_or x j 0) (8 * k) 8) → words ≡ slot_words inode x
slot_words-is words inode x size head same = same_number_lists words (slot_words inode x) (size ∙ sym (length-slot_words inode x)) each
  where
    each : (k : ℕ) → k < length words → get_or words k 0 ≡ get_or (slot_words inode x) k 0
    each zero lt = head ∙ sym (slot_words-head inode x)
    each (suc k) lt =
        let one : suc k ≡ k + 1 = omega arith in
        ap (λ j. get_or words j 0) one ∙ same k (omega (arith, size, lt)) ∙ sym (slot_words-at inode x k (omega (arith, size, lt)))
