-- Names as they are read, a word at a time.
use Rattle.std.proofs.Common.{◌≡◌, ℕ, zero, suc, ◌+◌, ◌-◌, ◌*◌, ◌/◌, ◌%◌, ◌^◌, ◌<◌, List, [], ◌∷◌, ◌++◌, get_or, min, refl, sym, ap, ◌∙◌, append_assoc, subst, Some, arith}
use Rattle.std.specs.Int.{w64, to_le_bytes}
use Rattle.ct_base.specs.Objects.{Object}
use Rattle.ct_base.specs.declared.inode.Inode.{Inode}
use Rattle.ct_base.specs.Slots.{IsSlot, bytes_from, slot_length, slot_name}
use Rattle.ct_base.specs.Walk.{word, page_at}
use Rattle.ct_walk.specs.Pages.{some_page}
use Rattle.ct_dir.proofs.Held.{dir-small}
use Rattle.ct_dir.proofs.Stepping.{Meets, meets_shows}
use Rattle.ct_dir.specs.Directory.{dir_of}
use Rattle.ct_state.proofs.Bytes.{bytes_from-same}
use Rattle.ct_dir.proofs.Matching.{head_length, word_is}
use Rattle.ct_dir.specs.Reading.{Holds}
use Rattle.ct_dir.proofs.Texts.{little-byte}
use Rattle.ct_dir.specs.Keys.{byte_of, name_byte, word_after}
use Rattle.ct_dir.specs.declared.slot.Slot.{Slot}

pub bytes_from-none : (b : ℕ → ℕ) (v : ℕ) → bytes_from b v 0 ≡ []
unfolding bytes_from
bytes_from-none b v = refl

pub bytes_from-more : (b : ℕ → ℕ) (v m n : ℕ) → bytes_from b v (m + n) ≡ bytes_from b v m ++ bytes_from b (v + m) n
unfolding bytes_from
bytes_from-more b v zero n =
    let size : 0 + n ≡ n = omega arith in
    let place : v ≡ v + 0 = omega arith in
    ap (bytes_from b v) size ∙ ap (λ k. bytes_from b k n) place
bytes_from-more b v (suc m) n =
    let size : suc m + n ≡ suc (m + n) = omega arith in
    let place : v + 1 + m ≡ v + suc m = omega arith in
    ap (bytes_from b v) size ∙ step (m + n)
    ∙ ap (λ xs. b v ∷ xs) (bytes_from-more b (v + 1) m n ∙ ap (λ k. bytes_from b (v + 1) m ++ bytes_from b k n) place)
  where
    step : (k : ℕ) → bytes_from b v (suc k) ≡ b v ∷ bytes_from b (v + 1) k
    step k = refl

bytes_from-one : (b : ℕ → ℕ) (w : ℕ) → bytes_from b w 1 ≡ b w ∷ []
unfolding bytes_from
bytes_from-one b w = refl

pub bytes_from-push : (b : ℕ → ℕ) (v n : ℕ) → bytes_from b v (n + 1) ≡ bytes_from b v n ++ b (v + n) ∷ []
bytes_from-push b v n = bytes_from-more b v n 1 ∙ ap (λ xs. bytes_from b v n ++ xs) (bytes_from-one b (v + n))

-- byte i of a word
pub le_byte : (w i : ℕ) → i < 8 → get_or (to_le_bytes w64 w) i 0 ≡ byte_of w i
le_byte w zero lt = omega arith
le_byte w (suc zero) lt = refl
le_byte w (suc (suc zero)) lt = refl
le_byte w (suc (suc (suc zero))) lt = refl
le_byte w (suc (suc (suc (suc zero)))) lt = refl
le_byte w (suc (suc (suc (suc (suc zero))))) lt = refl
le_byte w (suc (suc (suc (suc (suc (suc zero)))))) lt = refl
le_byte w (suc (suc (suc (suc (suc (suc (suc zero))))))) lt = refl
le_byte w (suc (suc (suc (suc (suc (suc (suc (suc k)))))))) lt = absurd (omega arith)

-- one more byte
pub bytes_pushed : (items before after bytes : List ℕ) (w i : ℕ) → items ≡ before ++ bytes_from (byte_of w) 0 i → after ≡ items ++ get_or bytes i 0 ∷ [] → bytes ≡ to_le_bytes w64 w → i < 8
    → after ≡ before ++ bytes_from (byte_of w) 0 (i + 1)
bytes_pushed items before after bytes w i so_far pushed le lt =
    let read : get_or bytes i 0 ≡ byte_of w i = ap (λ xs. get_or xs i 0) le ∙ le_byte w i lt in
    let here : byte_of w (0 + i) ≡ byte_of w i = ap (byte_of w) (omega arith) in
    pushed ∙ ap (λ xs. xs ++ get_or bytes i 0 ∷ []) so_far ∙ append_assoc before (bytes_from (byte_of w) 0 i) (get_or bytes i 0 ∷ [])
    ∙ ap (λ b. before ++ (bytes_from (byte_of w) 0 i ++ b ∷ [])) (read ∙ sym here) ∙ ap (λ xs. before ++ xs) (sym (bytes_from-push (byte_of w) 0 i))

-- one more word
pub words_pushed : (img : List ℕ) (slot : Slot) (items after : List ℕ) (w k n : ℕ) → items ≡ bytes_from (name_byte img slot) 0 (min (8 * k) n) → w ≡ word_after img slot k → 8 * k < n
    → after ≡ items ++ bytes_from (byte_of w) 0 (min (n - 8 * k) 8) → after ≡ bytes_from (name_byte img slot) 0 (min (8 * (k + 1)) n)
words_pushed img slot items after w k n so_far is more pushed =
    let m = min (n - 8 * k) 8 in
    let from : min (8 * k) n ≡ 8 * k = omega arith in
    let to : min (8 * (k + 1)) n ≡ 8 * k + m = omega arith in
    pushed ∙ ap (λ xs. xs ++ bytes_from (byte_of w) 0 m) (so_far ∙ ap (bytes_from (name_byte img slot) 0) from)
    ∙ ap (λ xs. bytes_from (name_byte img slot) 0 (8 * k) ++ xs)
    (bytes_from-same (name_byte img slot) (byte_of w) (0 + 8 * k) 0 m (λ i lt.
    let word : (0 + 8 * k + i) / 8 ≡ k = omega arith in
    let byte : (0 + 8 * k + i) % 8 ≡ i = omega arith in
    ap (byte_of w) (omega arith) ∙ ap (λ x. byte_of x i) is ∙ ap (λ x. byte_of (word_after img slot x) i) (sym word) ∙ ap (byte_of (word_after img slot ((0 + 8 * k + i) / 8))) (sym byte)))
    ∙ sym (bytes_from-more (name_byte img slot) 0 (8 * k) m) ∙ ap (bytes_from (name_byte img slot) 0) (sym to)

-- the bytes that were read are the name
pub name_read : {img : List ℕ} {f : Object} {slot : Slot} → Holds img f slot → bytes_from (name_byte img slot) 0 (slot.head / 2 ^ 32) ≡ slot_name f slot.offset
name_read {img} {f} {slot} h =
    ap (bytes_from (name_byte img slot) 0) (head_length h)
    ∙ bytes_from-same f.at (name_byte img slot) (slot.offset + 8) 0 (slot_length f slot.offset) (λ k lt.
    let few = h.text.length in
    let at : name_byte img slot (0 + k) ≡ name_byte img slot k = ap (name_byte img slot) (omega arith) in
    at ∙ ap (λ w. byte_of w (k % 8)) (word_is h (k / 8) (omega arith)) ∙ little-byte f.at (slot.offset + 8 + 8 * (k / 8)) 8 (k % 8) (λ _ _. h.small _) (omega arith) ∙ ap f.at (omega arith))

-- a slot that is read where it lies
pub held_slot : {img : List ℕ} {dir : Inode} {o : ℕ} (page : ℕ) (slot : Slot) → Meets img dir o → IsSlot (dir_of img dir) o → Some page ≡ some_page (page_at img 4 ((dir.base + o) / 4096))
    → slot.offset ≡ o → slot.place ≡ page * 512 + o % 4096 / 8 → slot.head ≡ word img slot.place → Holds img (dir_of img dir) slot
held_slot {img} {dir} {o} page slot m s some offset place head =
    let I : ℕ → Type 0 = λ k. IsSlot (dir_of img dir) k in
    let used = subst I (sym offset) s in
    record { shows = meets_shows m page slot some offset place head; used = used; text = m.readable.texts slot.offset used; small = dir-small img dir }
