-- After a write the image stands for the tree with the file's new bytes.
use Rattle.std.proofs.Common.{◌≡◌, ℕ, ◌+◌, ◌-◌, ◌<◌, ◌≤◌, List, [], ◌∷◌, ◌++◌, length, drop, refl, sym, ap, ◌∙◌, inl, inr, arith}
use Rattle.std.specs.Prelude.{max, take, replicate, slice_index}
use Rattle.std.proofs.Math.Nat.{max-eq_left, max-eq_right}
use Rattle.std.proofs.lemmas.Bool.{cases_lt}
use Rattle.std.proofs.lemmas.List.{get_or_append_left, get_or-append_right, get_or-drop, get_or-replicate, get_or-take, get_or_past, length-append, length-drop, length-replicate, length-take}
use Rattle.ct_base.specs.declared.inode.Inode.{Inode}
use Rattle.ct_base.specs.Inode.{inode, part_bytes}
use Rattle.ct_base.specs.View.{view}
use Rattle.ct_stage.specs.declared.edit.Given.{Given}
use Rattle.ct_stage.specs.Edited.{given_at}
use Rattle.ct_stage.proofs.Edits.{edited-in, edited-off}
use Rattle.ct_tree.specs.Content.{resized, written}
use Rattle.ct_tree.specs.Lands.{files}
use Rattle.ct_tree.specs.Stands.{IsFile}
use Rattle.ct_tree.proofs.Ordered.{resized_length}
use Rattle.ct_write.specs.declared.data.Data.{Data}
use Rattle.ct_write.specs.declared.data.Data.TheVariants.{Bytes, Fill}
use Rattle.ct_write.specs.Written.{CanWrite, IsWritten, data_bytes, data_given, data_len, edit_of}
use Rattle.ct_write.proofs.Changing.{Changing, bytes_had, file_now, size_had}
use Rattle.ct_write.proofs.Done.{changing, room_of, write_size}

-- ---- the bytes of a write, as the tree has them

pub written_length : (old : List ℕ) (off : ℕ) (bytes : List ℕ) → 1 ≤ length bytes → length (written old off bytes) ≡ max (length old) (off + length bytes)
written_length old off [] some = absurd (omega arith)
written_length old off (x ∷ bytes) some =
    let a = length-append (resized off old ++ (x ∷ bytes)) (drop (off + length {A = ℕ} (x ∷ bytes)) old) in
    let b = length-append (resized off old) (x ∷ bytes) in
    let c = resized_length off old in
    let d = length-drop (off + length {A = ℕ} (x ∷ bytes)) old in
    elim (cases_lt (length old) (off + length {A = ℕ} (x ∷ bytes))) [
      | inl less ↦ omega (arith, a, b, c, d, max-eq_right {n = length old} {m = off + length {A = ℕ} (x ∷ bytes)} (omega arith), less)
      | inr more ↦ omega (arith, a, b, c, d, max-eq_left {n = length old} {m = off + length {A = ℕ} (x ∷ bytes)} more, more)
    ]

pub resized_at : (off : ℕ) (old : List ℕ) (k : ℕ) → k < off → slice_index (resized off old) k ≡ slice_index old k
resized_at off old k lt =
    let taken = length-take off old in
    elim (cases_lt k (length old)) [
      | inl less ↦ get_or_append_left (take off old) (replicate (off - length old) 0) 0 k (omega (arith, taken)) ∙ get_or-take off old k 0 lt
      | inr past ↦
          get_or-append_right (take off old) (replicate (off - length old) 0) (length old) k 0 (omega (arith, taken)) past
          ∙ get_or-replicate (off - length old) (k - length old) 0 0 (omega arith) ∙ sym (get_or_past old k 0 past)
    ]

pub written_before : (old : List ℕ) (off : ℕ) (bytes : List ℕ) (k : ℕ) → 1 ≤ length bytes → k < off → slice_index (written old off bytes) k ≡ slice_index old k
written_before old off [] k some lt = refl
written_before old off (x ∷ bytes) k some lt =
    let c = resized_length off old in
    let b = length-append (resized off old) (x ∷ bytes) in
    get_or_append_left (resized off old ++ (x ∷ bytes)) (drop (off + length {A = ℕ} (x ∷ bytes)) old) 0 k (omega (arith, b, c))
    ∙ get_or_append_left (resized off old) (x ∷ bytes) 0 k (omega (arith, c)) ∙ resized_at off old k lt

pub written_inside : (old : List ℕ) (off : ℕ) (bytes : List ℕ) (k : ℕ) → off ≤ k → k < off + length bytes → slice_index (written old off bytes) k ≡ slice_index bytes (k - off)
written_inside old off [] k from to = absurd (omega arith)
written_inside old off (x ∷ bytes) k from to =
    let c = resized_length off old in
    let b = length-append (resized off old) (x ∷ bytes) in
    get_or_append_left (resized off old ++ (x ∷ bytes)) (drop (off + length {A = ℕ} (x ∷ bytes)) old) 0 k (omega (arith, b, c))
    ∙ get_or-append_right (resized off old) (x ∷ bytes) off k 0 c from

pub written_after : (old : List ℕ) (off : ℕ) (bytes : List ℕ) (k : ℕ) → 1 ≤ length bytes → off + length bytes ≤ k → slice_index (written old off bytes) k ≡ slice_index old k
written_after old off [] k some past = refl
written_after old off (x ∷ bytes) k some past =
    let c = resized_length off old in
    let b = length-append (resized off old) (x ∷ bytes) in
    let m = off + length {A = ℕ} (x ∷ bytes) in
    get_or-append_right (resized off old ++ (x ∷ bytes)) (drop (off + length {A = ℕ} (x ∷ bytes)) old) (off + length {A = ℕ} (x ∷ bytes)) k 0 (omega (arith, b, c)) past
    ∙ get_or-drop (off + length {A = ℕ} (x ∷ bytes)) old (k - (off + length {A = ℕ} (x ∷ bytes))) 0 ∙ ap (slice_index old) (omega arith)

pub data_length : (what : Data) → length (data_bytes what) ≡ data_len what
data_length (Bytes bytes) = refl
data_length (Fill len byte) = length-replicate len byte

pub data_at : (what : Data) (k : ℕ) → k < data_len what → given_at (data_given what) k ≡ slice_index (data_bytes what) k
data_at (Bytes bytes) k lt = refl
data_at (Fill len byte) k lt = sym (get_or-replicate len k byte 0 lt)

-- ---- the file

module _ {old new : List ℕ} {i off len : ℕ} {given : Given} (can : CanWrite old i off len) (w : IsWritten old new i off len given) where
  abbrev f : Inode
  f = inode (view old) i

  pub changed : Changing old new i
  changed = changing can (write_size given can) w

  -- the file has the bytes of the tree's write
  pub file_written : (was bytes : List ℕ) → IsFile (files old i) was → length bytes ≡ len → ((k : ℕ) → k < len → given_at given k ≡ slice_index bytes k) → IsFile (files new i) (written was off bytes)
  file_written was bytes is count gives =
      let had = size_had changed was is in
      let some : 1 ≤ length bytes = omega (arith, count, can.some) in
      let size : (inode (view new) i).size ≡ length (written was off bytes) = w.size ∙ ap (λ k. max k (off + len)) had ∙ ap (λ k. max (length was) (off + k)) (sym count) ∙ sym (written_length was off bytes some) in
      file_now changed (written was off bytes) size (λ k lt. byte some k lt)
    where
      byte : 1 ≤ length bytes → (k : ℕ) → k < (inode (view new) i).size → view new (f.base + k) ≡ slice_index (written was off bytes) k
      byte some k lt =
          let low = (room_of can).part.low in
          let few = can.live.number.to in
          let most = can.ready.inodes.1 in
          let fits : (inode (view new) i).size ≤ part_bytes f.level = changed.writes.fits in
          let stays : view old (f.base + k) ≡ slice_index was k = bytes_had changed was is k (omega (arith, lt, fits)) in
          w.bytes (f.base + k) (inr (omega (arith, low, few, most))) ∙ elim (cases_lt k off) [
            | inl before ↦ edited-off (view old) (edit_of f off len given) (f.base + k) (inl (omega arith)) ∙ stays ∙ sym (written_before was off bytes k some before)
            | inr from ↦ elim (cases_lt k (off + len)) [
              | inl inside ↦
                  edited-in (view old) (edit_of f off len given) (f.base + k) (omega arith) (omega arith) ∙ ap (given_at given) (omega arith) ∙ gives (k - off) (omega arith)
                  ∙ sym (written_inside was off bytes k from (omega (arith, count)))
              | inr past ↦ edited-off (view old) (edit_of f off len given) (f.base + k) (inr (omega arith)) ∙ stays ∙ sym (written_after was off bytes k some (omega (arith, count)))
            ]
          ]
