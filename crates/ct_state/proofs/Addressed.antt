-- From bytes by address to the four changes of the objects.
use Rattle.std.proofs.Common.{◌≡◌, ◌≢◌, ◌∙◌, ℕ, ◌+◌, ◌-◌, ◌<◌, ◌≤◌, List, refl, sym, ap, ◌⊎◌, inl, inr, arith}
use Rattle.std.specs.Prelude.{max}
use Rattle.std.proofs.lemmas.Bool.{cases_lt}
use Rattle.ct_base.specs.Inode.{inode, IsNumber}
use Rattle.ct_base.specs.Objects.{Object, object, objects}
use Rattle.ct_state.specs.Edits.{without_slot, with_slot, slot_byte, detach, attach, discard, HasTail}
use Rattle.ct_state.proofs.Bytes.{content-at, content-past, objects-in, objects-cases, SameObject, object-same}
use Rattle.ct_state.proofs.Composed.{removed_are, moved_are, moved_within_are}
use Rattle.ct_state.proofs.Edits.{zeros_in, kept_out, beside_or, tail_without}
use Rattle.ct_state.proofs.Filled.{slot_at, kept_beside}

pub object_tail : (b : ℕ → ℕ) (d : ℕ) → HasTail (object b d)
object_tail b d k le = content-past b (inode b d).base (inode b d).size k le

-- an inode stands for an object
pub object_is : (c : ℕ → ℕ) (d : ℕ) (g : Object) → HasTail g → (inode c d).kind ≡ g.kind → (inode c d).size ≡ g.size → ((k : ℕ) → k < g.size → c ((inode c d).base + k) ≡ g.at k) → object c d ≡ g
object_is c d g tail kind size bytes = λ j. record { kind = kind j; size = size j; at = λ k. at_each k j }
  where
    at_each : (k : ℕ) → (object c d).at k ≡ g.at k
    at_each k = elim (cases_lt k g.size) [
      | inl lt ↦ content-at c (inode c d).base (inode c d).size k (omega (arith, lt, size)) ∙ bytes k lt
      | inr ge ↦ content-past c (inode c d).base (inode c d).size k (omega (arith, ge, size)) ∙ sym (tail k ge)
    ]

-- an empty one, or none
pub empty_is : (c : ℕ → ℕ) (i kind : ℕ) → (inode c i).kind ≡ kind → (inode c i).size ≡ 0 → object c i ≡ record { kind = kind; size = 0; at = λ k. 0 }
empty_is c i kind is size = object_is c i (record { kind = kind; size = 0; at = λ k. 0 }) (λ k le. refl) is size (λ k lt. absurd (omega arith))

-- the slot at o holds zeros, and the rest is f's
pub record Empties (c : ℕ → ℕ) (d : ℕ) (f : Object) (o : ℕ) : Type 0 where
  pub kind : (inode c d).kind ≡ f.kind
  pub size : (inode c d).size ≡ f.size
  pub zero : (k : ℕ) → k < 256 → o + k < f.size → c ((inode c d).base + (o + k)) ≡ 0
  pub kept : (k : ℕ) → k < f.size → (k < o) ⊎ (o + 256 ≤ k) → c ((inode c d).base + k) ≡ f.at k

pub empties_is : {c : ℕ → ℕ} {d : ℕ} {f : Object} {o : ℕ} → HasTail f → Empties c d f o → object c d ≡ without_slot f o
empties_is {c} {d} {f} {o} tail e = object_is c d (without_slot f o) (tail_without f o tail) e.kind e.size (λ k lt. elim (beside_or o k) [
  | inl at ↦
      let m = k - o in
      let is : o + (k - o) ≡ k = omega (arith, at.0) in
      sym (ap (λ j. c ((inode c d).base + j)) is) ∙ e.zero (k - o) (omega (arith, at.0, at.1)) (omega (arith, is, lt)) ∙ sym (zeros_in f o k at.0 at.1)
  | inr out ↦ e.kept k lt out ∙ sym (kept_out f o k out)
])

-- the slot at o has the bytes of object i and name x, the rest is f's, and the size takes the slot in
pub record Fills (c : ℕ → ℕ) (d : ℕ) (f : Object) (o i : ℕ) (x : List ℕ) : Type 0 where
  pub kind : (inode c d).kind ≡ f.kind
  pub size : (inode c d).size ≡ max f.size (o + 256)
  pub low : o ≤ f.size
  pub slot : (k : ℕ) → k < 256 → c ((inode c d).base + (o + k)) ≡ slot_byte i x k
  pub kept : (k : ℕ) → k < f.size → (k < o) ⊎ (o + 256 ≤ k) → c ((inode c d).base + k) ≡ f.at k

pub fills_is : {c : ℕ → ℕ} {d : ℕ} {f : Object} {o i : ℕ} {x : List ℕ} → HasTail f → Fills c d f o i x → object c d ≡ with_slot f o i x
fills_is {c} {d} {f} {o} {i} {x} tail e = object_is c d (with_slot f o i x) (λ k le. kept_beside f o i x k (inr (omega (arith, le))) ∙ tail k (omega (arith, le))) e.kind e.size (λ k lt. elim (beside_or o k) [
  | inl at ↦
      let is : o + (k - o) ≡ k = omega (arith, at.0) in
      sym (ap (λ j. c ((inode c d).base + j)) is) ∙ e.slot (k - o) (omega (arith, at.0, at.1)) ∙ sym (slot_at f o i x (k - o) (omega (arith, at.0, at.1))) ∙ ap (with_slot f o i x).at is
  | inr out ↦ e.kept k (elim out [ inl before ↦ omega (arith, before, e.low) | inr after ↦ omega (arith, after, lt) ]) out ∙ sym (kept_beside f o i x k out)
])

-- ---- all objects

module _ (b c : ℕ → ℕ) (count : ℕ) where
  same_objects : (j : ℕ) → (IsNumber count j → SameObject b c j) → objects c count j ≡ objects b count j
  same_objects j same = elim (objects-cases b count j) [
    | inl k ↦ objects-in c count j k.0 ∙ object-same (same k.0) ∙ sym k.1
    | inr k ↦ elim (objects-cases c count j) [ inl l ↦ absurd (k.0 l.0) | inr l ↦ l.1 ∙ sym k.1 ]
  ]

  changed : (P : Object → Object) (d : ℕ) → IsNumber count d → object c d ≡ P (object b d) → objects c count d ≡ P (objects b count d)
  changed P d number is = objects-in c count d number ∙ is ∙ ap P (sym (objects-in b count d number))

  -- unlink and rmdir: the slot's bytes are 0, and so are the words of the inode
  pub removed_objects : (d o i : ℕ) → IsNumber count d → IsNumber count i → d ≢ i → Empties c d (object b d) o → (inode c i).kind ≡ 0 → (inode c i).size ≡ 0
      → ((j : ℕ) → IsNumber count j → j ≢ d → j ≢ i → SameObject b c j) → objects c count ≡ discard (detach (objects b count) d o) i
  removed_objects d o i nd ni apart dir kind size others =
      removed_are d o i apart (changed (λ f. without_slot f o) d nd (empties_is (object_tail b d) dir)) (objects-in c count i ni ∙ empty_is c i 0 kind size)
      (λ j there gone. same_objects j (λ number. others j number there gone))

  -- a rename into another directory
  pub moved_objects : (d o k s i : ℕ) (y : List ℕ) → IsNumber count d → IsNumber count k → d ≢ k → Empties c d (object b d) o → Fills c k (object b k) s i y
      → ((j : ℕ) → IsNumber count j → j ≢ d → j ≢ k → SameObject b c j) → objects c count ≡ attach (detach (objects b count) d o) k s i y
  moved_objects d o k s i y nd nk apart from to others =
      moved_are d o k s i y apart (changed (λ f. without_slot f o) d nd (empties_is (object_tail b d) from)) (changed (λ f. with_slot f s i y) k nk (fills_is (object_tail b k) to))
      (λ j here there. same_objects j (λ number. others j number here there))

  -- and within one, to another slot or to the same
  pub moved_within_objects : (d o s i : ℕ) (y : List ℕ) → IsNumber count d → Fills c d (without_slot (object b d) o) s i y
      → ((j : ℕ) → IsNumber count j → j ≢ d → SameObject b c j) → objects c count ≡ attach (detach (objects b count) d o) d s i y
  moved_within_objects d o s i y nd dir others =
      moved_within_are d o s i y (changed (λ f. with_slot (without_slot f o) s i y) d nd (fills_is (tail_without (object b d) o (object_tail b d)) dir))
      (λ j other. same_objects j (λ number. others j number other))
