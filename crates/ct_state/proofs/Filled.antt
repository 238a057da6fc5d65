-- A slot that is written says what it should.
use Rattle.std.proofs.Common.{◌≡◌, ◌≢◌, ◌∙◌, ℕ, zero, suc, ◌+◌, ◌-◌, ◌*◌, ◌/◌, ◌%◌, ◌^◌, ◌<◌, ◌≤◌, List, [], ◌∷◌, length, refl, sym, ap, subst, ◌⊎◌, inl, inr, arith, true, false}
use Rattle.std.specs.Prelude.{slice_index, nat_le, nat_lt, not, max, ◌&&◌, ◌==◌}
use Rattle.std.specs.List.{list_all}
use Rattle.std.specs.Str.{bytes_eq}
use Rattle.std.proofs.lemmas.Bool.{cases_lt, and_parts, le-leb, lt-leb, lt-ltb, le-ltb, ltb-true, leb-true}
use Rattle.std.proofs.lemmas.List.{get_or_past}
use Rattle.ct_base.specs.Inode.{little}
use Rattle.ct_base.specs.Objects.{Object}
use Rattle.ct_base.specs.Path.{is_name}
use Rattle.ct_base.specs.Slots.{bytes_from, slot_inode, slot_length, slot_name}
use Rattle.ct_state.specs.Edits.{with_slot, slot_byte, attach, HasTail, Rewrites, Attaches}
use Rattle.ct_state.specs.Links.{Holds}
use Rattle.ct_state.proofs.Bytes.{little-none, little-zero}
use Rattle.ct_state.proofs.Edits.{same_at, other_at}
use Rattle.ct_state.proofs.Words.{little-digits}

-- the length of a name
name_length : (x : List ℕ) → is_name x ≡ true → (1 ≤ length x) × (length x ≤ 248)
name_length x is =
    let a = nat_lt 0 (length x) in
    let b = nat_le (length x) 248 in
    let c = not (bytes_eq x (46 ∷ [])) in
    let d = not (bytes_eq x (46 ∷ 46 ∷ [])) in
    let abcd : (a && b && c && d) ≡ true = (and_parts (a && b && c && d) (list_all (λ b. not (b == 0) && not (b == 47)) x) is).0 in
    let abc : (a && b && c) ≡ true = (and_parts (a && b && c) d abcd).0 in
    let ab : (a && b) ≡ true = (and_parts (a && b) c abc).0 in
    (ltb-true 0 (length x) (and_parts a b ab).0, leb-true (length x) 248 (and_parts a b ab).1)

text_from : (b : ℕ → ℕ) (v : ℕ) (x : List ℕ) → ((k : ℕ) → k < length x → b (v + k) ≡ slice_index x k) → bytes_from b v (length x) ≡ x
unfolding bytes_from
text_from b v [] same = refl
text_from b v (y ∷ x) same =
    let first : b v ≡ y = ap b (omega arith) ∙ same 0 (omega arith) in
    let others : bytes_from b (v + 1) (length x) ≡ x = text_from b (v + 1) x (λ k lt. ap b (omega arith) ∙ same (suc k) (omega arith)) in
    λ i. first i ∷ others i

-- the bytes of the slot at o, as far as they are looked at
pub record Bytes (f : Object) (o i : ℕ) (x : List ℕ) : Type 0 where
  pub head : (k : ℕ) → k < 8 → f.at (o + k) ≡ (i + 4294967296 * length x) / 256 ^ k % 256
  pub text : (k : ℕ) → k < 248 → f.at (o + 8 + k) ≡ slice_index x k
  pub few : i < 4294967296
  pub name : is_name x ≡ true

module _ {f : Object} {o i : ℕ} {x : List ℕ} (w : Bytes f o i x) where
  child_is : slot_inode f o ≡ i
  child_is = little-digits f.at o i 4 (λ k lt. w.head k (omega arith) ∙ low i (length x) k lt) (omega (arith, w.few))
    where
      low : (c n k : ℕ) → k < 4 → (c + 4294967296 * n) / 256 ^ k % 256 ≡ c / 256 ^ k % 256
      low c n zero lt = omega arith
      low c n (suc zero) lt = omega arith
      low c n (suc (suc zero)) lt = omega arith
      low c n (suc (suc (suc zero))) lt = omega arith
      low c n (suc (suc (suc (suc k)))) lt = absurd (omega arith)

  length_is : slot_length f o ≡ length x
  length_is =
      little-digits f.at (o + 4) (length x) 4 (λ k lt. ap f.at (omega arith) ∙ w.head (4 + k) (omega arith) ∙ high i (length x) k lt (omega (arith, w.few))) (omega (arith, (name_length x w.name).1))
    where
      high : (c n k : ℕ) → k < 4 → c < 4294967296 → (c + 4294967296 * n) / 256 ^ (4 + k) % 256 ≡ n / 256 ^ k % 256
      high c n zero lt small = omega arith
      high c n (suc zero) lt small = omega arith
      high c n (suc (suc zero)) lt small = omega arith
      high c n (suc (suc (suc zero))) lt small = omega arith
      high c n (suc (suc (suc (suc k)))) lt small = absurd (omega arith)

  name_text : slot_name f o ≡ x
  name_text = ap (bytes_from f.at (o + 8)) length_is ∙ text_from f.at (o + 8) x (λ k lt. w.text k (omega (arith, lt, (name_length x w.name).1)))

  used : little f.at o 256 ≢ 0
  used z =
      let zeros : slot_length f o ≡ 0 = little-zero f.at (o + 4) 4 (λ k lt. ap f.at (omega arith) ∙ little-none f.at o 256 (4 + k) z (omega arith)) in
      omega (arith, length_is, zeros, (name_length x w.name).0)

  -- such a slot of a directory names the object
  pub bytes_hold : f.kind ≡ 2 → o < f.size → o % 256 ≡ 0 → Holds f o i x
  bytes_hold dir below aligned = record {
    slot = record { dir = dir; below = below; aligned = aligned; used = used };
    child = child_is;
    name = name_text;
    is_name = w.name;
    length = omega (arith, length_is, (name_length x w.name).1);
    padding = λ k le lt. ap f.at (omega (arith, le)) ∙ w.text (k - 8) (omega (arith, le)) ∙ get_or_past x (k - 8) 0 (omega (arith, le, length_is));
  }

pub slot_at : (f : Object) (o i : ℕ) (x : List ℕ) (k : ℕ) → k < 256 → (with_slot f o i x).at (o + k) ≡ slot_byte i x k
slot_at f o i x k lt = let back : o + k - o ≡ k = omega arith in rw (le-leb o (o + k) (omega arith), lt-ltb (o + k) (o + 256) (omega arith), back) refl

and_no : (p : Rattle.std.specs.Prelude.Bool) {q : Rattle.std.specs.Prelude.Bool} → q ≡ false → (p && q) ≡ false
and_no true is = is
and_no false is = refl

pub kept_beside : (f : Object) (o i : ℕ) (x : List ℕ) (k : ℕ) → (k < o) ⊎ (o + 256 ≤ k) → (with_slot f o i x).at k ≡ f.at k
kept_beside f o i x k (inl lt) = rw (lt-leb o k lt) refl
kept_beside f o i x k (inr le) = rw (and_no (nat_le o k) (le-ltb k (o + 256) le)) refl

head_at : (i : ℕ) (x : List ℕ) (k : ℕ) → k < 8 → slot_byte i x k ≡ (i + 4294967296 * length x) / 256 ^ k % 256
head_at i x k lt = rw (lt-ltb k 8 lt) refl

text_at : (i : ℕ) (x : List ℕ) (k : ℕ) → slot_byte i x (8 + k) ≡ slice_index x k
text_at i x k = let back : 8 + k - 8 ≡ k = omega arith in rw (le-ltb (8 + k) 8 (omega arith), back) refl

-- the function attaches
pub attaches : (fs : ℕ → Object) (d o i : ℕ) (x : List ℕ) → (fs d).kind ≡ 2 → HasTail (fs d) → o % 256 ≡ 0 → i < 4294967296 → is_name x ≡ true → Attaches fs (attach fs d o i x) d o i x
attaches fs d o i x dir tail aligned few name =
    let g = with_slot (fs d) o i x in
    let bytes : Bytes (with_slot (fs d) o i x) o i x = record {
      head = λ k lt. slot_at (fs d) o i x k (omega arith) ∙ head_at i x k lt;
      text = λ k lt. ap (with_slot (fs d) o i x).at (omega arith) ∙ slot_at (fs d) o i x (8 + k) (omega arith) ∙ text_at i x k;
      few = few;
      name = name;
    } in
    record {
      others = λ j other. other_at fs d g j other;
      rewrites = subst (λ g. Rewrites (fs d) g o) (sym (same_at fs d g)) (record {
        dir = dir;
        kind = refl;
        tail = tail;
        room = omega arith;
        kept = λ k m at other lt. kept_beside (fs d) o i x (k + m) (elim (cases_lt k o) [ inl before ↦ inl (omega (arith, at, aligned)) | inr after ↦ inr (omega (arith, at, aligned)) ]);
      });
      holds = subst (λ g. Holds g o i x) (sym (same_at fs d g)) (bytes_hold bytes dir (omega arith) aligned);
    }
