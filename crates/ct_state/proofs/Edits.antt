-- What the four changes of the objects are as changes of links.
use Rattle.std.proofs.Common.{◌≡◌, ◌≢◌, ◌∙◌, ℕ, ◌+◌, ◌%◌, ◌<◌, ◌≤◌, List, refl, sym, ap, subst, ◌⊎◌, inl, inr, arith, true, false}
use Rattle.std.specs.Prelude.{◌&&◌, nat_le, nat_lt}
use Rattle.std.proofs.lemmas.Bool.{cases_lt, eq-eqb, ne_eqb, le-leb, lt-leb, lt-ltb, le-ltb}
use Rattle.ct_base.specs.Inode.{little}
use Rattle.ct_base.specs.Objects.{Object}
use Rattle.ct_base.specs.Slots.{IsSlot, bytes_from, slot_inode, slot_length, slot_name}
use Rattle.ct_base.specs.Rules.{AreEntries, AreNamesApart}
use Rattle.ct_state.specs.Edits.{with_object, without_slot, detach, IsFresh, HasTail, Rewrites, Detaches, Attaches}
use Rattle.ct_state.proofs.Bytes.{little-same, little-zero, bytes_from-same}
use Rattle.ct_state.proofs.Turning.{Kept, Turns, Relinks, Bares}

pub same_at : (fs : ℕ → Object) (i : ℕ) (f : Object) → with_object fs i f i ≡ f
same_at fs i f = rw (eq-eqb i i refl) refl

pub other_at : (fs : ℕ → Object) (i : ℕ) (f : Object) (j : ℕ) → j ≢ i → with_object fs i f j ≡ fs j
other_at fs i f j other = rw (ne_eqb j i other) refl

-- ---- a slot is rewritten

module _ {f g : Object} {o : ℕ} (r : Rewrites f g o) where
  bytes-from : (k c n : ℕ) → k % 256 ≡ 0 → k ≢ o → c + n ≤ 256 → (m : ℕ) → m < n → g.at (k + c + m) ≡ f.at (k + c + m)
  bytes-from k c n aligned other fits m lt = ap g.at (omega arith) ∙ r.kept k (c + m) aligned other (omega arith) ∙ ap f.at (omega arith)

  used-same : (k : ℕ) → k % 256 ≡ 0 → k ≢ o → little g.at k 256 ≡ little f.at k 256
  used-same k aligned other = little-same f.at g.at k k 256 (λ m lt. r.kept k m aligned other lt)

  rewritten_on : (k : ℕ) → k ≢ o → slot_length f k ≤ 248 → IsSlot f k → Kept f g k
  rewritten_on k other short s =
      let length : slot_length g k ≡ slot_length f k = little-same f.at g.at (k + 4) (k + 4) 4 (bytes-from k 4 4 s.aligned other (omega arith)) in
      record {
        slot = record { dir = r.kind ∙ s.dir; below = omega (arith, s.below, r.room); aligned = s.aligned; used = λ z. s.used (sym (used-same k s.aligned other) ∙ z) };
        inode = little-same f.at g.at k k 4 (λ m lt. r.kept k m s.aligned other (omega arith));
        length = length;
        name = ap (bytes_from g.at (k + 8)) length ∙ bytes_from-same f.at g.at (k + 8) (k + 8) (slot_length f k) (bytes-from k 8 (slot_length f k) s.aligned other (omega (arith, short)));
        bytes = λ m lt. r.kept k m s.aligned other lt;
      }

  rewritten_back : (k : ℕ) → k ≢ o → IsSlot g k → IsSlot f k
  rewritten_back k other s =
      let used : little f.at k 256 ≢ 0 = λ z. s.used (used-same k s.aligned other ∙ z) in
      record {
        dir = r.dir;
        below = elim (cases_lt k f.size) [
          | inl lt ↦ lt
          | inr ge ↦ absurd (used (little-zero f.at k 256 (λ m lt. r.tail (k + m) (omega (arith, ge)))))
        ];
        aligned = s.aligned;
        used = used;
      }

pub turns_of : {fs gs : ℕ → Object} {d o : ℕ} → AreEntries fs → ((j : ℕ) → j ≢ d → gs j ≡ fs j) → Rewrites (fs d) (gs d) o → Turns fs gs d o
turns_of {d = d} entries others r = record {
  others = others;
  was = r.dir;
  is = r.kind ∙ r.dir;
  on = λ k other s. rewritten_on r k other (entries d k s).length s;
  back = rewritten_back r;
}

-- ---- the slot is emptied, filled, or filled anew

pub detach_relinks : {fs gs : ℕ → Object} {d o i : ℕ} {x : List ℕ} → AreEntries fs → AreNamesApart fs → Detaches fs gs d o → IsSlot (fs d) o → slot_inode (fs d) o ≡ i → slot_name (fs d) o ≡ x
    → Relinks fs gs d o x 1 i
detach_relinks {d = d} {o = o} entries apart e slot child name = record {
  turns = turns_of entries e.others e.rewrites;
  before = λ s. (child, name);
  there = λ some. slot;
  after = λ s. absurd (s.used e.empty);
  here = λ some. absurd (some refl);
  fresh = λ k other s same. other (apart d k o s slot (same ∙ sym name));
}

pub attach_relinks : {fs gs : ℕ → Object} {d o i : ℕ} {x : List ℕ} → AreEntries fs → Attaches fs gs d o i x → (IsSlot (fs d) o → ⊥) → IsFresh (fs d) x → i ≢ 1 → Relinks fs gs d o x i 1
attach_relinks entries e unused new some = record {
  turns = turns_of entries e.others e.rewrites;
  before = λ s. absurd (unused s);
  there = λ other. absurd (other refl);
  after = λ s. (e.holds, some);
  here = λ other. e.holds.slot;
  fresh = λ k other s. new k s;
}

pub swap_relinks : {fs gs : ℕ → Object} {d o i j : ℕ} {x : List ℕ} → AreEntries fs → AreNamesApart fs → Attaches fs gs d o i x → IsSlot (fs d) o → slot_inode (fs d) o ≡ j → slot_name (fs d) o ≡ x → i ≢ 1
    → Relinks fs gs d o x i j
swap_relinks {d = d} {o = o} entries apart e slot child name some = record {
  turns = turns_of entries e.others e.rewrites;
  before = λ s. (child, name);
  there = λ other. slot;
  after = λ s. (e.holds, some);
  here = λ other. e.holds.slot;
  fresh = λ k other s same. other (apart d k o s slot (same ∙ sym name));
}

-- ---- the functions

pub zeros_in : (f : Object) (o k : ℕ) → o ≤ k → k < o + 256 → (without_slot f o).at k ≡ 0
zeros_in f o k le lt = rw (le-leb o k le, lt-ltb k (o + 256) lt) refl

and_no : (p : Rattle.std.specs.Prelude.Bool) {q : Rattle.std.specs.Prelude.Bool} → q ≡ false → (p && q) ≡ false
and_no true is = is
and_no false is = refl

pub kept_out : (f : Object) (o k : ℕ) → (k < o) ⊎ (o + 256 ≤ k) → (without_slot f o).at k ≡ f.at k
kept_out f o k (inl lt) = rw (lt-leb o k lt) refl
kept_out f o k (inr le) = rw (and_no (nat_le o k) (le-ltb k (o + 256) le)) refl

pub beside_or : (o k : ℕ) → ((o ≤ k) × (k < o + 256)) ⊎ ((k < o) ⊎ (o + 256 ≤ k))
beside_or o k = elim (cases_lt k o) [
  | inl before ↦ inr (inl before)
  | inr from ↦ elim (cases_lt k (o + 256)) [ inl within ↦ inl (from, within) | inr after ↦ inr (inr after) ]
]

pub tail_without : (f : Object) (o : ℕ) → HasTail f → HasTail (without_slot f o)
tail_without f o tail k le = elim (beside_or o k) [ inl at ↦ zeros_in f o k at.0 at.1 | inr out ↦ kept_out f o k out ∙ tail k le ]

pub detaches : (fs : ℕ → Object) (d o : ℕ) → (fs d).kind ≡ 2 → HasTail (fs d) → o % 256 ≡ 0 → Detaches fs (detach fs d o) d o
detaches fs d o dir tail aligned = record {
  others = λ j other. other_at fs d (without_slot (fs d) o) j other;
  rewrites = subst (λ g. Rewrites (fs d) g o) (sym (same_at fs d (without_slot (fs d) o))) (record {
    dir = dir;
    kind = refl;
    tail = tail;
    room = omega arith;
    kept = λ k m at other lt. kept_out (fs d) o (k + m) (elim (cases_lt k o) [ inl before ↦ inl (omega (arith, at, aligned)) | inr after ↦ inr (omega (arith, at, aligned)) ]);
  });
  empty = ap (λ (g : Object). little g.at o 256) (same_at fs d (without_slot (fs d) o)) ∙ little-zero (without_slot (fs d) o).at o 256 (λ k lt. zeros_in (fs d) o (o + k) (omega arith) (omega arith));
}

-- an object without slots in place of another
pub bares_at : (fs : ℕ → Object) (i : ℕ) (g : Object) → ((k : ℕ) → IsSlot (fs i) k → ⊥) → ((k : ℕ) → IsSlot g k → ⊥) → Bares fs (with_object fs i g) i
bares_at fs i g was is = record {
  others = λ j other. other_at fs i g j other;
  was = was;
  is = λ k s. is k (subst (λ h. IsSlot h k) (same_at fs i g) s);
}
