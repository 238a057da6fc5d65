-- A sound image with empty staging has well formed tables.
use Rattle.std.proofs.Common.{◌≡◌, ◌≢◌, ℕ, zero, suc, ◌+◌, ◌-◌, ◌*◌, ◌/◌, ◌%◌, ◌^◌, ◌<◌, ◌≤◌, Bool, true, false, List, length, refl, sym, ap, ◌∙◌, subst, ◌⊎◌, inl, inr, arith}
use Rattle.std.specs.Prelude.{nat_lt, nat_le, ◌&&◌, ◌||◌}
use Rattle.std.proofs.lemmas.Bool.{cases_eq, cases_lt, lt-ltb, le-leb, and_from}
use Rattle.ct_base.specs.Walk.{word, page_count, named_page, next, page_at}
use Rattle.ct_image.proofs.Steps.{named_page-zero, next-zero, next-at, page_at-root}
use Rattle.ct_base.specs.View.{is_seen}
use Rattle.ct_base.specs.Rules.{IsSeen, entries, once, mapped, Sound}
use Rattle.ct_state.specs.Alike.{IsWhole}
use Rattle.ct_state.proofs.Neutral.{seen-bounds}

pub seen_from : (v : ℕ) → v < 2 ^ 48 → (v < 2 ^ 40) ⊎ (10 * 2 ^ 39 ≤ v) → is_seen v ≡ true
seen_from v high (inl low) = ap (λ b. b || (nat_le (10 * 2 ^ 39) v && nat_lt v (2 ^ 48))) (lt-ltb v (2 ^ 40) low)
seen_from v high (inr up) = or_right (nat_lt v (2 ^ 40)) (nat_le (10 * 2 ^ 39) v && nat_lt v (2 ^ 48)) (and_from _ _ (le-leb (10 * 2 ^ 39) v up) (lt-ltb v (2 ^ 48) high))
  where
    or_right : (a b : Bool) → b ≡ true → (a || b) ≡ true
    or_right true b is = refl
    or_right false b is = is

-- the first address of a cell of each depth
pub down : (d x : ℕ) → 1 ≤ d → d ≤ 3 → IsSeen d (x / 512) → IsSeen (suc d) x
down zero x from to seen = absurd (omega arith)
down (suc zero) x from to seen =
    let v = x / 512 * (4096 * 512 ^ 3) in
    let b : (x / 512 * (4096 * 512 ^ 3) < 2 ^ 48) × ((x / 512 * (4096 * 512 ^ 3) < 2 * 2 ^ 39) ⊎ (10 * 2 ^ 39 ≤ x / 512 * (4096 * 512 ^ 3))) = seen-bounds (x / 512 * (4096 * 512 ^ 3)) seen in
    seen_from (x * (4096 * 512 ^ 2)) (omega (arith, b.0)) (elim b.1 [ inl l ↦ inl (omega arith) | inr r ↦ inr (omega arith) ])
down (suc (suc zero)) x from to seen =
    let v = x / 512 * (4096 * 512 ^ 2) in
    let b : (x / 512 * (4096 * 512 ^ 2) < 2 ^ 48) × ((x / 512 * (4096 * 512 ^ 2) < 2 * 2 ^ 39) ⊎ (10 * 2 ^ 39 ≤ x / 512 * (4096 * 512 ^ 2))) = seen-bounds (x / 512 * (4096 * 512 ^ 2)) seen in
    seen_from (x * (4096 * 512 ^ 1)) (omega (arith, b.0)) (elim b.1 [ inl l ↦ inl (omega arith) | inr r ↦ inr (omega arith) ])
down (suc (suc (suc zero))) x from to seen =
    let v = x / 512 * (4096 * 512 ^ 1) in
    let b : (x / 512 * (4096 * 512 ^ 1) < 2 ^ 48) × ((x / 512 * (4096 * 512 ^ 1) < 2 * 2 ^ 39) ⊎ (10 * 2 ^ 39 ≤ x / 512 * (4096 * 512 ^ 1))) = seen-bounds (x / 512 * (4096 * 512 ^ 1)) seen in
    seen_from (x * (4096 * 512 ^ 0)) (omega (arith, b.0)) (elim b.1 [ inl l ↦ inl (omega arith) | inr r ↦ inr (omega arith) ])
down (suc (suc (suc (suc d)))) x from to seen = absurd (omega arith)

page_at-past : (img : List ℕ) (x : ℕ) → page_at img 0 (suc x) ≡ 0
unfolding page_at
page_at-past img x = refl

module _ (img : List ℕ) (none : (k : ℕ) → k < 8 → word img (33 * 512 + 2 + k) ≡ 0) where
  unset : (i : ℕ) → 2 ≤ i → i < 10 → next img 33 i ≡ 0
  unset i low high =
      next-at img 33 i (omega arith)
      ∙ ap (named_page (page_count img)) (ap (word img) (omega arith) ∙ none (i - 2) (omega arith)) ∙ named_page-zero (page_count img)

  pub cell_seen : (d x : ℕ) → d ≤ 4 → page_at img d x ≢ 0 → IsSeen d x
  unfolding page_at
  cell_seen zero zero le ne = refl
  cell_seen zero (suc x) le ne = absurd (ne refl)
  cell_seen (suc zero) x le ne = top x (cases_eq (x / 512) 0) ne
    where
      top : (x : ℕ) → (x / 512 ≡ 0) ⊎ (x / 512 ≢ 0) → page_at img 1 x ≢ 0 → IsSeen 1 x
      top x (inr other) ne = absurd (ne (out (x / 512) other))
        where
          out : (y : ℕ) → y ≢ 0 → next img (page_at img 0 y) (x % 512) ≡ 0
          out zero other = absurd (other refl)
          out (suc y) other = next-zero img (x % 512)
      top x (inl first) ne =
          let at : page_at img 1 x ≡ next img 33 x = ap (λ y. next img (page_at img 0 y) (x % 512)) first ∙ ap (next img 33) (omega arith) in
          seen_from (x * (4096 * 512 ^ 3)) (omega arith) (elim (cases_lt x 2) [
            | inl low ↦ inl (omega arith)
            | inr two ↦ elim (cases_lt x 10) [ inl high ↦ absurd (ne (at ∙ unset x two high)) | inr ten ↦ inr (omega arith) ]
          ])
  cell_seen (suc (suc d)) x le ne = down (suc d) x (omega arith) (omega arith) (cell_seen (suc d) (x / 512) (omega arith) (λ z. ne (ap (λ t. next img t (x % 512)) z ∙ next-zero img (x % 512))))

  pub whole_of : 34 ≤ page_count img → 512 * page_count img ≤ length img → Sound img → IsWhole img
  whole_of some there sound = record {
    tables = record {
      some = some;
      there = there;
      entries = λ d x i le lt ne gone. elim (cases_eq (word img (page_at img d x * 512 + i)) 0) [ inl z ↦ z | inr set ↦ hard d x i le lt ne gone ];
      once = λ d x e y le lf ne is. sound once d x e y le lf (cell_seen d x le ne) (cell_seen e y lf (λ z. ne (is ∙ z))) ne is;
    };
    mapped = sound mapped;
  }
    where
      -- an entry of a seen cell leads to a seen one, but in the root, where slots 2 to 9 are 0
      hard : (d x i : ℕ) → d ≤ 3 → i < 512 → page_at img d x ≢ 0 → next img (page_at img d x) i ≡ 0 → word img (page_at img d x * 512 + i) ≡ 0
      hard zero x i le lt ne gone = root x ne gone
        where
          root : (x : ℕ) → page_at img 0 x ≢ 0 → next img (page_at img 0 x) i ≡ 0 → word img (page_at img 0 x * 512 + i) ≡ 0
          root zero ne gone = elim (cases_lt i 2) [
            | inl low ↦ sound entries 0 0 i (omega arith) lt (seen_from ((0 * 512 + i) * (4096 * 512 ^ 3)) (omega arith) (inl (omega arith))) ne gone
            | inr two ↦ elim (cases_lt i 10) [
              | inl high ↦ ap (λ t. word img (t * 512 + i)) (page_at-root img) ∙ ap (word img) (omega arith) ∙ none (i - 2) (omega arith)
              | inr ten ↦ sound entries 0 0 i (omega arith) lt (seen_from ((0 * 512 + i) * (4096 * 512 ^ 3)) (omega arith) (inr (omega arith))) ne gone
            ]
          ]
          root (suc x) ne gone = absurd (ne (page_at-past img x))
      hard (suc d) x i le lt ne gone =
          let up : (x * 512 + i) / 512 ≡ x = omega arith in
          sound entries (suc d) x i le lt (down (suc d) (x * 512 + i) (omega arith) le (subst (IsSeen (suc d)) (sym up) (cell_seen (suc d) x (omega arith) ne))) ne gone
