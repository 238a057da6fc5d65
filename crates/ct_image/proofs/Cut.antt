-- An entry becomes 0: what lies below it is gone, and every other cell keeps its page.
use Rattle.std.proofs.Common.{length, ◌≡◌, ◌≢◌, ℕ, zero, suc, ◌+◌, ◌*◌, ◌/◌, ◌%◌, ◌^◌, ◌<◌, ◌≤◌, List, sym, ap, ◌∙◌, ◌⊎◌, inl, inr, arith}
use Rattle.std.proofs.Math.Nat.{pow-suc}
use Rattle.std.proofs.lemmas.Bool.{cases_eq}
use Rattle.ct_base.specs.Walk.{word, page_count, named_page, next, page_at, ReachesOnce, AreTables, AgreeOff}
use Rattle.ct_image.proofs.Steps.{named_page-zero, next-zero, next-at, next-same, page_at-same_root, page_at-next, page_at-low}

-- Entry i of the table of cell (d, x) becomes 0.
pub record Cuts (old new : List ℕ) (d x i : ℕ) : Type 0 where
  pub tables : AreTables old
  pub depth : d ≤ 3
  pub index : i < 512
  pub table : page_at old d x ≢ 0
  pub entry : word new (page_at old d x * 512 + i) ≡ 0
  pub others : AgreeOff (page_at old d x * 512 + i) old new
  pub size : length new ≡ length old

-- cell (c, a) is on the way to cell (e, y)
abbrev pub OnWay : ℕ → ℕ → ℕ → ℕ → Type 0
OnWay c a zero y = (c ≡ 0) × (a ≡ y)
OnWay c a (suc e) y = ((c ≡ suc e) × (a ≡ y)) ⊎ OnWay c a e (y / 512)

module _ {old new : List ℕ} {d x i : ℕ} (c : Cuts old new d x i) where
  pub same_count : page_count new ≡ page_count old
  same_count = c.others 2 (omega (arith, page_at-low old d x c.table))

  -- what is below the entry has no page now, and what is not has what it had
  pub cut_at : (e y : ℕ) → e ≤ 4 → (OnWay (suc d) (x * 512 + i) e y × (page_at new e y ≡ 0)) ⊎ ((OnWay (suc d) (x * 512 + i) e y → ⊥) × (page_at new e y ≡ page_at old e y))
  cut_at zero y le = inr (λ on. omega (arith, on.0), page_at-same_root old new y)
  cut_at (suc e) y le =
      let table = page_at old d x in
      let q = page_at old e (y / 512) in
      let r = y % 512 in
      elim (cut_at e (y / 512) (omega arith)) [
        | inl gone ↦ inl (inr gone.0, page_at-next new e y ∙ ap (λ t. next new t r) gone.1 ∙ next-zero new r)
        | inr stays ↦ elim (cases_eq (q * 512 + r) (table * 512 + i)) [
          | inl here ↦
              let is : table ≡ q = omega (arith, c.index, here) in
              let cell = c.tables.once d x e (y / 512) (omega (arith, c.depth)) (omega arith) c.table is in
              let at : x * 512 + i ≡ y = omega (arith, cell.1, is, here, c.index) in
              inl (
                inl (ap suc cell.0, at),
                page_at-next new e y ∙ ap (λ t. next new t r) (stays.1 ∙ sym is) ∙ next-at new table r c.table
                    ∙ ap (λ k. named_page (page_count new) k) (ap (word new) (omega (arith, is, here)) ∙ c.entry) ∙ named_page-zero (page_count new),
              )
          | inr off ↦ elim (cases_eq e d) [
            | inl here ↦ elim (cases_eq y (x * 512 + i)) [
              | inl at ↦
                  -- a cell of the entry whose table has no page, which is not so
                  let up : y / 512 ≡ x = omega (arith, at, c.index) in
                  let same_q : q ≡ table = ap (λ k. page_at old k (y / 512)) here ∙ ap (page_at old d) up in
                  absurd (off (omega (arith, same_q, at, c.index)))
              | inr away ↦ inr ((λ on. elim on [ inl cell ↦ away (sym cell.1) | inr above ↦ stays.0 above ]), same off stays.1)
            ]
            | inr other ↦ inr ((λ on. elim on [ inl cell ↦ other (omega (arith, cell.0)) | inr above ↦ stays.0 above ]), same off stays.1)
          ]
        ]
      ]
    where
      same : page_at old e (y / 512) * 512 + y % 512 ≢ page_at old d x * 512 + i → page_at new e (y / 512) ≡ page_at old e (y / 512) → page_at new (suc e) y ≡ page_at old (suc e) y
      same off stay =
          page_at-next new e y ∙ ap (λ t. next new t (y % 512)) stay ∙ next-same old new _ (y % 512) same_count (λ _. c.others _ off) ∙ sym (page_at-next old e y)

  once_new : ReachesOnce new
  once_new e y f z le lf ne is =
      elim (cut_at e y le) [
        | inl gone ↦ absurd (ne gone.1)
        | inr stays ↦ elim (cut_at f z lf) [
          | inl gone ↦ absurd (ne (is ∙ gone.1))
          | inr stays' ↦ c.tables.once e y f z le lf (λ none. ne (stays.1 ∙ none)) (sym stays.1 ∙ is ∙ stays'.1)
        ]
      ]

  entries_new : (e y j : ℕ) → e ≤ 3 → j < 512 → page_at new e y ≢ 0 → next new (page_at new e y) j ≡ 0 → word new (page_at new e y * 512 + j) ≡ 0
  entries_new e y j le lt ne none =
      elim (cut_at e y (omega arith)) [
        | inl gone ↦ absurd (ne gone.1)
        | inr stays ↦
            let q = page_at old e y in
            ap (λ t. word new (t * 512 + j)) stays.1 ∙ elim (cases_eq (q * 512 + j) (page_at old d x * 512 + i)) [
              | inl here ↦ ap (word new) here ∙ c.entry
              | inr off ↦
                  let same = c.others _ off in
                  same ∙ c.tables.entries e y j le lt (λ z. ne (stays.1 ∙ z)) (sym (next-same old new q j same_count (λ _. same)) ∙ ap (λ t. next new t j) (sym stays.1) ∙ none)
            ]
      ]

  pub tables_new : AreTables new
  tables_new =
      record { some = omega (arith, same_count, c.tables.some); there = omega (arith, same_count, c.size, c.tables.there); entries = entries_new; once = once_new }

pub on_way_self : (c a e y : ℕ) → c ≡ e → a ≡ y → OnWay c a e y
on_way_self c a zero y p q = (p, q)
on_way_self c a (suc e) y p q = inl (p, q)

-- a cell below another has it on its way
pub on_way_below : (c a m e y z : ℕ) → e ≡ m + c → z ≡ a * 512 ^ m + y → y < 512 ^ m → OnWay c a e z
on_way_below c a zero e y z p q lt = on_way_self c a e z (omega arith) (omega arith)
on_way_below c a (suc m) zero y z p q lt = absurd (omega arith)
on_way_below c a (suc m) (suc e) y z p q lt =
    let width = pow-suc 512 m in
    inr (on_way_below c a m e (y / 512) (z / 512) (omega arith) (omega (arith, q, width, ap (λ k. a * k) width)) (omega (arith, width)))

-- and a cell that has another on its way lies below it
pub on_way_parts : (c a e z : ℕ) → OnWay c a e z → (m : ℕ) × (r : ℕ) × (e ≡ m + c) × (z ≡ a * 512 ^ m + r) × (r < 512 ^ m)
on_way_parts c a zero z on = (0, 0, omega (arith, on.0), omega (arith, on.1), omega arith)
on_way_parts c a (suc e) z (inl here) = (0, 0, omega (arith, here.0), omega (arith, here.1), omega arith)
on_way_parts c a (suc e) z (inr above) =
    let up = on_way_parts c a e (z / 512) above in
    let m = up.0 in
    let width = pow-suc 512 m in
    (suc m, up.1 * 512 + z % 512, omega (arith, up.2), omega (arith, up.3, width, ap (λ k. a * k) width), omega (arith, up.4, width))
