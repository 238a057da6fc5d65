-- A fresh page of zeros is linked into an entry that was 0: each walk that was there stays, and so does each byte.
use Rattle.std.proofs.Common.{◌≡◌, ◌≢◌, ℕ, zero, suc, ◌+◌, ◌*◌, ◌/◌, ◌%◌, ◌^◌, ◌<◌, ◌≤◌, List, sym, ap, ◌∙◌, ◌⊎◌, inl, inr, arith}
use Rattle.std.proofs.lemmas.Bool.{cases_eq}
use Rattle.ct_base.specs.Walk.{word, page_count, named_page, next, page_at, byte_in, byte, IsFresh, ReachesOnce, AreTables}
use Rattle.ct_image.proofs.Steps.{named_page-zero, named_page-made, next-zero, next-at, next-same, page_at-same_root, page_at-next, page_at-entry, page_at-low, walk-cell, byte_in-same, byte_in-zeros}
pub use Rattle.ct_image.specs.Changes.{Links}

module _ {old new : List ℕ} {d x i p : ℕ} (l : Links old new d x i p) where
  pub same_count : page_count new ≡ page_count old
  same_count = l.others 2 (omega (arith, page_at-low old d x l.table))

  made : next new (page_at old d x) i ≡ p
  made =
      next-at new (page_at old d x) i l.table ∙ ap (λ k. named_page (page_count new) k) l.entry
      ∙ named_page-made (page_count new) p l.low (omega (arith, same_count, l.high))

  empty : (j : ℕ) → j < 512 → word new (p * 512 + j) ≡ 0
  empty j lt =
      let other : p ≢ page_at old d x = λ is. l.fresh d x (omega (arith, l.depth)) (sym is) in
      l.others _ (λ here. other (omega (arith, l.index, here))) ∙ l.zeros j lt

  -- what a cell has is what it had, but that the cell of the entry has the page
  pub link_at : (e y : ℕ) → e ≤ 4 → (page_at new e y ≡ page_at old e y) ⊎ ((e ≡ suc d) × (y ≡ x * 512 + i) × (page_at old e y ≡ 0) × (page_at new e y ≡ p))
  link_at zero y le = inl (page_at-same_root old new y)
  link_at (suc e) y le =
      let table = page_at old d x in
      let q = page_at old e (y / 512) in
      let r = y % 512 in
      elim (link_at e (y / 512) (omega arith)) [
        | inl same ↦ elim (cases_eq (q * 512 + r) (table * 512 + i)) [
          | inl here ↦
              let index = l.index in
              let is : table ≡ q = omega arith in
              let cell = l.tables.once d x e (y / 512) (omega (arith, l.depth)) (omega arith) l.table is in
              let at : y ≡ x * 512 + i = omega (arith, cell.1, is, here) in
              inr (
                ap suc (sym cell.0),
                at,
                ap (λ k. page_at old (suc k) y) (sym cell.0) ∙ ap (λ k. page_at old (suc d) k) at ∙ l.absent,
                page_at-next new e y ∙ ap (λ t. next new t r) (same ∙ sym is) ∙ ap (λ k. next new table k) (omega (arith, is, here)) ∙ made,
              )
          | inr off ↦
              inl (page_at-next new e y ∙ ap (λ t. next new t r) same ∙ next-same old new q r same_count (λ _. l.others _ off) ∙ sym (page_at-next old e y))
        ]
        | inr cell ↦
            inl (page_at-next new e y ∙ ap (λ t. next new t r) cell.3 ∙ next-at new p r (omega (arith, l.low))
            ∙ ap (λ k. named_page (page_count new) k) (empty r (omega arith)) ∙ named_page-zero (page_count new)
            ∙ sym (page_at-next old e y ∙ ap (λ t. next old t r) cell.2 ∙ next-zero old r))
      ]

  -- each walk that was there stays
  pub stays : (e y : ℕ) → e ≤ 4 → page_at old e y ≢ 0 → page_at new e y ≡ page_at old e y
  stays e y le ne = elim (link_at e y le) [ inl same ↦ same | inr cell ↦ absurd (ne cell.2) ]

  -- and the cell of the entry has the page
  pub linked : page_at new (suc d) (x * 512 + i) ≡ p
  linked =
      page_at-entry new d x i l.index ∙ ap (λ t. next new t i) (stays d x (omega (arith, l.depth)) l.table) ∙ made

  -- each byte stays
  pub view_stays : (v : ℕ) → v < 2 ^ 48 → byte new v ≡ byte old v
  view_stays v lt =
      let n = v / 4096 in
      let o = v % 4096 in
      let q = page_at old 4 n in
      let same_page : byte_in new (page_at new 4 n) o ≡ byte_in old q o =
      elim (link_at 4 n (omega arith)) [
        | inl same ↦ ap (λ t. byte_in new t o) same ∙ byte_in-same old new q o (λ ne.
            l.others _ (λ here.
            let cell = l.tables.once d x 4 n (omega (arith, l.depth)) (omega arith) l.table (omega (arith, l.index, here)) in
            omega (arith, cell.0, l.depth)))
        | inr cell ↦ ap (λ t. byte_in new t o) cell.3 ∙ byte_in-zeros new p o (empty (o / 8) (omega arith)) ∙ sym (ap (λ t. byte_in old t o) cell.2)
      ] in
      ap (λ t. byte_in new t o) (walk-cell new v lt) ∙ same_page ∙ sym (ap (λ t. byte_in old t o) (walk-cell old v lt))

  -- what no cell had has none now, but the page
  pub fresh_stays : (q : ℕ) → q ≢ p → IsFresh old q → IsFresh new q
  fresh_stays q other fresh e y le is =
      elim (link_at e y le) [
        | inl same ↦ fresh e y le (sym same ∙ is)
        | inr cell ↦ other (sym is ∙ cell.3)
      ]

  once_new : ReachesOnce new
  once_new e y f z le lf ne is =
      elim (link_at e y le) [
        | inl same ↦ elim (link_at f z lf) [
          | inl same' ↦ l.tables.once e y f z le lf (λ none. ne (same ∙ none)) (sym same ∙ is ∙ same')
          | inr cell ↦ absurd (l.fresh e y le (sym same ∙ is ∙ cell.3))
        ]
        | inr cell ↦ elim (link_at f z lf) [
          | inl same ↦ absurd (l.fresh f z lf (sym same ∙ sym is ∙ cell.3))
          | inr cell' ↦ (cell.0 ∙ sym cell'.0, cell.1 ∙ sym cell'.1)
        ]
      ]

  entries_new : (e y j : ℕ) → e ≤ 3 → j < 512 → page_at new e y ≢ 0 → next new (page_at new e y) j ≡ 0 → word new (page_at new e y * 512 + j) ≡ 0
  entries_new e y j le lt ne none =
      let table = page_at old d x in
      let q = page_at old e y in
      elim (link_at e y (omega arith)) [
        | inl same ↦ elim (cases_eq (q * 512 + j) (table * 512 + i)) [
          | inl here ↦
              let is : q ≡ table = omega (arith, l.index) in
              let at : j ≡ i = omega (arith, is, here) in
              absurd (omega (arith, l.low, sym made ∙ ap (λ k. next new table k) (sym at) ∙ ap (λ t. next new t j) (sym is ∙ sym same) ∙ none))
          | inr off ↦
              let word_same = l.others _ off in
              rw same (word_same ∙ l.tables.entries e y j le lt (λ z. ne (same ∙ z))
              (sym (next-same old new q j same_count (λ _. word_same)) ∙ ap (λ t. next new t j) (sym same) ∙ none))
        ]
        | inr cell ↦ rw cell.3 (empty j lt)
      ]

  pub tables_new : AreTables new
  tables_new =
      record { some = omega (arith, same_count, l.tables.some); there = omega (arith, same_count, l.size, l.tables.there); entries = entries_new; once = once_new }
