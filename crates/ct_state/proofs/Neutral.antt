-- Steps that leave what an image stands for.
use Rattle.std.proofs.Common.{◌≡◌, ℕ, ◌+◌, ◌*◌, ◌/◌, ◌%◌, ◌^◌, ◌<◌, ◌≤◌, true, List, sym, ap, ◌∙◌, subst, ◌⊎◌, inl, inr, arith}
use Rattle.std.proofs.lemmas.Bool.{cases_lt}
use Rattle.ct_base.specs.Walk.{page_at, byte, byte_in}
use Rattle.ct_image.proofs.Steps.{walk-cell, byte_in-same, page_at-root}
use Rattle.ct_image.proofs.Cut.{Cuts, cut_at, on_way_parts, tables_new}
use Rattle.ct_base.specs.View.{is_seen, view, inode_count}
use Rattle.ct_base.specs.Rules.{IsMappedInParts}
use Rattle.ct_state.specs.Alike.{Alike, IsWhole}
use Rattle.ct_state.proofs.Carry.{view-same}

pub seen-bounds : (v : ℕ) → is_seen v ≡ true → (v < 2 ^ 48) × ((v < 2 * 2 ^ 39) ⊎ (10 * 2 ^ 39 ≤ v))
seen-bounds v seen = (grind arith, elim (cases_lt v (2 * 2 ^ 39)) [ inl lt ↦ inl lt | inr ge ↦ inr (grind arith) ])

-- a root slot from 2 to 9 is set to 0
module _ {old new : List ℕ} {s : ℕ} (c : Cuts old new 0 0 s) (low : 2 ≤ s) (high : s ≤ 9) where
  -- pages of other slots stay
  pub cut_page : (p : ℕ) → (p < 2 * 2 ^ 27) ⊎ (10 * 2 ^ 27 ≤ p) → page_at new 4 p ≡ page_at old 4 p
  cut_page p seen = elim (cut_at c 4 p (omega arith)) [
    | inl gone ↦
        let at = on_way_parts 1 (0 * 512 + s) 4 p gone.0 in
        let three : at.0 ≡ 3 = omega (arith, at.2) in
        let width : 512 ^ at.0 ≡ 2 ^ 27 = ap (λ k. 512 ^ k) three in
        let prod : (0 * 512 + s) * 512 ^ at.0 ≡ s * 2 ^ 27 = ap (λ k. (0 * 512 + s) * k) width ∙ omega arith in
        absurd (elim seen [ inl below ↦ omega (arith, at.3, at.4, width, prod) | inr above ↦ omega (arith, at.3, at.4, width, prod) ])
    | inr stays ↦ stays.1
  ]

  root_page : page_at old 0 0 ≡ 33
  root_page = page_at-root old

  pub cut_byte : (v : ℕ) → is_seen v ≡ true → byte new v ≡ byte old v
  cut_byte v seen =
      let b = seen-bounds v seen in
      let n = v / 4096 in
      let o = v % 4096 in
      ap (λ t. byte_in new t o) (walk-cell new v b.0 ∙ cut_page n (elim b.1 [ inl l ↦ inl (omega arith) | inr r ↦ inr (omega arith) ]))
      ∙ byte_in-same old new (page_at old 4 n) o (λ ne. c.others _ (λ here.
      omega (arith, (c.tables.once 4 n 0 0 (omega arith) (omega arith) ne (omega (arith, here, c.index))).0)))
      ∙ sym (ap (λ t. byte_in old t o) (walk-cell old v b.0))

  pub cut_alike : Alike old new
  cut_alike = record { bytes = view-same old new cut_byte; inodes = c.others 3 (omega (arith, root_page)) }

  pub cut_whole : IsWhole old → IsWhole new
  cut_whole w = record {
    tables = tables_new c;
    mapped = subst (λ b. IsMappedInParts new b (inode_count new)) (sym cut_alike.bytes) (subst (λ k. IsMappedInParts new (view old) k) (sym cut_alike.inodes) (λ p from out.
        cut_page p (inr from) ∙ w.mapped p from out));
  }
