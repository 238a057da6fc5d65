-- The tables of a write that grows its file: three wants, of which growth brings the first where it lies below the end of
-- the old partition.
use Rattle.std.proofs.Common.{◌≡◌, ℕ, zero, suc, ◌+◌, ◌-◌, ◌*◌, ◌/◌, ◌%◌, ◌^◌, ◌<◌, ◌≤◌, true, false, List, [], ◌∷◌, ◌⊎◌, map, length, get_or, refl, sym, ap, subst, ◌∙◌, inl, inr, arith}
use Rattle.std.specs.Prelude.{max, ◌&&◌, ◌||◌, nat_lt, nat_le, Contains}
use Rattle.std.proofs.lemmas.Bool.{cases_lt, le-leb, lt-leb, lt-ltb, le-ltb, and_from, and_left, and_right, or_cases, or_left, or_right, false≢true, cond-true, cond-false}
use Rattle.std.proofs.lemmas.List.Elements.{All-contains}
use Rattle.std.proofs.lemmas.Nat.{pow-add}
use Rattle.std.proofs.Math.Nat.{add-mod, add-mod_right, div-add-mod, one-le-pow, pow-suc}
use Rattle.ct_base.specs.declared.inode.Inode.{Inode}
use Rattle.ct_base.specs.Inode.{Partition, part_bytes}
use Rattle.ct_base.specs.Pieces.{pieces, IsBlock}
use Rattle.ct_base.specs.Plan.{table_want, side_wants, counted}
use Rattle.ct_base.specs.Wants.{Want, is_on_path, is_wanted}
use Rattle.ct_pieces.proofs.Steps.{width_pos}
use Rattle.ct_pieces.proofs.Least.{next_multiple}
use Rattle.ct_plan.specs.Few.{alike, edge, stays_from, few_table_wants}
use Rattle.ct_plan.proofs.Blocks.{multiple_of, lower_of, multiple, lower, alike-is, IsPiece, pieces_are, pieces_cover}
use Rattle.ct_plan.proofs.Short.{same_truth, InCell, table_on, on_table, piece_side, inside_cell, begins_inside, other_side, edge_most, edge_is, side_says, first_on, last_on}

-- ---- wants that are changed one by one

mapped_piece : (g : Want → Want) (a : ℕ) (ps : List (ℕ × ℕ)) (d x : ℕ) → is_wanted (map g (side_wants a ps)) d x ≡ true
    → (piece : ℕ × ℕ) × Contains ps piece × (is_on_path d x (g (table_want (piece.1 + 1) ((a + piece.0) * 4096))) ≡ true)
mapped_piece g a [] d x wanted = absurd (false≢true wanted)
mapped_piece g a (p ∷ ps) d x wanted = elim (or_cases (is_on_path d x (g (table_want (p.1 + 1) ((a + p.0) * 4096)))) (is_wanted (map g (side_wants a ps)) d x) wanted) [
  | inl on ↦ (p, (0, omega arith, refl), on)
  | inr later ↦
      let rest = mapped_piece g a ps d x later in
      let c = rest.1 in
      (rest.0, (suc c.0, omega (arith, c.1), c.2), rest.2)
]

piece_mapped : (g : Want → Want) (a : ℕ) (ps : List (ℕ × ℕ)) (d x : ℕ) (piece : ℕ × ℕ) (i : ℕ) → i < length ps → get_or ps i piece ≡ piece
    → is_on_path d x (g (table_want (piece.1 + 1) ((a + piece.0) * 4096))) ≡ true → is_wanted (map g (side_wants a ps)) d x ≡ true
piece_mapped g a [] d x piece i within is on = absurd (omega arith)
piece_mapped g a (p ∷ ps) d x piece zero within is on =
    or_left _ _ (subst (λ (q : ℕ × ℕ). is_on_path d x (g (table_want (q.1 + 1) ((a + q.0) * 4096))) ≡ true) (sym is) on)
piece_mapped g a (p ∷ ps) d x piece (suc i) within is on =
    or_right (is_on_path d x (g (table_want (p.1 + 1) ((a + p.0) * 4096)))) _ (piece_mapped g a ps d x piece i (omega arith) is on)

-- ---- a partition that moves

-- An old partition that lies at page `from` comes to page `to`, which begins a longer partition.
pub record IsMove (f : Inode) (new : Partition) (from to : ℕ) : Type 0 where
  pub level : f.level ≤ 9
  pub old_base : f.base ≡ from * 4096
  pub new_base : new.base ≡ to * 4096
  pub old_aligned : from % 8 ^ f.level ≡ 0
  pub new_aligned : to % 8 ^ (f.level + 1) ≡ 0

-- a block's width is a power of 8
eights : (k : ℕ) → 512 ^ k ≡ 8 ^ (3 * k)
eights zero = refl
eights (suc k) =
    let three : 3 * suc k ≡ 3 + 3 * k = omega arith in
    let rest = eights k in
    let one : 512 ^ suc k ≡ 512 * 512 ^ k = omega (arith, pow-suc 512 k) in
    one ∙ ap (λ n. 512 * n) rest ∙ sym (pow-add 8 3 (3 * k)) ∙ ap (λ n. 8 ^ n) (sym three)

-- what lies in a range of a width, in cells that are multiples of it, has the whole range beside it
around : (w s l u p : ℕ) → 0 < w → s % w ≡ 0 → l % w ≡ 0 → u % w ≡ 0 → l ≤ p → p < u → s ≤ p → p < s + w → (l ≤ s) × (s + w ≤ u)
around w s l u p some es el eu lp pu sp ps = (
  elim (cases_lt s l) [ inl less ↦ absurd (omega (arith, next_multiple w s l some es el less)) | inr ok ↦ ok ],
  next_multiple w s u some es eu (omega arith),
)

-- a cell moved by a distance that is a multiple of its width
shifted : (w x from to : ℕ) → 0 < w → from % w ≡ 0 → to % w ≡ 0 → from ≤ x * w → (y : ℕ) × (y * w + from ≡ x * w + to)
shifted w x from to some ef et le =
    let p = from / w in
    let q = to / w in
    let one = div-add-mod from w in
    let two = div-add-mod to w in
    elim (cases_lt x p) [
      | inl less ↦ absurd (omega (arith, one, ef, le, below w x p less, some))
      | inr more ↦
          let e : x ≡ (x - p) + p = omega arith in
          (q + (x - p), parts w x p q (x - p) from to e (omega (arith, one, ef)) (omega (arith, two, et)))
    ]
  where
    below : (w x p : ℕ) → x < p → x * w + w ≤ w * p
    below w x p lt = let m : (x + 1) * w ≤ p * w = Rattle.std.proofs.Math.Nat.mul-le-mul_right w (omega arith) in omega (arith, m)

    parts : (w x p q z from to : ℕ) → x ≡ z + p → w * p ≡ from → w * q ≡ to → (q + z) * w + from ≡ x * w + to
    parts w x p q z from to e f t = omega (arith, ap (λ n. n * w) e, f, t)

module _ {f : Inode} {new : Partition} {from to : ℕ} (m : IsMove f new from to) where
  counted_moves : (k p : ℕ) → k ≤ f.level / 3 → to ≤ p → p < to + 8 ^ f.level → counted f new (table_want k (p * 4096)) ≡ table_want k ((p - to + from) * 4096)
  counted_moves k p low first last =
      let one = m.old_base in
      let two = m.new_base in
      let at : p * 4096 - new.base + f.base ≡ (p - to + from) * 4096 = omega (arith, one, two, first) in
      cond-true ((nat_le f.level 9 && nat_le k (f.level / 3)) && (nat_le new.base (p * 4096) && nat_lt (p * 4096) (new.base + part_bytes f.level)))
      (table_want k (p * 4096 - new.base + f.base)) (table_want k (p * 4096))
      (and_from _ _ (and_from _ _ (le-leb f.level 9 m.level) (le-leb k (f.level / 3) low))
      (and_from _ _ (le-leb new.base (p * 4096) (omega (arith, two, first))) (lt-ltb (p * 4096) (new.base + part_bytes f.level) (omega (arith, two, last)))))
      ∙ ap (λ v. table_want k v) at

  counted_stays : (k p : ℕ) → (f.level / 3 < k) ⊎ (to + 8 ^ f.level ≤ p) → counted f new (table_want k (p * 4096)) ≡ table_want k (p * 4096)
  counted_stays k p out =
      let two = m.new_base in
      cond-false ((nat_le f.level 9 && nat_le k (f.level / 3)) && (nat_le new.base (p * 4096) && nat_lt (p * 4096) (new.base + part_bytes f.level)))
      (table_want k (p * 4096 - new.base + f.base)) (table_want k (p * 4096))
      (elim out [
        | inl high ↦ and_left _ _ (and_right (nat_le f.level 9) _ (lt-leb k (f.level / 3) high))
        | inr past ↦ and_right (nat_le f.level 9 && nat_le k (f.level / 3)) _ (and_right (nat_le new.base (p * 4096)) _ (le-ltb (p * 4096) (new.base + part_bytes f.level) (omega (arith, two, past))))
      ])

  stays_is : stays_from f ≡ f.level / 3 + 1
  stays_is = cond-true (nat_le f.level 9) (f.level / 3 + 1) 0 (le-leb f.level 9 m.level)

  -- low blocks begin with the partitions, and end with the old one
  from_low : (h : ℕ) → h ≤ f.level / 3 → from % 512 ^ h ≡ 0
  from_low h low = ap (λ w. from % w) (eights h) ∙ lower_of 8 (3 * h) f.level from (omega (arith, low)) m.old_aligned

  to_low : (h : ℕ) → h ≤ f.level / 3 → to % 512 ^ h ≡ 0
  to_low h low = ap (λ w. to % w) (eights h) ∙ lower_of 8 (3 * h) (f.level + 1) to (omega (arith, low)) m.new_aligned

  end_low : (h : ℕ) → h ≤ f.level / 3 → (to + 8 ^ f.level) % 512 ^ h ≡ 0
  end_low h low =
      let end : (to + 8 ^ f.level) % 8 ^ f.level ≡ 0 = add-mod_right to (8 ^ f.level) ∙ lower_of 8 f.level (f.level + 1) to (omega arith) m.new_aligned in
      ap (λ w. (to + 8 ^ f.level) % w) (eights h) ∙ lower_of 8 (3 * h) f.level (to + 8 ^ f.level) (omega (arith, low)) end

  -- high cells have whole partitions
  cell_high : (k h x : ℕ) → k ≤ f.level + 1 → f.level / 3 < h → (x * 512 ^ h) % 8 ^ k ≡ 0
  cell_high k h x low high = ap (λ w. (x * w) % 8 ^ k) (eights h) ∙ multiple_of 8 x k (3 * h) (omega (arith, low, high))

  around_old : (h x p : ℕ) → f.level / 3 < h → x * 512 ^ h ≤ p → p < x * 512 ^ h + 512 ^ h → from ≤ p → p < from + 8 ^ f.level
      → (x * 512 ^ h ≤ from) × (from + 8 ^ f.level ≤ x * 512 ^ h + 512 ^ h)
  around_old h x p high lp pu sp ps =
      let next : x * 512 ^ h + 512 ^ h ≡ (x + 1) * 512 ^ h = omega arith in
      around (8 ^ f.level) from (x * 512 ^ h) (x * 512 ^ h + 512 ^ h) p (one-le-pow f.level 8 (omega arith)) m.old_aligned
      (cell_high f.level h x (omega arith) high) (ap (λ n. n % 8 ^ f.level) next ∙ cell_high f.level h (x + 1) (omega arith) high) lp pu sp ps

  -- a high cell with a page of the old partition's place has the page after that place
  around_new : (h x p : ℕ) → f.level / 3 < h → x * 512 ^ h ≤ p → p < x * 512 ^ h + 512 ^ h → to ≤ p → p < to + 8 ^ f.level
      → (x * 512 ^ h ≤ to) × (to + 8 ^ f.level < x * 512 ^ h + 512 ^ h)
  around_new h x p high lp pu sp ps =
      let next : x * 512 ^ h + 512 ^ h ≡ (x + 1) * 512 ^ h = omega arith in
      let some = one-le-pow f.level 8 (omega arith) in
      let eight : 8 ^ (f.level + 1) ≡ 8 * 8 ^ f.level = pow-add 8 f.level 1 ∙ omega arith in
      let both = around (8 ^ (f.level + 1)) to (x * 512 ^ h) (x * 512 ^ h + 512 ^ h) p (one-le-pow (f.level + 1) 8 (omega arith)) m.new_aligned
      (cell_high (f.level + 1) h x (omega arith) high) (ap (λ n. n % 8 ^ (f.level + 1)) next ∙ cell_high (f.level + 1) h (x + 1) (omega arith) high) lp pu sp (omega (arith, ps, eight)) in
      (both.0, omega (arith, both.1, eight, some))

-- a cell above an end that it has strictly inside is not under that end's edge
edge_under : (top h x p : ℕ) → x * 512 ^ h < p → p < x * 512 ^ h + 512 ^ h → edge top p ≤ h
edge_under top h x p from to = elim (cases_lt h (edge top p)) [
  | inl under ↦ absurd (inside_cell x h p from to (edge_is top h p under))
  | inr over ↦ over
]

module _ {f : Inode} {new : Partition} {from to : ℕ} (m : IsMove f new from to) (a b n : ℕ) (same : alike 3 a b ≡ 3) (some : 1 ≤ n) (first : to ≤ a) (past : to + 8 ^ f.level < a + n) where
  -- a piece that has the old partition's end strictly inside is higher than what growth brings
  crossing : (piece : ℕ × ℕ) → IsBlock a b n piece → a + piece.0 < to + 8 ^ f.level → to + 8 ^ f.level < a + piece.0 + 512 ^ piece.1 → f.level / 3 < piece.1
  crossing piece block before after = elim (cases_lt (f.level / 3) piece.1) [
    | inl high ↦ high
    | inr low ↦ absurd (omega (arith, next_multiple (512 ^ piece.1) (a + piece.0) (to + 8 ^ f.level) (width_pos piece.1) block.first (end_low m piece.1 low) before))
  ]

  -- a low cell with a lower piece below that end is cut by the first page
  cut_at : (piece : ℕ × ℕ) (i : ℕ) → i < length (pieces a b n) → get_or (pieces a b n) i piece ≡ piece → a + piece.0 < to + 8 ^ f.level
      → (d y : ℕ) → piece.1 < 4 - d → 4 - d ≤ f.level / 3 → InCell d y (a + piece.0) → y * 512 ^ (4 - d) < a
  cut_at piece i within is before d y low high cell =
      let top = m.level in
      let t = side_says a b n d y (piece_side a (pieces a b n) d y piece i within is (omega (arith, low)) cell) in
      elim t.part [
        | inl over ↦ absurd (omega (arith, over, same, high, top))
        | inr cut ↦ elim cut [
          | inl left ↦ left
          | inr right ↦
              let end = next_multiple (512 ^ (4 - d)) (y * 512 ^ (4 - d)) (to + 8 ^ f.level) (width_pos (4 - d)) (multiple y (4 - d) (4 - d) (omega arith)) (end_low m (4 - d) high) (omega (arith, cell.from, before)) in
              absurd (omega (arith, end, right, past))
        ]
      ]

  -- the same, by the height
  cut_height : (piece : ℕ × ℕ) (i : ℕ) → i < length (pieces a b n) → get_or (pieces a b n) i piece ≡ piece → a + piece.0 < to + 8 ^ f.level
      → (h y : ℕ) → piece.1 < h → h ≤ f.level / 3 → y * 512 ^ h ≤ a + piece.0 → a + piece.0 < y * 512 ^ h + 512 ^ h → y * 512 ^ h < a
  cut_height piece i within is before h y =
      let top = m.level in
      let go = λ (low : piece.1 < 4 - (4 - h)) (high : 4 - (4 - h) ≤ f.level / 3) (lp : y * 512 ^ (4 - (4 - h)) ≤ a + piece.0) (pu : a + piece.0 < y * 512 ^ (4 - (4 - h)) + 512 ^ (4 - (4 - h))).
      cut_at piece i within is before (4 - h) y low high (record { from = lp; to = pu }) in
      elim (cases_lt 4 h) [
        | inl over ↦ λ low high lp pu. absurd (omega (arith, over, high, top))
        | inr ok ↦
            let e : 4 - (4 - h) ≡ h = omega (arith, ok) in
            subst (λ (w : ℕ). piece.1 < w → w ≤ f.level / 3 → y * 512 ^ w ≤ a + piece.0 → a + piece.0 < y * 512 ^ w + 512 ^ w → y * 512 ^ w < a) e go
      ]

  -- what a want that growth brings wants, the first one does
  moved_few : (d x : ℕ) (piece : ℕ × ℕ) (i : ℕ) → i < length (pieces a b n) → get_or (pieces a b n) i piece ≡ piece → piece.1 + 1 ≤ f.level / 3 → a + piece.0 < to + 8 ^ f.level
      → is_on_path d x (counted f new (table_want (piece.1 + 1) ((a + piece.0) * 4096))) ≡ true → is_on_path d x (counted f new (table_want (edge 3 a) (a * 4096))) ≡ true
  moved_few d x piece i within is low before on =
      let moved = counted_moves m (piece.1 + 1) (a + piece.0) low (omega (arith, first)) before in
      let cell = on_table d x (piece.1 + 1) (a + piece.0 - to + from) (subst (λ (w : Want). is_on_path d x w ≡ true) moved on) in
      let begins : a < to + 8 ^ f.level = omega (arith, before) in
      let ends : edge 3 a ≤ f.level / 3 → d + edge 3 a ≤ 4 → InCell d x (a - to + from) → is_on_path d x (counted f new (table_want (edge 3 a) (a * 4096))) ≡ true =
      λ short high in_cell. subst (λ (w : Want). is_on_path d x w ≡ true) (sym (counted_moves m (edge 3 a) a short first begins)) (table_on d x (edge 3 a) (a - to + from) high in_cell) in
      let from_cell = cell.1.from in
      let to_cell = cell.1.to in
      elim (cases_lt (f.level / 3) (4 - d)) [
        | inr inner ↦
            let ef = from_low m (4 - d) inner in
            let et = to_low m (4 - d) inner in
            let above : from ≤ x * 512 ^ (4 - d) = elim (cases_lt (x * 512 ^ (4 - d)) from) [
              | inl less ↦ absurd (omega (arith, next_multiple (512 ^ (4 - d)) (x * 512 ^ (4 - d)) from (width_pos (4 - d)) (multiple x (4 - d) (4 - d) (omega arith)) ef less, to_cell))
              | inr ok ↦ ok
            ] in
            let s = shifted (512 ^ (4 - d)) x from to (width_pos (4 - d)) ef et above in
            let y = s.0 in
            let e : y * 512 ^ (4 - d) + from ≡ x * 512 ^ (4 - d) + to = s.1 in
            let cut = cut_height piece i within is before (4 - d) y (omega (arith, cell.0)) inner (omega (arith, e, from_cell, first)) (omega (arith, e, to_cell, first)) in
            let under = edge_under 3 (4 - d) y a cut (omega (arith, e, to_cell, first)) in
            ends (omega (arith, under, inner)) (omega (arith, under, cell.0)) (record { from = omega (arith, e, cut, first); to = omega (arith, to_cell, first) })
        | inl outer ↦
            let h = f.level / 3 in
            let y = (a + piece.0) / 512 ^ h in
            let div = div-add-mod (a + piece.0) (512 ^ h) in
            let rem = Rattle.std.proofs.Math.Nat.mod-lt (a + piece.0) (width_pos h) in
            let low_end : y * 512 ^ h ≤ a + piece.0 = omega (arith, div) in
            let high_end : a + piece.0 < y * 512 ^ h + 512 ^ h = omega (arith, div, rem) in
            let cut = cut_height piece i within is before h y (omega (arith, low)) (omega arith) low_end high_end in
            let under = edge_under 3 h y a cut (omega (arith, high_end)) in
            let wide = around_old m (4 - d) x (a + piece.0 - to + from) outer from_cell to_cell (omega arith) (omega (arith, before, first)) in
            ends under (omega (arith, under, outer)) (record { from = omega (arith, wide.0); to = omega (arith, wide.1, begins, first) })
      ]

  -- what another want wants, one of the others does, or the first where growth does not bring it
  stayed_few : (d x : ℕ) (piece : ℕ × ℕ) (i : ℕ) → 1 ≤ d → i < length (pieces a b n) → get_or (pieces a b n) i piece ≡ piece → (f.level / 3 < piece.1 + 1) ⊎ (to + 8 ^ f.level ≤ a + piece.0)
      → is_on_path d x (counted f new (table_want (piece.1 + 1) ((a + piece.0) * 4096))) ≡ true → is_wanted (few_table_wants f new a n) d x ≡ true
  stayed_few d x piece i deep within is out on =
      let stayed = counted_stays m (piece.1 + 1) (a + piece.0) out in
      let cell = on_table d x (piece.1 + 1) (a + piece.0) (subst (λ (w : Want). is_on_path d x w ≡ true) stayed on) in
      let t = side_says a b n d x (piece_side a (pieces a b n) d x piece i within is cell.0 cell.1) in
      let p1 = is_on_path d x (counted f new (table_want (edge 3 a) (a * 4096))) in
      let p2 = is_on_path d x (table_want (max (stays_from f) (edge 3 a)) (a * 4096)) in
      let p3 = is_on_path d x (table_want (edge 3 (a + n)) ((a + n - 1) * 4096)) in
      let from_cell = cell.1.from in
      let to_cell = cell.1.to in
      elim t.part [
        | inl over ↦ absurd (omega (arith, over, same, deep))
        | inr cut ↦ elim cut [
          | inl left ↦
              let in_cell : InCell d x a = record { from = omega (arith, left); to = t.to } in
              let under = edge_under 3 (4 - d) x a left t.to in
              elim (cases_lt (f.level / 3) (4 - d)) [
                | inl outer ↦ or_right p1 (p2 || (p3 || false)) (or_left p2 (p3 || false) (table_on d x (max (stays_from f) (edge 3 a)) a
                    (omega (arith, stays_is m, outer, under)) in_cell))
                | inr inner ↦
                    let past_end : to + 8 ^ f.level ≤ a + piece.0 = elim out [ inl high ↦ absurd (omega (arith, high, cell.0, inner)) | inr ok ↦ ok ] in
                    let begins : to + 8 ^ f.level ≤ x * 512 ^ (4 - d) = elim (cases_lt (x * 512 ^ (4 - d)) (to + 8 ^ f.level)) [
                      | inl less ↦ absurd (omega (arith, next_multiple (512 ^ (4 - d)) (x * 512 ^ (4 - d)) (to + 8 ^ f.level) (width_pos (4 - d)) (multiple x (4 - d) (4 - d) (omega arith)) (end_low m (4 - d) inner) less, past_end, to_cell))
                      | inr ok ↦ ok
                    ] in
                    or_left p1 (p2 || (p3 || false)) (subst (λ (w : Want). is_on_path d x w ≡ true) (sym (counted_stays m (edge 3 a) a (inr (omega (arith, begins, left)))))
                    (first_on a b n d x 3 (inr left) in_cell))
              ]
          | inr right ↦ or_right p1 (p2 || (p3 || false)) (or_right p2 (p3 || false) (or_left p3 false (last_on a b n d x 3 some (inr right)
              (record { from = omega (arith, t.from); to = omega (arith, right) }))))
        ]
      ]

  tables_from : (d x : ℕ) → 1 ≤ d → is_wanted (map (counted f new) (side_wants a (pieces a b n))) d x ≡ true → is_wanted (few_table_wants f new a n) d x ≡ true
  tables_from d x deep wanted =
      let found = mapped_piece (counted f new) a (pieces a b n) d x wanted in
      let piece = found.0 in
      let c = found.1 in
      elim (cases_lt (f.level / 3) (piece.1 + 1)) [
        | inl high ↦ stayed_few d x piece c.0 deep c.1 c.2 (inl high) found.2
        | inr low ↦ elim (cases_lt (a + piece.0) (to + 8 ^ f.level)) [
          | inl before ↦ or_left (is_on_path d x (counted f new (table_want (edge 3 a) (a * 4096)))) _ (moved_few d x piece c.0 c.1 c.2 low before found.2)
          | inr past_end ↦ stayed_few d x piece c.0 deep c.1 c.2 (inr past_end) found.2
        ]
      ]

  -- what a want of a piece wants that growth does not bring
  piece_stays : (d x : ℕ) (piece : ℕ × ℕ) (i : ℕ) → i < length (pieces a b n) → get_or (pieces a b n) i piece ≡ piece → (f.level / 3 < piece.1 + 1) ⊎ (to + 8 ^ f.level ≤ a + piece.0)
      → d + (piece.1 + 1) ≤ 4 → InCell d x (a + piece.0) → is_wanted (map (counted f new) (side_wants a (pieces a b n))) d x ≡ true
  piece_stays d x piece i within is out high cell =
      piece_mapped (counted f new) a (pieces a b n) d x piece i within is
      (subst (λ (w : Want). is_on_path d x w ≡ true) (sym (counted_stays m (piece.1 + 1) (a + piece.0) out)) (table_on d x (piece.1 + 1) (a + piece.0) high cell))

  -- a piece with a page past the old partition's place is one that growth does not bring
  stays_past : (piece : ℕ × ℕ) → IsBlock a b n piece → to + 8 ^ f.level < a + piece.0 + 512 ^ piece.1 → (f.level / 3 < piece.1 + 1) ⊎ (to + 8 ^ f.level ≤ a + piece.0)
  stays_past piece block past_end = elim (cases_lt (a + piece.0) (to + 8 ^ f.level)) [
    | inl before ↦ inl (omega (arith, crossing piece block before past_end))
    | inr ok ↦ inr ok
  ]

  -- the piece at the first page is lower than the edge there
  record First : Type 0 where
    piece : ℕ × ℕ
    i : ℕ
    within : i < length (pieces a b n)
    is : get_or (pieces a b n) i piece ≡ piece
    known : IsPiece a b n piece
    at : a + piece.0 ≡ a
    under : piece.1 < edge 3 a

  first_piece : First
  first_piece =
      let found = pieces_cover a b n 0 (omega (arith, some)) in
      let piece = found.0 in
      let c = found.1 in
      let known = All-contains (IsPiece a b n) (pieces a b n) piece (pieces_are a b n) c in
      let at : a + piece.0 ≡ a = omega (arith, found.2) in
      record {
        piece = piece;
        i = c.0;
        within = c.1;
        is = c.2;
        known = known;
        at = at;
        under = edge_most 3 piece.1 a known.block.height (ap (λ p. p % 512 ^ piece.1) (sym at) ∙ known.block.first);
      }

  -- what the first table wants at a, where growth does not bring it
  first_stays : (d x : ℕ) → (f.level / 3 < edge 3 a) ⊎ (to + 8 ^ f.level ≤ a) → d + edge 3 a ≤ 4 → InCell d x a → is_wanted (map (counted f new) (side_wants a (pieces a b n))) d x ≡ true
  first_stays d x out high cell =
      let q = first_piece in
      let at = q.at in
      let under = q.under in
      piece_stays d x q.piece q.i q.within q.is
      (elim (cases_lt a (to + 8 ^ f.level)) [
        | inr past_end ↦ inr (omega (arith, at, past_end))
        | inl before ↦ elim out [
          | inr past_end ↦ inr (omega (arith, at, past_end))
          | inl over ↦
              let h = f.level / 3 in
              let whole = edge_is 3 h a over in
              let end = next_multiple (512 ^ h) a (to + 8 ^ f.level) (width_pos h) whole (end_low m h (omega arith)) before in
              let zero_off : a + 0 ≡ a = omega arith in
              let one : (a + 0) % 512 ^ h ≡ 0 = ap (λ p. p % 512 ^ h) zero_off ∙ whole in
              let alike_h = Rattle.ct_plan.proofs.Blocks.alike_lower h (alike 3 a b) a b (omega (arith, same, m.level)) (alike-is 3 a b) in
              let block : IsBlock a b n (0, h) = record {
                height = omega (arith, m.level);
                first = one;
                second = other_side a b 0 (512 ^ h) alike_h one;
                inside = omega (arith, end, past);
              } in
              inl (omega (arith, q.known.greatest 0 h block (omega arith) (omega (arith, at, width_pos h))))
        ]
      ])
      (omega (arith, under, high))
      (record { from = omega (arith, at, cell.from); to = omega (arith, at, cell.to) })

  -- a high cell that the first page cuts, below the old partition's end
  second_wanted : (d x : ℕ) → 1 ≤ d → a < to + 8 ^ f.level → f.level / 3 < 4 - d → edge 3 a ≤ 4 - d → InCell d x a → is_wanted (map (counted f new) (side_wants a (pieces a b n))) d x ≡ true
  second_wanted d x deep before outer under cell =
      let t = to + 8 ^ f.level in
      let o = t - a in
      let low_end = cell.from in
      let high_end = cell.to in
      let left : x * 512 ^ (4 - d) < a = elim (cases_lt (x * 512 ^ (4 - d)) a) [
        | inl ok ↦ ok
        | inr not ↦
            let at : a ≡ x * 512 ^ (4 - d) = omega (arith, not, low_end) in
            absurd (omega (arith, under, edge_most 3 (4 - d) a (omega (arith, deep)) (ap (λ p. p % 512 ^ (4 - d)) at ∙ multiple x (4 - d) (4 - d) (omega arith))))
      ] in
      let wide = around_new m (4 - d) x a outer low_end high_end first before in
      let found = pieces_cover a b n o (omega (arith, past, before)) in
      let piece = found.0 in
      let c = found.1 in
      let block = (All-contains (IsPiece a b n) (pieces a b n) piece (pieces_are a b n) c).block in
      let from_o = found.2 in
      let to_o = found.3 in
      let low : piece.1 < 4 - d = elim (cases_lt piece.1 (4 - d)) [
        | inl ok ↦ ok
        | inr over ↦
            let whole = lower (4 - d) piece.1 (a + piece.0) over block.first in
            absurd (omega (arith, next_multiple (512 ^ (4 - d)) (x * 512 ^ (4 - d)) (a + piece.0) (width_pos (4 - d)) (multiple x (4 - d) (4 - d) (omega arith)) whole (omega (arith, left)), from_o, wide.1, before))
      ] in
      let begins = begins_inside x piece.1 (4 - d) (a + piece.0) t (omega (arith, low)) block.first (omega (arith, from_o, before)) (omega (arith, to_o, before)) (omega (arith, left, before)) in
      piece_stays d x piece c.0 c.1 c.2 (stays_past piece block (omega (arith, to_o, before))) (omega (arith, low)) (record { from = begins; to = omega (arith, from_o, wide.1, before) })

  last_wanted : (d x : ℕ) → d + edge 3 (a + n) ≤ 4 → InCell d x (a + n - 1) → is_wanted (map (counted f new) (side_wants a (pieces a b n))) d x ≡ true
  last_wanted d x high cell =
      let found = pieces_cover a b n (n - 1) (omega (arith, some)) in
      let piece = found.0 in
      let c = found.1 in
      let block = (All-contains (IsPiece a b n) (pieces a b n) piece (pieces_are a b n) c).block in
      let from_o = found.2 in
      let to_o = found.3 in
      let end : a + piece.0 + 512 ^ piece.1 ≡ a + n = omega (arith, to_o, block.inside, some) in
      let whole : (a + n) % 512 ^ piece.1 ≡ 0 = ap (λ p. p % 512 ^ piece.1) (sym end) ∙ add-mod_right (a + piece.0) (512 ^ piece.1) ∙ block.first in
      let under = edge_most 3 piece.1 (a + n) block.height whole in
      let begins = begins_inside x piece.1 (4 - d) (a + piece.0) (a + n - 1) (omega (arith, under, high)) block.first (omega (arith, from_o, some)) (omega (arith, to_o, some)) cell.from in
      piece_stays d x piece c.0 c.1 c.2 (stays_past piece block (omega (arith, end, past))) (omega (arith, under, high)) (record { from = begins; to = omega (arith, cell.to, from_o, some) })

  from_tables : (d x : ℕ) → 1 ≤ d → is_wanted (few_table_wants f new a n) d x ≡ true → is_wanted (map (counted f new) (side_wants a (pieces a b n))) d x ≡ true
  from_tables d x deep wanted =
      let p1 = is_on_path d x (counted f new (table_want (edge 3 a) (a * 4096))) in
      let p2 = is_on_path d x (table_want (max (stays_from f) (edge 3 a)) (a * 4096)) in
      let p3 = is_on_path d x (table_want (edge 3 (a + n)) ((a + n - 1) * 4096)) in
      elim (or_cases p1 (p2 || (p3 || false)) wanted) [
        | inl on ↦ elim (cases_lt (f.level / 3) (edge 3 a)) [
          | inl over ↦
              let is = on_table d x (edge 3 a) a (subst (λ (w : Want). is_on_path d x w ≡ true) (counted_stays m (edge 3 a) a (inl over)) on) in
              first_stays d x (inl over) is.0 is.1
          | inr under ↦ elim (cases_lt a (to + 8 ^ f.level)) [
            | inr past_end ↦
                let is = on_table d x (edge 3 a) a (subst (λ (w : Want). is_on_path d x w ≡ true) (counted_stays m (edge 3 a) a (inr past_end)) on) in
                first_stays d x (inr past_end) is.0 is.1
            | inl before ↦
                let is = on_table d x (edge 3 a) (a - to + from) (subst (λ (w : Want). is_on_path d x w ≡ true) (counted_moves m (edge 3 a) a under first before) on) in
                let q = first_piece in
                let at = q.at in
                let low = q.under in
                piece_mapped (counted f new) a (pieces a b n) d x q.piece q.i q.within q.is
                (subst (λ (w : Want). is_on_path d x w ≡ true) (sym (counted_moves m (q.piece.1 + 1) (a + q.piece.0) (omega (arith, low, under)) (omega (arith, first)) (omega (arith, at, before))))
                (table_on d x (q.piece.1 + 1) (a + q.piece.0 - to + from) (omega (arith, low, is.0)) (record { from = omega (arith, at, is.1.from); to = omega (arith, at, is.1.to) })))
          ]
        ]
        | inr rest ↦ elim (or_cases p2 (p3 || false) rest) [
          | inl on ↦
              let is = on_table d x (max (stays_from f) (edge 3 a)) a on in
              elim (cases_lt a (to + 8 ^ f.level)) [
                | inl before ↦ second_wanted d x deep before (omega (arith, is.0, stays_is m)) (omega (arith, is.0)) is.1
                | inr past_end ↦ first_stays d x (inr past_end) (omega (arith, is.0)) is.1
              ]
          | inr last ↦ elim (or_cases p3 false last) [
            | inl on ↦ let is = on_table d x (edge 3 (a + n)) (a + n - 1) on in last_wanted d x is.0 is.1
            | inr none ↦ absurd (false≢true none)
          ]
        ]
      ]

  -- the tables of a write past the old partition's end: three wants
  pub few_tables_same : (d x : ℕ) → 1 ≤ d → is_wanted (map (counted f new) (side_wants a (pieces a b n))) d x ≡ is_wanted (few_table_wants f new a n) d x
  few_tables_same d x deep =
      same_truth (is_wanted (map (counted f new) (side_wants a (pieces a b n))) d x) (is_wanted (few_table_wants f new a n) d x) (tables_from d x deep) (from_tables d x deep)
