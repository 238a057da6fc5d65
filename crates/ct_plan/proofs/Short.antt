-- What the pieces of two ranges want is what three wants want.
use Rattle.std.proofs.Common.{◌≡◌, ℕ, zero, suc, ◌+◌, ◌-◌, ◌*◌, ◌/◌, ◌%◌, ◌^◌, ◌<◌, ◌≤◌, Bool, true, false, List, [], ◌∷◌, ◌⊎◌, refl, sym, ap, subst, ◌∙◌, inl, inr, arith}
use Rattle.std.specs.Prelude.{◌&&◌, ◌||◌, nat_lt, nat_le, Contains}
use Rattle.std.proofs.lemmas.Bool.{cases_Bool, cases_lt, leb-true, ltb-true, le-leb, lt-ltb, and_parts, and_from, or_cases, or_left, or_right, false≢true, false_from_ne_true}
use Rattle.std.proofs.lemmas.List.Elements.{All-contains}
use Rattle.std.proofs.Math.Nat.{zero-mod, add-mod, mul-le-mul_left, div-add-mod, add-mul-mod_self_right, add-mod_right}
use Rattle.ct_base.specs.Pieces.{pieces, IsBlock}
use Rattle.ct_base.specs.Plan.{table_want, side_wants}
use Rattle.ct_base.specs.Wants.{is_on_path, is_wanted}
use Rattle.ct_pieces.proofs.Steps.{width_pos}
use Rattle.ct_pieces.proofs.Least.{next_multiple}
use Rattle.ct_plan.specs.Few.{alike, edge, few_wants}
use Rattle.ct_plan.proofs.Blocks.{multiple, lower, alike_lower, alike-le, alike-is, alike-most, IsPiece, pieces_are, pieces_cover}

-- two truths that follow from each other are one
pub same_truth : (p q : Bool) → (p ≡ true → q ≡ true) → (q ≡ true → p ≡ true) → p ≡ q
same_truth p q to from = elim (cases_Bool p) [
  | inl t ↦ t ∙ sym (to t)
  | inr f ↦ f ∙ sym (false_from_ne_true q (λ t. false≢true (sym f ∙ from t)))
]

-- page p lies in cell x of a depth
pub record InCell (d x p : ℕ) : Type 0 where
  pub from : x * 512 ^ (4 - d) ≤ p
  pub to : p < x * 512 ^ (4 - d) + 512 ^ (4 - d)

-- ---- wants of pages

pub tests_hold : (l r u v h k : ℕ) → h ≤ k → l ≤ r → u < v → (nat_le h k && (nat_le l r && nat_lt u v)) ≡ true
tests_hold l r u v h k one two three = and_from _ _ (le-leb h k one) (and_from _ _ (le-leb l r two) (lt-ltb u v three))

pub tests_say : (l r u v h k : ℕ) → (nat_le h k && (nat_le l r && nat_lt u v)) ≡ true → (h ≤ k) × (l ≤ r) × (u < v)
tests_say l r u v h k on =
    let one = and_parts _ _ on in
    let two = and_parts _ _ one.1 in
    (leb-true h k one.0, leb-true l r two.0, ltb-true u v two.1)

-- the table of a level at a page is wanted by the cells from there up
pub table_on : (d x k p : ℕ) → d + k ≤ 4 → InCell d x p → is_on_path d x (table_want k (p * 4096)) ≡ true
table_on d x k p high cell =
    tests_hold (x * (4096 * 512 ^ (4 - d)) + 1) (p * 4096 + 1) (p * 4096) ((x + 1) * (4096 * 512 ^ (4 - d))) (d + k) 4
    high (omega (arith, cell.from)) (omega (arith, cell.to))

pub on_table : (d x k p : ℕ) → is_on_path d x (table_want k (p * 4096)) ≡ true → (d + k ≤ 4) × InCell d x p
on_table d x k p on =
    let is = tests_say (x * (4096 * 512 ^ (4 - d)) + 1) (p * 4096 + 1) (p * 4096) ((x + 1) * (4096 * 512 ^ (4 - d))) (d + k) 4 on in
    (is.0, record { from = omega (arith, is.1); to = omega (arith, is.2) })

-- a range of pages
pub pages_on : (d x k a n : ℕ) → d + k ≤ 4 → x * 512 ^ (4 - d) < a + n → a < x * 512 ^ (4 - d) + 512 ^ (4 - d)
    → is_on_path d x (record { height = k; at = a * 4096; len = n * 4096 }) ≡ true
pages_on d x k a n high from to =
    tests_hold (x * (4096 * 512 ^ (4 - d)) + 1) (a * 4096 + n * 4096) (a * 4096) ((x + 1) * (4096 * 512 ^ (4 - d))) (d + k) 4
    high (omega (arith, from)) (omega (arith, to))

pub on_pages : (d x k a n : ℕ) → is_on_path d x (record { height = k; at = a * 4096; len = n * 4096 }) ≡ true
    → (d + k ≤ 4) × (x * 512 ^ (4 - d) < a + n) × (a < x * 512 ^ (4 - d) + 512 ^ (4 - d))
on_pages d x k a n on =
    let is = tests_say (x * (4096 * 512 ^ (4 - d)) + 1) (a * 4096 + n * 4096) (a * 4096) ((x + 1) * (4096 * 512 ^ (4 - d))) (d + k) 4 on in
    (is.0, omega (arith, is.1), omega (arith, is.2))

-- what is wanted of one side is wanted for a piece
pub side_piece : (a : ℕ) (ps : List (ℕ × ℕ)) (d x : ℕ) → is_wanted (side_wants a ps) d x ≡ true
    → (piece : ℕ × ℕ) × Contains ps piece × (d + (piece.1 + 1) ≤ 4) × InCell d x (a + piece.0)
side_piece a [] d x wanted = absurd (false≢true wanted)
side_piece a (p ∷ ps) d x wanted = elim (or_cases (is_on_path d x (table_want (p.1 + 1) ((a + p.0) * 4096))) (is_wanted (side_wants a ps) d x) wanted) [
  | inl on ↦ let is = on_table d x (p.1 + 1) (a + p.0) on in (p, (0, omega arith, refl), is.0, is.1)
  | inr later ↦
      let rest = side_piece a ps d x later in
      let c = rest.1 in
      (rest.0, (suc c.0, omega (arith, c.1), c.2), rest.2, rest.3)
]

pub piece_side : (a : ℕ) (ps : List (ℕ × ℕ)) (d x : ℕ) (piece : ℕ × ℕ) (i : ℕ) → i < Rattle.std.proofs.Common.length ps → Rattle.std.proofs.Common.get_or ps i piece ≡ piece
    → d + (piece.1 + 1) ≤ 4 → InCell d x (a + piece.0) → is_wanted (side_wants a ps) d x ≡ true
piece_side a [] d x piece i within is high cell = absurd (omega arith)
piece_side a (p ∷ ps) d x piece zero within is high cell =
    or_left _ _ (subst (λ (q : ℕ × ℕ). is_on_path d x (table_want (q.1 + 1) ((a + q.0) * 4096)) ≡ true) (sym is) (table_on d x (piece.1 + 1) (a + piece.0) high cell))
piece_side a (p ∷ ps) d x piece (suc i) within is high cell =
    or_right (is_on_path d x (table_want (p.1 + 1) ((a + p.0) * 4096))) _ (piece_side a ps d x piece i (omega arith) is high cell)

-- ---- a cell and the pieces in it

-- an end strictly inside a cell is not at a multiple of its width
pub inside_cell : (x h p : ℕ) → x * 512 ^ h < p → p < x * 512 ^ h + 512 ^ h → p % 512 ^ h ≡ 0 → ⊥
inside_cell x h p from to whole = omega (arith, next_multiple (512 ^ h) (x * 512 ^ h) p (width_pos h) (multiple x h h (omega arith)) whole from)

-- a lower block with a page in a cell begins in it
pub begins_inside : (x k h p q : ℕ) → k ≤ h → p % 512 ^ k ≡ 0 → p ≤ q → q < p + 512 ^ k → x * 512 ^ h ≤ q → x * 512 ^ h ≤ p
begins_inside x k h p q low first from to inside = elim (cases_lt p (x * 512 ^ h)) [
  | inl before ↦ absurd (omega (arith, next_multiple (512 ^ k) p (x * 512 ^ h) (width_pos k) first (multiple x k h low) before))
  | inr ok ↦ ok
]

-- the sides of a block lie alike
sides_ordered : (a b i w : ℕ) → 0 < w → a ≤ b → (a + i) % w ≡ 0 → (b + i) % w ≡ 0 → a % w ≡ b % w
sides_ordered a b i w some le first second =
    let p = (a + i) / w in
    let q = (b + i) / w in
    let ep = div-add-mod (a + i) w in
    let eq = div-add-mod (b + i) w in
    elim (cases_lt q p) [
      | inl less ↦ absurd (omega (arith, ep, eq, first, second, some, le, mul-le-mul_left w (more q p less)))
      | inr more ↦
          let e : b ≡ a + (q - p) * w = omega (arith, ep, eq, first, second, mul-le-mul_left w more, parts w p q more) in
          sym (ap (λ n. n % w) e ∙ add-mul-mod_self_right a (q - p) w)
    ]
  where
    more : (x y : ℕ) → x < y → x + 1 ≤ y
    more x y lt = omega arith

    parts : (w p q : ℕ) → p ≤ q → (q - p) * w + w * p ≡ w * q
    parts w p q le = let e : (q - p) + p ≡ q = omega arith in omega (arith, ap (λ n. n * w) e)

pub sides_alike : (a b i w : ℕ) → 0 < w → (a + i) % w ≡ 0 → (b + i) % w ≡ 0 → a % w ≡ b % w
sides_alike a b i w some first second = elim (cases_lt a b) [
  | inl less ↦ sides_ordered a b i w some (omega arith) first second
  | inr more ↦ sym (sides_ordered b a i w some more second first)
]

-- and what lies alike is aligned at the same offsets
pub other_side : (a b i w : ℕ) → a % w ≡ b % w → (a + i) % w ≡ 0 → (b + i) % w ≡ 0
other_side a b i w same first = add-mod b i w ∙ ap (λ n. (n + i % w) % w) (sym same) ∙ sym (add-mod a i w) ∙ first

-- a height that is not over `alike` and at which an end begins a block is not over its edge
pub edge_most : (top k x : ℕ) → k ≤ top → x % 512 ^ k ≡ 0 → k < edge top x
edge_most top k x low whole =
    let e = alike-most top k x 0 low (whole ∙ sym (zero-mod (512 ^ k))) in
    omega (arith, e)

-- an end begins a block of each height below its edge
pub edge_is : (top k x : ℕ) → k < edge top x → x % 512 ^ k ≡ 0
edge_is top k x low = alike_lower k (alike top x 0) x 0 (omega arith) (alike-is top x 0) ∙ zero-mod (512 ^ k)

-- ---- the cells that are wanted

-- a cell meets the range, and is too high to be exchanged whole, or not all of it lies in the range
pub record IsTaken (top a n d x : ℕ) : Type 0 where
  pub from : x * 512 ^ (4 - d) < a + n
  pub to : a < x * 512 ^ (4 - d) + 512 ^ (4 - d)
  pub part : (top < 4 - d) ⊎ ((x * 512 ^ (4 - d) < a) ⊎ (a + n < x * 512 ^ (4 - d) + 512 ^ (4 - d)))

module _ (a b n d x : ℕ) where
  pub side_says : is_wanted (side_wants a (pieces a b n)) d x ≡ true → IsTaken (alike 3 a b) a n d x
  side_says wanted =
      let found = side_piece a (pieces a b n) d x wanted in
      let piece = found.0 in
      let is = All-contains (IsPiece a b n) (pieces a b n) piece (pieces_are a b n) found.1 in
      let cell = found.3 in
      let block = is.block in
      let pos = width_pos piece.1 in
      record {
        from = omega (arith, cell.from, block.inside, pos);
        to = omega (arith, cell.to);
        part = elim (cases_lt (alike 3 a b) (4 - d)) [
          | inl high ↦ inl high
          | inr inner ↦ elim (cases_lt (x * 512 ^ (4 - d)) a) [
            | inl left ↦ inr (inl left)
            | inr from ↦ elim (cases_lt (a + n) (x * 512 ^ (4 - d) + 512 ^ (4 - d))) [
              | inl right ↦ inr (inr right)
              | inr to ↦
                  let o = x * 512 ^ (4 - d) - a in
                  let at : a + o ≡ x * 512 ^ (4 - d) = omega (arith, from) in
                  let first : (a + o) % 512 ^ (4 - d) ≡ 0 = ap (λ p. p % 512 ^ (4 - d)) at ∙ multiple x (4 - d) (4 - d) (omega arith) in
                  let same = alike_lower (4 - d) (alike 3 a b) a b inner (alike-is 3 a b) in
                  let whole : IsBlock a b n (o, 4 - d) = record {
                    height = omega (arith, inner, alike-le 3 a b);
                    first = first;
                    second = other_side a b o (512 ^ (4 - d)) same first;
                    inside = omega (arith, at, to);
                  } in
                  absurd (omega (arith, is.greatest o (4 - d) whole (omega (arith, cell.from, at)) (omega (arith, cell.to, at)), found.2))
            ]
          ]
        ];
      }

  -- a piece that has a page in the cell and is lower begins there
  taken_piece : (o : ℕ) → o < n → x * 512 ^ (4 - d) ≤ a + o → a + o < x * 512 ^ (4 - d) + 512 ^ (4 - d)
      → ((piece : ℕ × ℕ) → IsBlock a b n piece → piece.0 ≤ o → o < piece.0 + 512 ^ piece.1 → piece.1 < 4 - d)
      → is_wanted (side_wants a (pieces a b n)) d x ≡ true
  taken_piece o lt from to lower =
      let found = pieces_cover a b n o lt in
      let piece = found.0 in
      let c = found.1 in
      let is = All-contains (IsPiece a b n) (pieces a b n) piece (pieces_are a b n) c in
      let low = lower piece is.block found.2 found.3 in
      let begins = begins_inside x piece.1 (4 - d) (a + piece.0) (a + o) (omega (arith, low)) is.block.first (omega (arith, found.2)) (omega (arith, found.3)) from in
      piece_side a (pieces a b n) d x piece c.0 c.1 c.2 (omega (arith, low)) (record { from = begins; to = omega (arith, found.2, to) })

  pub side_takes : 1 ≤ n → IsTaken (alike 3 a b) a n d x → is_wanted (side_wants a (pieces a b n)) d x ≡ true
  side_takes some t = elim t.part [
    | inl high ↦ taken_piece (x * 512 ^ (4 - d) - a) (omega (arith, t.from, some)) (omega arith) (omega (arith, t.to, width_pos (4 - d))) (λ piece block _ _.
        let most = alike-most 3 piece.1 a b block.height (sides_alike a b piece.0 (512 ^ piece.1) (width_pos piece.1) block.first block.second) in
        omega (arith, most, high))
    | inr cut ↦ elim cut [
      | inl left ↦ taken_piece 0 (omega (arith, some)) (omega (arith, left)) (omega (arith, t.to)) (λ piece block first _.
          elim (cases_lt piece.1 (4 - d)) [
            | inl low ↦ low
            | inr high ↦
                let at : a + piece.0 ≡ a = omega (arith, first) in
                let whole : a % 512 ^ piece.1 ≡ 0 = ap (λ p. p % 512 ^ piece.1) (sym at) ∙ block.first in
                absurd (inside_cell x (4 - d) a left t.to (lower (4 - d) piece.1 a high whole))
          ])
      | inr right ↦ taken_piece (n - 1) (omega (arith, some)) (omega (arith, t.from, some)) (omega (arith, right, some)) (λ piece block _ last.
          elim (cases_lt piece.1 (4 - d)) [
            | inl low ↦ low
            | inr high ↦
                let at : a + piece.0 + 512 ^ piece.1 ≡ a + n = omega (arith, last, block.inside, some) in
                let whole : (a + n) % 512 ^ piece.1 ≡ 0 = ap (λ p. p % 512 ^ piece.1) (sym at) ∙ add-mod_right (a + piece.0) (512 ^ piece.1) ∙ block.first in
                absurd (inside_cell x (4 - d) (a + n) t.from right (lower (4 - d) piece.1 (a + n) high whole))
          ])
    ]
  ]

  -- ---- the short list

  -- the table that the first page takes
  pub first_on : (top : ℕ) → (top < 4 - d) ⊎ (x * 512 ^ (4 - d) < a) → InCell d x a → is_on_path d x (table_want (edge top a) (a * 4096)) ≡ true
  first_on top part cell =
      let low = alike-le top a 0 in
      table_on d x (edge top a) a (elim part [
        | inl high ↦ omega (arith, low, high)
        | inr left ↦ elim (cases_lt (4 - d) (edge top a)) [
          | inl under ↦ absurd (inside_cell x (4 - d) a left cell.to (edge_is top (4 - d) a under))
          | inr over ↦ omega (arith, over)
        ]
      ]) cell

  pub on_first : (top : ℕ) → is_on_path d x (table_want (edge top a) (a * 4096)) ≡ true → ((top < 4 - d) ⊎ (x * 512 ^ (4 - d) < a)) × InCell d x a
  on_first top on =
      let is = on_table d x (edge top a) a on in (
        elim (cases_lt top (4 - d)) [
          | inl high ↦ inl high
          | inr inner ↦ elim (cases_lt (x * 512 ^ (4 - d)) a) [
            | inl left ↦ inr left
            | inr not ↦
                let at : a ≡ x * 512 ^ (4 - d) = omega (arith, not, is.1.from) in
                absurd (omega (arith, is.0, edge_most top (4 - d) a inner (ap (λ p. p % 512 ^ (4 - d)) at ∙ multiple x (4 - d) (4 - d) (omega arith))))
          ]
        ],
        is.1,
      )

  -- the table that the last page takes
  pub last_on : (top : ℕ) → 1 ≤ n → (top < 4 - d) ⊎ (a + n < x * 512 ^ (4 - d) + 512 ^ (4 - d)) → InCell d x (a + n - 1)
      → is_on_path d x (table_want (edge top (a + n)) ((a + n - 1) * 4096)) ≡ true
  last_on top some part cell =
      let low = alike-le top (a + n) 0 in
      table_on d x (edge top (a + n)) (a + n - 1) (elim part [
        | inl high ↦ omega (arith, low, high)
        | inr right ↦ elim (cases_lt (4 - d) (edge top (a + n))) [
          | inl under ↦ absurd (inside_cell x (4 - d) (a + n) (omega (arith, cell.from, some)) right (edge_is top (4 - d) (a + n) under))
          | inr over ↦ omega (arith, over)
        ]
      ]) cell

  pub on_last : (top : ℕ) → 1 ≤ n → is_on_path d x (table_want (edge top (a + n)) ((a + n - 1) * 4096)) ≡ true
      → ((top < 4 - d) ⊎ (a + n < x * 512 ^ (4 - d) + 512 ^ (4 - d))) × InCell d x (a + n - 1)
  on_last top some on =
      let is = on_table d x (edge top (a + n)) (a + n - 1) on in (
        elim (cases_lt top (4 - d)) [
          | inl high ↦ inl high
          | inr inner ↦ elim (cases_lt (a + n) (x * 512 ^ (4 - d) + 512 ^ (4 - d))) [
            | inl right ↦ inr right
            | inr not ↦
                let at : a + n ≡ x * 512 ^ (4 - d) + 512 ^ (4 - d) = omega (arith, not, is.1.to, some) in
                absurd (omega (arith, is.0, edge_most top (4 - d) (a + n) inner (ap (λ p. p % 512 ^ (4 - d)) at ∙ add-mod_right (x * 512 ^ (4 - d)) (512 ^ (4 - d)) ∙ multiple x (4 - d) (4 - d) (omega arith))))
          ]
        ],
        is.1,
      )

  pub few_says : 1 ≤ n → is_wanted (few_wants a b n) d x ≡ true → IsTaken (alike 3 a b) a n d x
  few_says some wanted =
      let m = alike 3 a b in
      let range = is_on_path d x (record { height = m + 1; at = a * 4096; len = n * 4096 }) in
      let first = is_on_path d x (table_want (edge m a) (a * 4096)) in
      let last = is_on_path d x (table_want (edge m (a + n)) ((a + n - 1) * 4096)) in
      elim (or_cases range (first || (last || false)) wanted) [
        | inl on ↦
            let is = on_pages d x (m + 1) a n on in
            record { from = is.1; to = is.2; part = inl (omega (arith, is.0)) }
        | inr ends ↦ elim (or_cases first (last || false) ends) [
          | inl on ↦
              let is = on_first m on in
              record { from = omega (arith, is.1.from, some); to = is.1.to; part = elim is.0 [ inl high ↦ inl high | inr left ↦ inr (inl left) ] }
          | inr rest ↦ elim (or_cases last false rest) [
            | inl on ↦
                let is = on_last m some on in
                record { from = omega (arith, is.1.from, some); to = omega (arith, is.1.to, some); part = elim is.0 [ inl high ↦ inl high | inr right ↦ inr (inr right) ] }
            | inr none ↦ absurd (false≢true none)
          ]
        ]
      ]

  pub few_takes : 1 ≤ n → IsTaken (alike 3 a b) a n d x → is_wanted (few_wants a b n) d x ≡ true
  few_takes some t =
      let m = alike 3 a b in
      let range = is_on_path d x (record { height = m + 1; at = a * 4096; len = n * 4096 }) in
      let first = is_on_path d x (table_want (edge m a) (a * 4096)) in
      let last = is_on_path d x (table_want (edge m (a + n)) ((a + n - 1) * 4096)) in
      elim t.part [
        | inl high ↦ or_left range (first || (last || false)) (pages_on d x (m + 1) a n (omega (arith, high)) t.from t.to)
        | inr cut ↦ or_right range (first || (last || false)) (elim cut [
          | inl left ↦ or_left first (last || false) (first_on m (inr left) (record { from = omega (arith, left); to = t.to }))
          | inr right ↦ or_right first (last || false) (or_left last false (last_on m some (inr right) (record { from = omega (arith, t.from); to = omega (arith, right) })))
        ])
      ]

-- the three wants want what the pieces want
pub few_same : (a b n d x : ℕ) → 1 ≤ n → is_wanted (side_wants a (pieces a b n)) d x ≡ is_wanted (few_wants a b n) d x
few_same a b n d x some =
    same_truth (is_wanted (side_wants a (pieces a b n)) d x) (is_wanted (few_wants a b n) d x)
    (λ wanted. few_takes a b n d x some (side_says a b n d x wanted))
    (λ wanted. side_takes a b n d x some (few_says a b n d x some wanted))
