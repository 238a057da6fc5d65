-- Where a short list is met, each piece has its table on both sides.
use Rattle.std.proofs.Common.{◌≡◌, ◌≢◌, ℕ, ◌+◌, ◌-◌, ◌*◌, ◌/◌, ◌^◌, ◌<◌, ◌≤◌, false, List, [], ◌∷◌, ◌++◌, sym, subst, ◌∙◌, inl, inr, arith}
use Rattle.std.specs.Prelude.{All, Contains}
use Rattle.std.proofs.lemmas.Bool.{cases_eq, or_left, or_right}
use Rattle.std.proofs.lemmas.List.Elements.{All-contains, All-contains_itself, All-weaker}
use Rattle.std.proofs.Math.Nat.{div-add-mod, mod-lt}
use Rattle.ct_base.specs.declared.inode.Inode.{Inode}
use Rattle.ct_base.specs.Exchange.{HasTables}
use Rattle.ct_base.specs.Inode.{part}
use Rattle.ct_base.specs.Pieces.{pieces}
use Rattle.ct_base.specs.Plan.{side_wants, stage, touched}
use Rattle.ct_base.specs.Walk.{page_at}
use Rattle.ct_base.specs.Wants.{Want, is_wanted}
use Rattle.ct_image.proofs.Steps.{page_at-root}
use Rattle.ct_pieces.proofs.Steps.{width_pos}
use Rattle.ct_plan.specs.Few.{AreMet, few_wants, few_both_wants, few_table_wants, few_write_wants}
use Rattle.ct_plan.proofs.Blocks.{IsPiece, pieces_are}
use Rattle.ct_plan.proofs.Short.{InCell, side_piece, piece_side, pages_on, few_same}
use Rattle.ct_plan.proofs.Same.{is_wanted-append}
use Rattle.ct_plan.proofs.Sides.{pieces-swap}
use Rattle.ct_plan.proofs.Write.{few_tables_part}

pub met_left : (img : List ℕ) (xs ys : List Want) → AreMet img (xs ++ ys) → AreMet img xs
met_left img xs ys met d x from to wanted = met d x from to (is_wanted-append xs ys d x ∙ or_left (is_wanted xs d x) (is_wanted ys d x) wanted)

pub met_right : (img : List ℕ) (xs ys : List Want) → AreMet img (xs ++ ys) → AreMet img ys
met_right img xs ys met d x from to wanted = met d x from to (is_wanted-append xs ys d x ∙ or_right (is_wanted xs d x) (is_wanted ys d x) wanted)

-- the cell of a height that a page lies in
in_cell : (p k : ℕ) → k ≤ 3 → InCell (3 - k) (p / 512 ^ (k + 1)) p
in_cell p k low =
    let width : 4 - (3 - k) ≡ k + 1 = omega arith in
    let e = div-add-mod p (512 ^ (k + 1)) in
    let r = mod-lt p (width_pos (k + 1)) in
    record {
      from = subst (λ (h : ℕ). p / 512 ^ (k + 1) * 512 ^ h ≤ p) (sym width) (omega (arith, e));
      to = subst (λ (h : ℕ). p < p / 512 ^ (k + 1) * 512 ^ h + 512 ^ h) (sym width) (omega (arith, e, r));
    }

-- the table of a piece on one side
piece_there : (img : List ℕ) (a b n : ℕ) → a + n ≤ 2 ^ 36 → AreMet img (side_wants a (pieces a b n)) → (piece : ℕ × ℕ) → Contains (pieces a b n) piece
    → page_at img (3 - piece.1) ((a + piece.0) / 512 ^ (piece.1 + 1)) ≢ 0
piece_there img a b n low met piece c =
    let block = (All-contains (IsPiece a b n) (pieces a b n) piece (pieces_are a b n) c).block in
    let h = block.height in
    elim (cases_eq piece.1 3) [
      | inr less ↦ met (3 - piece.1) ((a + piece.0) / 512 ^ (piece.1 + 1)) (omega (arith, h, less)) (omega arith)
          (piece_side a (pieces a b n) (3 - piece.1) ((a + piece.0) / 512 ^ (piece.1 + 1)) piece c.0 c.1 c.2 (omega (arith, h)) (in_cell (a + piece.0) piece.1 h))
      | inl whole ↦
          let inside = block.inside in
          let pos = width_pos piece.1 in
          let root : (a + piece.0) / 512 ^ 4 ≡ 0 = omega (arith, inside, pos, low) in
          subst (λ (k : ℕ). page_at img (3 - k) ((a + piece.0) / 512 ^ (k + 1)) ≢ 0) (sym whole)
          (subst (λ (x : ℕ). page_at img 0 x ≢ 0) (sym root) (λ none. absurd (omega (arith, sym (page_at-root img) ∙ none))))
    ]

-- the same of the other side, whose pieces are these
other_there : (img : List ℕ) (a b n : ℕ) → b + n ≤ 2 ^ 36 → AreMet img (side_wants b (pieces a b n)) → (piece : ℕ × ℕ) → Contains (pieces a b n) piece
    → page_at img (3 - piece.1) ((b + piece.0) / 512 ^ (piece.1 + 1)) ≢ 0
other_there img a b n low met piece c =
    let swap = pieces-swap a b n in
    piece_there img b a n low (subst (λ (ps : List (ℕ × ℕ)). AreMet img (side_wants b ps)) swap met) piece (subst (λ (ps : List (ℕ × ℕ)). Contains ps piece) swap c)

-- where both sides are met, an exchange has its tables
pub tables_there : (img : List ℕ) (a b n : ℕ) → a + n ≤ 2 ^ 36 → b + n ≤ 2 ^ 36 → AreMet img (side_wants a (pieces a b n)) → AreMet img (side_wants b (pieces a b n))
    → All (HasTables img a b) (pieces a b n)
tables_there img a b n low_a low_b met_a met_b =
    All-weaker (Contains (pieces a b n)) (HasTables img a b)
    (λ piece c. (piece_there img a b n low_a met_a piece c, other_there img a b n low_b met_b piece c))
    (pieces a b n) (All-contains_itself (pieces a b n))

pub few_met : (img : List ℕ) (a b n : ℕ) → 1 ≤ n → AreMet img (few_wants a b n) → AreMet img (side_wants a (pieces a b n))
few_met img a b n some met d x from to wanted = met d x from to (sym (few_same a b n d x some) ∙ wanted)

-- the six wants of an exchange
pub few_both_there : (img : List ℕ) (a b n : ℕ) → 1 ≤ n → a + n ≤ 2 ^ 36 → b + n ≤ 2 ^ 36 → AreMet img (few_both_wants a b n) → All (HasTables img a b) (pieces a b n)
few_both_there img a b n some low_a low_b met =
    tables_there img a b n low_a low_b
    (few_met img a b n some (met_left img (few_wants a b n) (few_wants b a n) met))
    (subst (λ (ps : List (ℕ × ℕ)). AreMet img (side_wants b ps)) (sym (pieces-swap a b n)) (few_met img b a n some (met_right img (few_wants a b n) (few_wants b a n) met)))

-- the pages of a side have all its tables on their way
pub pages_met : (img : List ℕ) (a b n : ℕ) → AreMet img (record { height = 0; at = b * 4096; len = n * 4096 } ∷ []) → AreMet img (side_wants b (pieces a b n))
pages_met img a b n met d x from to wanted =
    let found = side_piece b (pieces a b n) d x wanted in
    let piece = found.0 in
    let block = (All-contains (IsPiece a b n) (pieces a b n) piece (pieces_are a b n) found.1).block in
    let inside = block.inside in
    let pos = width_pos piece.1 in
    let cell = found.3 in
    let low = cell.from in
    let high = cell.to in
    met d x from to (or_left _ false (pages_on d x 0 b n (omega (arith, found.2)) (omega (arith, low, inside, pos)) (omega (arith, high))))

-- the four wants of a write in the partition that a file has
pub few_write_there : (img : List ℕ) (f : Inode) (off len : ℕ) → (f.base + off) / 4096 + touched off len ≤ 2 ^ 36 → stage (f.base + off) / 4096 + touched off len ≤ 2 ^ 36
    → AreMet img (few_write_wants f off len (part f))
    → All (HasTables img ((f.base + off) / 4096) (stage (f.base + off) / 4096)) (pieces ((f.base + off) / 4096) (stage (f.base + off) / 4096) (touched off len))
few_write_there img f off len low high met =
    let a = (f.base + off) / 4096 in
    let b = stage (f.base + off) / 4096 in
    let n = touched off len in
    let page : List Want = record { height = 0; at = b * 4096; len = n * 4096 } ∷ [] in
    let tables = met_left img (few_table_wants f (part f) a n) page met in
    tables_there img a b n low high
    (λ d x from to wanted. tables d x from to (sym (few_tables_part f off len d x from) ∙ wanted))
    (pages_met img a b n (met_right img (few_table_wants f (part f) a n) page met))
