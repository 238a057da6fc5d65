use Rattle.std.proofs.Common.{ℕ, [], ◌∷◌, ◌++◌, sym, subst, inl, inr, arith}
use Rattle.ct_walk.specs.Runs.{IsNearest}
use Rattle.ct_walk.proofs.Cells.{AreCells, nearest_kept, nearest_taken}
use Rattle.ct_walk.proofs.wants.nearer.Goals as goal

pub returns-then-cells-from : goal.returns-then-cells-from
returns-then-cells-from c wants near =
    let are : AreCells c.args.want.now c.args.depth c.cells-cells.result = record { exact = c.cells-cells.ensures.exact; within = c.cells-cells.ensures.within; order = c.cells-cells.ensures.order; some = c.cells-cells.ensures.some } in
    nearest_kept are (inl c.if-cells-from.true) near

pub returns-then-run-first : goal.returns-then-run-first
returns-then-run-first c wants near =
    let are : AreCells c.args.want.now c.args.depth c.cells-cells.result = record { exact = c.cells-cells.ensures.exact; within = c.cells-cells.ensures.within; order = c.cells-cells.ensures.order; some = c.cells-cells.ensures.some } in
    nearest_kept are (inr (omega (arith, c.if-run-first.true, c.max-first.ensures))) near

pub returns : goal.returns
returns c wants near =
    let are : AreCells c.args.want.now c.args.depth c.cells-cells.result = record { exact = c.cells-cells.ensures.exact; within = c.cells-cells.ensures.within; order = c.cells-cells.ensures.order; some = c.cells-cells.ensures.some } in
    subst (λ (k : ℕ). IsNearest (wants ++ c.args.want.now ∷ []) c.args.depth c.args.from (record { first = k; past = c.cells-cells.result.past })) (sym c.max-first.ensures)
    (nearest_taken are c.if-cells-from.false (omega (arith, c.if-run-first.false, c.max-first.ensures)) near)
