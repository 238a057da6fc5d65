use Rattle.std.proofs.Common.{ℕ, ◌+◌, ◌-◌, ◌^◌, ◌≤◌, ◌/◌, sym, subst, arith}
use Rattle.ct_walk.proofs.Cells.{cells_within}
use Rattle.ct_walk.proofs.wants.Want.cells.Goals as goal

pub returns-clause-within : goal.returns-clause-within
returns-clause-within c =
    let last = c.get-at.result + (c.self.inside.len - 1) in
    subst (λ (k : ℕ). last / k + 1 ≤ 512 ^ c.args.depth) (sym c.span-bytes.ensures.exact)
    (cells_within last c.args.depth c.requires (omega (arith, c.get-at.ensures.value, c.self.invariant.1, c.self.invariant.2)))
