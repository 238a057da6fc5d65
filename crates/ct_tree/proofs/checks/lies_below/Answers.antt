use Rattle.std.proofs.Common.{◌≡◌, ◌∙◌, sym, arith, subst, length, drop, ℕ}
use Rattle.ct_base.specs.Path.{texts}
use Rattle.ct_tree.specs.Resolve.{lies_below}
use Rattle.ct_tree.proofs.Paths.{short_not_below, below_ends}
use Rattle.ct_tree.proofs.checks.lies_below.Goals as goal

pub returns-then-to-names : goal.returns-then-to-names
returns-then-to-names c = short_not_below c.args.names.now c.args.to.now c.if-to-names.true

pub returns : goal.returns
returns c =
    let names = c.args.names.now in
    let to = c.args.to.now in
    let end : c.loop-i.i ≡ length names = omega arith in
    sym (below_ends names to c.loop-i.invariant.longer) ∙ subst (λ (k : ℕ). lies_below (texts (drop k names)) (texts (drop k to)) ≡ lies_below (texts names) (texts to)) end c.loop-i.invariant.rest
