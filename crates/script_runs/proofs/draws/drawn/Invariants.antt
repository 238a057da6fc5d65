use Rattle.std.proofs.Common.{◌≡◌, All, length}
use Rattle.ct_tree.specs.Step.{op_of}
use Rattle.script_runs.specs.Drawn.{IsOverFew}
use Rattle.script_runs.proofs.draws.drawn.Given as goal

abbrev pub invariant-loop : goal.invariant-loop
invariant-loop l = record {
  count : length l.calls.items ≡ l.counter;
  few : All (λ call. IsOverFew (op_of call)) l.calls.items;
}
