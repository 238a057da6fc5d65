use Rattle.std.proofs.Common.{◌≡◌, ◌++◌, take}
use Rattle.ct_edit.proofs.plan.push_all.Given as goal

abbrev pub invariant-loop-want : goal.invariant-loop-want
invariant-loop-want l = l.wants ≡ l.initial.wants ++ take l.want-index l.more
