use Rattle.std.proofs.Common.{refl, arith}
use Rattle.script_runs.proofs.draws.path_at.Goals as goal

pub returns-in-2 : goal.returns-in-2
returns-in-2 c = (2, omega arith, refl)

pub returns-in-3 : goal.returns-in-3
returns-in-3 c = (3, omega arith, refl)

pub returns-in-4 : goal.returns-in-4
returns-in-4 c = (4, omega arith, refl)

pub returns-in-5 : goal.returns-in-5
returns-in-5 c = (5, omega arith, refl)

pub returns-in-6 : goal.returns-in-6
returns-in-6 c = (6, omega arith, refl)

pub returns-in-7 : goal.returns-in-7
returns-in-7 c = (7, omega arith, refl)

pub returns-in-8 : goal.returns-in-8
returns-in-8 c = (8, omega arith, refl)

pub returns-in-9 : goal.returns-in-9
returns-in-9 c = (9, omega arith, refl)

pub returns-in-10 : goal.returns-in-10
returns-in-10 c = (10, omega arith, refl)
