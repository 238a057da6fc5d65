use Rattle.std.proofs.Common.{arith}
use Rattle.ct_pm.specs.Device.{IsIn}
use Rattle.ct_pm.proofs.Made.{makes_then, makes_weaker}
use Rattle.ct_pm.proofs.Quiet.{quiet_then}
use Rattle.ct_record.proofs.Moments.{quiet_wider}
use Rattle.ct_record.proofs.pair.put_fourth.Goals as goal

pub returns-in_err-spill-clause-quiet : goal.returns-in_err-spill-clause-quiet
returns-in_err-spill-clause-quiet g c = quiet_wider (IsIn 528 8) (λ word inside. (inside.0, omega (arith, inside.1))) c.spill.ensures.quiet

pub returns-in_err-spill-clause-made : goal.returns-in_err-spill-clause-made
returns-in_err-spill-clause-made g c = makes_weaker (λ word value. IsIn 528 8 word) (λ word value inside. (inside.0, omega (arith, inside.1))) c.spill.ensures.made

pub returns-clause-quiet : goal.returns-clause-quiet
returns-clause-quiet g c =
    quiet_then (IsIn 528 8) (λ word inside. (omega (arith, inside.0), omega (arith, inside.1)))
    (quiet_wider (IsIn 528 8) (λ word inside. (inside.0, omega (arith, inside.1))) c.spill.ensures.quiet) c.put_pair.ensures.quiet

pub returns-clause-made : goal.returns-clause-made
returns-clause-made g c =
    makes_then (makes_weaker (λ word value. IsIn 528 8 word) (λ word value inside. (inside.0, omega (arith, inside.1))) c.spill.ensures.made)
    (makes_weaker (λ word value. IsIn 528 8 word) (λ word value inside. (omega (arith, inside.0), omega (arith, inside.1))) c.put_pair.ensures.made)
