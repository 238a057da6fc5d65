use Rattle.std.proofs.Common.{length, refl, arith}
use Rattle.std.proofs.lemmas.Grind.{common_steps}
use Rattle.ct_pm.specs.Device.{IsIn, IsValueOf}
use Rattle.ct_pm.proofs.Laying.{laid_steps}
use Rattle.ct_pm.proofs.Made.{makes_then, makes_weaker}
use Rattle.ct_pm.proofs.Quiet.{quiet_then}
use Rattle.ct_pm.proofs.writes.lay.Goals as goal

pub returns-clause-quiet : goal.returns-clause-quiet
returns-clause-quiet g c =
    quiet_then (IsIn c.args.first (length c.args.values.now)) (λ word none. absurd none) c.store_all.ensures.quiet c.flush_lines.ensures.quiet

pub returns-clause-made : goal.returns-clause-made
returns-clause-made g c =
    makes_then c.store_all.ensures.made (makes_weaker (IsValueOf c.args.first c.args.values.now) (λ word value none. absurd none) c.flush_lines.ensures.made)

pub returns-clause-steps : goal.returns-clause-steps
returns-clause-steps g c =
    laid_steps c.flush_lines.result (g.D.Pm.told c.flush_lines.new.dev) c.args.first (length c.args.values.now) c.args.values.now (g.D.Pm.told c.args.dev.now) (grind (arith, common_steps)) refl c.in_ok-store_all.ensures.steps c.flush_lines.ensures.steps
