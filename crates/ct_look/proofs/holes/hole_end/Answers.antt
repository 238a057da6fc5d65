use Rattle.ct_look.proofs.Skipping.{absent, past_root, past_third, past_second}
use Rattle.ct_look.proofs.holes.hole_end.Goals as goal

pub returns-in_default : goal.returns-in_default
returns-in_default g c =
    past_root (g.D.Pm.words c.args.dev.now) c.args.address (absent c.step.result _ c.step.ensures.page c.in_default.not-Some)

pub returns-in_default-step : goal.returns-in_default-step
returns-in_default-step g c =
    past_third (g.D.Pm.words c.args.dev.now) c.args.address c.in-Some.third c.in-Some.ensures.page (absent c.step-2.result _ c.step-2.ensures.page c.in_default-step.not-Some)

pub returns-in_default-step-2 : goal.returns-in_default-step-2
returns-in_default-step-2 g c =
    past_second (g.D.Pm.words c.args.dev.now) c.args.address c.in-Some.third c.in-Some.ensures.page c.in-Some-step.second c.in-Some-step.ensures.page
    (absent c.step-3.result _ c.step-3.ensures.page c.in_default-step-2.not-Some)
