use Rattle.ct_pm.proofs.Told.{fenced}
use Rattle.ct_pm.proofs.Quiet.{quiet_settled}
use Rattle.ct_pm.proofs.Made.{makes_step}
use Rattle.ct_walk.proofs.Zeros.{settled_cleared}
use Rattle.ct_walk.proofs.growing.clear_page.Goals as goal

pub returns-in_err-zero_page-clause-images : goal.returns-in_err-zero_page-clause-images
returns-in_err-zero_page-clause-images g c = λ settled. quiet_settled (g.met.D.Pm.replays c.args.dev.now) settled c.zero_page.ensures.quiet

pub returns-clause-images : goal.returns-clause-images
returns-clause-images g c = λ settled. fenced (quiet_settled (g.met.D.Pm.replays c.args.dev.now) settled c.zero_page.ensures.quiet) c.fence.ensures.step

pub returns-clause-made : goal.returns-clause-made
returns-clause-made g c = makes_step c.fence.result c.zero_page.ensures.made c.fence.ensures.step tt

pub returns-clause-settled : goal.returns-clause-settled
returns-clause-settled g c =
    settled_cleared c.fence.result c.args.page (g.met.D.Pm.replays c.args.dev.now) c.zero_page.ensures.quiet c.zero_page.ensures.same
    (g.met.D.Pm.replays c.zero_page.new.dev) c.in_ok-zero_page.ensures.back c.fence.ensures.step
