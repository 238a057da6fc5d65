use Rattle.std.proofs.Common.{◌≡◌, ℕ, List, subst, sym}
use Rattle.std.specs.Prelude.{slice_index}
use Rattle.ct_pm.proofs.Made.{makes_weaker, makes_step}
use Rattle.ct_pm.proofs.Told.{fenced, weaker}
use Rattle.ct_pm.proofs.Quiet.{quiet_settled}
use Rattle.ct_pm.proofs.Fence.{settled_by_fence}
use Rattle.ct_record.specs.Record.{SettlesTo, IsStaging}
use Rattle.ct_base.specs.Settled.{IsShut}
use Rattle.ct_recover.proofs.Staging.{is_in_staging, settles_staged, shut_staged, zero_value, put_zero}
use Rattle.ct_record.proofs.Drafts.{ok_of}
use Rattle.ct_recover.proofs.settling.clear_staging.Goals as goal

pub returns-in_err-lay-clause-any_moment : goal.returns-in_err-lay-clause-any_moment
returns-in_err-lay-clause-any_moment g c =
    let was = g.D.Pm.words c.args.dev.now in
    weaker (SettlesTo was) (λ image same. settles_staged was image c.requires.shut same) (quiet_settled (g.met.D.Pm.replays c.args.dev.now) c.requires.settled c.lay.ensures.quiet)

pub returns-clause-any_moment : goal.returns-clause-any_moment
returns-clause-any_moment g c =
    let was = g.D.Pm.words c.args.dev.now in
    fenced (weaker (SettlesTo was) (λ image same. settles_staged was image c.requires.shut same) (quiet_settled (g.met.D.Pm.replays c.args.dev.now) c.requires.settled c.lay.ensures.quiet)) c.fence.ensures.step

pub returns-clause-settled : goal.returns-clause-settled
returns-clause-settled g c =
    settled_by_fence is_in_staging (quiet_settled (g.met.D.Pm.replays c.args.dev.now) c.requires.settled c.lay.ensures.quiet) c.in_ok-lay.ensures.words.same
    (g.met.D.Pm.replays c.lay.new.dev) c.in_ok-lay.ensures.back c.fence.ensures.step

pub returns-in_err-lay-clause-made : goal.returns-in_err-lay-clause-made
returns-in_err-lay-clause-made g c = makes_weaker (λ word value. IsStaging word × (value ≡ 0)) zero_value c.lay.ensures.made

pub returns-clause-made : goal.returns-clause-made
returns-clause-made g c = makes_step c.fence.result (makes_weaker (λ word value. IsStaging word × (value ≡ 0)) zero_value c.lay.ensures.made) c.fence.ensures.step tt

pub returns-clause-zero : goal.returns-clause-zero
returns-clause-zero g c =
    let laid = g.D.Pm.words c.lay.new.dev in
    ok_of c.fence.result (subst (λ (l : List ℕ). (word : ℕ) → IsStaging word → slice_index l word ≡ 0) (sym c.fence.ensures.words) (put_zero (g.D.Pm.words c.args.dev.now) laid c.in_ok-lay.ensures.words))

pub returns-in_err-lay-clause-each_shut : goal.returns-in_err-lay-clause-each_shut
returns-in_err-lay-clause-each_shut g c =
    let was = g.D.Pm.words c.args.dev.now in
    weaker IsShut (λ image same. shut_staged was image c.requires.shut same) (quiet_settled (g.met.D.Pm.replays c.args.dev.now) c.requires.settled c.lay.ensures.quiet)

pub returns-clause-each_shut : goal.returns-clause-each_shut
returns-clause-each_shut g c =
    let was = g.D.Pm.words c.args.dev.now in
    fenced (weaker IsShut (λ image same. shut_staged was image c.requires.shut same) (quiet_settled (g.met.D.Pm.replays c.args.dev.now) c.requires.settled c.lay.ensures.quiet)) c.fence.ensures.step
