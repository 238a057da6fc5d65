use Rattle.std.proofs.Common.{Some, arith}
use Rattle.ct_call.specs.NotMounted.{image_dev, why_not}
use Rattle.ct_mount.proofs.Judged.{judges_same}
use Rattle.ct_state.proofs.States.{state_lands, state_then}
use Rattle.mount_stops.proofs.Stopped.{left_holds, left_images, left_through}
use Rattle.mount_stops.proofs.through.mount_through.Goals as goal

pub returns-in-Err-clause-judged : goal.returns-in-Err-clause-judged
returns-in-Err-clause-judged c = judges_same c.loop-stop.invariant.state (Some c.in-Err.no_mount.why) c.in-Err.ensures.judged

pub returns-in-Err-clause-images : goal.returns-in-Err-clause-images
returns-in-Err-clause-images c image allowed = state_then c.loop-stop.invariant.state (c.in-Err.ensures.images image allowed)

pub returns-in-Err-clause-lands : goal.returns-in-Err-clause-lands
returns-in-Err-clause-lands c t lands image allowed = state_lands (state_then c.loop-stop.invariant.state (c.in-Err.ensures.images image allowed)) lands

pub returns-clause-judged : goal.returns-clause-judged
returns-clause-judged c = judges_same c.loop-stop.invariant.state (why_not c.recover.result) c.recover.ensures.judged

pub returns-clause-holds : goal.returns-clause-holds
returns-clause-holds c = left_holds c.loop-stop.invariant c.recover.result c.recover.ensures.holds

pub returns-clause-through : goal.returns-clause-through
returns-clause-through c = left_through c.loop-stop.invariant (omega (arith, c.loop-stop-test.false)) c.recover.result c.recover.ensures.moments

pub returns-clause-images : goal.returns-clause-images
returns-clause-images c = left_images c.loop-stop.invariant (image_dev c.recover.result) c.recover.ensures.moments

pub returns-clause-lands : goal.returns-clause-lands
returns-clause-lands c t lands image allowed = state_lands (left_images c.loop-stop.invariant (image_dev c.recover.result) c.recover.ensures.moments image allowed) lands
