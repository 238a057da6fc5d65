use Rattle.std.proofs.Common.{Some, subst}
use Rattle.ct_base.specs.Head.{HasHead}
use Rattle.ct_mount.specs.Mounting.{Judges}
use Rattle.ct_mount.proofs.Judged.{judged_head}
use Rattle.mount_stops.proofs.Stopped.{goes_on, images}
use Rattle.pm_trace.specs.Meaning.{words_of}
use Rattle.mount_stops.proofs.through.mount_once.Goals as goal

pub returns-in-Ok-clause-head : goal.returns-in-Ok-clause-head
returns-in-Ok-clause-head c = subst (λ d. HasHead (words_of d)) c.new.ensures.dev (judged_head c.in-Ok.ensures.judged)

pub returns-in-Fault-clause-images : goal.returns-in-Fault-clause-images
returns-in-Fault-clause-images c =
    images c.new.result.dev c.args.dev c.in-Err.no_mount.dev.dev c.into_inner-dev.result c.new.ensures.dev c.into_inner-dev.ensures c.in-Err.ensures.moments

pub returns-in_default : goal.returns-in_default
returns-in_default c = record {
  head = tt;
  judged = subst (λ d. Judges (words_of d) (Some c.in-Err.no_mount.why)) c.new.ensures.dev c.in-Err.ensures.judged;
  alive = c.in_default.not-Fault;
  goes_on = goes_on c.new.result.dev c.args.dev c.in-Err.no_mount.dev.dev c.into_inner-dev.result c.new.ensures.dev c.into_inner-dev.ensures c.in-Err.ensures.moments;
  images = images c.new.result.dev c.args.dev c.in-Err.no_mount.dev.dev c.into_inner-dev.result c.new.ensures.dev c.into_inner-dev.ensures c.in-Err.ensures.moments;
}
