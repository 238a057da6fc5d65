use Rattle.std.proofs.Common.{ap}
use Rattle.ct_base.specs.Settled.{open_pairs}
use Rattle.ct_record.specs.Seen.{pairs_of, words_under}
use Rattle.allocator_tests.proofs.Devices.{applied_beside}
use Rattle.allocator_tests.proofs.volume.commit.Goals as goal

pub returns-clause-applied : goal.returns-clause-applied
returns-clause-applied g c =
    let words = g.D.Pm.words in
    record {
      beside = applied_beside (words_under c.args.draft) (words c.in-Ok.armed.dev) (words c.in-Ok-apply.applied.dev) (words c.in-Ok-finish.idle.dev) (words c.into_dev.result)
          (pairs_of c.args.draft) (open_pairs (words c.in-Ok.armed.dev))
          c.in-Ok.ensures.same c.in-Ok.ensures.all.0 c.in-Ok-apply.ensures.words c.in-Ok-finish.ensures.same (ap words c.into_dev.ensures.dev);
      shut = c.into_dev.ensures.shut;
    }
