use Rattle.std.proofs.Common.{◌+◌, arith}
use Rattle.ct_walk.proofs.Zeros.{zero_none, zero_more}
use Rattle.ct_pm.proofs.Quiet.{back_store}
use Rattle.ct_walk.proofs.growing.zero_words.Goals as goal

pub loop-i-init : goal.loop-i-init
loop-i-init g c = record { so_far = zero_none c.args.first c.args.n (g.D.Pm.words c.args.dev.now) (g.D.Pm.told c.args.dev.now); faults = omega arith }

pub store-requires : goal.store-requires
store-requires g c = omega (arith, c.requires, c.loop-i.invariant.so_far.same.size)

pub loop-i-preserved : goal.loop-i-preserved
loop-i-preserved g c = record {
  so_far = zero_more c.store.result c.loop-i.invariant.so_far (omega arith) c.requires (g.met.D.Pm.replays c.loop-i.dev) c.in_ok-store.ensures.words c.store.ensures.step;
  faults = omega (arith, c.loop-i.invariant.faults, c.store.ensures.cause.later);
}

pub returns-in_err-store-clause-others : goal.returns-in_err-store-clause-others
returns-in_err-store-clause-others g c = λ line none back.
    back_store c.store.result line c.store.ensures.step (λ is. none (c.args.first + c.loop-i.i) (omega arith, omega arith) is) (c.loop-i.invariant.so_far.others line none back)

pub returns-clause-others : goal.returns-clause-others
returns-clause-others g c = c.loop-i.invariant.so_far.others
