use Rattle.std.proofs.Common.{ℕ, subst, sym}
use Rattle.ct_base.specs.Settled.{pairs_at}
use Rattle.std.specs.Prelude.{OnOk}
use Rattle.ct_pm.specs.Device.{LeavesOnly}
use Rattle.ct_record.specs.Record.{IsArmed, IsFull, IsNoneOrAll}
use Rattle.ct_record.proofs.Drafts.{place_short, place_long}
use Rattle.ct_record.proofs.gate.open_gate.Goals as goal

pub returns-then-count-gt3-clause-any_moment : goal.returns-then-count-gt3-clause-any_moment
returns-then-count-gt3-clause-any_moment g c =
    let was = g.D.Pm.words c.args.dev.now in
    subst (λ (p : ℕ). LeavesOnly (g.D.Pm.told c.args.dev.now) (g.D.Pm.told c.open_long.new.dev) (IsNoneOrAll (pairs_at p c.args.count was) was)) (sym (place_long c.args.count c.if-count-gt3.true)) c.open_long.ensures.any_moment

pub returns-clause-any_moment : goal.returns-clause-any_moment
returns-clause-any_moment g c =
    let was = g.D.Pm.words c.args.dev.now in
    subst (λ (p : ℕ). LeavesOnly (g.D.Pm.told c.args.dev.now) (g.D.Pm.told c.open_short.new.dev) (IsNoneOrAll (pairs_at p c.args.count was) was)) (sym (place_short c.args.count c.if-count-gt3.false)) c.open_short.ensures.any_moment

pub open_long-requires-clause-full : goal.open_long-requires-clause-full
open_long-requires-clause-full g c = subst (λ (p : ℕ). IsFull p c.args.count c.args.end (g.D.Pm.words c.args.dev.now)) (place_long c.args.count c.if-count-gt3.true) c.requires.full

pub returns-then-count-gt3-clause-armed : goal.returns-then-count-gt3-clause-armed
returns-then-count-gt3-clause-armed g c =
    let was = g.D.Pm.words c.args.dev.now in
    subst (λ (p : ℕ). OnOk c.open_long.result (IsArmed (pairs_at p c.args.count was) was (g.D.Pm.words c.open_long.new.dev))) (sym (place_long c.args.count c.if-count-gt3.true)) c.open_long.ensures.armed

pub returns-then-count-gt3-clause-reads : goal.returns-then-count-gt3-clause-reads
returns-then-count-gt3-clause-reads g c =
    let was = g.D.Pm.words c.args.dev.now in
    subst (λ (p : ℕ). IsNoneOrAll (pairs_at p c.args.count was) was (g.D.Pm.words c.open_long.new.dev)) (sym (place_long c.args.count c.if-count-gt3.true)) c.open_long.ensures.reads

pub open_short-requires-clause-full : goal.open_short-requires-clause-full
open_short-requires-clause-full g c = subst (λ (p : ℕ). IsFull p c.args.count c.args.end (g.D.Pm.words c.args.dev.now)) (place_short c.args.count c.if-count-gt3.false) c.requires.full

pub returns-clause-armed : goal.returns-clause-armed
returns-clause-armed g c =
    let was = g.D.Pm.words c.args.dev.now in
    subst (λ (p : ℕ). OnOk c.open_short.result (IsArmed (pairs_at p c.args.count was) was (g.D.Pm.words c.open_short.new.dev))) (sym (place_short c.args.count c.if-count-gt3.false)) c.open_short.ensures.armed

pub returns-clause-reads : goal.returns-clause-reads
returns-clause-reads g c =
    let was = g.D.Pm.words c.args.dev.now in
    subst (λ (p : ℕ). IsNoneOrAll (pairs_at p c.args.count was) was (g.D.Pm.words c.open_short.new.dev)) (sym (place_short c.args.count c.if-count-gt3.false)) c.open_short.ensures.reads
