use Rattle.std.proofs.Common.{refl, arith}
use Rattle.ct_naming.proofs.Naming.{count_end, none_left}
use Rattle.ct_naming.proofs.named.mark_children.Goals as goal

pub loop-slot-preserved : goal.loop-slot-preserved
loop-slot-preserved g c =
    let m = c.in-Some.ensures.some in
    record {
      aligned = omega (arith, m.stands.slot.aligned);
      length = c.if-not-mark_child.ensures.length;
      counts = λ start. c.if-not-mark_child.ensures.counts refl c.loop-slot.at m (c.loop-slot.invariant.counts start);
    }

pub loop-slot-smaller : goal.loop-slot-smaller
loop-slot-smaller g c = let m = c.in-Some.ensures.some in omega (arith, m.on, m.stands.slot.below)

pub mark_child-requires-clause-slot : goal.mark_child-requires-clause-slot
mark_child-requires-clause-slot g c = (c.loop-slot.at, c.in-Some.ensures.some)

pub returns-then-not-mark_child-clause-fails : goal.returns-then-not-mark_child-clause-fails
returns-then-not-mark_child-clause-fails g c = λ off start named. c.if-not-mark_child.ensures.fails refl c.loop-slot.at c.in-Some.ensures.some (c.loop-slot.invariant.counts start) named

pub returns-clause-counts : goal.returns-clause-counts
returns-clause-counts g c = λ on start.
    count_end (none_left (g.D.Pm.words c.args.dev.now) c.requires.number c.requires.dir c.loop-slot.at c.in_default.ensures.none) (c.loop-slot.invariant.counts start)
