use Rattle.std.proofs.Common.{arith}
use Rattle.ct_base.specs.View.{inode_count, view}
use Rattle.ct_naming.proofs.Naming.{none_left}
use Rattle.ct_naming.proofs.Visiting.{no_zero, visit_end}
use Rattle.ct_naming.proofs.reach.reach_children.Goals as goal

pub loop-slot-preserved : goal.loop-slot-preserved
loop-slot-preserved g c =
    let m = c.in-Some.ensures.some in
    let r = c.in_ok-reach_child.ensures in
    record {
      aligned = omega (arith, m.stands.slot.aligned);
      size = r.length;
      visits = λ start. r.visits c.loop-slot.at m (c.loop-slot.invariant.visits start);
      less = omega (arith, r.less, c.loop-slot.invariant.less);
    }

pub loop-slot-smaller : goal.loop-slot-smaller
loop-slot-smaller g c = let m = c.in-Some.ensures.some in omega (arith, m.on, m.stands.slot.below)

pub reach_child-requires-clause-slot : goal.reach_child-requires-clause-slot
reach_child-requires-clause-slot g c = (c.loop-slot.at, c.in-Some.ensures.some)

pub returns-clause-visits : goal.returns-clause-visits
returns-clause-visits g c =
    let w = g.D.Pm.words c.args.dev.now in
    λ start. visit_end (no_zero (view w) (inode_count w)) (none_left w c.requires.number c.requires.dir c.loop-slot.at c.in_default.ensures.none) (c.loop-slot.invariant.visits start)
