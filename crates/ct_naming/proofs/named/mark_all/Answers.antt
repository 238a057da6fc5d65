use Rattle.std.proofs.Common.{◌≡◌, ◌+◌, refl, subst, arith}
use Rattle.ct_base.specs.Objects.{objects}
use Rattle.ct_base.specs.View.{inode_count, view}
use Rattle.ct_naming.specs.Naming.{Counts}
use Rattle.ct_naming.proofs.named.mark_all.Goals as goal

pub mark_named-requires-clause-number : goal.mark_named-requires-clause-number
mark_named-requires-clause-number g c = record { from = omega arith; to = omega (arith, c.load-n-end.ensures) }

pub loop-n-preserved : goal.loop-n-preserved
loop-n-preserved g c = record {
  length = c.if-not-mark_named.ensures.length;
  counts = c.if-not-mark_named.ensures.counts refl c.loop-n.invariant.counts;
}

pub returns-then-not-mark_named-clause-fails : goal.returns-then-not-mark_named-clause-fails
returns-then-not-mark_named-clause-fails g c = λ off named. c.if-not-mark_named.ensures.fails refl c.loop-n.invariant.counts named

pub returns-clause-counts : goal.returns-clause-counts
returns-clause-counts g c =
    let w = g.D.Pm.words c.args.dev.now in
    let end : c.loop-n.n ≡ inode_count w + 1 = omega (arith, c.load-n-end.ensures) in
    λ on. subst (λ n. Counts (objects (view w) (inode_count w)) n 0 c.loop-n.marks.items) end c.loop-n.invariant.counts
