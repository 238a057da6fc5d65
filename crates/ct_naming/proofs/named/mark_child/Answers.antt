use Rattle.std.proofs.Common.{sym, arith}
use Rattle.ct_naming.proofs.Naming.{count_again, count_more, count_root, step_of}
use Rattle.ct_naming.proofs.named.mark_child.Goals as goal

pub has_mark-requires : goal.has_mark-requires
has_mark-requires g c =
    let r = c.requires in
    let step = step_of (g.D.Pm.words c.args.dev.now) r.number r.dir r.entries r.slot.0 c.args.slot c.child_of-child.result c.child_of-child.ensures r.slot.1 in
    omega (arith, step.few, r.length)

pub set_mark-requires : goal.set_mark-requires
set_mark-requires g c =
    let r = c.requires in
    let step = step_of (g.D.Pm.words c.args.dev.now) r.number r.dir r.entries r.slot.0 c.args.slot c.child_of-child.result c.child_of-child.ensures r.slot.1 in
    omega (arith, step.few, r.length)

pub returns-then-child-eq1-clause-fails : goal.returns-then-child-eq1-clause-fails
returns-then-child-eq1-clause-fails g c = λ off at m counts named.
    let r = c.requires in
    count_root (step_of (g.D.Pm.words c.args.dev.now) r.number r.dir r.entries at c.args.slot c.child_of-child.result c.child_of-child.ensures m) c.if-child-eq1.true named

pub returns-then-has_mark-clause-fails : goal.returns-then-has_mark-clause-fails
returns-then-has_mark-clause-fails g c = λ off at m counts named.
    let r = c.requires in
    count_again (step_of (g.D.Pm.words c.args.dev.now) r.number r.dir r.entries at c.args.slot c.child_of-child.result c.child_of-child.ensures m) c.if-child-eq1.false (sym c.if-has_mark.ensures) counts named

pub returns-clause-counts : goal.returns-clause-counts
returns-clause-counts g c = λ on at m counts.
    let r = c.requires in
    count_more (step_of (g.D.Pm.words c.args.dev.now) r.number r.dir r.entries at c.args.slot c.child_of-child.result c.child_of-child.ensures m) c.if-child-eq1.false (sym c.if-has_mark.ensures) c.set_mark.ensures counts
