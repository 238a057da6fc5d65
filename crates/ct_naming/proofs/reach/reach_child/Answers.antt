use Rattle.std.proofs.Common.{◌+◌, length, length-append, ◌∷◌, [], sym, ap, arith}
use Rattle.ct_base.specs.View.{inode_count}
use Rattle.ct_naming.proofs.Naming.{step_of}
use Rattle.ct_naming.proofs.Visiting.{unmarked-less, visit_more, visit_skip}
use Rattle.ct_naming.proofs.reach.reach_child.Goals as goal

pub has_mark-requires : goal.has_mark-requires
has_mark-requires g c =
    let r = c.requires in
    let step = step_of (g.D.Pm.words c.args.dev.now) r.number r.dir r.entries r.slot.0 c.args.slot c.child_of-child.result c.child_of-child.ensures r.slot.1 in
    omega (arith, step.few, r.length)

pub set_mark-requires : goal.set_mark-requires
set_mark-requires g c =
    let r = c.requires in
    let step = step_of (g.D.Pm.words c.args.dev.now) r.number r.dir r.entries r.slot.0 c.args.slot c.child_of-child.result c.child_of-child.ensures r.slot.1 in
    omega (arith, step.few, r.length)

pub returns-then-has_mark-clause-visits : goal.returns-then-has_mark-clause-visits
returns-then-has_mark-clause-visits g c = λ at m so_far.
    let r = c.requires in
    visit_skip (step_of (g.D.Pm.words c.args.dev.now) r.number r.dir r.entries at c.args.slot c.child_of-child.result c.child_of-child.ensures m) (sym c.if-has_mark.ensures) so_far

pub returns-in-Ok-clause-visits : goal.returns-in-Ok-clause-visits
returns-in-Ok-clause-visits g c = λ at m so_far.
    let r = c.requires in
    visit_more (step_of (g.D.Pm.words c.args.dev.now) r.number r.dir r.entries at c.args.slot c.child_of-child.result c.child_of-child.ensures m) c.set_mark.ensures c.in-Ok.ensures.items so_far

pub returns-in-Ok-clause-less : goal.returns-in-Ok-clause-less
returns-in-Ok-clause-less g c =
    let r = c.requires in
    let w = g.D.Pm.words c.args.dev.now in
    let step = step_of w r.number r.dir r.entries r.slot.0 c.args.slot c.child_of-child.result c.child_of-child.ensures r.slot.1 in
    let less = unmarked-less c.set_mark.ensures (sym c.if-has_mark.ensures) (inode_count w + 1) (omega (arith, step.few)) in
    let longer = length-append c.args.visit.now.items (c.child_of-child.result ∷ []) in
    omega (arith, less, longer, ap length c.in-Ok.ensures.items)
