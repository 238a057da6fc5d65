use Rattle.std.proofs.Common.{◌≡◌, ◌+◌, sym, ap, subst, ◌∙◌, arith}
use Rattle.ct_base.specs.Inode.{IsPart, Partition, free_parts, live_parts}
use Rattle.ct_base.specs.Plan.{first_of, growth_wants}
use Rattle.ct_base.specs.View.{inode_count, view}
use Rattle.ct_level.specs.Any.{partition}
use Rattle.ct_call.proofs.Enlarged.{first_is, part_high}
use Rattle.ct_enter.proofs.Enlarged.{grows_for, slot_high}
use Rattle.ct_enter.proofs.EntryPlans.{grows_plan, stays_plan}
use Rattle.ct_enter.proofs.plan.entry_plan.Goals as goal

pub plan_in-requires-clause-slot : goal.plan_in-requires-clause-slot
plan_in-requires-clause-slot g c = slot_high c.requires.can (sym c.in-None.ensures)

pub returns-in-None : goal.returns-in-None
returns-in-None g c =
    stays_plan (g.D.Pm.words c.args.dev.now) c.args.inode c.args.offset c.args.number c.plan_in.result (sym c.in-None.ensures) c.plan_in.ensures.growth c.new.ensures c.plan_in.ensures.wants c.plan_in.ensures.rest

pub pick-requires-clause-level : goal.pick-requires-clause-level
pick-requires-clause-level g c = (grows_for c.requires.can c.in-Some.level (sym c.in-Some.ensures)).high

pub growth_wants-grown-requires-clause-new : goal.growth_wants-grown-requires-clause-new
growth_wants-grown-requires-clause-new g c =
    let w = g.D.Pm.words c.args.dev.now in
    let ps = live_parts (view w) (inode_count w) in
    let found = c.in-Some-pick.ensures ps c.requires.can.stand in
    subst IsPart (sym (first_is ps c.in-Some.level c.base-base.result (partition c.in-Some-pick.part) found.0 found.1 c.base-base.ensures.value)) c.base-base.ensures.part

pub plan_in-requires-in-Some-pick-clause-slot : goal.plan_in-requires-in-Some-pick-clause-slot
plan_in-requires-in-Some-pick-clause-slot g c =
    let w = g.D.Pm.words c.args.dev.now in
    let ps = live_parts (view w) (inode_count w) in
    let found = c.in-Some-pick.ensures ps c.requires.can.stand in
    let p : Partition = record { base = c.base-base.result; level = c.in-Some.level } in
    let is = subst IsPart (sym (first_is ps c.in-Some.level c.base-base.result (partition c.in-Some-pick.part) found.0 found.1 c.base-base.ensures.value)) c.base-base.ensures.part in
    let grows = grows_for c.requires.can c.in-Some.level (sym c.in-Some.ensures) in
    omega (arith, part_high p is, grows.holds, c.get.ensures.value)

pub returns-in-Some-pick : goal.returns-in-Some-pick
returns-in-Some-pick g c =
    let w = g.D.Pm.words c.args.dev.now in
    let level = c.in-Some.level in
    let ps = live_parts (view w) (inode_count w) in
    let found = c.in-Some-pick.ensures ps c.requires.can.stand in
    let p : Partition = record { base = c.base-base.result; level = level } in
    let next : p ≡ first_of (free_parts ps level) = first_is ps level c.base-base.result (partition c.in-Some-pick.part) found.0 found.1 c.base-base.ensures.value ∙ sym (ap first_of found.1) in
    grows_plan w c.args.inode c.args.offset c.args.number c.plan_in-in-Some-pick.result level (c.get.result + c.args.offset) (sym c.in-Some.ensures) found.1
    (ap (λ v. v + c.args.offset) (c.get.ensures.value ∙ ap (λ (q : Partition). q.base) next)) c.plan_in-in-Some-pick.ensures.growth
    (c.growth_wants-grown.ensures.wants ∙ ap (growth_wants c.args.inode) next) c.plan_in-in-Some-pick.ensures.wants c.plan_in-in-Some-pick.ensures.rest
