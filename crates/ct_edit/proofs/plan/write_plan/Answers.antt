use Rattle.std.proofs.Common.{◌≡◌, List, [], ◌∷◌, ◌++◌, sym, ap, subst, ◌∙◌, inl, inr, arith}
use Rattle.ct_base.specs.Inode.{IsPart, Partition, free_parts, live_parts, part}
use Rattle.ct_base.specs.Plan.{first_of, growth_wants}
use Rattle.ct_base.specs.View.{inode_count, view}
use Rattle.ct_level.specs.Any.{partition}
use Rattle.ct_plan.specs.Few.{few_write_wants}
use Rattle.ct_call.proofs.Enlarged.{first_is, part_high}
use Rattle.ct_edit.proofs.Growths.{grows_at, grows_plan, stays_at, stays_plan}
use Rattle.ct_edit.proofs.plan.write_plan.Goals as goal

pub plan_in-requires-clause-old : goal.plan_in-requires-clause-old
plan_in-requires-clause-old g c = λ low.
    let room = (stays_at c.args.inode _ c.requires.can.placed (sym c.in-None.ensures)).0 in
    part_high (part c.args.inode) room.part

pub plan_in-requires-clause-new : goal.plan_in-requires-clause-new
plan_in-requires-clause-new g c =
    let room = stays_at c.args.inode _ c.requires.can.placed (sym c.in-None.ensures) in
    omega (arith, room.1, part_high (part c.args.inode) room.0.part)

pub returns-in-None : goal.returns-in-None
returns-in-None g c =
    stays_plan (g.D.Pm.words c.args.dev.now) c.args.inode c.args.off c.args.len c.if-len-eq0.false c.requires.can.placed c.requires.fits c.plan_in.result (sym c.in-None.ensures) c.plan_in.ensures.growth
    (c.plan_in.ensures.wants c.args.inode.level ∙ ap (λ ms. ms ++ few_write_wants c.args.inode c.args.off c.args.len (part c.args.inode)) c.new-in-None.ensures)

pub pick-requires-clause-level : goal.pick-requires-clause-level
pick-requires-clause-level g c = (grows_at c.args.inode _ c.in-Some.level c.requires.fits (sym c.in-Some.ensures)).high

pub growth_wants-grown-requires-clause-new : goal.growth_wants-grown-requires-clause-new
growth_wants-grown-requires-clause-new g c =
    let w = g.D.Pm.words c.args.dev.now in
    let ps = live_parts (view w) (inode_count w) in
    let found = c.in-Some-pick.ensures ps c.requires.can.stand in
    subst IsPart (sym (first_is ps c.in-Some.level c.base-base.result (partition c.in-Some-pick.part) found.0 found.1 c.base-base.ensures.value)) c.base-base.ensures.part

pub plan_in-requires-in-Some-pick-clause-old : goal.plan_in-requires-in-Some-pick-clause-old
plan_in-requires-in-Some-pick-clause-old g c = λ low. elim c.requires.can.placed.place [
  | inl none ↦ absurd (omega (arith, none.level, low))
  | inr room ↦ part_high (part c.args.inode) room.part
]

pub plan_in-requires-in-Some-pick-clause-new : goal.plan_in-requires-in-Some-pick-clause-new
plan_in-requires-in-Some-pick-clause-new g c =
    let w = g.D.Pm.words c.args.dev.now in
    let ps = live_parts (view w) (inode_count w) in
    let found = c.in-Some-pick.ensures ps c.requires.can.stand in
    let p : Partition = record { base = c.base-base.result; level = c.in-Some.level } in
    let is = subst IsPart (sym (first_is ps c.in-Some.level c.base-base.result (partition c.in-Some-pick.part) found.0 found.1 c.base-base.ensures.value)) c.base-base.ensures.part in
    let grows = grows_at c.args.inode _ c.in-Some.level c.requires.fits (sym c.in-Some.ensures) in
    omega (arith, part_high p is, grows.holds, c.get.ensures.value)

pub returns-in-Some-pick : goal.returns-in-Some-pick
returns-in-Some-pick g c =
    let w = g.D.Pm.words c.args.dev.now in
    let level = c.in-Some.level in
    let ps = live_parts (view w) (inode_count w) in
    let found = c.in-Some-pick.ensures ps c.requires.can.stand in
    let p : Partition = record { base = c.base-base.result; level = level } in
    let next : p ≡ first_of (free_parts ps level) = first_is ps level c.base-base.result (partition c.in-Some-pick.part) found.0 found.1 c.base-base.ensures.value ∙ sym (ap first_of found.1) in
    let at : c.get.result ≡ c.base-base.result = c.get.ensures.value in
    grows_plan w c.args.inode c.args.off c.args.len c.if-len-eq0.false c.requires.can.placed c.requires.fits c.plan_in-in-Some-pick.result level (sym c.in-Some.ensures) (λ none. no_list none found.1)
    c.plan_in-in-Some-pick.ensures.growth (c.growth_wants-grown.ensures.wants ∙ ap (growth_wants c.args.inode) next)
    (c.plan_in-in-Some-pick.ensures.wants level ∙ ap (λ b. c.growth_wants-grown.result ++ few_write_wants c.args.inode c.args.off c.args.len (record { base = b; level = level })) at
    ∙ ap (λ q. c.growth_wants-grown.result ++ few_write_wants c.args.inode c.args.off c.args.len q) next)
  where
    no_list : {A : Type 0} {x : A} {xs ys : List A} → ys ≡ [] → ys ≡ x ∷ xs → ⊥
    no_list none some = absurd (cc)
