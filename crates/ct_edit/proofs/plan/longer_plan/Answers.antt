use Rattle.std.proofs.Common.{◌≡◌, List, [], ◌∷◌, sym, ap, subst, ◌∙◌}
use Rattle.ct_base.specs.Inode.{IsPart, Partition, free_parts, live_parts}
use Rattle.ct_base.specs.Plan.{first_of, growth_wants}
use Rattle.ct_base.specs.View.{inode_count, view}
use Rattle.ct_level.specs.Any.{partition}
use Rattle.ct_call.proofs.Enlarged.{first_is}
use Rattle.ct_edit.proofs.Growths.{grows_at, longer_grows}
use Rattle.ct_edit.proofs.plan.longer_plan.Goals as goal

pub pick-requires-clause-level : goal.pick-requires-clause-level
pick-requires-clause-level g c = (grows_at c.args.inode c.args.len c.in-Some.level c.requires.fits (sym c.in-Some.ensures)).high

pub growth_wants-requires-clause-new : goal.growth_wants-requires-clause-new
growth_wants-requires-clause-new g c =
    let w = g.D.Pm.words c.args.dev.now in
    let ps = live_parts (view w) (inode_count w) in
    let found = c.in-Some-pick.ensures ps c.requires.can.stand in
    subst IsPart (sym (first_is ps c.in-Some.level c.base.result (partition c.in-Some-pick.part) found.0 found.1 c.base.ensures.value)) c.base.ensures.part

pub returns-in-Some-pick : goal.returns-in-Some-pick
returns-in-Some-pick g c =
    let w = g.D.Pm.words c.args.dev.now in
    let ps = live_parts (view w) (inode_count w) in
    let found = c.in-Some-pick.ensures ps c.requires.can.stand in
    let p : Partition = record { base = c.base.result; level = c.in-Some.level } in
    let next : p ≡ first_of (free_parts ps c.in-Some.level) = first_is ps c.in-Some.level c.base.result (partition c.in-Some-pick.part) found.0 found.1 c.base.ensures.value ∙ sym (ap first_of found.1) in
    longer_grows w c.args.inode c.args.len c.in-Some.level c.plan_with-in-Some-pick.result (sym c.in-Some.ensures) (λ none. no_list none found.1) c.plan_with-in-Some-pick.ensures.growth
    (c.plan_with-in-Some-pick.ensures.wants ∙ c.growth_wants.ensures.wants ∙ ap (growth_wants c.args.inode) next)
  where
    no_list : {A : Type 0} {x : A} {xs ys : List A} → ys ≡ [] → ys ≡ x ∷ xs → ⊥
    no_list none some = absurd (cc)
