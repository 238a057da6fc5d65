use Rattle.std.proofs.Common.{sym, subst}
use Rattle.ct_base.specs.Rules.{IsPlaced, placed}
use Rattle.ct_enter.proofs.Places.{can_plan}
use Rattle.ct_remove.proofs.Asked.{object_live}
use Rattle.ct_remove.proofs.Whole.{rest_asked}
use Rattle.ct_rename.specs.Renamed.{CanRename}
use Rattle.ct_rename.proofs.call.plan_for.Goals as goal

pub entry_plan-requires-clause-can : goal.entry_plan-requires-clause-can
entry_plan-requires-clause-can g c = let can = subst (λ f. CanRename (g.D.Pm.words c.args.dev.now) f) c.in-New.is c.requires.can in can_plan c.requires.rest can.1

pub removal_plan-requires : goal.removal_plan-requires
removal_plan-requires g c =
    let can = subst (λ f. CanRename (g.D.Pm.words c.args.dev.now) f) c.in-Over.is c.requires.can in
    subst IsPlaced (sym can.3) (c.requires.rest.sound placed c.in-Over.field-1.number (object_live (rest_asked c.requires.rest can.1)))
