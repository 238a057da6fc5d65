use Rattle.std.proofs.Common.{Some, subst}
use Rattle.ct_commit.specs.Rest.{IsAtRest}
use Rattle.ct_find.specs.Kinds.{leave_op}
use Rattle.ct_fs.proofs.Kept.{none_below, refused_so, remembered_so}
use Rattle.ct_fs.proofs.calls.remove_by.Goals as goal

pub after_call-requires : goal.after_call-requires
after_call-requires g c = record { refused = λ r is. refused_so c.args.mounted (leave_op c.args.kind c.args.path.now) (Some c.remove_in-state.result.0) 1 c.args.remembered.now.learnt c.remove_in-state.result.1 r is (subst (λ v. IsAtRest (g.D.Pm.words v.dev)) c.mounted.view_is c.mounted.invariant.rest) c.remove_in-state.ensures.does c.requires.learnt }

pub returns-clause-so : goal.returns-clause-so
returns-clause-so g c = remembered_so (Some c.remove_in-state.result.0) _ c.after_call.ensures (none_below (Some c.remove_in-state.result.0))
