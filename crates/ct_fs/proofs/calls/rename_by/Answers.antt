use Rattle.std.proofs.Common.{Some, subst}
use Rattle.ct_commit.specs.Rest.{IsAtRest}
use Rattle.ct_tree.specs.Step.{rename}
use Rattle.ct_fs.proofs.Kept.{none_below, refused_so, remembered_so}
use Rattle.ct_fs.proofs.calls.rename_by.Goals as goal

pub after_call-requires : goal.after_call-requires
after_call-requires g c = record { refused = λ r is. refused_so c.args.mounted (rename c.args.path.now c.args.to.now) (Some c.rename_in-state.result.0) 1 c.args.remembered.now.learnt c.rename_in-state.result.1 r is (subst (λ v. IsAtRest (g.D.Pm.words v.dev)) c.mounted.view_is c.mounted.invariant.rest) c.rename_in-state.ensures.does c.requires.learnt }

pub returns-clause-so : goal.returns-clause-so
returns-clause-so g c = remembered_so (Some c.rename_in-state.result.0) _ c.after_call.ensures (none_below (Some c.rename_in-state.result.0))
