use Rattle.std.proofs.Common.{Some, subst}
use Rattle.ct_commit.specs.Rest.{IsAtRest}
use Rattle.ct_enter.specs.Makes.{make_op}
use Rattle.ct_fs.proofs.Kept.{live_after, refused_so, remembered_so}
use Rattle.ct_fs.proofs.calls.make_by.Goals as goal

pub after_call-requires : goal.after_call-requires
after_call-requires g c = record { refused = λ r is. refused_so c.args.mounted (make_op c.args.kind c.args.path.now) (Some c.make_in-state.result.0) c.make_in-state.new.free_from c.args.remembered.now.learnt c.make_in-state.result.1 r is (subst (λ v. IsAtRest (g.D.Pm.words v.dev)) c.mounted.view_is c.mounted.invariant.rest) c.make_in-state.ensures.does c.requires.learnt }

pub returns-clause-so : goal.returns-clause-so
returns-clause-so g c = remembered_so (Some c.make_in-state.result.0) _ c.after_call.ensures (live_after c.args.mounted (make_op c.args.kind c.args.path.now) (Some c.make_in-state.result.0) c.make_in-state.new.free_from c.make_in-state.result.1 (subst (λ v. IsAtRest (g.D.Pm.words v.dev)) c.mounted.view_is c.mounted.invariant.rest) c.make_in-state.ensures.does c.make_in-state.ensures.live c.make_in-state.ensures.below)
