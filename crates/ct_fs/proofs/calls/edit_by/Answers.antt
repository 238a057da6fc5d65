use Rattle.std.proofs.Common.{Some, subst}
use Rattle.ct_commit.specs.Rest.{IsAtRest}
use Rattle.ct_edit.specs.Edits.{edit_op}
use Rattle.ct_fs.proofs.Kept.{live_after, names_after, refused_so, remembered_so}
use Rattle.ct_fs.proofs.calls.edit_by.Goals as goal

pub after_edit-requires-clause-refused : goal.after_edit-requires-clause-refused
after_edit-requires-clause-refused g c r is =
    refused_so c.args.mounted (edit_op c.args.path.now c.args.edit) (Some c.edit_in-state.result.0) c.args.remembered.now.free_from c.args.remembered.now.learnt c.edit_in-state.result.1 r is (subst (λ v. IsAtRest (g.D.Pm.words v.dev)) c.mounted.view_is c.mounted.invariant.rest) c.edit_in-state.ensures.does c.requires.learnt

pub after_edit-requires-clause-names : goal.after_edit-requires-clause-names
after_edit-requires-clause-names g c =
    names_after c.args.mounted (edit_op c.args.path.now c.args.edit) (Some c.edit_in-state.result.0) c.args.remembered.now.free_from c.args.remembered.now.learnt c.edit_in-state.result.1 c.requires.learnt c.edit_in-state.ensures.directories

pub returns-clause-so : goal.returns-clause-so
returns-clause-so g c = remembered_so (Some c.edit_in-state.result.0) _ c.after_edit.ensures (live_after c.args.mounted (edit_op c.args.path.now c.args.edit) (Some c.edit_in-state.result.0) c.args.remembered.now.free_from c.edit_in-state.result.1 (subst (λ v. IsAtRest (g.D.Pm.words v.dev)) c.mounted.view_is c.mounted.invariant.rest) c.edit_in-state.ensures.does c.edit_in-state.ensures.live c.requires.live)
