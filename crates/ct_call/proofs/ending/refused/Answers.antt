use Rattle.std.proofs.Common.{◌⊎◌, ℕ, Err, inl, refl, arith}
use Rattle.ct_tree.specs.Lands.{Lands}
use Rattle.ct_call.proofs.Carried.{change_wants}
use Rattle.ct_call.proofs.Resting.{idle_phase, rest_lands}
use Rattle.ct_call.proofs.Spaces.{is_told, not_refused}
use Rattle.ct_call.specs.Calls.{after}
use Rattle.ct_call.specs.declared.mount.FsError.TheVariants.{Refused}
use Rattle.ct_call.proofs.ending.refused.Goals as goal

pub returns-clause-does : goal.returns-clause-does
returns-clause-does g c t op change st refused = record {
  answer = refused;
  told = is_told c.requires.mounted.rest st op (change_wants op change) {T = ℕ} (Err (Refused c.args.refusal)) refused;
  leaves = refl;
  later = omega arith;
  succeeds = λ can quiet. absurd (not_refused can c.args.refusal refused);
  phase = idle_phase (λ image. Lands image t ⊎ Lands image (after t op)) c.requires.mounted (g.met.D.Pm.replays c.args.dev) (inl (rest_lands c.requires.mounted.rest st));
}
