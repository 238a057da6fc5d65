-- A call that a check refuses.
use Rattle.std.proofs.Common.{◌≡◌, refl, sym, subst, Some, Ok, Err, Result}
use Rattle.std.specs.Prelude.{IsErrAnd}
use Rattle.ct_tree.specs.Tree.{Tree}
use Rattle.ct_tree.specs.Step.{Op, refusal}
use Rattle.ct_tree.specs.declared.call.Refusal.{Refusal}
use Rattle.ct_tree.specs.declared.call.Reply.{Reply}
use Rattle.ct_tree.specs.declared.stop.Stop.{Stop}
use Rattle.ct_tree.specs.declared.stop.Stop.TheVariants.{Refused}
use Rattle.ct_moves.specs.Does.{Does}

pub refused : (t : Tree) (op : Op) (result : Result Reply Stop) (r : Refusal) → IsErrAnd result (λ s. s ≡ Refused r) → refusal t op ≡ Some r → Does t op result t
refused t op (Ok reply) r h g = absurd h
refused t op (Err s) r h g = subst (λ s. Does t op (Err s) t) (sym h) (g, refl)
