-- What a call leaves, and why it stopped where it did.
use Rattle.std.specs.Prelude.{◌≡◌, Ok, Err, Some, None}
use Rattle.std.specs.declared.result.Result.{Result}
use Rattle.ct_tree.specs.Tree.{Tree}
use Rattle.ct_tree.specs.Step.{Op, refusal, effect}
use Rattle.ct_tree.specs.declared.call.Reply.{Reply}
use Rattle.ct_tree.specs.declared.stop.Stop.{Stop}
use Rattle.ct_tree.specs.declared.stop.Stop.TheVariants.{Refused, NoMemory}

-- with no check that fails the effect is there; a call that stops leaves the tree
abbrev pub Does : Tree → Op → Result Reply Stop → Tree → Type 0
Does t op (Ok reply) t' = (refusal t op ≡ None) × ((reply, t') ≡ effect t op)
Does t op (Err (Refused r)) t' = (refusal t op ≡ Some r) × (t' ≡ t)
Does t op (Err NoMemory) t' = t' ≡ t
