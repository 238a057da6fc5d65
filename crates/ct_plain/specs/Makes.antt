-- What a call leaves that makes a node at a path, and why it stopped where it did.
use Rattle.std.specs.Prelude.{◌≡◌, ℕ, List, Ok, Err, Some, None}
use Rattle.std.specs.declared.result.Result.{Result}
use Rattle.ct_tree.specs.Tree.{Tree}
use Rattle.ct_tree.specs.Resolve.{put}
use Rattle.ct_tree.specs.Checks.{names}
use Rattle.ct_tree.specs.Step.{make_refusal}
use Rattle.ct_tree.specs.declared.call.Reply.{Reply}
use Rattle.ct_tree.specs.declared.call.Reply.TheVariants.{Done}
use Rattle.ct_tree.specs.declared.stop.Stop.{Stop}
use Rattle.ct_tree.specs.declared.stop.Stop.TheVariants.{Refused, NoMemory}

abbrev pub Makes : Tree → List ℕ → Tree → Result Reply Stop → Tree → Type 0
Makes t path n (Ok reply) t' = (make_refusal t path ≡ None) × (reply ≡ Done) × (t' ≡ put t (names path) n)
Makes t path n (Err (Refused r)) t' = (make_refusal t path ≡ Some r) × (t' ≡ t)
Makes t path n (Err NoMemory) t' = t' ≡ t
