-- An append is a write at the end.
use Rattle.std.proofs.Common.{◌≡◌, ℕ, List, subst, sym, Ok, Err, Result}
use Rattle.ct_tree.specs.Tree.{Tree}
use Rattle.ct_tree.specs.Step.{append, size_at, write}
use Rattle.ct_tree.specs.declared.call.Reply.{Reply}
use Rattle.ct_tree.specs.declared.stop.Stop.{Stop}
use Rattle.ct_tree.specs.declared.stop.Stop.TheVariants.{Refused, NoMemory}
use Rattle.ct_moves.specs.Does.{Does}

as_append : (t : Tree) (path bytes : List ℕ) (result : Result Reply Stop) (t' : Tree) → Does t (write path (size_at t path) bytes) result t' → Does t (append path bytes) result t'
as_append t path bytes (Ok reply) t' d = d
as_append t path bytes (Err (Refused r)) t' d = d
as_append t path bytes (Err NoMemory) t' d = d

pub append_writes : (t : Tree) (path : List ℕ) (end : ℕ) (bytes : List ℕ) (result : Result Reply Stop) (t' : Tree) → end ≡ size_at t path → Does t (write path end bytes) result t' → Does t (append path bytes) result t'
append_writes t path end bytes result t' is d = as_append t path bytes result t' (subst (λ n. Does t (write path n bytes) result t') is d)
