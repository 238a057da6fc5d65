-- How many pages the calls of a script take at most, one after another, and when a partition may be wanting.
use Rattle.std.specs.Prelude.{◌≡◌, ℕ, ◌+◌, ◌*◌, ◌<◌, ◌≤◌, List, [], ◌∷◌, length, Contains}
use Rattle.ct_base.specs.declared.layout.TheConstants.{PARTITION_SLOTS}
use Rattle.ct_tree.specs.Runs.{Item, bad, call}
use Rattle.ct_tree.specs.Step.{Op, append, fill, size_at, step, write}
use Rattle.ct_tree.specs.Tree.{Tree, nodes}
use Rattle.ct_tree.specs.declared.call.Refusal.{Refusal}
use Rattle.ct_tree.specs.declared.call.Refusal.TheVariants.{NoPages, NoPartition}
use Rattle.ct_tree.specs.declared.call.Reply.{Reply}
use Rattle.ct_tree.specs.declared.call.Reply.TheVariants.{Done, Refused}
use Rattle.ct_shell.specs.Binds.{IsSpace}
use Rattle.ct_laws.specs.declared.limits.TheConstants.{CALL_PAGES}
use Rattle.ct_laws.specs.Bounds.{pages_written}

-- on how many pages of a file the call writes, on this tree
abbrev pub touched_in : Tree → Op → ℕ
touched_in t (write path off bytes) = pages_written off (length bytes)
touched_in t (fill path off len byte) = pages_written off len
touched_in t (append path bytes) = pages_written (size_at t path) (length bytes)
touched_in t op = 0

-- the tree after a call that had the reply: only one that is done changes it
abbrev pub tree_after : Tree → Op → Reply → Tree
tree_after t op Done = (step t op).1
tree_after t op reply = t

-- for each call two pages for each page of a file that it writes on, and those that any call takes
abbrev pub most_pages : Tree → List Item → List Reply → ℕ
most_pages t (call op ∷ items) (reply ∷ replies) = 2 * touched_in t op + CALL_PAGES + most_pages (tree_after t op reply) items replies
most_pages t (bad ∷ items) (reply ∷ replies) = most_pages t items replies
most_pages t items replies = 0

-- no reply is for want of pages
abbrev pub NeverLacksPages : List Reply → Type 0
NeverLacksPages replies = (free need : ℕ) → Contains replies (Refused (NoPages free need)) → ⊥

-- a reply for want of a partition comes only where as many nodes are there as root slots for partitions
abbrev pub LacksPartitionsCrowded : Tree → List Item → List Reply → Type 0
LacksPartitionsCrowded t (call op ∷ items) (reply ∷ replies) =
    ((level : ℕ) → reply ≡ Refused (NoPartition level) → PARTITION_SLOTS ≤ nodes t) × LacksPartitionsCrowded (tree_after t op reply) items replies
LacksPartitionsCrowded t (bad ∷ items) (reply ∷ replies) = LacksPartitionsCrowded t items replies
LacksPartitionsCrowded t items replies = Unit {0}

-- for each call on a plain tree two pages for each page of a file that it writes on, and those that any call takes
abbrev pub plain_pages : Tree → List Item → ℕ
plain_pages t (call op ∷ items) = 2 * touched_in t op + CALL_PAGES + plain_pages (step t op).1 items
plain_pages t (bad ∷ items) = plain_pages t items
plain_pages t [] = 0

-- a plain tree that answers the calls has fewer nodes than this when each comes
abbrev pub StaysBelow : ℕ → Tree → List Item → Type 0
StaysBelow most t (call op ∷ items) = (nodes t < most) × StaysBelow most (step t op).1 items
StaysBelow most t (bad ∷ items) = StaysBelow most t items
StaysBelow most t [] = Unit {0}

-- no reply is a refusal for space
abbrev pub NeverLacksSpace : List Reply → Type 0
NeverLacksSpace replies = (r : Refusal) → IsSpace r → Contains replies (Refused r) → ⊥
