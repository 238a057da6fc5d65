-- What replies and a tree come to.
use Rattle.std.specs.Prelude.{ℕ, ◌+◌, ◌-◌, ◌^◌, ◌<◌, Bool, true, false, List, [], ◌∷◌, ◌++◌, codes, length, count_by}
use Rattle.std.specs.Fmt.{decimal}
use Rattle.ct_tree.specs.Resolve.{entries_in}
use Rattle.ct_tree.specs.Step.{count}
use Rattle.ct_tree.specs.Tree.{Tree, File, Dir, Entries, none, entry}
use Rattle.ct_tree.specs.declared.call.Reply.{Reply}
use Rattle.ct_tree.specs.declared.call.Reply.TheVariants.{Done, Data, Refused}
use Rattle.ct_tally.specs.declared.counts.Counts.{Counts}
use Rattle.ct_tally.specs.declared.tally.Tally.{Tally}

abbrev pub is_done : Reply → Bool
is_done Done = true
is_done reply = false

abbrev pub is_data : Reply → Bool
is_data (Data bytes) = true
is_data reply = false

abbrev pub is_refused : Reply → Bool
is_refused (Refused r) = true
is_refused reply = false

-- how many replies there are, and how many of each kind
abbrev pub counts_of : List Reply → Counts
counts_of replies = record {
  calls = length replies;
  done = count_by is_done replies;
  reads = count_by is_data replies;
  refused = count_by is_refused replies;
}

-- the same with one reply more
abbrev pub with_reply : Counts → Reply → Counts
with_reply counts Done = record { calls = counts.calls + 1; done = counts.done + 1; reads = counts.reads; refused = counts.refused }
with_reply counts (Data bytes) = record { calls = counts.calls + 1; done = counts.done; reads = counts.reads + 1; refused = counts.refused }
with_reply counts (Refused r) = record { calls = counts.calls + 1; done = counts.done; reads = counts.reads; refused = counts.refused + 1 }
with_reply counts reply = record { calls = counts.calls + 1; done = counts.done; reads = counts.reads; refused = counts.refused }

-- no count is at its end
pub record CanCount (counts : Counts) : Type 0 where
  pub calls : counts.calls < 2 ^ 64 - 1
  pub done : counts.done < 2 ^ 64 - 1
  pub reads : counts.reads < 2 ^ 64 - 1
  pub refused : counts.refused < 2 ^ 64 - 1

-- the size of a file; a directory has none
abbrev pub size_of : Tree → ℕ
size_of (File bytes) = length bytes
size_of (Dir es) = 0

-- the bytes of the files among entries
abbrev pub bytes_below : Entries → ℕ
bytes_below none = 0
bytes_below (entry name node rest) = size_of node + bytes_below rest

-- what replies come to, and the root of the tree that they left
abbrev pub tally_of : List Reply → Tree → Tally
tally_of replies t = record { counts = counts_of replies; files = count (entries_in t); bytes = bytes_below (entries_in t) }

-- the line of a tally
abbrev pub tally_line : Tally → List ℕ
tally_line tally =
    codes "calls " ++ decimal tally.counts.calls ++ codes " done " ++ decimal tally.counts.done
    ++ codes " data " ++ decimal tally.counts.reads ++ codes " refused " ++ decimal tally.counts.refused
    ++ codes " files " ++ decimal tally.files ++ codes " bytes " ++ decimal tally.bytes ++ 10 ∷ []

-- and of what replies come to
abbrev pub summary : List Reply → Tree → List ℕ
summary replies t = tally_line (tally_of replies t)
