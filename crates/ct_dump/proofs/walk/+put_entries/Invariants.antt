use Rattle.std.proofs.Common.{◌≡◌, ◌≤◌, ◌++◌, length, List, true}
use Rattle.std.specs.Option.{option_map}
use Rattle.std.specs.Io.KnownBytes.{Appends}
use Rattle.ct_tree.specs.Tree.{Entries, nodes_below}
use Rattle.ct_tree.specs.Step.{count}
use Rattle.ct_dump.specs.Dumped.{Placed, placed_in, text_of, are_short}
use Rattle.ct_dump.specs.Looks.{entries_at, first_name}
use Rattle.ct_dump.proofs.Rests.{IsRest, entries_from}
use Rattle.ct_dump.proofs.walk.+put_entries.Given as goal

abbrev pub decreases-put_entries : goal.decreases-put_entries
decreases-put_entries g l = nodes_below (entries_at (g.T.Seen.tree l.tree.now) l.path.now.items)

-- what was written and the lines of the entries to come are all lines
abbrev pub invariant-entries : goal.invariant-entries
invariant-entries g l =
    (l.path.items ≡ l.fn.path.items)
    × (l.end ≡ length l.fn.path.items)
    × ((rest : Entries) × IsRest rest (entries_at (g.T.Seen.tree l.tree) l.fn.path.items) × (option_map (λ name. name.items) l.last ≡ first_name rest)
    × ((done : List Placed) × Appends (g.O.Sink.written l.fn.out) (g.O.Sink.written l.out) (text_of done) × (are_short done ≡ true)
    × (done ++ placed_in l.fn.path.items rest ≡ placed_in l.fn.path.items (entries_at (g.T.Seen.tree l.tree) l.fn.path.items))))
    × (g.O.Sink.faults l.fn.out ≤ g.O.Sink.faults l.out)

abbrev pub decreases-entries : goal.decreases-entries
decreases-entries g l = count (entries_from (option_map (λ name. name.items) l.last) (entries_at (g.T.Seen.tree l.tree) l.fn.path.items))
