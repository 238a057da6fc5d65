use Rattle.std.proofs.Common.{◌-◌, ◌≡◌, ◌≤◌, ◌%◌, ◌++◌, ℕ, List}
use Rattle.std.specs.Io.KnownBytes.{Appends}
use Rattle.ct_tree.specs.Checks.{at}
use Rattle.ct_tree.specs.Content.{bytes_in}
use Rattle.ct_dump.proofs.Holes.{rest_text}
use Rattle.ct_dump.proofs.file.put_pages.Given as goal

-- what was written and the lines of the pages to come are all lines
abbrev pub invariant-pages : goal.invariant-pages
invariant-pages g l =
    (l.off % 4096 ≡ 0)
    × ((done : List ℕ) × Appends (g.O.Sink.written l.fn.out) (g.O.Sink.written l.out) done
    × (done ++ rest_text l.path (bytes_in (at (g.T.Seen.tree l.tree) l.path)) l.off ≡ rest_text l.path (bytes_in (at (g.T.Seen.tree l.tree) l.path)) 0))
    × (g.O.Sink.faults l.fn.out ≤ g.O.Sink.faults l.out)

abbrev pub decreases-pages : goal.decreases-pages
decreases-pages g l = l.size - l.off
