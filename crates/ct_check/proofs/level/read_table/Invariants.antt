use Rattle.std.proofs.Common.{◌≡◌, ℕ, ◌+◌, ◌*◌, length}
use Rattle.ct_check.specs.Reading.{IsAt, Reads}
use Rattle.ct_check.proofs.level.read_table.Given as goal

abbrev pub invariant-loop-i : goal.invariant-loop-i
invariant-loop-i g l = record {
  next : length l.next.items ≡ l.pages;
  met : length l.met.pages.items ≡ l.pages;
  reads : (d : ℕ) → IsAt (g.D.Pm.words l.dev) d l.table
      → Reads (g.D.Pm.words l.dev) d (l.table * 512) l.initial.next.items l.initial.met.pages.items l.initial.met.twice
      → Reads (g.D.Pm.words l.dev) d (l.table * 512 + l.i) l.next.items l.met.pages.items l.met.twice;
}
