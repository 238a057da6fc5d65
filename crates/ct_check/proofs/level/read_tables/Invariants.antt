use Rattle.std.proofs.Common.{◌≡◌, ℕ, ◌*◌, length}
use Rattle.ct_check.specs.Reading.{IsLevel, Reads}
use Rattle.ct_check.proofs.level.read_tables.Given as goal

abbrev pub invariant-loop-table : goal.invariant-loop-table
invariant-loop-table g l = record {
  next : length l.next.items ≡ l.pages;
  met : length l.met.pages.items ≡ l.pages;
  reads : (d : ℕ) → IsLevel (g.D.Pm.words l.dev) d l.level.items
      → Reads (g.D.Pm.words l.dev) d 0 l.initial.next.items l.initial.met.pages.items l.initial.met.twice
      → Reads (g.D.Pm.words l.dev) d (l.table * 512) l.next.items l.met.pages.items l.met.twice;
}
