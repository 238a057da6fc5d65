use Rattle.std.proofs.Common.{◌⊎◌, ◌≡◌, ◌-◌, ◌≤◌}
use Rattle.ct_script.specs.Feed.{IsUnended}
use Rattle.ct_script.proofs.Feeds.{Reads}
use Rattle.ct_script.proofs.feed.Feed.advance.Given as goal

abbrev pub invariant-pieces : goal.invariant-pieces
invariant-pieces g l = record {
  reads : Reads l.passed l.fn.self l.self (g.S.Source.rest l.fn.input) (g.S.Source.rest l.input);
  ready : ((l.self.held ≡ l.fn.self.held) × (l.input ≡ l.fn.input)) ⊎ IsUnended l.fn.self.held;
  later : g.S.Source.faults l.fn.input ≤ g.S.Source.faults l.input;
}

abbrev pub decreases-pieces : goal.decreases-pieces
decreases-pieces g l = 16777217 - l.self.given
