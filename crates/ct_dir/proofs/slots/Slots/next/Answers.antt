use Rattle.std.proofs.Common.{refl, sym, ◌∙◌, arith}
use Rattle.ct_dir.proofs.Held.{dir-small}
use Rattle.ct_dir.proofs.Stepping.{meets_here, page_here-is, page_stays, meets_none, meets_there, meets_shows, meets_used, meets_empty}
use Rattle.ct_dir.proofs.slots.Slots.next.Goals as goal

pub loop-self-preserved-in-None : goal.loop-self-preserved-in-None
loop-self-preserved-in-None g c =
    let img = g.D.Pm.words c.args.dev.now in
    let dir = c.args.self.now.dir in
    let so_far = c.loop-self.invariant in
    let m = meets_here {img = img} {dir = dir} c.loop-self.self c.requires.readable (g.met.D.Pm.words_fit c.args.dev.now) so_far.stands so_far.dir c.loop-self-test.true in
    record {
      stands = record { aligned = omega (arith, so_far.stands.aligned); page = λ off. absurd (off (omega arith)) };
      dir = so_far.dir;
      from = omega (arith, so_far.from);
      empty = meets_none m c.args.self.now.at (sym c.in-None.is ∙ page_here-is img dir c.loop-self.self _ so_far.dir c.page_here-self.ensures) so_far.empty;
    }

pub read-slot-requires-clause-there : goal.read-slot-requires-clause-there
read-slot-requires-clause-there g c =
    let img = g.D.Pm.words c.args.dev.now in
    let dir = c.args.self.now.dir in
    let so_far = c.loop-self.invariant in
    let m = meets_here {img = img} {dir = dir} c.loop-self.self c.requires.readable (g.met.D.Pm.words_fit c.args.dev.now) so_far.stands so_far.dir c.loop-self-test.true in
    meets_there m c.in-Some.page (sym c.in-Some.is ∙ page_here-is img dir c.loop-self.self _ so_far.dir c.page_here-self.ensures)

pub returns-then-slot-ne0-clause-shows : goal.returns-then-slot-ne0-clause-shows
returns-then-slot-ne0-clause-shows g c =
    let img = g.D.Pm.words c.args.dev.now in
    let dir = c.args.self.now.dir in
    let so_far = c.loop-self.invariant in
    let m = meets_here {img = img} {dir = dir} c.loop-self.self c.requires.readable (g.met.D.Pm.words_fit c.args.dev.now) so_far.stands so_far.dir c.loop-self-test.true in
    let slot = c.read-slot.ensures in
    meets_shows m c.in-Some.page c.read-slot.result (sym c.in-Some.is ∙ page_here-is img dir c.loop-self.self _ so_far.dir c.page_here-self.ensures) slot.offset slot.place slot.head

pub returns-then-slot-ne0-clause-used : goal.returns-then-slot-ne0-clause-used
returns-then-slot-ne0-clause-used g c =
    let img = g.D.Pm.words c.args.dev.now in
    let dir = c.args.self.now.dir in
    let so_far = c.loop-self.invariant in
    let m = meets_here {img = img} {dir = dir} c.loop-self.self c.requires.readable (g.met.D.Pm.words_fit c.args.dev.now) so_far.stands so_far.dir c.loop-self-test.true in
    let slot = c.read-slot.ensures in
    let shows = meets_shows m c.in-Some.page c.read-slot.result (sym c.in-Some.is ∙ page_here-is img dir c.loop-self.self _ so_far.dir c.page_here-self.ensures) slot.offset slot.place slot.head in
    meets_used m c.read-slot.result shows slot.offset c.if-slot-ne0.true

pub loop-self-preserved : goal.loop-self-preserved
loop-self-preserved g c =
    let img = g.D.Pm.words c.args.dev.now in
    let dir = c.args.self.now.dir in
    let so_far = c.loop-self.invariant in
    let m = meets_here {img = img} {dir = dir} c.loop-self.self c.requires.readable (g.met.D.Pm.words_fit c.args.dev.now) so_far.stands so_far.dir c.loop-self-test.true in
    let slot = c.read-slot.ensures in
    let shows = meets_shows m c.in-Some.page c.read-slot.result (sym c.in-Some.is ∙ page_here-is img dir c.loop-self.self _ so_far.dir c.page_here-self.ensures) slot.offset slot.place slot.head in
    record {
      stands = record {
        aligned = omega (arith, so_far.stands.aligned);
        page = page_stays img dir c.loop-self.self _ _ c.requires.readable so_far.dir so_far.stands c.loop-self-test.true c.page_here-self.ensures refl;
      };
      dir = so_far.dir;
      from = omega (arith, so_far.from);
      empty = meets_empty m c.read-slot.result c.args.self.now.at shows slot.offset c.if-slot-ne0.false (dir-small img dir) so_far.empty;
    }
