use Rattle.std.proofs.Common.{sym, ◌∙◌}
use Rattle.ct_walk.proofs.Deepening.{wiped, extends_cleared, extends_made, done_made, tables_wiped}
use Rattle.ct_walk.proofs.Wiped.{tables_new, agrees_wiped, missing_at_wiped}
use Rattle.ct_walk.proofs.Zeros.{on_ok_then}
use Rattle.ct_walk.proofs.depths.make_lowest.Goals as goal

pub returns-in_err-clear_lowest-clause-extends : goal.returns-in_err-clear_lowest-clause-extends
returns-in_err-clear_lowest-clause-extends g c =
    extends_cleared (g.D.Pm.words c.args.dev.now) (g.D.Pm.words c.clear_lowest.new.dev) c.args.frames.now c.args.count c.args.wants.now c.requires.tables c.requires.agrees c.clear_lowest.ensures.low c.clear_lowest.ensures.same c.clear_lowest.ensures.images c.clear_lowest.ensures.made

pub link_lowest-requires-clause-tables : goal.link_lowest-requires-clause-tables
link_lowest-requires-clause-tables g c =
    tables_new (wiped (g.D.Pm.words c.args.dev.now) (g.D.Pm.words c.clear_lowest.new.dev) c.args.frames.now c.args.count c.requires.tables c.requires.agrees c.clear_lowest.ensures.low c.clear_lowest.ensures.same)

pub link_lowest-requires-clause-agrees : goal.link_lowest-requires-clause-agrees
link_lowest-requires-clause-agrees g c =
    agrees_wiped (wiped (g.D.Pm.words c.args.dev.now) (g.D.Pm.words c.clear_lowest.new.dev) c.args.frames.now c.args.count c.requires.tables c.requires.agrees c.clear_lowest.ensures.low c.clear_lowest.ensures.same) c.requires.agrees

pub link_lowest-requires-clause-above : goal.link_lowest-requires-clause-above
link_lowest-requires-clause-above g c =
    let u = wiped (g.D.Pm.words c.args.dev.now) (g.D.Pm.words c.clear_lowest.new.dev) c.args.frames.now c.args.count c.requires.tables c.requires.agrees c.clear_lowest.ensures.low c.clear_lowest.ensures.same in
    tables_wiped c.args.wants.now c.args.depth c.requires.deep u c.requires.above

pub link_lowest-requires-clause-count : goal.link_lowest-requires-clause-count
link_lowest-requires-clause-count g c =
    let u = wiped (g.D.Pm.words c.args.dev.now) (g.D.Pm.words c.clear_lowest.new.dev) c.args.frames.now c.args.count c.requires.tables c.requires.agrees c.clear_lowest.ensures.low c.clear_lowest.ensures.same in
    c.requires.count ∙ sym (missing_at_wiped u c.args.wants.now c.args.depth c.requires.deep)

pub returns-clause-extends : goal.returns-clause-extends
returns-clause-extends g c =
    let u = wiped (g.D.Pm.words c.args.dev.now) (g.D.Pm.words c.clear_lowest.new.dev) c.args.frames.now c.args.count c.requires.tables c.requires.agrees c.clear_lowest.ensures.low c.clear_lowest.ensures.same in
    extends_made u
    (extends_cleared (g.D.Pm.words c.args.dev.now) (g.D.Pm.words c.clear_lowest.new.dev) c.args.frames.now c.args.count c.args.wants.now c.requires.tables c.requires.agrees c.clear_lowest.ensures.low c.clear_lowest.ensures.same c.clear_lowest.ensures.images c.clear_lowest.ensures.made)
    c.in_ok-clear_lowest.ensures.settled c.link_lowest.ensures.extends

pub returns-clause-done : goal.returns-clause-done
returns-clause-done g c =
    let u = wiped (g.D.Pm.words c.args.dev.now) (g.D.Pm.words c.clear_lowest.new.dev) c.args.frames.now c.args.count c.requires.tables c.requires.agrees c.clear_lowest.ensures.low c.clear_lowest.ensures.same in
    on_ok_then c.link_lowest.result c.link_lowest.ensures.done (λ done. done_made u c.in_ok-clear_lowest.ensures.settled done)
