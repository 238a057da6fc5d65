use Rattle.std.proofs.Common.{◌≡◌, ◌≤◌, ◌+◌, ◌-◌, ◌∙◌, ap, sym, arith}
use Rattle.ct_base.specs.Plan.{free_number}
use Rattle.ct_base.specs.View.{view}
use Rattle.ct_inode.proofs.Numbers.{free_first, free_behind, free_end, free_split, live_below}
use Rattle.ct_inode.proofs.free.first_free_from.Goals as goal

pub loop-n-init : goal.loop-n-init
loop-n-init g c =
    let from : 1 ≤ c.max-n.result = omega (arith, c.max-n.ensures) in
    record {
      from = from;
      found = live_below (view (g.D.Pm.words c.args.dev.now)) c.args.count c.max-n.result from (λ i low high. (c.requires.live i low (omega (arith, low, high, c.max-n.ensures))).used);
    }

pub returns-in-Some : goal.returns-in-Some
returns-in-Some g c =
    let b = view (g.D.Pm.words c.args.dev.now) in
    let n = c.loop-n.n in
    let past = c.min-past.result in
    let is = c.loop-n.invariant.found ∙ free_split b n past (c.args.count + 1) (omega arith) (omega arith) ∙ free_first b n (past - n) (c.args.count + 1 - past) c.in-Some.free (sym c.in-Some.ensures) in
    sym is

pub loop-n-preserved : goal.loop-n-preserved
loop-n-preserved g c =
    let b = view (g.D.Pm.words c.args.dev.now) in
    let n = c.loop-n.n in
    let past = c.min-past.result in
    let last : n + (past - n) ≡ past = omega arith in
    record {
      from = omega (arith, c.loop-n.invariant.from);
      found = c.loop-n.invariant.found ∙ free_split b n past (c.args.count + 1) (omega arith) (omega arith)
          ∙ free_behind b n (past - n) (c.args.count + 1 - past) (sym c.in-None.ensures) ∙ ap (λ m. free_number b m (c.args.count + 1 - past)) last;
    }

pub returns : goal.returns
returns g c =
    let b = view (g.D.Pm.words c.args.dev.now) in
    let is = c.loop-n.invariant.found ∙ free_end b c.loop-n.n (c.args.count + 1) (omega arith) in
    sym is
