use Rattle.std.proofs.Common.{◌≤◌, ◌+◌, ◌*◌, arith}
use Rattle.ct_pm.proofs.Made.{makes_weaker}
use Rattle.ct_record.specs.Record.{IsTouched}
use Rattle.ct_record.proofs.Drafts.{fourth_added, long_added, long_kept, short_added, short_kept}
use Rattle.ct_record.proofs.Moments.{quiet_wider}
use Rattle.ct_record.proofs.pair.put_next.Goals as goal

pub returns-then-count-lt3-clause-quiet : goal.returns-then-count-lt3-clause-quiet
returns-then-count-lt3-clause-quiet g c =
    quiet_wider (IsTouched c.args.end) (λ word is. (omega (arith, is.0), omega (arith, is.1, c.if-count-lt3.true, c.requires.low), λ e. omega (arith, is.1, e, c.if-count-lt3.true), λ e. omega (arith, is.1, e, c.if-count-lt3.true)))
    c.put_pair.ensures.quiet

pub returns-then-count-lt3-clause-made : goal.returns-then-count-lt3-clause-made
returns-then-count-lt3-clause-made g c =
    makes_weaker (λ word value. IsTouched c.args.end word)
    (λ word value is. (omega (arith, is.0), omega (arith, is.1, c.if-count-lt3.true, c.requires.low), λ e. omega (arith, is.1, e, c.if-count-lt3.true), λ e. omega (arith, is.1, e, c.if-count-lt3.true)))
    c.put_pair.ensures.made

pub returns-then-count-eq3-clause-quiet : goal.returns-then-count-eq3-clause-quiet
returns-then-count-eq3-clause-quiet g c =
    let room : 536 ≤ c.args.end = omega (arith, c.if-count-eq3.true, c.requires.long (omega arith)) in
    quiet_wider (IsTouched c.args.end) (λ word is. (omega (arith, is.0), omega (arith, is.1, room), λ e. omega (arith, is.0, e), λ e. omega (arith, is.0, e))) c.put_fourth.ensures.quiet

pub returns-then-count-eq3-clause-made : goal.returns-then-count-eq3-clause-made
returns-then-count-eq3-clause-made g c =
    let room : 536 ≤ c.args.end = omega (arith, c.if-count-eq3.true, c.requires.long (omega arith)) in
    makes_weaker (λ word value. IsTouched c.args.end word) (λ word value is. (omega (arith, is.0), omega (arith, is.1, room), λ e. omega (arith, is.0, e), λ e. omega (arith, is.0, e))) c.put_fourth.ensures.made

pub returns-clause-quiet : goal.returns-clause-quiet
returns-clause-quiet g c =
    let room : 530 + 2 * c.args.count ≤ c.args.end = c.requires.long c.if-count-lt3.false in
    quiet_wider (IsTouched c.args.end) (λ word is. (omega (arith, is.0), omega (arith, is.1, room), λ e. omega (arith, is.0, e), λ e. omega (arith, is.0, e))) c.put_pair-2.ensures.quiet

pub returns-clause-made : goal.returns-clause-made
returns-clause-made g c =
    let room : 530 + 2 * c.args.count ≤ c.args.end = c.requires.long c.if-count-lt3.false in
    makes_weaker (λ word value. IsTouched c.args.end word) (λ word value is. (omega (arith, is.0), omega (arith, is.1, room), λ e. omega (arith, is.0, e), λ e. omega (arith, is.0, e))) c.put_pair-2.ensures.made

pub returns-clause-added : goal.returns-clause-added
returns-clause-added g c =
    long_added c.put_pair-2.result c.args.count c.args.word c.args.value (g.D.Pm.words c.args.dev.now) (g.D.Pm.words c.put_pair-2.new.dev) (omega (arith, c.if-count-lt3.false, c.if-count-eq3.false))
    c.put_pair-2.ensures.same c.put_pair-2.ensures.word c.put_pair-2.ensures.value

pub returns-clause-kept : goal.returns-clause-kept
returns-clause-kept g c =
    long_kept c.args.count (g.D.Pm.words c.args.dev.now) (g.D.Pm.words c.put_pair-2.new.dev) (omega (arith, c.if-count-lt3.false, c.if-count-eq3.false)) c.put_pair-2.ensures.same

pub returns-then-count-lt3-clause-added : goal.returns-then-count-lt3-clause-added
returns-then-count-lt3-clause-added g c =
    short_added c.put_pair.result c.args.count c.args.word c.args.value (g.D.Pm.words c.args.dev.now) (g.D.Pm.words c.put_pair.new.dev) c.if-count-lt3.true c.put_pair.ensures.same c.put_pair.ensures.word c.put_pair.ensures.value

pub returns-then-count-lt3-clause-kept : goal.returns-then-count-lt3-clause-kept
returns-then-count-lt3-clause-kept g c =
    short_kept c.args.count (g.D.Pm.words c.args.dev.now) (g.D.Pm.words c.put_pair.new.dev) (omega arith) (λ word low high. c.put_pair.ensures.same.others word (λ is. omega (arith, is.0, high)))

pub returns-then-count-eq3-clause-added : goal.returns-then-count-eq3-clause-added
returns-then-count-eq3-clause-added g c =
    fourth_added c.put_fourth.result c.args.count (record { word = c.args.word; value = c.args.value }) (g.D.Pm.words c.args.dev.now) (g.D.Pm.words c.put_fourth.new.dev) c.if-count-eq3.true c.put_fourth.ensures.pairs

pub returns-then-count-eq3-clause-kept : goal.returns-then-count-eq3-clause-kept
returns-then-count-eq3-clause-kept g c =
    short_kept c.args.count (g.D.Pm.words c.args.dev.now) (g.D.Pm.words c.put_fourth.new.dev) (omega (arith, c.if-count-eq3.true)) (λ word low high. c.put_fourth.ensures.same.others word (λ is. omega (arith, is.0, high, c.if-count-eq3.true)))
