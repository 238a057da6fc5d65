use Rattle.std.proofs.Common.{◌∙◌, sym, ap, subst, length, arith}
use Rattle.ct_pm.specs.Images.{History, IsSettled}
use Rattle.ct_pm.proofs.Steps.{length-words_after}
use Rattle.pm_outbox.proofs.Marks.{none_marked}
use Rattle.pm_outbox.proofs.Medium.{asked_allowed}
use Rattle.pm_outbox.proofs.Start.{settled_start}
use Rattle.pm_outbox.specs.Asked.{is_marked}
use Rattle.pm_outbox.proofs.outbox.OutboxPm.restart.Goals as goal

pub invariant_of-self-clause-marked : goal.invariant_of-self-clause-marked
invariant_of-self-clause-marked c = λ line within.
    let h = c.args.self.now.past.past in
    let size = ap length c.args.self.now.replays ∙ length-words_after h.start h.steps in
    c.args.self.now.marked line within
    ∙ none_marked h.start h.steps line c.requires.settled (omega (arith, size, c.args.self.now.marks_size, within))
    ∙ sym (ap (λ (past : History). is_marked past.start past.steps line) c.start-self.ensures)

pub returns-clause-held : goal.returns-clause-held
returns-clause-held c = λ image held. c.requires.settled image (asked_allowed _ _ image held) ∙ sym c.args.self.now.replays

pub returns-clause-settled : goal.returns-clause-settled
returns-clause-settled c = subst IsSettled (sym c.start-self.ensures) (settled_start _)
