use Rattle.std.proofs.Common.{◌∙◌, sym}
use Rattle.pm_outbox.proofs.Medium.{asked_allowed}
use Rattle.msa.proofs.laws.a_medium_that_saw_all_holds_the_words.Goals as goal

pub returns : goal.returns
returns c = λ dev settled image held. settled image (asked_allowed _ _ image held) ∙ sym dev.replays
