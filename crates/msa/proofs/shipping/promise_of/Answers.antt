use Rattle.std.proofs.Common.{◌∙◌, sym}
use Rattle.pm_outbox.proofs.Fronts.{front_allowed}
use Rattle.pm_outbox.proofs.Medium.{asked_allowed}
use Rattle.pm_outbox.specs.Outbox.{history}
use Rattle.msa.proofs.shipping.promise_of.Goals as goal

pub returns : goal.returns
returns c = λ before ready.
    let h = history before.dev in
    record {
      fronts = front_allowed h.start h.steps;
      all = λ image held. (c.device.ensures.rest before ready).settled image (asked_allowed h.start h.steps image held) ∙ sym before.dev.replays;
    }
