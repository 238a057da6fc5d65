use Rattle.std.proofs.Common.{sym, ap, subst, ◌∙◌}
use Rattle.ct_frames.specs.Agrees.{Agrees}
use Rattle.ct_frames.specs.Free.{FreePages}
use Rattle.ct_pm.specs.Ram.{words_of}
use Rattle.ct_walk.proofs.Blank.{blank_device}
use Rattle.allocator_tests.proofs.Devices.{empty_device}
use Rattle.allocator_tests.proofs.volume.empty.Goals as goal

pub returns-clause-empty : goal.returns-clause-empty
returns-clause-empty c =
    empty_device (words_of c.new-3.result.dev) (words_of c.in_ok-dev.dev) c.args.pages c.requires.least c.in_ok-dev.ensures.words (ap words_of c.new-3.ensures ∙ c.store.ensures.words)

pub returns-clause-agrees : goal.returns-clause-agrees
returns-clause-agrees c =
    subst (λ (f : FreePages). Agrees (words_of c.new-3.result.dev) f) (sym c.in_ok-frames.ensures)
    (blank_device (words_of c.new-3.result.dev) (words_of c.in_ok-dev.dev) c.args.pages c.requires.least c.in_ok-dev.ensures.words (ap words_of c.new-3.ensures ∙ c.store.ensures.words)).1
