use Rattle.std.proofs.Common.{rules, ◌++◌, ap, sym, ◌∙◌, length}
use Rattle.ct_gen.specs.Made.{draws, gen_op}
use Rattle.ct_gen.proofs.Steps.{creations-step, draws-alone, draws-end, drawn-next}
use Rattle.ct_gen.proofs.calls.GenIterator.next.Goals as goal

pub returns-then-self-lt-FILES-clause-steps : goal.returns-then-self-lt-FILES-clause-steps
returns-then-self-lt-FILES-clause-steps c =
    sym c.self.view_is ∙ ap (λ calls. calls ++ draws c.self.inside.left c.self.inside.state) (creations-step c.self.inside.files c.if-self-lt-FILES.true)

pub returns-then-self-lt-FILES-clause-goes : goal.returns-then-self-lt-FILES-clause-goes
returns-then-self-lt-FILES-clause-goes c =
    let step = sym c.self.view_is
    ∙ ap (λ calls. calls ++ draws c.self.inside.left c.self.inside.state) (creations-step c.self.inside.files c.if-self-lt-FILES.true) in
    let shorter = ap length step in
    search rules

pub returns-then-self-eq0-clause-steps : goal.returns-then-self-eq0-clause-steps
returns-then-self-eq0-clause-steps c =
    let none = sym c.self.view_is
    ∙ draws-alone c.self.inside.files c.self.inside.left c.self.inside.state c.if-self-lt-FILES.false
    ∙ draws-end c.self.inside.left c.self.inside.state c.if-self-eq0.true in
    (none, none)

pub returns-clause-steps : goal.returns-clause-steps
returns-clause-steps c =
    sym c.self.view_is
    ∙ drawn-next c.self.inside.files c.self.inside.left c.self.inside.state c.step-self-inside.result (gen_op c.draw.result)
    c.if-self-lt-FILES.false c.if-self-eq0.false c.step-self-inside.ensures c.draw.ensures

pub returns-clause-goes : goal.returns-clause-goes
returns-clause-goes c =
    let step = sym c.self.view_is
    ∙ drawn-next c.self.inside.files c.self.inside.left c.self.inside.state c.step-self-inside.result (gen_op c.draw.result)
    c.if-self-lt-FILES.false c.if-self-eq0.false c.step-self-inside.ensures c.draw.ensures in
    let shorter = ap length step in
    search rules
