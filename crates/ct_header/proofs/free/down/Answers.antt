use Rattle.std.proofs.Common.{◌+◌, arith}
use Rattle.ct_parts.proofs.Descent.{down_range, down_step, down_some}
use Rattle.ct_parts.proofs.Path.{children_there}
use Rattle.ct_words.specs.Shown.{shown_word}
use Rattle.ct_header.proofs.free.down.Goals as goal

pub first_child-requires-clause-number : goal.first_child-requires-clause-number
first_child-requires-clause-number g c =
    let s = c.requires.stands in
    let words = shown_word (g.D.Pm.words c.args.dev.now) in
    let t = children_there c.args.level c.args.number c.requires.level (down_range s.0 words c.args.sought (c.args.level + 1) c.args.number s.1 s.2 c.requires.from (let le = c.requires.sought in omega arith)) in
    omega (arith, t.0)

pub unreachable-requires : goal.unreachable-requires
unreachable-requires g c =
    let s = c.requires.stands in
    down_some s.0 (shown_word (g.D.Pm.words c.args.dev.now)) c.args.sought c.args.level c.args.number s.1 s.2 c.requires.from c.requires.sought c.requires.level (λ b lo hi. c.in-None.ensures.none b (omega arith) hi)

pub returns : goal.returns
returns g c =
    let r = c.in-Some.ensures.range in
    down_step (shown_word (g.D.Pm.words c.args.dev.now)) c.args.sought c.args.level c.args.number c.in-Some.child c.requires.from c.requires.sought c.requires.level
    (omega (arith, r.0)) r.1 c.in-Some.ensures.some (λ b lo lt. c.in-Some.ensures.first b (omega arith) lt)
