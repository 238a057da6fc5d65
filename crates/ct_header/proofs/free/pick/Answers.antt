use Rattle.std.proofs.Common.{◌≡◌, ℕ, ◌∷◌, ap, sym, ◌∙◌, subst, arith}
use Rattle.ct_base.specs.Headers.{is_one}
use Rattle.ct_base.specs.Ranges.{IsDown}
use Rattle.ct_parts.proofs.Descent.{down_start, down_none, down_end, down_range}
use Rattle.ct_parts.proofs.Lists.{live_set, first_parts, no_parts}
use Rattle.ct_words.specs.Shown.{shown_word}
use Rattle.ct_header.proofs.Shown.{view_headers}
use Rattle.ct_header.proofs.free.pick.Goals as goal

pub returns-in_err-number : goal.returns-in_err-number
returns-in_err-number g c ps stands =
    let img = g.D.Pm.words c.args.dev.now in
    let headers = view_headers img ps stands.stand in
    rw c.from_residual.ensures (no_parts ps c.args.level c.requires.level stands.apart (λ x p free.
    down_none (is_one ps) (shown_word img) c.args.level x headers c.requires.level c.in_err-number.ensures.none p free))

pub loop-above-init : goal.loop-above-init
loop-above-init g c =
    let e = c.in_ok-number.ensures in
    record {
      low = c.requires.level;
      high = omega arith;
      down = down_start (shown_word (g.D.Pm.words c.args.dev.now)) c.args.level c.in_ok-number.number c.requires.level e.range.0 e.range.1 e.some e.first;
    }

pub down-number-requires-clause-stands : goal.down-number-requires-clause-stands
down-number-requires-clause-stands g c =
    let s = c.requires.stands in
    (is_one s.0, live_set s.0 s.1.apart, view_headers (g.D.Pm.words c.args.dev.now) s.0 s.1.stand)

pub part_of-requires : goal.part_of-requires
part_of-requires g c =
    let s = c.requires.stands in
    let img = g.D.Pm.words c.args.dev.now in
    let low = c.loop-above.invariant.low in
    let same : c.loop-above.above ≡ c.args.level = omega arith in
    let down = subst (λ (n : ℕ). IsDown (shown_word img) c.args.level n c.loop-above.number) same c.loop-above.invariant.down in
    down_range (is_one s.0) (shown_word img) c.args.level c.args.level c.loop-above.number (live_set s.0 s.1.apart) (view_headers img s.0 s.1.stand) down (omega arith)

pub returns : goal.returns
returns g c ps stands =
    let img = g.D.Pm.words c.args.dev.now in
    let low = c.loop-above.invariant.low in
    let same : c.loop-above.above ≡ c.args.level = omega arith in
    let down = subst (λ (n : ℕ). IsDown (shown_word img) c.args.level n c.loop-above.number) same c.loop-above.invariant.down in
    let first = down_end (shown_word img) c.args.level c.loop-above.number (is_one ps) down (live_set ps stands.apart) (view_headers img ps stands.stand) in
    let head = first_parts ps c.args.level c.loop-above.number stands.apart first in
    (head.0, head.1 ∙ ap (λ p. p ∷ head.0) (sym c.part_of.ensures))
