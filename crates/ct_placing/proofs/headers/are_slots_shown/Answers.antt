use Rattle.std.proofs.Common.{◌≡◌, ℕ, sym, subst, ◌∙◌, inl, inr, arith}
use Rattle.std.proofs.lemmas.Bool.{cases_lt}
use Rattle.ct_placing.specs.Heading.{byte_of}
use Rattle.ct_placing.proofs.headers.are_slots_shown.Goals as goal

pub loop-slot-preserved : goal.loop-slot-preserved
loop-slot-preserved g c = λ j lt.
    let w = g.D.Pm.words c.args.dev.now in
    let is : c.byte_of.result ≡ 48 = omega (arith, c.if-byte_of-ne-OWN.false) in
    elim (cases_lt j c.loop-slot.slot) [
      | inl old ↦ c.loop-slot.invariant j old
      | inr new ↦ let at : c.loop-slot.slot ≡ j = omega arith in subst (λ (k : ℕ). byte_of w 9 k ≡ 48) at (sym c.byte_of.ensures ∙ is)
    ]
