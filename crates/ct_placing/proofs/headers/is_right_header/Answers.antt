use Rattle.std.proofs.Common.{◌≡◌, ℕ, refl, subst, inl, inr, arith}
use Rattle.std.proofs.lemmas.Bool.{cases_lt}
use Rattle.ct_parts.proofs.Path.{few}
use Rattle.ct_placing.specs.Heading.{IsRightChild, parts_of, word_of}
use Rattle.ct_placing.proofs.headers.is_right_header.Goals as goal

pub overflow_step-child : goal.overflow_step-child
overflow_step-child g c = omega (arith, few c.args.level c.args.number c.requires.number)

pub overflow_mul-child-end : goal.overflow_mul-child-end
overflow_mul-child-end g c = omega (arith, few c.args.level c.args.number c.requires.number)

pub overflow_add-child-end : goal.overflow_add-child-end
overflow_add-child-end g c = omega (arith, few c.args.level c.args.number c.requires.number)

pub loop-child-preserved : goal.loop-child-preserved
loop-child-preserved g c = λ x from to.
    let w = g.D.Pm.words c.args.dev.now in
    elim (cases_lt x c.loop-child.child) [
      | inl old ↦ c.loop-child.invariant x from old
      | inr new ↦ let at : c.loop-child.child ≡ x = omega arith in subst (λ (k : ℕ). IsRightChild (word_of w) (parts_of w) c.args.level k) at (c.if-not-is_right_child.ensures.0 refl)
    ]
