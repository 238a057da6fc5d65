use Rattle.std.proofs.Common.{◌≡◌, ℕ, false, refl, subst, ◌∙◌, arith}
use Rattle.std.proofs.lemmas.Bool.{both_ways}
use Rattle.ct_placing.specs.Heading.{IsHeader, parts_of, word_of}
use Rattle.ct_placing.proofs.Addresses.{shown_here}
use Rattle.ct_placing.proofs.headers.right_up_to.Goals as goal

pub returns-in-Some-clause-right : goal.returns-in-Some-clause-right
returns-in-Some-clause-right g c = λ x from to even some.
    let w = g.D.Pm.words c.args.dev.now in
    absurd (some (shown_here w x even (omega (arith, c.in-Some.ensures.next)) ∙ c.in-Some.ensures.zero x from to even))

pub returns-then-is_right_word-clause-right : goal.returns-then-is_right_word-clause-right
returns-then-is_right_word-clause-right g c = λ x from to even some.
    let w = g.D.Pm.words c.args.dev.now in
    let at : c.args.address ≡ x = omega (arith, even, c.requires.aligned) in
    subst (λ (k : ℕ). IsHeader (word_of w) (parts_of w) k) at (c.if-is_right_word.ensures.0 refl (λ none. some (subst (λ (k : ℕ). word_of w k ≡ 0) at none)))

pub returns-else-is_right_word-clause-none : goal.returns-else-is_right_word-clause-none
returns-else-is_right_word-clause-none g c = λ all. both_ways false refl (c.if-is_right_word.ensures.1 (all c.args.address c.requires.first c.requires.last c.requires.aligned))
