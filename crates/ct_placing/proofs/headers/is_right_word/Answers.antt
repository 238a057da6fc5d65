use Rattle.std.proofs.Common.{◌≡◌, ◌≢◌, false, refl, arith}
use Rattle.std.proofs.lemmas.Bool.{both_ways}
use Rattle.ct_placing.specs.Heading.{word_of}
use Rattle.ct_placing.proofs.Addresses.{shown_here}
use Rattle.ct_placing.proofs.Showing.{header_of_range}
use Rattle.ct_placing.proofs.headers.is_right_word.Goals as goal

pub returns-then-load_word-eq0 : goal.returns-then-load_word-eq0
returns-then-load_word-eq0 g c =
    let w = g.D.Pm.words c.args.dev.now in
    let same = shown_here w c.args.address c.requires.aligned c.requires.last in
    let none : word_of w c.args.address ≡ 0 = omega (arith, same, c.load_word.ensures, c.if-load_word-eq0.true) in
    (λ on some. absurd (some none), λ all. refl)

pub returns-in-Some : goal.returns-in-Some
returns-in-Some g c =
    let w = g.D.Pm.words c.args.dev.now in
    let same = shown_here w c.args.address c.requires.aligned c.requires.last in
    let some : word_of w c.args.address ≢ 0 = λ none. omega (arith, same, c.load_word.ensures, c.if-load_word-eq0.false, none) in (
      λ on _. record { level = c.in-Some.range.0; number = c.in-Some.range.1; place = c.in-Some.ensures.some; right = c.is_right_header.ensures.0 on },
      λ all. c.is_right_header.ensures.1 (header_of_range c.in-Some.ensures.some (all some)),
    )

pub returns-in-None : goal.returns-in-None
returns-in-None g c =
    let w = g.D.Pm.words c.args.dev.now in
    let same = shown_here w c.args.address c.requires.aligned c.requires.last in
    let some : word_of w c.args.address ≢ 0 = λ none. omega (arith, same, c.load_word.ensures, c.if-load_word-eq0.false, none) in
    (λ on. absurd (both_ways false refl on), λ all. let h = all some in absurd (c.in-None.ensures.none h.level h.number h.place))
