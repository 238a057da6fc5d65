use Rattle.std.proofs.Common.{false, refl}
use Rattle.std.proofs.lemmas.Bool.{both_ways}
use Rattle.ct_placing.proofs.Showing.{headers_stand, parts_shown, slots_shown, words_right}
use Rattle.ct_placing.proofs.headers.are_headers.Goals as goal

pub returns-then-not-are_slots_shown : goal.returns-then-not-are_slots_shown
returns-then-not-are_slots_shown g c = (
  λ on. absurd (both_ways false refl on),
  λ stand. c.if-not-are_slots_shown.ensures.1 (slots_shown (g.D.Pm.words c.args.dev.now) c.requires.placed c.requires.apart stand),
)

pub returns-then-not-are_parts_shown : goal.returns-then-not-are_parts_shown
returns-then-not-are_parts_shown g c = (
  λ on. absurd (both_ways false refl on),
  λ stand. c.if-not-are_parts_shown.ensures.1 (parts_shown (g.D.Pm.words c.args.dev.now) c.requires.placed c.requires.apart stand),
)

pub returns : goal.returns
returns g c =
    let w = g.D.Pm.words c.args.dev.now in (
      λ on. headers_stand w c.requires.placed c.requires.apart (c.if-not-are_slots_shown.ensures.0 refl) (c.if-not-are_parts_shown.ensures.0 refl) (c.are_right_words.ensures.0 on),
      λ stand. c.are_right_words.ensures.1 (words_right w c.requires.placed c.requires.apart stand),
    )
