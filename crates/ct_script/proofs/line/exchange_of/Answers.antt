use Rattle.std.proofs.Common.{◌∙◌, ◌∷◌, sym, ap}
use Rattle.ct_script.specs.Grammar.{call_with}
use Rattle.ct_script.specs.declared.verb.Verb.TheVariants.{Exchange}
use Rattle.ct_script.proofs.Words.{part_is, exchange_too_many}
use Rattle.ct_script.proofs.line.exchange_of.Goals as goal

pub returns-in-Some-more : goal.returns-in-Some-more
returns-in-Some-more c =
    let first = part_is c.args.rest.now c.first_part.result.0.now c.first_part.result.1 c.in-Some.rest c.first_part.ensures c.in-Some.is in
    let second = part_is c.in-Some.rest.now c.first_part-2.result.0.now c.first_part-2.result.1 c.in-Some-more.field-0 c.first_part-2.ensures c.in-Some-more.is in
    exchange_too_many c.args.path.now c.args.off.now c.args.other.now c.first_part.result.0.now c.first_part-2.result.0.now c.in-Some-more.field-0.now
    ∙ ap (λ ws. call_with Exchange (c.args.path.now ∷ c.args.off.now ∷ c.args.other.now ∷ ws)) (sym (first ∙ ap (λ ws. c.first_part.result.0.now ∷ ws) second))
