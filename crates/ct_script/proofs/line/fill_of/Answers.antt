use Rattle.std.proofs.Common.{◌∙◌, ◌∷◌, sym, ap}
use Rattle.ct_script.specs.Grammar.{call_with}
use Rattle.ct_script.specs.declared.verb.Verb.TheVariants.{Fill}
use Rattle.ct_script.proofs.Words.{part_is, fill_too_many}
use Rattle.ct_script.proofs.line.fill_of.Goals as goal

pub returns-in-Some : goal.returns-in-Some
returns-in-Some c =
    let more = part_is c.args.rest.now c.first_part.result.0.now c.first_part.result.1 c.in-Some.field-0 c.first_part.ensures c.in-Some.is in
    fill_too_many c.args.path.now c.args.off.now c.args.len.now c.first_part.result.0.now c.in-Some.field-0.now ∙ ap (λ ws. call_with Fill (c.args.path.now ∷ c.args.off.now ∷ c.args.len.now ∷ ws)) (sym more)
