use Rattle.std.proofs.Common.{◌∙◌, ◌++◌, sym, ap, arith, take, get_or, append_assoc}
use Rattle.std.proofs.lemmas.List.{take_more}
use Rattle.ct_script.specs.Texts.{escaped, escaped_byte}
use Rattle.ct_script.proofs.Puts.{escaped_push}
use Rattle.ct_script.proofs.quote.quote_onto.Goals as goal

pub loop-byte-preserved : goal.loop-byte-preserved
loop-byte-preserved c =
    let name = c.args.name.now in
    let i = c.loop-byte.byte-index in
    let b = get_or name i 0 in
    record {
      items =
          c.add_escaped.ensures.items ∙ ap (λ t. t ++ escaped_byte b) c.loop-byte.invariant.items
          ∙ append_assoc c.args.text.now.items (escaped (take i name)) (escaped_byte b)
          ∙ ap (λ t. c.args.text.now.items ++ t) (sym (escaped_push (take i name) b) ∙ ap escaped (sym (take_more name i 0 c.loop-byte-test.true)));
      space = let long = c.add_escaped.ensures.length in let room = c.add_escaped.ensures.room in let had = c.loop-byte.invariant.space in omega (arith, long, room, had);
      room = let room = c.add_escaped.ensures.room in let had = c.loop-byte.invariant.room in omega (arith, room, had);
    }
