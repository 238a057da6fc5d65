use Rattle.std.proofs.Common.{◌≡◌, ◌+◌, ◌-◌, sym, subst, arith, rules, ◌∙◌}
use Rattle.std.proofs.lemmas.List.{places}
use borrow.Rule.Slice.PartMut.{put_mid}
use Rattle.ct_look.specs.Content.{Fills, byte_of_word}
use Rattle.ct_look.proofs.Filling.{fills_part, le_bytes}
use Rattle.ct_look.proofs.content.put_word.Goals as goal

pub returns : goal.returns
returns c =
    let part = c.copy_from_slice.new.self in
    let long : c.args.place + 8 - c.args.place ≡ 8 = omega arith in
    let room = c.requires in
    subst (λ n. Fills c.args.buf.now (put_mid c.args.place n c.args.buf.now part) c.args.place 8 (byte_of_word c.args.word)) (sym long)
    (fills_part c.args.buf.now part c.args.place 8 (byte_of_word c.args.word) room (c.copy_from_slice.ensures.len ∙ search (rules, places)) (le_bytes part c.args.word (c.copy_from_slice.ensures.after ∙ c.to_le_bytes.ensures)))
