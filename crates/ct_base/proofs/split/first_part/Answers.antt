use Rattle.std.proofs.Common.{◌∙◌, ◌+◌, ◌∷◌, ◌==◌, arith, sym, ap, take, length-drop, length-take}
use Rattle.std.proofs.lemmas.List.{take_rest}
use Rattle.ct_base.specs.Split.{parts_at}
use Rattle.ct_base.proofs.Splits.{split_last, split_first}
use Rattle.ct_base.proofs.split.first_part.Goals as goal

pub returns-in-None : goal.returns-in-None
returns-in-None c = split_last (λ b. b == c.args.separator) c.args.bytes.now (sym c.in-None.ensures)

pub returns-in-Some : goal.returns-in-Some
returns-in-Some c =
    let bytes = c.args.bytes.now in
    let end = c.in-Some.end in
    let first = split_first (λ b. b == c.args.separator) bytes end (sym c.in-Some.ensures) in
    (first.0 ∙ ap (λ more. take end bytes ∷ parts_at c.args.separator more) (sym (take_rest bytes (end + 1))), rw take_rest (omega (arith, first.1, length-take end bytes, length-drop (end + 1) bytes)))
