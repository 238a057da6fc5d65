use Rattle.std.proofs.Common.{◌≡◌, ◌*◌, sym, subst}
use Rattle.ct_base.specs.Inode.{little}
use Rattle.ct_stage.specs.Edited.{given_at}
use Rattle.ct_stage.proofs.Edits.{same_word}
use Rattle.ct_stage.proofs.edit.given_word.Goals as goal

pub returns-in-Same : goal.returns-in-Same
returns-in-Same c = subst (λ given. c.in-Same.byte * 72340172838076673 ≡ little (given_at given) c.args.at 8) (sym c.in-Same.is) (same_word c.in-Same.byte c.args.at)
