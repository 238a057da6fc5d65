use Rattle.std.proofs.Common.{◌≡◌, ◌+◌, ◌*◌, List, ℕ, sym, ap, subst, ◌∙◌}
use Rattle.std.specs.Prelude.{slice_index}
use Rattle.std.proofs.lemmas.List.{get_or-replicate}
use Rattle.ct_base.specs.Inode.{little}
use Rattle.ct_stage.specs.Edited.{given_at}
use Rattle.ct_stage.proofs.Edits.{same_word}
use Rattle.ct_stage.proofs.edit.given_page.Goals as goal

pub returns-in-Same-clause-words : goal.returns-in-Same-clause-words
returns-in-Same-clause-words c = λ k lt.
    ap (λ (l : List ℕ). slice_index l k) c.same_page.ensures ∙ get_or-replicate 512 k (c.in-Same.byte * 72340172838076673) 0 lt
    ∙ subst (λ given. c.in-Same.byte * 72340172838076673 ≡ little (given_at given) (c.args.at + 8 * k) 8) (sym c.in-Same.is) (same_word c.in-Same.byte (c.args.at + 8 * k))
