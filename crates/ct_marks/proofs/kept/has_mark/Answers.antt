use Rattle.std.proofs.Common.{ap}
use Rattle.std.specs.Prelude.{◌==◌, not}
use Rattle.std.proofs.lemmas.List.{get_or_read}
use Rattle.ct_marks.specs.Marks.{is_marked}
use Rattle.ct_marks.proofs.kept.has_mark.Goals as goal

pub returns : goal.returns
unfolding is_marked
returns c = ap (λ k. not (k == 0)) (get_or_read c.args.marks.now.items c.args.page c.index.result.now c.requires c.index.ensures 0)
