use Rattle.std.proofs.lemmas.List.{length-set}
use Rattle.ct_marks.proofs.Marking.{marked_here, marked_other}
use Rattle.ct_marks.proofs.kept.set_mark.Goals as goal

pub returns : goal.returns
returns c = record {
  here = marked_here c.args.marks.now.items c.args.page c.requires;
  others = λ q ne. marked_other c.args.marks.now.items c.args.page 1 q ne;
  length = length-set c.args.marks.now.items c.args.page 1;
}
