use Rattle.std.proofs.Common.{◌≡◌}
use Rattle.ct_frames.specs.Free.{listed}
use Rattle.ct_check.proofs.Spare.{is_spare}
use Rattle.ct_check.proofs.frames.unmarked.Given as goal

abbrev pub invariant-loop-page : goal.invariant-loop-page
invariant-loop-page l = record {
  pages : l.frames.pages ≡ l.pages;
  free : l.frames.free ≡ listed (is_spare l.marks.items l.page) l.pages 0;
}
