use Rattle.std.proofs.Common.{◌≡◌, ◌-◌}
use Rattle.std.specs.Cmp.Lexicographic.{slice_cmp}
use Rattle.std.specs.Ordering.{nat_cmp}
use Rattle.ct_dir.specs.Sorting.{name_word, values}
use Rattle.ct_dir.proofs.sorted.compare_at.Given as goal

abbrev pub invariant-loop-k : goal.invariant-loop-k
invariant-loop-k g l =
    let f = name_word (g.D.Pm.words l.dev) l.x in
    let h = name_word (g.D.Pm.words l.dev) l.y in
    slice_cmp nat_cmp (values f 0 32) (values h 0 32) ≡ slice_cmp nat_cmp (values f l.k (32 - l.k)) (values h l.k (32 - l.k))
