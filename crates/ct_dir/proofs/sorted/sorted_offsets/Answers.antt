use Rattle.std.proofs.Common.{◌≡◌, drop, length, take, length-take, sym, subst, ◌∙◌, arith}
use Rattle.std.proofs.lemmas.List.{take-append-le, take_all}
use Rattle.std.proofs.lemmas.List.Sorted.{length_permutation}
use Rattle.ct_dir.specs.Directory.{dir_of}
use Rattle.ct_dir.specs.Sorting.{AreSorted}
use Rattle.ct_dir.proofs.Sorting.{keys_sorted, offsets_moved}
use Rattle.ct_dir.proofs.sorted.sorted_offsets.Goals as goal

pub returns-clause-sorted : goal.returns-clause-sorted
returns-clause-sorted g c =
    let w = g.D.Pm.words c.args.dev.now in
    let count = c.in-Some.count in
    let front = take count c.put_offsets.new.offsets in
    let all = c.sort_offsets.new.offsets in
    let long = length_permutation front all c.sort_offsets.ensures.moved in
    let size = length-take count c.put_offsets.new.offsets in
    let fits : count ≡ length all = omega (arith, long, size, c.in-Some.ensures.room) in
    let is = take-append-le count all (drop count c.put_offsets.new.offsets) (omega arith) ∙ take_all count all (omega arith) in
    let offsets = offsets_moved front all c.sort_offsets.ensures.moved c.in-Some.ensures.offsets in
    subst (AreSorted (dir_of w c.args.dir)) (sym is) (keys_sorted c.requires (g.met.D.Pm.words_fit c.args.dev.now) all offsets c.sort_offsets.ensures.sorted)
