use Rattle.std.proofs.Common.{arith, take, drop, length-take, length-drop}
use Rattle.std.proofs.lemmas.List.{take_rest}
use Rattle.std.specs.Io.KnownBytes.{Appends}
use Rattle.ct_base.proofs.Grows.{appends_more}
use Rattle.ct_base.proofs.std_ends.StdSinkSink.put.Goals as goal

pub loop-done-preserved : goal.loop-done-preserved
loop-done-preserved g c =
    let bs = c.args.bytes.now in
    let had = g.W.Write.contents c.loop-done.self.writer in
    let has = g.W.Write.contents c.write.new.self in
    let n = c.in-Ok.count in
    let more : Appends had has (take n (drop c.loop-done.done bs)) = rw take_rest at c.in-Ok.ensures.bytes in
    record {
      within = let fits = simp (length-take, length-drop) at c.in-Ok.ensures.bound in omega (arith, fits);
      same = c.loop-done.invariant.same;
      bytes = appends_more _ _ _ c.loop-done.done n bs c.loop-done.invariant.bytes more;
    }
