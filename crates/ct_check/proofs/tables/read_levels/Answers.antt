use Rattle.std.proofs.Common.{◌≡◌, suc, ◌+◌, ◌≤◌, subst, ◌∙◌, arith}
use Rattle.ct_check.specs.Reading.{IsLevel, Walked}
use Rattle.ct_check.proofs.Reading.{root_level, walked_start}
use Rattle.ct_check.proofs.tables.read_levels.Goals as goal

pub loop-depth-init : goal.loop-depth-init
loop-depth-init g c =
    let w = g.D.Pm.words c.args.dev.now in
    record {
      met = c.in-Ok-no_marks.ensures.length;
      level = root_level w c.in-Ok.level.items c.set_mark.new.marks.items (c.in-Ok.ensures.length ∙ c.requires.pages) c.in-Ok.ensures.blank c.set_mark.ensures;
      walked = walked_start w c.in-Ok-no_marks.marks.items (c.in-Ok-no_marks.ensures.length ∙ c.requires.pages) c.in-Ok-no_marks.ensures.blank;
    }

pub loop-depth-preserved : goal.loop-depth-preserved
loop-depth-preserved g c =
    let w = g.D.Pm.words c.args.dev.now in
    let d = c.loop-depth.depth in
    let inv = c.loop-depth.invariant in
    let deep : d ≤ 3 = omega arith in
    let more : suc d ≡ d + 1 = omega arith in
    record {
      met = c.in-Ok-next_level.ensures.met;
      level = subst (λ k. IsLevel w k c.in-Ok-next_level.next.items) more (c.in-Ok-next_level.ensures.level d deep inv.level inv.walked);
      walked = subst (λ k. Walked w k 0 c.next_level.new.met.pages.items c.next_level.new.met.twice) more (c.in-Ok-next_level.ensures.walked d deep inv.level inv.walked);
    }

pub returns-in-Err-next_level-clause-stops : goal.returns-in-Err-next_level-clause-stops
returns-in-Err-next_level-clause-stops g c =
    let deep : c.loop-depth.depth ≤ 3 = omega arith in
    c.in-Err-next_level.ensures.stops c.loop-depth.depth deep c.loop-depth.invariant.level
