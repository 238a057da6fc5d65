use Rattle.std.proofs.Common.{◌≡◌, ◌++◌, ◌∷◌, [], ℕ, List, sym, ap, subst, ◌∙◌}
use Rattle.ct_base.specs.Objects.{objects}
use Rattle.ct_base.specs.View.{inode_count, view}
use Rattle.ct_naming.specs.Visits.{Visits}
use Rattle.ct_naming.proofs.Visiting.{all_reached, no_zero, reached_all, visit_start}
use Rattle.ct_naming.proofs.reach.are_reached.Goals as goal

pub reach_all-requires-clause-start : goal.reach_all-requires-clause-start
reach_all-requires-clause-start g c =
    let w = g.D.Pm.words c.args.dev.now in
    let start = visit_start (no_zero (view w) (inode_count w)) c.in_ok-marks.ensures.blank c.set_mark.ensures in
    let items : c.push.new.self.items ≡ 1 ∷ [] = c.in-Ok.ensures.items ∙ ap (λ (xs : List ℕ). xs ++ 1 ∷ []) c.new-visit.ensures.items in
    subst (Visits (objects (view w) (inode_count w)) 0 0 c.set_mark.new.marks.items) (sym items) start

pub returns : goal.returns
returns g c =
    let w = g.D.Pm.words c.args.dev.now in
    let v = c.in_ok-reach_all.ensures.visits in
    (λ on. reached_all (view w) (inode_count w) v (c.are_marked.ensures.0 on), λ reached. c.are_marked.ensures.1 (all_reached (view w) (inode_count w) v reached))
