use Rattle.std.proofs.Common.{◌≡◌, ◌++◌, ◌∷◌, [], true, ℕ, List, length, length-append, ap, subst, ◌∙◌, arith}
use Rattle.std.specs.Prelude.{All}
use Rattle.std.specs.Option.{option_to_list}
use Rattle.std.proofs.lemmas.List.Elements.{All-contains, Contains-push}
use Rattle.ct_base.specs.View.{inode_count, view}
use Rattle.ct_marks.specs.Marks.{is_marked}
use Rattle.ct_naming.proofs.Visiting.{marked_number, no_zero, visit_next}
use Rattle.ct_naming.proofs.reach.reach_all.Goals as goal

pub visit_one-requires-clause-number : goal.visit_one-requires-clause-number
visit_one-requires-clause-number g c =
    let w = g.D.Pm.words c.args.dev.now in
    let items : c.loop-n.visit.items ≡ c.pop.new.self.items ++ c.in-Some.n ∷ [] = c.pop.ensures.items ∙ ap (λ r. c.pop.new.self.items ++ option_to_list r) c.in-Some.is in
    let v = c.loop-n.invariant.visits in
    let on = All-contains (λ e. is_marked c.loop-n.marks.items e ≡ true) (c.pop.new.self.items ++ c.in-Some.n ∷ []) c.in-Some.n
    (subst (λ (xs : List ℕ). All (λ e. is_marked c.loop-n.marks.items e ≡ true) xs) items v.listed) (Contains-push c.pop.new.self.items c.in-Some.n) in
    marked_number (view w) (inode_count w) c.requires.least c.requires.entries v c.in-Some.n on

pub loop-n-preserved : goal.loop-n-preserved
loop-n-preserved g c =
    let w = g.D.Pm.words c.args.dev.now in
    let items : c.loop-n.visit.items ≡ c.pop.new.self.items ++ c.in-Some.n ∷ [] = c.pop.ensures.items ∙ ap (λ r. c.pop.new.self.items ++ option_to_list r) c.in-Some.is in
    record {
      length = c.in_ok-visit_one.ensures.length;
      visits = c.in_ok-visit_one.ensures.visits (visit_next (no_zero (view w) (inode_count w)) c.in-Some.n items c.loop-n.invariant.visits);
    }

pub loop-n-smaller : goal.loop-n-smaller
loop-n-smaller g c =
    let items : c.loop-n.visit.items ≡ c.pop.new.self.items ++ c.in-Some.n ∷ [] = c.pop.ensures.items ∙ ap (λ r. c.pop.new.self.items ++ option_to_list r) c.in-Some.is in
    let longer = length-append c.pop.new.self.items (c.in-Some.n ∷ []) in
    omega (arith, c.in_ok-visit_one.ensures.less, longer, ap length items)
