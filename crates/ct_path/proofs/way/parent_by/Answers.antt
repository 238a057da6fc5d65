use Rattle.std.proofs.Common.{◌∷◌, Some, ap, sym, subst, ◌∙◌}
use Rattle.ct_tree.proofs.Ordered.{path_names}
use Rattle.ct_path.specs.Left.{AreNames}
use Rattle.ct_path.proofs.Answered.{split_by, has_names}
use Rattle.ct_path.proofs.Sounds.{live_if_ok}
use Rattle.ct_path.proofs.way.parent_by.Goals as goal

pub returns-clause-live : goal.returns-clause-live
returns-clause-live g c =
    live_if_ok (g.D.Pm.words c.args.dev.now) c.requires.sound c.requires.most (λ split. split.0) c.split.result c.split.ensures.live

pub returns-clause-splits : goal.returns-clause-splits
returns-clause-splits g c =
    split_by c.args.path.now (c.in-Some-next.first.now ∷ c.next.new.self) c.split.result (c.in-Some.ensures ∙ ap Some c.in-Some-next.ensures.steps) c.split.ensures.text c.split.ensures.finds

pub split-requires-clause-valid : goal.split-requires-clause-valid
split-requires-clause-valid g c = subst AreNames c.in-Some-next.ensures.steps (path_names c.args.path.now c.in-Some.names (sym c.in-Some.ensures))

pub unreachable-requires : goal.unreachable-requires
unreachable-requires g c = has_names c.args.path.now c.requires.below (c.in-Some.ensures ∙ ap Some c.in-None-next.ensures.steps.0)
