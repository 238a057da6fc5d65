use Rattle.std.proofs.Common.{None, sym, subst}
use Rattle.ct_commit.specs.Rest.{StandsFor}
use Rattle.ct_mount.proofs.Judged.{judged_head}
use Rattle.ct_mount.specs.Mounting.{IsSettledFrom}
use Rattle.ct_pm.specs.Ram.{words_of}
use Rattle.ct_tree.specs.Lands.{Lands}
use Rattle.ct_tree.specs.Ordered.{IsTree}
use Rattle.ct_tree.specs.Tree.{Tree}
use Rattle.ct_tell.proofs.Judging.{free_settled, tree_told}
use Rattle.ct_tell.proofs.info.state_of.Goals as goal

pub pairs_of-requires : goal.pairs_of-requires
pairs_of-requires g c = judged_head c.in-Ok.ensures.holds

pub returns : goal.returns
returns g c =
    let img = g.D.Pm.words c.args.image.now in
    let settled : IsSettledFrom (g.D.Pm.words c.args.image.now) (words_of c.mounted.inside.dev) None =
    subst (λ made. IsSettledFrom (g.D.Pm.words c.args.image.now) (words_of made.dev) None) (sym c.mounted.view_is) c.in-Ok.ensures.settled in
    let stands : (t : Tree) → IsTree t → Lands (g.D.Pm.words c.args.image.now) t → StandsFor (words_of c.mounted.inside.dev) t =
    subst (λ made. (t : Tree) → IsTree t → Lands (g.D.Pm.words c.args.image.now) t → StandsFor (words_of made.dev) t) (sym c.mounted.view_is) c.in-Ok.ensures.stands in (
      c.pairs_of.ensures,
      tree_told img c.count_inodes.result c.in-Ok.ensures.holds (λ t tree lands. c.count_inodes.ensures t (stands t tree lands)),
      free_settled settled c.mounted.invariant c.free.result c.free.ensures.count c.free.ensures.rising c.free.ensures.in_range,
    )
