use Rattle.std.proofs.Common.{refl, subst, inl, inr, arith}
use Rattle.std.proofs.lemmas.Bool.{cases_eq}
use Rattle.ct_base.specs.Rules.{IsInode}
use Rattle.ct_base.specs.View.{view}
use Rattle.ct_placing.proofs.inodes.are_inodes.Goals as goal

pub loop-n-preserved : goal.loop-n-preserved
loop-n-preserved g c = λ i from to. elim (cases_eq c.loop-n.n i) [
  | inl here ↦ subst (IsInode (view (g.D.Pm.words c.args.dev.now))) here (c.if-not-is_inode.ensures.0 refl)
  | inr other ↦ c.loop-n.invariant i from (omega arith)
]

pub returns : goal.returns
returns g c = (λ on i number. c.loop-n.invariant i number.from (omega (arith, number.to, c.load-n-end.ensures)), λ all. refl)
