use Rattle.std.proofs.Common.{◌+◌, ◌*◌, ℕ, refl, sym, subst}
use Rattle.std.proofs.lemmas.Bool.{both_ways}
use Rattle.ct_base.specs.View.{inode_count}
use Rattle.ct_placing.specs.Zeros.{AreZero}
use Rattle.ct_placing.proofs.Stretches.{rest_zero, zero_rest}
use Rattle.ct_placing.proofs.zeros.is_rest_zero.Goals as goal

pub returns-then-are_zero_between : goal.returns-then-are_zero_between
returns-then-are_zero_between g c =
    let w = g.D.Pm.words c.args.dev.now in
    let P : ℕ → Type 0 = λ k. AreZero w (64 * (k + 1)) 549755813888 in (
      λ on. rest_zero w (inode_count w) (c.if-are_zero_between.ensures.0 refl) (subst P c.load-count.ensures (c.are_zero_between-then-are_zero_between.ensures.0 on)),
      λ all. c.are_zero_between-then-are_zero_between.ensures.1 (subst P (sym c.load-count.ensures) (zero_rest w (inode_count w) all).1),
    )

pub returns-else-are_zero_between : goal.returns-else-are_zero_between
returns-else-are_zero_between g c =
    let w = g.D.Pm.words c.args.dev.now in
    (λ on. absurd (both_ways _ c.if-are_zero_between.false on), λ all. c.are_zero_between.ensures.1 (zero_rest w (inode_count w) all).0)
