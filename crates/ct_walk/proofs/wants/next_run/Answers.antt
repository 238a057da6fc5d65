use Rattle.std.proofs.Common.{◌≡◌, ℕ, suc, ◌+◌, List, [], ◌∷◌, ◌++◌, take, sym, ap, subst, ◌∙◌, arith}
use Rattle.std.proofs.Math.Seq.{take-suc}
use Rattle.ct_base.specs.Wants.{Want}
use Rattle.ct_walk.specs.Runs.{IsNearest}
use Rattle.ct_walk.proofs.Cells.{pow_few, nearest_none}
use Rattle.ct_walk.proofs.wants.next_run.Goals as goal

pub pow-end-requires : goal.pow-end-requires
pow-end-requires c = omega (arith, pow_few c.args.depth c.requires.deep)

pub loop-want-preserved : goal.loop-want-preserved
loop-want-preserved c =
    let wants = c.args.wants.now in
    let i = c.loop-want.want-index in
    let next : i + 1 ≡ suc i = omega arith in
    let more : take (i + 1) wants ≡ take i wants ++ c.want-item.result ∷ [] =
    ap (λ (k : ℕ). take k wants) next ∙ take-suc wants i c.want-item.result c.loop-want-test.true ∙ ap (λ (w : Want). take i wants ++ w ∷ []) (sym c.want-item.is) in
    subst (λ (l : List Want). IsNearest l c.args.depth c.args.from c.nearer-run.result) (sym more) (c.nearer-run.ensures (take i wants) c.loop-want.invariant)

pub loop-want-init : goal.loop-want-init
loop-want-init c =
    subst (λ (k : ℕ). IsNearest [] c.args.depth c.args.from (record { first = k; past = k })) (sym c.pow-end.ensures) (nearest_none c.args.depth c.args.from c.requires.within)
