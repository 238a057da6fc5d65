use Rattle.std.proofs.Common.{◌≡◌, ◌+◌, ◌*◌, sym, ap, ◌∙◌, inl, inr, arith}
use Rattle.std.specs.Prelude.{slice_index}
use Rattle.std.proofs.lemmas.Bool.{cases_lt}
use Rattle.std.proofs.lemmas.Grind.{get_or-set_at}
use Rattle.std.proofs.lemmas.List.{get_or-set_other, length-set}
use Rattle.ct_base.specs.Inode.{little}
use Rattle.ct_base.specs.View.{view}
use Rattle.ct_stage.specs.Edited.{edited}
use Rattle.ct_stage.proofs.Edits.{old_word}
use Rattle.ct_stage.proofs.edit.mixed_page.Goals as goal

pub loop-k-preserved : goal.loop-k-preserved
loop-k-preserved g c =
    let img = g.D.Pm.words c.args.dev.now in
    let words = c.loop-k.words in
    let k = c.loop-k.k in
    let w = c.edited_word.result in
    let so_far = c.loop-k.invariant in
    let is : w ≡ little (edited (view img) c.args.edit.now) (c.args.at + 8 * k) 8 =
    c.edited_word.ensures (view img) (old_word img (c.args.at + 8 * k) (slice_index words k) (omega (arith, c.requires.low)) (omega (arith, c.requires.high, c.loop-k-test.true)) (omega (arith, c.requires.aligned)) (so_far.left k (omega arith) c.loop-k-test.true)) in
    record {
      size = length-set words k w ∙ so_far.size;
      words = λ j below. elim (cases_lt j k) [
        | inl before ↦ get_or-set_other words k j w 0 (λ e. omega (arith, e, before)) ∙ so_far.words j before
        | inr from ↦
            let at : j ≡ k = omega (arith, below, from) in
            get_or-set_at words k j w 0 at (omega (arith, c.loop-k-test.true, so_far.size)) ∙ is ∙ ap (λ n. little (edited (view img) c.args.edit.now) (c.args.at + 8 * n) 8) (sym at)
      ];
      left = λ j from below. get_or-set_other words k j w 0 (λ e. omega (arith, e, from)) ∙ so_far.left j (omega (arith, from)) below;
    }
