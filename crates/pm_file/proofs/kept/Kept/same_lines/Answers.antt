use Rattle.std.proofs.Common.{arith, ◌∙◌, ap, subst, refl, bit_or}
use Rattle.std.specs.Prelude.{Contains, IsBitSet}
use Rattle.std.proofs.lemmas.List.Elements.{All-take, All-drop, All-same, All-get_or, All-contains_itself}
use Rattle.std.proofs.lemmas.Nat.{one_shl}
use Rattle.pm_file.specs.declared.kept.KeptLine.{KeptLine}
use Rattle.pm_file.proofs.Keeping.{more_as_kept}
use Rattle.pm_file.proofs.kept.Kept.same_lines.Goals as goal
use Rattle.pm_file.proofs.kept.Kept.same_lines.Goals.{then-is_same, else-is_same}

pub loop-kept-preserved : goal.loop-kept-preserved
loop-kept-preserved c =
    let items = c.args.self.now.lines.items in
    let Kept : KeptLine → Type 0 = Contains items in
    elim c.if-is_same.branch [
      | then-is_same w ↦
          let there = All-get_or Kept _ _ _ c.loop-kept-test.true (All-take Kept _ _ (All-drop Kept _ _ (All-same Kept _ items c.deref-2.ensures.value (All-contains_itself items)))) in
          λ line is_set. more_as_kept items c.args.words.now c.args.page _ there c.if-kept-page.false (w.if-is_same.ensures.0 refl) c.loop-kept.same c.loop-kept.invariant line
          (subst (λ n. IsBitSet n line) (w.same-is ∙ ap (bit_or c.loop-kept.same) (one_shl _ 64 (omega arith))) is_set)
      | else-is_same w ↦ λ line is_set. c.loop-kept.invariant line (subst (λ n. IsBitSet n line) w.same-is is_set)
    ]
