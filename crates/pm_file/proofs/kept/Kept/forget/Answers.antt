use Rattle.std.proofs.Common.{rules, subst, sym, All}
use Rattle.std.specs.Prelude.{Contains}
use Rattle.std.proofs.lemmas.Fn.{All-from_retain}
use Rattle.std.proofs.lemmas.List.Elements.{All-contains_itself}
use Rattle.pm_file.specs.Lines.{HasLine}
use Rattle.pm_file.proofs.Members.{all_picked}
use Rattle.pm_file.proofs.kept.Kept.forget.Goals as goal

pub returns-clause-kept : goal.returns-clause-kept
returns-clause-kept c =
    let filtered = c.retain.ensures.filtered in
    subst (All (Contains c.args.self.now.lines.items)) (sym filtered.4) (all_picked (Contains c.args.self.now.lines.items) filtered.0 c.args.self.now.lines.items (All-contains_itself c.args.self.now.lines.items))

pub returns-clause-forgotten : goal.returns-clause-forgotten
returns-clause-forgotten c = All-from_retain _ (λ kept. ¬ HasLine c.args.marked.now kept.line) _ (λ x b f' k. search rules) _ _ c.retain.ensures.filtered
