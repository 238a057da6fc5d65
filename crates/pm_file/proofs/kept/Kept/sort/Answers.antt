use Rattle.std.specs.Prelude.{Contains}
use Rattle.std.proofs.lemmas.List.Sorted.{All-permutation}
use Rattle.std.proofs.lemmas.List.Elements.{All-contains_itself}
use Rattle.pm_file.proofs.kept.Kept.sort.Goals as goal

pub returns : goal.returns
returns c = All-permutation (Contains c.args.self.now.lines.items) _ _ c.sort_unstable_by_key.ensures.permutation (All-contains_itself c.args.self.now.lines.items)
