use Rattle.std.proofs.Common.{◌∙◌, ap, length}
use Rattle.std.specs.Prelude.{◌==◌}
use Rattle.pm_file.proofs.Masks.{tells_none}
use Rattle.pm_file.proofs.marks.Marks.is_empty.Goals as goal

pub returns : goal.returns
returns c =
    tells_none c.args.self.now.pages.items c.args.self.now.marked.items c.is_empty.result
    (c.is_empty.ensures ∙ ap (λ xs. length xs == 0) c.as_slice.ensures.value) c.args.self.now.counted c.args.self.now.listed
