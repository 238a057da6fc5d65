use Rattle.std.proofs.Common.{◌∙◌, Ok, sym, ap}
use Rattle.ct_look.specs.Looks.{stat_answer}
use Rattle.ct_shell.proofs.Kept.{held}
use Rattle.ct_tree.specs.Step.{stat, step}
use Rattle.ct_tally.proofs.Root.{entry_told, no_size, node_is_there, size_told}
use Rattle.ct_tally.proofs.entries.size_in_root.Goals as goal

pub returns-in-Ok-File : goal.returns-in-Ok-File
returns-in-Ok-File g c n t node keeps is found =
    let h = held n c.args.fs.now.state t keeps in
    let path = c.as_slice.ensures.value ∙ c.path_of-path.ensures in
    let told = sym (entry_told t node c.args.name.now is c.requires found) ∙ ap (λ p. stat_answer (step t (stat p)).0) (sym path) ∙ sym (c.stat.ensures.answer h.0 h.1 t h.2.stands) in
    size_told node c.in-Ok-File.size (told ∙ c.in-Ok-File.is ∙ ap Ok c.in-Ok-File.field-0-is)

pub returns-in-Ok-Dir : goal.returns-in-Ok-Dir
returns-in-Ok-Dir g c n t node keeps is found =
    let h = held n c.args.fs.now.state t keeps in
    let path = c.as_slice.ensures.value ∙ c.path_of-path.ensures in
    let told = sym (entry_told t node c.args.name.now is c.requires found) ∙ ap (λ p. stat_answer (step t (stat p)).0) (sym path) ∙ sym (c.stat.ensures.answer h.0 h.1 t h.2.stands) in
    no_size node c.in-Ok-Dir.field-0-0 (told ∙ c.in-Ok-Dir.is ∙ ap Ok c.in-Ok-Dir.field-0-is)

pub returns-in-Err : goal.returns-in-Err
returns-in-Err g c n t node keeps is found =
    let h = held n c.args.fs.now.state t keeps in
    let path = c.as_slice.ensures.value ∙ c.path_of-path.ensures in
    let told = sym (entry_told t node c.args.name.now is c.requires found) ∙ ap (λ p. stat_answer (step t (stat p)).0) (sym path) ∙ sym (c.stat.ensures.answer h.0 h.1 t h.2.stands) in
    absurd (node_is_there node c.in-Err.field-0 (told ∙ c.in-Err.is))
