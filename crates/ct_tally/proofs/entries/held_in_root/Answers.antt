use Rattle.std.proofs.Common.{◌∙◌, Ok, sym, ap}
use Rattle.ct_shell.proofs.Kept.{held}
use Rattle.ct_tally.proofs.Root.{root_is_dir, root_is_file, node_is_there, root_told}
use Rattle.ct_tally.proofs.entries.held_in_root.Goals as goal

pub returns-in-Ok-Dir-clause-files : goal.returns-in-Ok-Dir-clause-files
returns-in-Ok-Dir-clause-files g c n t keeps =
    let h = held n c.args.fs.now.state t keeps in
    root_is_dir t c.in-Ok-Dir.count (sym (root_told t) ∙ sym (c.stat.ensures.answer h.0 h.1 t h.2.stands) ∙ c.in-Ok-Dir.is ∙ ap Ok c.in-Ok-Dir.field-0-is)

pub returns-in-Ok-Dir-clause-bytes : goal.returns-in-Ok-Dir-clause-bytes
returns-in-Ok-Dir-clause-bytes g c n t keeps =
    let h = held n c.args.fs.now.state t keeps in
    c.bytes_in_root.ensures n t keeps (root_is_dir t c.in-Ok-Dir.count (sym (root_told t) ∙ sym (c.stat.ensures.answer h.0 h.1 t h.2.stands) ∙ c.in-Ok-Dir.is ∙ ap Ok c.in-Ok-Dir.field-0-is))

pub returns-in-Ok-File-clause-files : goal.returns-in-Ok-File-clause-files
returns-in-Ok-File-clause-files g c n t keeps =
    let h = held n c.args.fs.now.state t keeps in
    (root_is_file t _ (sym (root_told t) ∙ sym (c.stat.ensures.answer h.0 h.1 t h.2.stands) ∙ c.in-Ok-File.is ∙ ap Ok c.in-Ok-File.field-0-is)).files

pub returns-in-Ok-File-clause-bytes : goal.returns-in-Ok-File-clause-bytes
returns-in-Ok-File-clause-bytes g c n t keeps =
    let h = held n c.args.fs.now.state t keeps in
    (root_is_file t _ (sym (root_told t) ∙ sym (c.stat.ensures.answer h.0 h.1 t h.2.stands) ∙ c.in-Ok-File.is ∙ ap Ok c.in-Ok-File.field-0-is)).bytes

pub returns-in-Err-clause-files : goal.returns-in-Err-clause-files
returns-in-Err-clause-files g c n t keeps =
    let h = held n c.args.fs.now.state t keeps in
    absurd (node_is_there t _ (sym (root_told t) ∙ sym (c.stat.ensures.answer h.0 h.1 t h.2.stands) ∙ c.in-Err.is))

pub returns-in-Err-clause-bytes : goal.returns-in-Err-clause-bytes
returns-in-Err-clause-bytes g c n t keeps =
    let h = held n c.args.fs.now.state t keeps in
    absurd (node_is_there t _ (sym (root_told t) ∙ sym (c.stat.ensures.answer h.0 h.1 t h.2.stands) ∙ c.in-Err.is))
