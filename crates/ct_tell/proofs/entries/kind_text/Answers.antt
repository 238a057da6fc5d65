use Rattle.std.proofs.Common.{◌∙◌, sym, ap, ◌++◌}
use Rattle.std.specs.Prelude.{codes}
use Rattle.std.specs.Fmt.{decimal}
use Rattle.ct_find.proofs.Living.{readable_at}
use Rattle.ct_tell.proofs.EntryLines.{kind_dir, kind_file}
use Rattle.ct_tell.proofs.entries.kind_text.Goals as goal

pub entries-requires : goal.entries-requires
entries-requires g c = readable_at c.requires.rest c.requires.live (sym c.get-inode.ensures) c.if-inode-eq-DIRECTORY_KIND.true

pub returns-then-inode-eq-DIRECTORY_KIND-clause-text : goal.returns-then-inode-eq-DIRECTORY_KIND-clause-text
returns-then-inode-eq-DIRECTORY_KIND-clause-text g c node tree st =
    c.push_number.ensures.text ∙ ap (λ t. t ++ (codes "d " ++ decimal c.entries.result)) c.new-text.ensures
    ∙ kind_dir c.requires.rest c.requires.live (sym c.get-inode.ensures) c.if-inode-eq-DIRECTORY_KIND.true c.entries.result c.entries.ensures node tree st

pub returns-clause-text : goal.returns-clause-text
returns-clause-text g c node tree st =
    c.push_number-2.ensures.text ∙ ap (λ t. t ++ (codes "f " ++ decimal c.get-inode.result.size)) c.new-text.ensures
    ∙ kind_file c.requires.rest c.requires.live (sym c.get-inode.ensures) c.if-inode-eq-DIRECTORY_KIND.false node tree st
