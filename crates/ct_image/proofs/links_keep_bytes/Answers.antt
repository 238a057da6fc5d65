use Rattle.ct_image.proofs.Link.{view_stays, tables_new}
use Rattle.ct_image.proofs.links_keep_bytes.Goals as goal

pub returns-clause-tables : goal.returns-clause-tables
returns-clause-tables c = λ old new d x i page l. tables_new l

pub returns-clause-bytes : goal.returns-clause-bytes
returns-clause-bytes c = λ old new d x i page l. view_stays l
