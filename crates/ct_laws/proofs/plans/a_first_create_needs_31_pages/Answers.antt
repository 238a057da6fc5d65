use Rattle.ct_laws.proofs.First.{first_create, other_page}
use Rattle.ct_laws.proofs.plans.a_first_create_needs_31_pages.Goals as goal

pub returns-clause-first : goal.returns-clause-first
returns-clause-first c = first_create

pub returns-clause-inode : goal.returns-clause-inode
returns-clause-inode c = other_page
