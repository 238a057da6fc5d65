use Rattle.ct_parts.proofs.Lists.{is_free-is, is_free-from, first_parts, no_parts}
use Rattle.ct_parts.proofs.free_partitions.Goals as goal

pub returns-clause-test : goal.returns-clause-test
returns-clause-test c ps n j apart = (is_free-is ps n j apart, is_free-from ps n j apart)

pub returns-clause-first : goal.returns-clause-first
returns-clause-first c = first_parts

pub returns-clause-none : goal.returns-clause-none
returns-clause-none c = no_parts
