use Rattle.std.proofs.Common.{rules}
use borrow.Author.Tests.{tests}
use Rattle.msa.proofs.texts.call_words.Goals as goal

pub returns-in_default : goal.returns-in_default
returns-in_default c = search (tests, rules)
