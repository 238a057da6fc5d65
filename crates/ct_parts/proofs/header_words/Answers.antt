use Rattle.ct_parts.proofs.Stand.{bytes-words, words-bytes}
use Rattle.ct_parts.proofs.header_words.Goals as goal

pub returns : goal.returns
returns c b ps small = (bytes-words b ps, words-bytes b ps small)
