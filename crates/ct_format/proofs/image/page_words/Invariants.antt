use Rattle.std.proofs.Common.{◌≡◌, ◌+◌, ◌*◌, ◌<◌, ℕ, length, get_or}
use Rattle.ct_format.specs.Formatting.{format_word}
use Rattle.ct_format.proofs.image.page_words.Given as goal

-- the words so far
abbrev pub invariant-loop-k : goal.invariant-loop-k
invariant-loop-k l =
    (length l.words ≡ 512) × ((j : ℕ) → j < l.k → get_or l.words j 0 ≡ format_word l.pages l.inodes (l.page * 512 + j))
