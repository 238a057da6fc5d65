-- What a mount has learnt.
use Rattle.std.specs.Prelude.{ℕ, List, Option, Some, None}
use Rattle.ct_cache.specs.Agrees.{Agrees}
use Rattle.ct_cache.specs.Known.{Known}
use Rattle.ct_cache.specs.Seen.{known_in}
use Rattle.ct_cache.specs.declared.caches.Caches.{Caches}
use Rattle.ct_learn.specs.declared.learnt.Learnt.{Learnt}

-- no page and no name
abbrev pub nothing : Known
nothing = record { pages = λ p. None; names = λ k. None }

-- what is known, where there are caches
abbrev pub known_of : Option Caches → Known
known_of None = nothing
known_of (Some caches) = known_in caches

abbrev pub known_by : Learnt → Known
known_by learnt = known_of learnt.caches

-- the names alone
abbrev pub names_of : Known → Known
names_of known = record { pages = λ p. None; names = known.names }

-- what was learnt is what the walk and the search answer on these words
abbrev pub IsSo : Learnt → List ℕ → Type 0
IsSo learnt words = Agrees (known_by learnt) words

-- the names are, whatever the pages
abbrev pub NamesAreSo : Learnt → List ℕ → Type 0
NamesAreSo learnt words = Agrees (names_of (known_by learnt)) words
