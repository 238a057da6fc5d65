use Rattle.ct_cache.specs.Agrees.{Agrees}
use Rattle.ct_cache.specs.Seen.{known_in}
use Rattle.ct_learn.proofs.pages.learn_pages.Given as goal

-- what is known is so
abbrev pub invariant-loop-page : goal.invariant-loop-page
invariant-loop-page g l = Agrees (known_in l.caches) (g.D.Pm.words l.dev)
