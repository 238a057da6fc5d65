use Rattle.std.proofs.Common.{subst}
use Rattle.ct_cache.specs.Agrees.{Agrees}
use Rattle.ct_cache.specs.Seen.{known_in}
use Rattle.ct_learn.specs.Learning.{known_of, names_of}
use Rattle.ct_learn.proofs.Living.{names_stay}
use Rattle.ct_learn.proofs.learnt.Learnt.forget_pages.Goals as goal

pub returns-in-Some : goal.returns-in-Some
returns-in-Some c words a =
    names_stay (known_in c.in-Some.caches) c.forget_every_page.ensures.pages c.forget_every_page.ensures.names words (subst (λ o. Agrees (names_of (known_of o)) words) c.in-Some.is a)
