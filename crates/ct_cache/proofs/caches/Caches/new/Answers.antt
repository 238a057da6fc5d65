use Rattle.ct_cache.proofs.Changed.{nothing_known}
use Rattle.ct_cache.proofs.caches.Caches.new.Goals as goal

pub returns : goal.returns
returns c = nothing_known _ c.in_ok-pages.ensures c.in_ok-names.ensures
