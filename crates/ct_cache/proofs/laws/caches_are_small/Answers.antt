use Rattle.ct_cache.proofs.Changed.{few_names, few_pages}
use Rattle.ct_cache.proofs.laws.caches_are_small.Goals as goal

pub returns-clause-pages : goal.returns-clause-pages
returns-clause-pages c = few_pages c.args.caches.now

pub returns-clause-names : goal.returns-clause-names
returns-clause-names c = few_names c.args.caches.now
