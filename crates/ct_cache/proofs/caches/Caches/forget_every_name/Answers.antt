use Rattle.std.proofs.Common.{refl}
use Rattle.ct_cache.proofs.Changed.{no_names, same_pages}
use Rattle.ct_cache.proofs.caches.Caches.forget_every_name.Goals as goal

pub returns-clause-names : goal.returns-clause-names
returns-clause-names c = no_names _ c.clear_all.ensures.cells

pub returns-clause-pages : goal.returns-clause-pages
returns-clause-pages c = same_pages c.args.self.now _ refl
