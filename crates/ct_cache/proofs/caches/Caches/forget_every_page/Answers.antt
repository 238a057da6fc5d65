use Rattle.std.proofs.Common.{refl}
use Rattle.ct_cache.proofs.Changed.{no_pages, same_names}
use Rattle.ct_cache.proofs.caches.Caches.forget_every_page.Goals as goal

pub returns-clause-pages : goal.returns-clause-pages
returns-clause-pages c = no_pages _ c.clear_all.ensures.cells

pub returns-clause-names : goal.returns-clause-names
returns-clause-names c = same_names c.args.self.now _ refl
