use Rattle.std.proofs.Common.{refl}
use Rattle.ct_cache.specs.Known.{is_within}
use Rattle.ct_cache.proofs.Changed.{pages_left, same_names}
use Rattle.ct_cache.proofs.Kept.{forgets_pages}
use Rattle.ct_cache.proofs.caches.Caches.forget_pages.Goals as goal

pub returns-clause-pages : goal.returns-clause-pages
returns-clause-pages c = pages_left c.args.self.now _ (is_within c.args.first c.args.n) c.clear_pages.ensures.cells

pub returns-clause-names : goal.returns-clause-names
returns-clause-names c = same_names c.args.self.now _ refl

pub returns-clause-agrees : goal.returns-clause-agrees
returns-clause-agrees c = forgets_pages (is_within c.args.first c.args.n) (pages_left c.args.self.now _ (is_within c.args.first c.args.n) c.clear_pages.ensures.cells) (same_names c.args.self.now _ refl)
