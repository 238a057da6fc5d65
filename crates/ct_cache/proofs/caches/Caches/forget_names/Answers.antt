use Rattle.std.proofs.Common.{refl}
use Rattle.ct_cache.specs.Known.{is_of}
use Rattle.ct_cache.proofs.Changed.{names_left, same_pages}
use Rattle.ct_cache.proofs.Kept.{forgets_names}
use Rattle.ct_cache.proofs.caches.Caches.forget_names.Goals as goal

pub returns-clause-names : goal.returns-clause-names
returns-clause-names c = names_left c.args.self.now _ (is_of c.args.number) c.clear_names.ensures.cells

pub returns-clause-pages : goal.returns-clause-pages
returns-clause-pages c = same_pages c.args.self.now _ refl

pub returns-clause-agrees : goal.returns-clause-agrees
returns-clause-agrees c = forgets_names (is_of c.args.number) (names_left c.args.self.now _ (is_of c.args.number) c.clear_names.ensures.cells) (same_pages c.args.self.now _ refl)
