-- What caches know.
use Rattle.ct_cache.specs.Cells.{names_told, pages_told}
use Rattle.ct_cache.specs.Known.{Known}
use Rattle.ct_cache.specs.declared.caches.Caches.{Caches}

unfoldable pub known_in : Caches → Known
known_in caches = record { pages = pages_told caches.pages.items; names = names_told caches.names.items }
