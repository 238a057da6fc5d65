-- What caches know of a device is so.
use Rattle.std.specs.Prelude.{◌≡◌, ◌≢◌, ℕ, ◌*◌, List, Some}
use Rattle.ct_base.specs.declared.layout.TheConstants.{DIRECTORY_KIND, PAGE_BYTES}
use Rattle.ct_base.specs.Objects.{Object, objects}
use Rattle.ct_base.specs.View.{inode_count, view}
use Rattle.ct_base.specs.Walk.{walk}
use Rattle.ct_dir.specs.Directory.{IsFirst}
use Rattle.ct_dir.specs.declared.lookup.Found.{Found}
use Rattle.ct_cache.specs.Known.{Known}

-- the object is a directory that is there, and this is its first slot with the name
pub record IsKnown (f : Object) (x : List ℕ) (found : Found) : Type 0 where
  pub kind : f.kind ≡ DIRECTORY_KIND
  pub first : IsFirst f x found

-- each entry is what the walk and the search answer
pub record Agrees (known : Known) (words : List ℕ) : Type 0 where
  pub pages : (p page : ℕ) → known.pages p ≡ Some page → (page ≢ 0) × (walk words (p * PAGE_BYTES) ≡ page)
  pub names : (k : ℕ × List ℕ) (found : Found) → known.names k ≡ Some found → IsKnown (objects (view words) (inode_count words) k.0) k.1 found
