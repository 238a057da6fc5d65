-- What caches know, as two maps, and how a map may change.
use Rattle.std.specs.Prelude.{◌≡◌, ◌≢◌, ◌⊎◌, ℕ, ◌-◌, ◌<◌, ◌≤◌, ◌==◌, ◌&&◌, nat_le, nat_lt, Bool, if◌then◌else◌, List, length, Contains, Option, Some, None}
use Rattle.std.specs.Option.{IsSome}
use Rattle.ct_dir.specs.declared.lookup.Found.{Found}

pub record Known : Type 0 where
  -- the page of a virtual page number
  pub pages : ℕ → Option ℕ
  -- the entry of an inode's number and a name
  pub names : ℕ × List ℕ → Option Found

-- every key with an entry is one of a list of at most n: the map has at most n entries
abbrev pub HasAtMost : {K V : Type 0} → ℕ → (K → Option V) → Type 0
HasAtMost {K} {V} n m = (keys : List K) × (length keys ≤ n) × ((k : K) → IsSome (m k) → Contains keys k)

-- the entry of k is v now, at most one other entry went, and all else stays
pub record Learns {K V : Type 0} (old new : K → Option V) (k : K) (v : V) : Type 0 where
  pub is : new k ≡ Some v
  pub others : (j : K) → j ≢ k → (new j ≡ old j) ⊎ (new j ≡ None)
  pub one : (i j : K) → i ≢ k → j ≢ k → new i ≢ old i → new j ≢ old j → i ≡ j

-- the entries that a test picks have gone, and all others stay
abbrev pub Forgets : {K V : Type 0} → (K → Bool) → (K → Option V) → (K → Option V) → Type 0
Forgets {K} {V} gone old new = (k : K) → new k ≡ (if gone k then None else old k)

-- one of the n virtual pages from a first one on
abbrev pub is_within : ℕ → ℕ → ℕ → Bool
is_within first n p = nat_le first p && nat_lt (p - first) n

-- a name of the directory
abbrev pub is_of : ℕ → ℕ × List ℕ → Bool
is_of number k = k.0 == number
