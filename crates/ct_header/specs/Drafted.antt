-- Header words that are changed by the pairs of a draft.
use Rattle.std.specs.Prelude.{◌≡◌, ◌≢◌, ℕ, ◌+◌, ◌/◌, ◌<◌, ◌≤◌, ◌∷◌, ◌++◌, true, List, All, Contains}
use Rattle.ct_base.specs.declared.layout.TheConstants.{PAGE_BYTES}
use Rattle.ct_base.specs.Headers.{StandFor, is_one, without}
use Rattle.ct_base.specs.Inode.{Partition, is_free, number_of}
use Rattle.ct_base.specs.Published.{header_words}
use Rattle.ct_base.specs.Settled.{Pair}
use Rattle.ct_base.specs.View.{view}
use Rattle.ct_base.specs.Walk.{page_at}
use Rattle.ct_base.specs.Words.{place_at}

-- the pages of the header words on the path of a partition are there
abbrev pub AreThere : List ℕ → Partition → Type 0
AreThere img p = (a : ℕ) → Contains (header_words p) a → page_at img 4 (a / PAGE_BYTES) ≢ 0

-- the device word is one at which a header word on the path of a partition lies
pub record NamesHeader (img : List ℕ) (p : Partition) (w : ℕ) : Type 0 where
  pub address : ℕ
  pub on_path : Contains (header_words p) address
  pub is : w ≡ place_at img address

-- the address is one of a header word on the path of a partition
pub record IsInHeader (p : Partition) (v : ℕ) : Type 0 where
  pub address : ℕ
  pub on_path : Contains (header_words p) address
  pub from : address ≤ v
  pub to : v < address + 8

-- pairs were added, each of which names such a word
pub record AddsPairs (Names : ℕ → Type 0) (old new : List Pair) : Type 0 where
  pub added : List Pair
  pub goes_on : new ≡ added ++ old
  pub each : All (λ pair. Names pair.word) added

-- each byte off the header words on the path of a partition stays
abbrev pub KeepsOtherBytes : Partition → List ℕ → List ℕ → Type 0
KeepsOtherBytes p old new = (v : ℕ) → ¬ IsInHeader p v → view new v ≡ view old v

-- headers that stood for a list in which a partition is free stand for the list with it
abbrev pub JoinsLive : Partition → List ℕ → List ℕ → Type 0
JoinsLive p old new = (ps : List Partition) → StandFor (view old) ps → is_free ps p ≡ true → StandFor (view new) (p ∷ ps)

-- headers that stood for a list with a partition stand for the list without it
abbrev pub LeavesLive : Partition → List ℕ → List ℕ → Type 0
LeavesLive p old new = (ps : List Partition) → StandFor (view old) ps → is_one ps p.level (number_of p) ≡ true → StandFor (view new) (without p ps)
