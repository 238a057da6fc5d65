-- Bytes that a look puts into a buffer.
use Rattle.std.specs.Prelude.{◌≡◌, ◌⊎◌, ℕ, ◌+◌, ◌/◌, ◌%◌, ◌^◌, ◌<◌, ◌≤◌, ◌++◌, List, drop, length, slice_index}

-- Of a buffer, n bytes from a place on become those of b, and all others stay.
pub record Fills (old new : List ℕ) (place n : ℕ) (b : ℕ → ℕ) : Type 0 where
  pub size : length new ≡ length old
  pub here : (k : ℕ) → k < n → slice_index new (place + k) ≡ b k
  pub others : (k : ℕ) → (k < place) ⊎ (place + n ≤ k) → slice_index new k ≡ slice_index old k

-- byte k of a word, the lowest first
abbrev pub byte_of_word : ℕ → ℕ → ℕ
byte_of_word w k = w / 256 ^ k % 256

-- so many bytes stand at the front of the buffer, and behind them is what was there
abbrev pub IsRead : List ℕ → List ℕ → List ℕ → ℕ → Type 0
IsRead bytes old new count = (count ≡ length bytes) × (new ≡ bytes ++ drop count old)
