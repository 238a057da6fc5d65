-- What is seen of a source and of a sink in memory, and what a call leaves of them.
use Rattle.std.specs.Prelude.{ℕ, ◌+◌, ◌-◌, ◌^◌, min, List, ◌++◌, drop, Ok, Err}
use Rattle.std.specs.declared.result.Result.{Result}

-- the bytes still to come, the most that one call gives, the numbers of the calls that fail, and how many calls and faults there were
pub record MemInput : Type 0 where
  pub rest : List ℕ
  pub piece : ℕ
  pub fail_at : List ℕ
  pub calls : ℕ
  pub faults : ℕ

-- the bytes written, the most that may be written, the numbers of the calls that fail, and how many calls and faults there were
pub record MemOutput : Type 0 where
  pub written : List ℕ
  pub room : ℕ
  pub fail_at : List ℕ
  pub calls : ℕ
  pub faults : ℕ

-- one more, but for a counter that stands at its end
abbrev pub counted : ℕ → ℕ
counted n = min (n + 1) (2 ^ 64 - 1)

-- a call took these bytes off the rest, or failed
abbrev pub after_next : {E : Type 0} → MemInput → Result ℕ E → MemInput
after_next s (Ok n) = record s { rest = drop n s.rest; calls = counted s.calls }
after_next s (Err e) = record s { calls = counted s.calls; faults = counted s.faults }

-- a call appended the bytes, or failed and appended nothing
abbrev pub after_put : {T E : Type 0} → MemOutput → List ℕ → Result T E → MemOutput
after_put s bytes (Ok done) = record s { written = s.written ++ bytes; calls = counted s.calls }
after_put s bytes (Err e) = record s { calls = counted s.calls; faults = counted s.faults }
