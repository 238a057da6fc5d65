-- The bytes of a file, and what the calls make of them.
use Rattle.std.specs.Prelude.{ℕ, ◌+◌, ◌-◌, ◌++◌, List, [], ◌∷◌, take, drop, length, replicate, Ok, Err}
use Rattle.std.specs.declared.result.Result.{Result}
use Rattle.ct_tree.specs.Tree.{Tree, File, Dir}
use Rattle.ct_tree.specs.declared.call.Refusal.{Refusal}

-- the bytes of a file that was resolved
abbrev pub bytes_in : Result Tree Refusal → List ℕ
bytes_in (Err e) = []
bytes_in (Ok (File bytes)) = bytes
bytes_in (Ok (Dir es)) = []

-- at most len bytes from an offset on
abbrev pub range : List ℕ → ℕ → ℕ → List ℕ
range bytes off len = take len (drop off bytes)

-- a file of this length: it is cut, or lengthened with zeros
abbrev pub resized : ℕ → List ℕ → List ℕ
resized len bytes = take len bytes ++ replicate (len - length bytes) 0

-- a file with bytes at an offset: it is lengthened with zeros where it is shorter; no bytes change nothing
abbrev pub written : List ℕ → ℕ → List ℕ → List ℕ
written old off [] = old
written old off (b ∷ bytes) = resized off old ++ (b ∷ bytes) ++ drop (off + length (b ∷ bytes)) old
