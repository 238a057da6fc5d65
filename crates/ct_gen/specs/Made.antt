-- The calls that a number gives: sixteen files are made, and then there is one call a draw.
use Rattle.std.specs.Prelude.{ℕ, zero, suc, ◌+◌, ◌*◌, ◌/◌, ◌%◌, ◌^◌, ◌==◌, nat_lt, if◌then◌else◌, List, [], ◌∷◌, ◌++◌, codes, decimal}
use Rattle.ct_base.specs.declared.layout.TheConstants.{PAGE_BYTES}
use Rattle.ct_tree.specs.Step.{Op, create, fill, append, read, truncate, rename, exchange}
use Rattle.ct_gen.specs.declared.calls.TheConstants.{PART_BYTES}
use Rattle.ct_gen.specs.declared.gen_call.GenCall.{GenCall}
use Rattle.ct_gen.specs.declared.gen_call.GenCall.TheVariants.{Create, Fill, Append, Truncate, Read, Exchange, Rename}

-- the path of the file with a number
abbrev pub file_path : ℕ → List ℕ
file_path f = codes "/f" ++ decimal f

-- the state after one draw more
abbrev pub next_state : ℕ → ℕ
next_state x = (x * 6364136223846793005 + 1442695040888963407) % 2 ^ 64

-- the call of a kind on file f, where g is the file after it, p a page, n a count and b a byte
abbrev pub call_of_kind : ℕ → ℕ → ℕ → ℕ → ℕ → ℕ → Op
call_of_kind kind f g p n b =
    if nat_lt kind 2 then fill (file_path f) (PAGE_BYTES * p) (PAGE_BYTES * n) b
    else (if kind == 2 then fill (file_path f) (PAGE_BYTES * p + b) (PART_BYTES * n) b
    else (if kind == 3 then append (file_path f) (b ∷ [])
    else (if kind == 4 then truncate (file_path f) (PAGE_BYTES * p + b)
    else (if kind == 5 then read (file_path f) (PAGE_BYTES * p) PAGE_BYTES
    else (if kind == 6 then exchange (file_path f) (PAGE_BYTES * p) (file_path g) (PAGE_BYTES * p) PAGE_BYTES
    else (if nat_lt b 128 then create (file_path f) else rename (file_path f) (file_path g)))))))

-- the call of a draw
abbrev pub drawn : ℕ → Op
drawn q = call_of_kind (q % 8) (q / 8 % 16) ((q / 8 % 16 + 1) % 16) (q / 128 % 64) (1 + q / 8192 % 8) (q / 65536 % 256)

-- the calls of so many draws after a state
unfoldable pub draws : ℕ → ℕ → List Op
draws zero x = []
draws (suc n) x = drawn (next_state x / 2 ^ 32) ∷ draws n (next_state x)

-- so many files are made, from a number on
unfoldable pub creations : ℕ → ℕ → List Op
creations zero f = []
creations (suc n) f = create (file_path f) ∷ creations n (f + 1)

-- all calls
abbrev pub made : ℕ → ℕ → List Op
made number count = creations 16 0 ++ draws count number

-- a call that is held by its numbers
abbrev pub gen_op : GenCall → Op
gen_op (Create file) = create (file_path file)
gen_op (Fill file off len byte) = fill (file_path file) off len byte
gen_op (Append file byte) = append (file_path file) (byte ∷ [])
gen_op (Truncate file len) = truncate (file_path file) len
gen_op (Read file off) = read (file_path file) off PAGE_BYTES
gen_op (Exchange file other off) = exchange (file_path file) off (file_path other) off PAGE_BYTES
gen_op (Rename file to) = rename (file_path file) (file_path to)
