-- How much a call may take.
use Rattle.std.specs.Prelude.{◌≡◌, ℕ, ◌+◌, ◌%◌, ◌≤◌, ◌==◌, if◌then◌else◌, List, length}
use Rattle.ct_base.specs.Inode.{inode}
use Rattle.ct_base.specs.Plan.{touched}
use Rattle.ct_base.specs.View.{view}
use Rattle.ct_base.specs.declared.layout.TheConstants.{PAGE_BYTES}
use Rattle.ct_tree.specs.Need.{IsAt}
use Rattle.ct_tree.specs.Step.{Op, append, exchange, exchange_limit, file_limit, fill, write}

-- on how many pages the bytes of a write lie: on none where it has none
abbrev pub pages_written : ℕ → ℕ → ℕ
pages_written off len = if len == 0 then 0 else touched off len

-- the call writes on so many pages of a file
abbrev pub Touches : List ℕ → Op → ℕ → Type 0
Touches img (write path off bytes) n = n ≡ pages_written off (length bytes)
Touches img (fill path off len byte) n = n ≡ pages_written off len
Touches img (append path bytes) n = (i : ℕ) → IsAt img path i → n ≡ pages_written (inode (view img) i).size (length bytes)
Touches img op n = n ≡ 0

-- the call keeps to the limits on files and on exchanges, as one that no check refuses does
abbrev pub KeepsLimits : List ℕ → Op → Type 0
KeepsLimits img (write path off bytes) = off + length bytes ≤ file_limit
KeepsLimits img (fill path off len byte) = off + len ≤ file_limit
KeepsLimits img (append path bytes) = (i : ℕ) → IsAt img path i → (inode (view img) i).size + length bytes ≤ file_limit
KeepsLimits img (exchange path off other other_off len) = (len % PAGE_BYTES ≡ 0) × (len ≤ exchange_limit)
KeepsLimits img op = Unit {0}
