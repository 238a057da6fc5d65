-- How many inodes are live.
use Rattle.std.specs.Prelude.{ℕ, zero, suc, ◌+◌, ◌==◌, if◌then◌else◌}
use Rattle.ct_base.specs.Inode.{inode}

-- how many of the inodes from 1 to n have a kind that is not 0
unfoldable pub live_count : (ℕ → ℕ) → ℕ → ℕ
live_count b zero = 0
live_count b (suc n) = if (inode b (suc n)).kind == 0 then live_count b n else live_count b n + 1
