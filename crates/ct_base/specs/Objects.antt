-- What the inodes stand for: a kind, a size and the bytes below the size. Where the bytes lie is not told.
use Rattle.std.specs.Prelude.{ℕ, ◌+◌, nat_le, nat_lt, ◌&&◌, if◌then◌else◌}
use Rattle.ct_base.specs.Inode.{Inode, inode}

pub record Object : Type 0 where
  pub kind : ℕ
  pub size : ℕ
  pub at : ℕ → ℕ

-- the bytes of n from base on, and 0 past them
abbrev pub content : (ℕ → ℕ) → ℕ → ℕ → ℕ → ℕ
content b base n k = if nat_lt k n then b (base + k) else 0

-- what an inode stands for
abbrev pub object_of : (ℕ → ℕ) → Inode → Object
object_of b f = record { kind = f.kind; size = f.size; at = content b f.base f.size }

abbrev pub object : (ℕ → ℕ) → ℕ → Object
object b i = object_of b (inode b i)

abbrev pub no_object : Object
no_object = record { kind = 0; size = 0; at = λ k. 0 }

-- the objects by number
unfoldable pub objects : (ℕ → ℕ) → ℕ → ℕ → Object
objects b count i = if nat_le 1 i && nat_le i count then object b i else no_object
