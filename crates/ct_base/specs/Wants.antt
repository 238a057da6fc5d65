-- The cells that wants ask for, and how many of them are absent.
use Rattle.std.specs.Prelude.{ℕ, zero, suc, ◌+◌, ◌-◌, ◌*◌, ◌^◌, ◌==◌, nat_le, nat_lt, ◌&&◌, ◌||◌, Bool, false, if◌then◌else◌, List, [], ◌∷◌}
use Rattle.ct_base.specs.Walk.{page_at}
use Rattle.ct_base.specs.declared.layout.TheConstants.{PAGE_BYTES, TABLE_ENTRIES}

-- how many numbers below n pass
unfoldable pub count_below : (ℕ → Bool) → ℕ → ℕ
count_below p zero = 0
count_below p (suc n) = (if p n then 1 else 0) + count_below p n

-- a want of a height at the addresses from at on, len of them
pub record Want : Type 0 where
  pub height : ℕ
  pub at : ℕ
  pub len : ℕ

-- cell (d, x) lies on the path of a want: it is not lower than the want, and its range of 512 ^ (4 - d) pages meets it
abbrev pub is_on_path : ℕ → ℕ → Want → Bool
is_on_path d x want =
    nat_le (d + want.height) 4 && (nat_le (x * (PAGE_BYTES * TABLE_ENTRIES ^ (4 - d)) + 1) (want.at + want.len) && nat_lt want.at ((x + 1) * (PAGE_BYTES * TABLE_ENTRIES ^ (4 - d))))

abbrev pub is_wanted : List Want → ℕ → ℕ → Bool
is_wanted [] d x = false
is_wanted (want ∷ wants) d x = is_on_path d x want || is_wanted wants d x

-- the cells of a depth that are wanted and absent
unfoldable pub missing_at : List ℕ → List Want → ℕ → ℕ
missing_at img wants d = count_below (λ x. is_wanted wants d x && (page_at img d x == 0)) (TABLE_ENTRIES ^ d)

unfoldable pub missing : List ℕ → List Want → ℕ
missing img wants = missing_at img wants 1 + missing_at img wants 2 + missing_at img wants 3 + missing_at img wants 4
