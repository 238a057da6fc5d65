-- The least level that holds so many bytes.
use Rattle.std.proofs.Common.{◌≡◌, ℕ, zero, suc, ◌+◌, ◌<◌, ◌≤◌, inl, inr, arith}
use Rattle.std.proofs.lemmas.Bool.{cases_eq, le-leb, lt-leb}
use Rattle.ct_base.specs.Inode.{part_bytes}
use Rattle.ct_base.specs.Plan.{level_from}

pub level_from-is : (steps n end l : ℕ) → n ≤ l → l ≤ n + steps → ((k : ℕ) → k < l → part_bytes k < end) → (l < n + steps → end ≤ part_bytes l) → level_from steps n end ≡ l
unfolding level_from
level_from-is zero n end l low high before here = omega arith
level_from-is (suc steps) n end l low high before here =
    elim (cases_eq n l) [
      | inl is ↦ let fits : end ≤ part_bytes n = rw is (here (omega arith)) in rw (le-leb end (part_bytes n) fits) is
      | inr off ↦ rw (lt-leb end (part_bytes n) (before n (omega arith))) (level_from-is steps (n + 1) end l (omega arith) (omega arith) before (λ lt. here (omega arith)))
    ]
