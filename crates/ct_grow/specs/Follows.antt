-- What growth asks of the wants that come after it.
use Rattle.std.specs.Prelude.{◌≢◌, ℕ, ◌+◌, ◌*◌, ◌/◌, ◌<◌, ◌≤◌, ◌⊎◌, ◌++◌, List, [], ◌∷◌}
use Rattle.ct_base.specs.declared.inode.Inode.{Inode}
use Rattle.ct_base.specs.declared.layout.TheConstants.{NO_PARTITION, PAGE_BYTES}
use Rattle.ct_base.specs.Inode.{Partition, IsPart, AreApart, part, part_bytes}
use Rattle.ct_base.specs.Pieces.{pieces}
use Rattle.ct_base.specs.Plan.{exchange_height, side_wants, stage, touched}
use Rattle.ct_base.specs.Wants.{Want}

-- An object takes the larger partition p, which does not meet its own.
pub record Enlarges (f : Inode) (p : Partition) : Type 0 where
  pub is_part : IsPart p
  pub old : IsPart (part f)
  pub smaller : f.level < p.level
  pub apart : AreApart p (part f)

-- A want lies beside the old partition, and crosses neither end of the range to which growth brings that.
pub record IsWhole (f : Inode) (p : Partition) (want : Want) : Type 0 where
  pub start : want.at < p.base → want.at + want.len ≤ p.base
  pub stop : want.at < p.base + part_bytes f.level → want.at + want.len ≤ p.base + part_bytes f.level
  pub beside : (want.at + want.len ≤ f.base) ⊎ (f.base + part_bytes f.level ≤ want.at)

-- The want may come after growth; one higher than what moves, or where there was no partition, may always.
abbrev pub Follows : Inode → Partition → Want → Type 0
Follows f p want = f.level ≢ NO_PARTITION → want.height ≤ exchange_height f.level → IsWhole f p want

-- The want begins outside the range to which growth brings the old partition.
abbrev pub IsElsewhere : Inode → Partition → Want → Type 0
IsElsewhere f p want = f.level ≢ NO_PARTITION → (want.at < p.base) ⊎ (p.base + part_bytes f.level ≤ want.at)

-- The wants of a write to offsets of a partition, as they are there.
abbrev pub write_asks : Partition → ℕ → ℕ → List Want
write_asks p off len =
    side_wants ((p.base + off) / PAGE_BYTES) (pieces ((p.base + off) / PAGE_BYTES) (stage (p.base + off) / PAGE_BYTES) (touched off len))
    ++ record { height = 0; at = stage (p.base + off) / PAGE_BYTES * PAGE_BYTES; len = touched off len * PAGE_BYTES } ∷ []
