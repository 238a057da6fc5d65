-- A partition of some level, in the shared vocabulary.
use Rattle.ct_base.specs.Inode.{Partition, nth}
use Rattle.ct_level.specs.declared.any.AnyPart.{AnyPart}
use Rattle.ct_level.specs.declared.any.AnyPart.TheVariants.{P0, P1, P2, P3, P4, P5, P6, P7, P8, P9}

-- the base and the level
abbrev pub partition : AnyPart → Partition
partition (P0 j) = nth 0 j
partition (P1 j) = nth 1 j
partition (P2 j) = nth 2 j
partition (P3 j) = nth 3 j
partition (P4 j) = nth 4 j
partition (P5 j) = nth 5 j
partition (P6 j) = nth 6 j
partition (P7 j) = nth 7 j
partition (P8 j) = nth 8 j
partition (P9 j) = nth 9 j
