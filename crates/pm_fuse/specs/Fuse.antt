-- What a fuse lets through.
use Rattle.std.specs.Prelude.{◌≡◌, ◌+◌, ◌<◌, ℕ}
use Rattle.pm_fuse.specs.declared.FusePm.{FusePm}

-- the device inside
abbrev pub inner : {D : Type 0} → FusePm D → D
inner fuse = fuse.dev

-- how many calls it still lets through
abbrev pub passes_of : {D : Type 0} → FusePm D → ℕ
passes_of fuse = fuse.passes

-- how often it failed a call itself
abbrev pub blown_of : {D : Type 0} → FusePm D → ℕ
blown_of fuse = fuse.blown

-- a call takes a pass, and reaches the device inside only with one
pub record TakesPass {D : Type 0} (old new : FusePm D) : Type 0 where
  pub taken : 0 < passes_of old → passes_of new + 1 ≡ passes_of old
  pub spent : passes_of old ≡ 0 → passes_of new ≡ 0
  pub untouched : passes_of old ≡ 0 → inner new ≡ inner old
