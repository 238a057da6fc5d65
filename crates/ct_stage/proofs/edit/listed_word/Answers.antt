use Rattle.std.proofs.Common.{refl}
use Rattle.std.specs.Prelude.{slice_index}
use Rattle.ct_state.proofs.Bytes.{little-eight}
use Rattle.ct_stage.proofs.edit.listed_word.Goals as goal

pub returns : goal.returns
returns c = little-eight (slice_index c.args.bytes.now) c.args.at _ _ _ _ _ _ _ _ refl refl refl refl refl refl refl refl _ c.from_le_bytes.ensures
