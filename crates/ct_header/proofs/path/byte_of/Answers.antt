use Rattle.std.proofs.Common.{List, ℕ, ◌+◌, ◌/◌, ◌%◌, ap, ◌∙◌}
use Rattle.std.specs.Int.{w64, to_le_bytes}
use Rattle.std.specs.Prelude.{slice_index}
use Rattle.ct_base.specs.Ranges.{header_at}
use Rattle.ct_base.specs.Words.{word_at}
use Rattle.ct_record.specs.Seen.{drafted}
use Rattle.ct_words.proofs.Shown.{shown-fits}
use Rattle.ct_header.proofs.path.byte_of.Goals as goal

pub returns : goal.returns
returns g c =
    let img = drafted c.args.draft.now in
    let at = header_at (c.args.level + 1) (c.args.number / 8) in
    let value = c.value_at.ensures ∙ ap (word_at img) c.header_address.ensures.value in
    ap (λ (bytes : List ℕ). slice_index bytes (c.args.number % 8)) (c.to_le_bytes-bytes.ensures ∙ ap (to_le_bytes w64) (shown-fits img at c.value_at.result c.value_at.type_inv value))
