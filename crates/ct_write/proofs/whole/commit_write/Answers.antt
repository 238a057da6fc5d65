use Rattle.std.proofs.Common.{◌∙◌, sym, ap, arith}
use Rattle.ct_record.proofs.Drafts.{ok_map}
use Rattle.ct_stage.specs.Edited.{given_at}
use Rattle.ct_write.specs.Written.{data_bytes}
use Rattle.ct_write.proofs.Files.{data_at, data_length}
use Rattle.ct_write.proofs.whole.commit_write.Goals as goal

pub returns-clause-file : goal.returns-clause-file
returns-clause-file g c =
    ok_map c.write_given.result (λ file was is.
    file was (data_bytes c.args.what) is (data_length c.args.what ∙ sym c.len_of-len.ensures)
    (λ k lt. ap (λ given. given_at given k) c.given_of-given.ensures.exact ∙ data_at c.args.what k (omega (arith, lt, c.len_of-len.ensures)))) c.write_given.ensures.file
