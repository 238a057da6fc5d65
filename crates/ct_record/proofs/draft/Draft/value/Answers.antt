use Rattle.std.proofs.Common.{arith}
use Rattle.ct_record.proofs.Drafts.{place_few}
use Rattle.ct_record.proofs.draft.Draft.value.Goals as goal

pub value_after-requires-clause-pairs : goal.value_after-requires-clause-pairs
value_after-requires-clause-pairs g c =
    let draft = c.args.self.now in omega (arith, c.drafted_at.ensures, place_few draft.count, draft.few, draft.pages.0, draft.pages.1)
