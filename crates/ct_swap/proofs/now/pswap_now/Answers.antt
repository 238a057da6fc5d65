use Rattle.std.proofs.Common.{◌∙◌, ◌*◌, length}
use Rattle.ct_base.specs.Exchange.{Exchanged}
use Rattle.ct_base.specs.Pieces.{pieces}
use Rattle.ct_base.specs.Settled.{with_pairs}
use Rattle.ct_pm.specs.Device.{SameOff}
use Rattle.ct_record.specs.Record.{Concluded, InRecord}
use Rattle.ct_record.specs.Seen.{device_behind, drafted, pairs_of, words_under}
use Rattle.ct_record.proofs.Ended.{drafted_since, ok_both, ok_drafted, ok_then}
use Rattle.ct_swap.specs.Swap.{swap_pairs}
use Rattle.ct_swap.proofs.Committing.{exchanged_end, swapped}
use Rattle.ct_swap.proofs.now.pswap_now.Given.{Over}
use Rattle.ct_swap.proofs.now.pswap_now.Goals as goal

module _ (g : Over) (c : goal.After-conclude g) where
  ends : Concluded (g.D.Pm.words c.args.dev) (g.D.Pm.told c.args.dev) (swap_pairs (g.D.Pm.words c.args.dev) c.args.a c.args.b (pieces c.args.a c.args.b c.args.n)) (2 * length (pieces c.args.a c.args.b c.args.n))
      (g.D.Pm.words (device_behind c.conclude.result)) (g.D.Pm.told (device_behind c.conclude.result)) c.conclude.result
  ends =
      let ps = pieces c.args.a c.args.b c.args.n in
      let is = c.begin-draft.ensures.dev ∙ c.of.ensures in
      c.conclude.ensures.concluded (g.D.Pm.words c.args.dev) (g.D.Pm.told c.args.dev) (swap_pairs (g.D.Pm.words c.args.dev) c.args.a c.args.b ps) (2 * length ps)
      (drafted_since c.args.dev c.begin-draft.result c.pswap-drafted.new.draft is c.pswap-drafted.ensures.drafts)
      (swapped c.pswap-drafted.result c.args.dev c.begin-draft.result c.pswap-drafted.new.draft c.args.a c.args.b ps is c.begin-draft.ensures.pairs c.begin-draft.ensures.count c.pswap-drafted.ensures.pairs c.pswap-drafted.ensures.count)

pub returns-clause-exchanged : goal.returns-clause-exchanged
returns-clause-exchanged g c =
    let last = c.pswap-drafted.new.draft in
    let done = g.D.Pm.words (device_behind c.conclude.result) in
    let whole = Exchanged (drafted c.begin-draft.result) (drafted last) c.args.a c.args.b c.args.n in
    let same = SameOff InRecord done (with_pairs (pairs_of last) (words_under last)) in
    ok_then (whole × same) c.conclude.result (λ both. exchanged_end c.args.dev c.begin-draft.result last done c.args.a c.args.b c.args.n (c.begin-draft.ensures.dev ∙ c.of.ensures) c.begin-draft.ensures.pairs both.0 both.1)
    (ok_both whole same c.conclude.result (ok_drafted whole c.pswap-drafted.result c.conclude.result c.conclude.ensures.done c.pswap-drafted.ensures.exchanged) c.conclude.ensures.words)

pub returns-clause-words : goal.returns-clause-words
returns-clause-words g c = (ends g c).words

pub returns-clause-shut : goal.returns-clause-shut
returns-clause-shut g c = (ends g c).shut

pub returns-clause-settled : goal.returns-clause-settled
returns-clause-settled g c = (ends g c).settled

pub returns-clause-any_moment : goal.returns-clause-any_moment
returns-clause-any_moment g c = (ends g c).any_moment

pub returns-clause-reads : goal.returns-clause-reads
returns-clause-reads g c = (ends g c).reads

pub returns-clause-lawful : goal.returns-clause-lawful
returns-clause-lawful g c = (ends g c).lawful

pub returns-clause-reads_lawful : goal.returns-clause-reads_lawful
returns-clause-reads_lawful g c = (ends g c).reads_lawful

pub returns-clause-opens : goal.returns-clause-opens
returns-clause-opens g c = (ends g c).opens

pub returns-clause-reads_opens : goal.returns-clause-reads_opens
returns-clause-reads_opens g c = (ends g c).reads_opens

pub returns-clause-made : goal.returns-clause-made
returns-clause-made g c = (ends g c).made
