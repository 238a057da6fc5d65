use Rattle.std.proofs.Common.{◌∙◌, inr, sym, subst}
use Rattle.percent_encoding.specs.Percent.{percent_decode}
use Rattle.ct_commit.specs.Rest.{StandsFor}
use Rattle.ct_pm.specs.Ram.{words_of}
use Rattle.ct_tree.specs.Checks.{at}
use Rattle.ct_tree.specs.Resolve.{entries_in, node_in}
use Rattle.ct_tree.specs.Step.{list, refusal}
use Rattle.ct_tell.specs.Ends.{Comes}
use Rattle.ct_tell.specs.Texts.{list_text}
use Rattle.ct_tell.specs.Told.{Answers, status_by, text_by}
use Rattle.ct_tell.proofs.Answering.{fault_comes, tree_comes, tree_of}
use Rattle.ct_tell.proofs.path.list_at.Goals as goal

pub returns-in-Ok-mounted_copy-clause-ends : goal.returns-in-Ok-mounted_copy-clause-ends
returns-in-Ok-mounted_copy-clause-ends g c =
    let img = g.D.Pm.words c.args.image.now in
    let path = percent_decode c.args.word.now in
    let t = tree_of c.in-Ok-mounted_copy.ensures.holds in
    let stands : StandsFor (words_of c.mounted.inside.dev) t.0 = subst (λ made. StandsFor (words_of made.dev) t.0) (sym c.mounted.view_is) (c.in-Ok-mounted_copy.ensures.stands t.0 t.1 t.2) in
    inr (
    tree_comes img t.0 (λ u. refusal u (list path)) (λ u. list_text (entries_in (node_in (at u path)))) c.put_list.result (g.O.Sink.written c.args.out.now) (g.O.Sink.written c.put_list.new.out) t.1 t.2
    (
    subst
    (λ p. Comes (status_by (refusal t.0 (list p))) (text_by (refusal t.0 (list p)) (list_text (entries_in (node_in (at t.0 p))))) c.put_list.result (g.O.Sink.written c.args.out.now) (g.O.Sink.written c.put_list.new.out))
    (c.as_slice.ensures.value ∙ c.in-Ok.ensures) (c.put_list.ensures.ends t.0 stands)
    )
    )

pub returns-clause-ends : goal.returns-clause-ends
returns-clause-ends g c =
    let path = percent_decode c.args.word.now in
    fault_comes (g.D.Pm.words c.args.image.now) c.in-Err.fault c.fault_status.result (λ end text t. Answers (refusal t (list path)) (list_text (entries_in (node_in (at t path)))) end text) (g.O.Sink.written c.args.out.now) c.in-Err.ensures.why c.fault_status.ensures
