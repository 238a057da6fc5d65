use Rattle.std.proofs.Common.{◌∙◌, ◌≡◌, sym, ap, subst, arith}
use Rattle.ct_tree.specs.Runs.{call}
use Rattle.ct_tree.specs.Step.{Op, op_of, read}
use Rattle.ct_gen.specs.Made.{gen_op}
use Rattle.ct_shell.specs.Shows.{Replies}
use Rattle.ct_tally.proofs.Going.{made_change, read_page}
use Rattle.ct_tally.proofs.calls.answer.Goals as goal

pub reply_to_read-requires : goal.reply_to_read-requires
reply_to_read-requires g c = λ few.
    let one : read c.in-Read.path.now c.in-Read.off c.in-Read.len ≡ gen_op c.args.made.now = sym (ap op_of c.in-Read.is) ∙ c.call-call.ensures in
    let page = read_page c.args.made.now c.in-Read.path.now c.in-Read.off c.in-Read.len one in
    let long = c.requires in
    omega (arith, page, long)

pub returns-in-Read : goal.returns-in-Read
returns-in-Read g c n t keeps =
    let one : read c.in-Read.path.now c.in-Read.off c.in-Read.len ≡ gen_op c.args.made.now = sym (ap op_of c.in-Read.is) ∙ c.call-call.ensures in
    subst (λ (op : Op). Replies n t (call op) c.args.fs.now.state c.args.fs.now.state c.reply_to_read.result) one (c.reply_to_read.ensures n t keeps)

pub reply_to_change-requires : goal.reply_to_change-requires
reply_to_change-requires g c = made_change c.args.made.now c.call-call.result c.call-call.ensures c.in_default.not-Read

pub returns-in_default : goal.returns-in_default
returns-in_default g c n t keeps =
    subst (λ (op : Op). Replies n t (call op) c.args.fs.now.state c.reply_to_change.new.fs.state c.reply_to_change.result) c.call-call.ensures (c.reply_to_change.ensures n t keeps)
