use Rattle.std.proofs.Common.{◌≡◌, ◌∙◌, ◌+◌, sym, ap, subst, length, None}
use Rattle.std.proofs.lemmas.List.{length-replicate}
use Rattle.ct_base.specs.Path.{texts}
use Rattle.ct_tree.specs.Checks.{above}
use Rattle.ct_tree.specs.declared.call.Refusal.TheVariants.{TooBig}
use Rattle.ct_tree.proofs.Ordered.{written_short}
use Rattle.ct_plain.proofs.plain.PlainTree.fill.Goals as goal

pub set_file-requires-clause-short : goal.set_file-requires-clause-short
set_file-requires-clause-short c =
    let bytes = c.deref-2.result.now in
    let long : length bytes ≡ c.args.len = ap length (c.deref-2.ensures.value ∙ c.in_ok-bytes.ensures) ∙ length-replicate c.args.len c.args.byte in
    written_short c.self.inside.root (texts c.deref.result.now) c.in_ok-old.old.now c.args.off bytes c.in_ok-data.data.items TooBig c.self.invariant.0 c.in_ok-old.ensures
    (subst (λ k. above (c.args.off + k) 549755813888 TooBig ≡ None) (sym long) c.in_ok-check_end.ensures) c.in_ok-data.ensures
