use Rattle.std.proofs.Common.{◌≡◌, length, ap, sym, refl}
use Rattle.ct_tree.specs.Tree.{File}
use Rattle.ct_tree.specs.Step.{size_at}
use Rattle.ct_tree.specs.Content.{bytes_in}
use Rattle.ct_tree.proofs.Exchanges.{at_is}
use Rattle.ct_plain.proofs.Appends.{append_writes}
use Rattle.ct_plain.proofs.plain.PlainTree.append.Goals as goal

pub returns : goal.returns
returns c =
    let t = c.args.self.now in
    let path = c.args.path.now in
    let old = c.in_ok-old.old.now in
    let found = at_is c.self.inside.root t path c.in_ok-names.names.items c.deref.result.now (File old) old c.self.view_is c.in_ok-names.ensures.same c.deref.ensures.value c.in_ok-old.ensures refl in
    let end : length old ≡ size_at t path = ap (λ r. length (bytes_in r)) (sym found) in
    append_writes t path (length old) c.args.bytes.now c.write.result _ end c.write.ensures
