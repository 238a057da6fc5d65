use Rattle.std.proofs.Common.{◌≡◌, ◌≢◌, [], ◌∷◌, Result, Err, Ok, arith, rules}
use Rattle.ct_tree.specs.declared.call.Refusal.{Refusal}
use Rattle.ct_find.proofs.Fitting.{entry_live, entry_readable, fit_answer, leaf, missing_answer, root_answer}
use Rattle.ct_find.proofs.leaf.find_leaf.Goals as goal

abbrev failed : Refusal → Result (Unit {0}) Refusal
failed r = Err r

abbrev fits : Result (Unit {0}) Refusal
fits = Ok tt

pub returns-then-eq-clause-answer : goal.returns-then-eq-clause-answer
returns-then-eq-clause-answer g c t st =
    let is : c.args.path.now ≡ 47 ∷ [] = search rules in
    root_answer c.requires c.args.kind t c.root_refusal.result st c.root_refusal.ensures is

pub returns-in-Err-clause-answer : goal.returns-in-Err-clause-answer
returns-in-Err-clause-answer g c t st =
    let below : c.args.path.now ≢ 47 ∷ [] = search rules in
    missing_answer c.requires c.args.kind t c.in-Err.refusal below (c.in-Err.ensures.answer t st)

pub get-inode-requires-clause-from : goal.get-inode-requires-clause-from
get-inode-requires-clause-from g c = (entry_live c.requires c.in-Ok.ensures.entry).number.from

pub get-inode-requires-clause-to : goal.get-inode-requires-clause-to
get-inode-requires-clause-to g c = omega (arith, (entry_live c.requires c.in-Ok.ensures.entry).number.to, c.requires.head.inodes.1)

pub check_kind-requires : goal.check_kind-requires
check_kind-requires g c kind = entry_readable c.requires c.in-Ok.ensures.entry c.get-inode.result c.get-inode.ensures kind

pub returns-in-Ok-check_kind-clause-leaf : goal.returns-in-Ok-check_kind-clause-leaf
returns-in-Ok-check_kind-clause-leaf g c = leaf c.requires c.in-Ok.ensures.entry c.args.kind c.get-inode.result tt c.get-inode.ensures c.in-Ok-check_kind.ensures

pub returns-in-Ok-check_kind-clause-answer : goal.returns-in-Ok-check_kind-clause-answer
returns-in-Ok-check_kind-clause-answer g c t st = fit_answer c.requires c.in-Ok.ensures.entry c.args.kind c.get-inode.result fits c.get-inode.ensures c.in-Ok-check_kind.ensures t st (c.in-Ok.ensures.answer t st)

pub returns-in-Err-check_kind-clause-answer : goal.returns-in-Err-check_kind-clause-answer
returns-in-Err-check_kind-clause-answer g c t st =
    fit_answer c.requires c.in-Ok.ensures.entry c.args.kind c.get-inode.result (failed c.in-Err-check_kind.refusal) c.get-inode.ensures c.in-Err-check_kind.ensures t st (c.in-Ok.ensures.answer t st)
