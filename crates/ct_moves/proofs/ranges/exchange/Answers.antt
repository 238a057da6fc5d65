use Rattle.std.proofs.Common.{◌∙◌, [], sym, ap, subst, arith, refl}
use Rattle.std.specs.Prelude.{if◌then◌else◌}
use Rattle.std.specs.Str.{bytes_eq}
use Rattle.ct_base.specs.Path.{texts}
use Rattle.ct_tree.specs.Tree.{File}
use Rattle.ct_tree.specs.Checks.{names}
use Rattle.ct_tree.specs.Resolve.{put, IsBelowRoot}
use Rattle.ct_tree.specs.declared.call.Reply.TheVariants.{Done}
use Rattle.ct_tree.proofs.Exchanges.{at_is, still_below, exchange_passes, exchanged_both, second_there}
use Rattle.ct_tree.proofs.Firsts.{first_none}
use Rattle.ct_tree.proofs.Ordered.{file_short}
use Rattle.ct_moves.proofs.Exchanges.{exchange_fails}
use Rattle.ct_moves.proofs.ranges.exchange.Goals as goal

pub returns-in_err-one-clause-does : goal.returns-in_err-one-clause-does
returns-in_err-one-clause-does c =
    let asked = c.args.asked.now in
    exchange_fails c.args.root.now asked.path.now asked.other.now asked.off asked.other_off asked.len (texts c.args.names.now) (texts c.args.others.now) c.requires.names c.requires.others
    c.from_residual.result c.in_err-one.field-0.0 c.from_residual.ensures.1 c.in_err-one.ensures

pub exchanged-requires-clause-short : goal.exchanged-requires-clause-short
exchanged-requires-clause-short c = file_short c.args.root.now (texts c.args.names.now) c.in_ok-one.one.now c.requires.tree c.in_ok-one.ensures.0

pub exchanged-requires-clause-short_too : goal.exchanged-requires-clause-short_too
exchanged-requires-clause-short_too c = file_short c.args.root.now (texts c.args.others.now) c.in_ok-one.two.now c.requires.tree c.in_ok-one.ensures.1

pub set_file-requires-clause-short : goal.set_file-requires-clause-short
set_file-requires-clause-short c =
    let short = file_short c.args.root.now (texts c.args.names.now) c.in_ok-one.one.now c.requires.tree c.in_ok-one.ensures.0 in
    omega (arith, short, c.in_ok-first.ensures.length)

pub set_file-requires-2-clause-short : goal.set_file-requires-2-clause-short
set_file-requires-2-clause-short c =
    let short = file_short c.args.root.now (texts c.args.others.now) c.in_ok-one.two.now c.requires.tree c.in_ok-one.ensures.1 in
    omega (arith, short, c.in_ok-first.ensures.length_too)

pub set_file-requires-2-clause-there : goal.set_file-requires-2-clause-there
set_file-requires-2-clause-there c =
    let root = c.args.root.now in
    let asked = c.args.asked.now in
    let path = asked.path.now in
    let other = asked.other.now in
    let one = c.in_ok-one.one.now in
    let two = c.in_ok-one.two.now in
    let first = c.in_ok-first.first.items in
    let names_are = c.requires.names in
    let others_are = c.requires.others in
    let a = at_is root root path c.args.names.now c.args.names.now (File one) one refl names_are.same refl c.in_ok-one.ensures.0 refl in
    let b = at_is root root other c.args.others.now c.args.others.now (File two) two refl others_are.same refl c.in_ok-one.ensures.1 refl in
    let there = second_there root path other asked.off asked.other_off asked.len one two first a b c.in_ok-first.ensures.first c.requires.tree names_are.path_is others_are.path_is in
    let left = c.set_file.ensures.file ∙ ap (λ ns. put root ns (File first)) (sym names_are.same) in
    subst (λ u. IsBelowRoot u (texts c.args.others.now)) (sym left) (subst (λ ns. IsBelowRoot (put root (names path) (File first)) ns) others_are.same
    (still_below root (put root (names path) (File first)) (names other) two (if bytes_eq path other then first else two) c.requires.dir b there))

pub returns-clause-does : goal.returns-clause-does
returns-clause-does c =
    let t = c.args.root.now in
    let asked = c.args.asked.now in
    let path = asked.path.now in
    let other = asked.other.now in
    let one = c.in_ok-one.one.now in
    let two = c.in_ok-one.two.now in
    let first = c.in_ok-first.first.items in
    let second = c.in_ok-first.second.items in
    let names_are = c.requires.names in
    let others_are = c.requires.others in
    let a = at_is t t path c.args.names.now c.args.names.now (File one) one refl names_are.same refl c.in_ok-one.ensures.0 refl in
    let b = at_is t t other c.args.others.now c.args.others.now (File two) two refl others_are.same refl c.in_ok-one.ensures.1 refl in
    let ranges = first_none _ _ c.in_ok-check_exchange.ensures in
    let apart = first_none _ _ ranges.1 in
    let passes = exchange_passes t path other asked.off asked.other_off asked.len one two [] a b names_are.path_is others_are.path_is ranges.0 apart.0 (first_none _ _ apart.1).0 in
    let before = c.set_file.ensures.file ∙ ap (λ ns. put t ns (File first)) (sym names_are.same) in
    let left = c.set_file-2.ensures.file ∙ ap (λ u. put u (texts c.args.others.now) (File second)) before ∙ ap (λ ns. put (put t (names path) (File first)) ns (File second)) (sym others_are.same) in (
      passes,
      ap (λ u. (Done, u))
          (left ∙ exchanged_both t path other asked.off asked.other_off asked.len one two first a b c.in_ok-first.ensures.first c.requires.tree names_are.path_is others_are.path_is second c.in_ok-first.ensures.second),
    )
