use Rattle.std.proofs.Common.{◌≡◌, ◌∙◌, ◌≤◌, ℕ, Some, None, sym, subst, take, arith}
use Rattle.std.specs.Prelude.{slice_get}
use Rattle.std.specs.Io.KnownBytes.{Appends}
use Rattle.ct_dir.specs.Directory.{name_in}
use Rattle.ct_look.specs.Looks.{next_name}
use Rattle.ct_tree.specs.Step.{count, names_in}
use Rattle.ct_tell.specs.Texts.{entry_line}
use Rattle.ct_tell.proofs.EntryLines.{child_live, child_stands, counted, dir_read, entry_at, listed_all, listed_more, listed_past, listed_start, listed_torn, next_is, none_next}
use Rattle.ct_tell.proofs.entries.put_entries.Goals as goal

pub entries-count-requires : goal.entries-count-requires
entries-count-requires g c = dir_read c.requires.rest c.requires.live c.requires.is c.requires.kind

pub loop-init : goal.loop-init
loop-init g c = record { listed = λ es st are. listed_start es (g.O.Sink.written c.args.out.now); later = omega arith }

pub next_after-requires : goal.next_after-requires
next_after-requires g c = dir_read c.requires.rest c.requires.live c.requires.is c.requires.kind

pub returns-in_default-clause-bytes : goal.returns-in_default-clause-bytes
returns-in_default-clause-bytes g c es st are =
    let off = none_next c.requires.rest c.requires.live c.requires.is c.requires.kind es st (name_in c.text_of.result) c.in_default.ensures.none in
    listed_all es c.loop.counter _ (g.O.Sink.written c.args.out.now) (g.O.Sink.written c.loop.out) (c.loop.invariant.listed es st are)
    (subst (λ after. next_name after (names_in es) ≡ None) c.text_of.ensures off)

pub name_at-name-requires-clause-readable : goal.name_at-name-requires-clause-readable
name_at-name-requires-clause-readable g c = dir_read c.requires.rest c.requires.live c.requires.is c.requires.kind

pub put_entry-requires-clause-live : goal.put_entry-requires-clause-live
put_entry-requires-clause-live g c =
    child_live c.requires.rest c.requires.live c.requires.is c.requires.kind c.in-Some.found.offset c.in-Some.found.inode c.in-Some.ensures.next.slot c.in-Some.ensures.inode

pub returns-in-Err-clause-bytes : goal.returns-in-Err-clause-bytes
returns-in-Err-clause-bytes g c es st are =
    let x = c.name_at-name.result.items in
    let next = next_is c.requires.rest c.requires.live c.requires.is c.requires.kind es st are (name_in c.text_of.result) c.in-Some.found.offset x c.name_at-name.ensures c.in-Some.ensures.next in
    let listed = c.loop.invariant.listed es st are in
    let place : slice_get (names_in es) c.loop.counter ≡ Some c.name_at-name.result.items = sym listed.next ∙ subst (λ after. next_name after (names_in es) ≡ Some c.name_at-name.result.items) c.text_of.ensures next in
    let there = entry_at c.requires.rest c.requires.live c.requires.is c.requires.kind es st are c.loop.counter x place in
    let stands = child_stands c.requires.rest c.requires.live c.requires.is c.requires.kind es st c.loop.counter c.in-Some.found.offset c.in-Some.found.inode x there c.in-Some.ensures.next.slot c.name_at-name.ensures c.in-Some.ensures.inode in
    listed_torn there _ (g.O.Sink.written c.args.out.now) (g.O.Sink.written c.loop.out) (g.O.Sink.written c.put_entry.new.out) listed
    (subst (λ name. (k : ℕ) × Appends (g.O.Sink.written c.loop.out) (g.O.Sink.written c.put_entry.new.out) (take k (entry_line name there.node))) c.as_slice.ensures.value (c.in-Err.ensures.bytes there.node there.tree stands))

pub loop-preserved : goal.loop-preserved
loop-preserved g c = record {
  listed = λ es st are.
      let x = c.name_at-name.result.items in
      let next = next_is c.requires.rest c.requires.live c.requires.is c.requires.kind es st are (name_in c.text_of.result) c.in-Some.found.offset x c.name_at-name.ensures c.in-Some.ensures.next in
      let listed = c.loop.invariant.listed es st are in
      let place : slice_get (names_in es) c.loop.counter ≡ Some c.name_at-name.result.items = sym listed.next ∙ subst (λ after. next_name after (names_in es) ≡ Some c.name_at-name.result.items) c.text_of.ensures next in
      let there = entry_at c.requires.rest c.requires.live c.requires.is c.requires.kind es st are c.loop.counter x place in
      let stands = child_stands c.requires.rest c.requires.live c.requires.is c.requires.kind es st c.loop.counter c.in-Some.found.offset c.in-Some.found.inode x there c.in-Some.ensures.next.slot c.name_at-name.ensures c.in-Some.ensures.inode in
      listed_more there _ (g.O.Sink.written c.args.out.now) (g.O.Sink.written c.loop.out) (g.O.Sink.written c.put_entry.new.out) listed are place
      (subst (λ name. Appends (g.O.Sink.written c.loop.out) (g.O.Sink.written c.put_entry.new.out) (entry_line name there.node)) c.as_slice.ensures.value (c.in-Ok.ensures.bytes there.node there.tree stands));
  later = let had = c.loop.invariant.later in let more = c.in-Ok.ensures.cause.later in omega (arith, had, more);
}

pub returns-clause-bytes : goal.returns-clause-bytes
returns-clause-bytes g c es st are =
    let many = counted c.requires.rest c.requires.live c.requires.is c.requires.kind es st are c.entries-count.result c.entries-count.ensures in
    let past : count es ≤ c.loop.counter = omega (arith, many, c.loop-test.false) in
    listed_past es c.loop.counter _ (g.O.Sink.written c.args.out.now) (g.O.Sink.written c.loop.out) (c.loop.invariant.listed es st are) past
