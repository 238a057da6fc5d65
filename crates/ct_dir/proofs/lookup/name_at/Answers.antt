use Rattle.std.proofs.Common.{ap, ◌∙◌, arith}
use Rattle.ct_base.specs.Slots.{slot_name}
use Rattle.ct_dir.proofs.Held.{laid}
use Rattle.ct_dir.proofs.Matching.{head_length}
use Rattle.ct_dir.proofs.Spelling.{held_slot, name_read}
use Rattle.ct_dir.proofs.Stepping.{meets_slot, meets_there, slot_mapped}
use Rattle.ct_dir.specs.Directory.{dir_of}
use Rattle.ct_dir.proofs.lookup.name_at.Goals as goal

pub page_of-requires-clause-high : goal.page_of-requires-clause-high
page_of-requires-clause-high g c = let s = c.requires.used in let l = laid c.requires.readable.placed (omega (arith, s.below)) in omega (arith, l.high, s.below)

pub read-requires-clause-there : goal.read-requires-clause-there
read-requires-clause-there g c =
    let m = meets_slot c.args.offset c.requires.readable (g.met.D.Pm.words_fit c.args.dev.now) c.requires.used in
    meets_there m c.in-Some.page c.in-Some.ensures.page

pub name-requires-clause-inside : goal.name-requires-clause-inside
name-requires-clause-inside g c =
    let m = meets_slot c.args.offset c.requires.readable (g.met.D.Pm.words_fit c.args.dev.now) c.requires.used in
    (held_slot c.in-Some.page c.read.result m c.requires.used c.in-Some.ensures.page c.read.ensures.offset c.read.ensures.place c.read.ensures.head).shows.inside

pub name-requires-clause-short : goal.name-requires-clause-short
name-requires-clause-short g c =
    let m = meets_slot c.args.offset c.requires.readable (g.met.D.Pm.words_fit c.args.dev.now) c.requires.used in
    let h = held_slot c.in-Some.page c.read.result m c.requires.used c.in-Some.ensures.page c.read.ensures.offset c.read.ensures.place c.read.ensures.head in
    omega (arith, head_length h, h.text.length)

pub unreachable-requires : goal.unreachable-requires
unreachable-requires g c = slot_mapped (meets_slot c.args.offset c.requires.readable (g.met.D.Pm.words_fit c.args.dev.now) c.requires.used) c.requires.used c.in-None.ensures.page

pub returns : goal.returns
returns g c =
    let m = meets_slot c.args.offset c.requires.readable (g.met.D.Pm.words_fit c.args.dev.now) c.requires.used in
    let h = held_slot c.in-Some.page c.read.result m c.requires.used c.in-Some.ensures.page c.read.ensures.offset c.read.ensures.place c.read.ensures.head in
    c.name.ensures ∙ name_read h ∙ ap (slot_name (dir_of (g.D.Pm.words c.args.dev.now) c.args.dir)) c.read.ensures.offset
