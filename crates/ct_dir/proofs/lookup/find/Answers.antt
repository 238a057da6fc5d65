use Rattle.std.proofs.Common.{◌∙◌, arith, rules}
use Rattle.std.proofs.lemmas.Bool.{false≢true}
use Rattle.ct_dir.proofs.Matching.{first_found, none_named, other_more}
use Rattle.ct_dir.proofs.Stepping.{brings, ends}
use Rattle.ct_dir.proofs.lookup.find.Goals as goal

pub returns-then-has_name-clause-found : goal.returns-then-has_name-clause-found
returns-then-has_name-clause-found g c =
    let so_far = c.loop-slot.invariant in
    let next = c.in-Some.ensures in
    let b = brings (g.D.Pm.words c.args.dev.now) c.loop-slot.slots.dir c.args.dir c.loop-slot.slots.at _ c.in-Some.slot so_far.dir next.used next.shows next.on next.passed in
    first_found c.found.result c.requires b c.of-key.ensures (omega (arith, c.if-name-gt-NAME_BYTES.false)) so_far.other
    (c.if-has_name.ensures.0 (search rules)) c.found.ensures.offset c.found.ensures.inode

pub loop-slot-preserved : goal.loop-slot-preserved
loop-slot-preserved g c =
    let so_far = c.loop-slot.invariant in
    let next = c.in-Some.ensures in
    let b = brings (g.D.Pm.words c.args.dev.now) c.loop-slot.slots.dir c.args.dir c.loop-slot.slots.at _ c.in-Some.slot so_far.dir next.used next.shows next.on next.passed in
    record {
      stands = next.stands;
      dir = next.dir ∙ so_far.dir;
      other = other_more c.requires b c.of-key.ensures so_far.other (λ s. absurd (false≢true (c.if-has_name.ensures.1 s)));
    }

pub returns-clause-none : goal.returns-clause-none
returns-clause-none g c =
    let so_far = c.loop-slot.invariant in
    none_named c.loop-slot.slots.at so_far.other (ends (g.D.Pm.words c.args.dev.now) c.loop-slot.slots.dir c.args.dir c.loop-slot.slots.at so_far.dir c.in_default.ensures.end)
