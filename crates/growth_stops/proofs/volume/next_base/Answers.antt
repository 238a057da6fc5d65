use Rattle.std.proofs.Common.{ap, sym, subst, ◌∙◌}
use Rattle.ct_base.specs.Inode.{IsPart, live_parts}
use Rattle.ct_base.specs.Plan.{first_of}
use Rattle.ct_base.specs.View.{inode_count, view}
use Rattle.ct_call.proofs.Rooms.{ready_here}
use Rattle.ct_grow.proofs.Chosen.{first_is}
use Rattle.ct_grow.proofs.Readied.{stands_now}
use Rattle.ct_level.specs.Any.{partition}
use Rattle.growth_stops.proofs.volume.next_base.Goals as goal

pub pick-requires-clause-stands : goal.pick-requires-clause-stands
pick-requires-clause-stands g c = (live_parts (view (g.D.Pm.words c.args.dev.now)) (inode_count (g.D.Pm.words c.args.dev.now)), stands_now (ready_here c.requires.rest c.requires.unstaged))

pub returns-in-Some-clause-some : goal.returns-in-Some-clause-some
returns-in-Some-clause-some g c =
    let w = g.D.Pm.words c.args.dev.now in
    let found = c.in-Some.ensures (live_parts (view w) (inode_count w)) (stands_now (ready_here c.requires.rest c.requires.unstaged)) in
    λ none. let no : _ = sym found.1 ∙ none in absurd (cc)

pub returns-in-Some-clause-part : goal.returns-in-Some-clause-part
returns-in-Some-clause-part g c =
    let w = g.D.Pm.words c.args.dev.now in
    let ps = live_parts (view w) (inode_count w) in
    let found = c.in-Some.ensures ps (stands_now (ready_here c.requires.rest c.requires.unstaged)) in
    subst IsPart (first_is ps c.args.level (partition c.in-Some.part) found.0 c.base.result found.1 c.base.ensures.value) c.base.ensures.part

pub returns-in-Some-clause-next : goal.returns-in-Some-clause-next
returns-in-Some-clause-next g c =
    let w = g.D.Pm.words c.args.dev.now in
    let ps = live_parts (view w) (inode_count w) in
    let found = c.in-Some.ensures ps (stands_now (ready_here c.requires.rest c.requires.unstaged)) in
    ap first_of found.1 ∙ first_is ps c.args.level (partition c.in-Some.part) found.0 c.base.result found.1 c.base.ensures.value
