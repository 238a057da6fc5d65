use Rattle.std.proofs.Common.{◌-◌, subst}
use Rattle.ct_look.specs.Holes.{IsNextData}
use Rattle.ct_tree.specs.Checks.{at}
use Rattle.ct_tree.specs.Content.{bytes_in}
use Rattle.ct_seen.proofs.Shown.{number_prop, of_held, test_prop, zeros_after, zeros_before}
use Rattle.ct_seen.proofs.live.LiveSeen.next_page.Goals as goal

pub returns-in-Ok-Some-clause-whole : goal.returns-in-Ok-Some-clause-whole
returns-in-Ok-Some-clause-whole g c =
    let live = c.args.self.now in
    let bytes = bytes_in (at live.held.0 c.args.path.now) in
    of_held (number_prop _ _) live.fs.now.state live.held (λ was is stands.
    (subst (IsNextData bytes c.args.off) c.in-Ok-Some.field-0-is (c.in-Ok-Some.ensures.answer was is live.held.0 stands).1).whole c.requires.whole)

pub returns-in-Ok-Some-clause-zeros : goal.returns-in-Ok-Some-clause-zeros
returns-in-Ok-Some-clause-zeros g c =
    let live = c.args.self.now in
    let bytes = bytes_in (at live.held.0 c.args.path.now) in
    of_held (test_prop _ _) live.fs.now.state live.held (λ was is stands.
    zeros_before bytes c.args.off c.in-Ok-Some.next (subst (IsNextData bytes c.args.off) c.in-Ok-Some.field-0-is (c.in-Ok-Some.ensures.answer was is live.held.0 stands).1))

pub returns-in-Ok-None-clause-zeros : goal.returns-in-Ok-None-clause-zeros
returns-in-Ok-None-clause-zeros g c =
    let live = c.args.self.now in
    let bytes = bytes_in (at live.held.0 c.args.path.now) in
    of_held (test_prop _ _) live.fs.now.state live.held (λ was is stands.
    zeros_after bytes c.args.off (c.max.result - c.args.off) (subst (IsNextData bytes c.args.off) c.in-Ok-None.field-0-is (c.in-Ok-None.ensures.answer was is live.held.0 stands).1))
