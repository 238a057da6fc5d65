use Rattle.std.proofs.Common.{◌∙◌}
use Rattle.ct_dir.specs.Directory.{name_in}
use Rattle.ct_dump.proofs.Entered.{are_entries}
use Rattle.ct_seen.specs.Once.{held_tree}
use Rattle.ct_seen.proofs.Shown.{name_prop, next_is, of_held}
use Rattle.ct_seen.proofs.live.LiveSeen.next.Goals as goal

pub returns : goal.returns
returns g c =
    let live = c.args.self.now in
    let t = live.held.0 in
    let path = c.args.path.now in
    of_held (name_prop _ _) live.fs.now.state live.held (λ was is stands.
    (c.in-Ok.ensures.answer was is t stands).1
    ∙ next_is t path (name_in c.args.after) (are_entries t path (held_tree live.fs.now.state live.held)) c.requires)
