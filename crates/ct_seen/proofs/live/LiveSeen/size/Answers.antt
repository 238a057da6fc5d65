use Rattle.std.proofs.Common.{◌≡◌, ◌∙◌, Result, Ok, sym, ap}
use Rattle.ct_call.specs.declared.mount.FsError.{FsError}
use Rattle.ct_look.specs.declared.seen.Stat.{Stat}
use Rattle.ct_look.specs.declared.seen.Stat.TheVariants.{File as a_file, Dir as a_dir}
use Rattle.ct_tree.specs.Checks.{at}
use Rattle.ct_seen.proofs.Shown.{never_prop, of_held, size_prop, stat_told, told_dir, told_file, told_none}
use Rattle.ct_seen.proofs.live.LiveSeen.size.Goals as goal

pub unreachable-requires : goal.unreachable-requires
unreachable-requires g c =
    let live = c.args.self.now in
    let path = c.args.path.now in
    of_held never_prop live.fs.now.state live.held (λ was is stands.
    told_none (at live.held.0 path) c.in-Err.field-0 c.requires.1 (sym c.in-Err.is ∙ c.stat.ensures.answer was is live.held.0 stands ∙ stat_told live.held.0 path c.requires))

pub returns-in-Ok-File : goal.returns-in-Ok-File
returns-in-Ok-File g c =
    let live = c.args.self.now in
    let path = c.args.path.now in
    let size = c.in-Ok-File.size in
    let shown : ◌≡◌ {A = Result Stat FsError} c.stat.result (Ok (a_file size)) = c.in-Ok-File.is ∙ ap (λ (s : Stat). Ok s) c.in-Ok-File.field-0-is in
    of_held (size_prop _ _) live.fs.now.state live.held (λ was is stands.
    told_file (at live.held.0 path) size (sym shown ∙ c.stat.ensures.answer was is live.held.0 stands ∙ stat_told live.held.0 path c.requires))

pub returns-in-Ok-Dir : goal.returns-in-Ok-Dir
returns-in-Ok-Dir g c =
    let live = c.args.self.now in
    let path = c.args.path.now in
    let count = c.in-Ok-Dir.field-0-0 in
    let shown : ◌≡◌ {A = Result Stat FsError} c.stat.result (Ok (a_dir count)) = c.in-Ok-Dir.is ∙ ap (λ (s : Stat). Ok s) c.in-Ok-Dir.field-0-is in
    of_held (size_prop _ _) live.fs.now.state live.held (λ was is stands.
    told_dir (at live.held.0 path) count (sym shown ∙ c.stat.ensures.answer was is live.held.0 stands ∙ stat_told live.held.0 path c.requires))
