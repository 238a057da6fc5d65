use Rattle.ct_call.proofs.Rooms.{ready_of}
use Rattle.std.proofs.Common.{ℕ, Option, subst, arith}
use Rattle.ct_base.specs.Objects.{Object}
use Rattle.ct_tree.specs.Content.{resized}
use Rattle.ct_tree.specs.Lands.{files}
use Rattle.ct_write.proofs.Lengthening.{lengthening}
use Rattle.ct_call.specs.Rooms.{Gives}
use Rattle.ct_edit.specs.Changed.{Changes}
use Rattle.ct_edit.proofs.Longer.{all_taken, can_lengthen, longer_phase, plots, remade_longer}
use Rattle.ct_edit.proofs.Rewritten.{mounted_now, still_phase}
use Rattle.ct_edit.proofs.Shifted.{part_stays, shifted}
use Rattle.ct_edit.proofs.Widened.{can_grow, larger, next_is, starts}
use Rattle.ct_edit.proofs.truncate.make_longer.Goals as goal

pub grow-requires-clause-can : goal.grow-requires-clause-can
grow-requires-clause-can g c level goes = can_grow (plots c.args.len c.requires.mounted.rest c.requires.mounted.unstaged c.requires.live c.requires.kind c.requires.more c.requires.within c.requires.plan c.requires.fits) c.level.ensures level goes

pub returns-in-Err-clause-phase : goal.returns-in-Err-clause-phase
returns-in-Err-clause-phase g c = still_phase c.args.file (resized c.args.len) c.in-Err.ensures.phase

pub lengthen-requires-clause-can : goal.lengthen-requires-clause-can
lengthen-requires-clause-can g c =
    can_lengthen (starts (plots c.args.len c.requires.mounted.rest c.requires.mounted.unstaged c.requires.live c.requires.kind c.requires.more c.requires.within c.requires.plan c.requires.fits) c.level.ensures c.in-Ok.ensures.gives (ready_of c.in-Ok.ensures.mounted)) c.requires.more

pub returns-in-Ok-lengthen-clause-changes : goal.returns-in-Ok-lengthen-clause-changes
returns-in-Ok-lengthen-clause-changes g c =
    let s = starts (plots c.args.len c.requires.mounted.rest c.requires.mounted.unstaged c.requires.live c.requires.kind c.requires.more c.requires.within c.requires.plan c.requires.fits) c.level.ensures c.in-Ok.ensures.gives (ready_of c.in-Ok.ensures.mounted) in
    subst (λ (fs : ℕ → Object). Changes fs (files (g.D.Pm.words c.in-Ok-lengthen.dev)) c.args.file (resized c.args.len)) c.in-Ok.ensures.files (remade_longer (can_lengthen s c.requires.more) c.in-Ok-lengthen.ensures.lengthened).changes

pub returns-in-Ok-lengthen-clause-moved : goal.returns-in-Ok-lengthen-clause-moved
returns-in-Ok-lengthen-clause-moved g c level goes =
    let s = starts (plots c.args.len c.requires.mounted.rest c.requires.mounted.unstaged c.requires.live c.requires.kind c.requires.more c.requires.within c.requires.plan c.requires.fits) c.level.ensures c.in-Ok.ensures.gives (ready_of c.in-Ok.ensures.mounted) in
    let is = next_is s.plots level goes in
    shifted is.0 is.1 (subst (λ (o : Option ℕ). Gives (g.D.Pm.words c.args.dev) (g.D.Pm.words c.in-Ok.dev) c.args.frames.now c.grow.new.frames c.args.file o) goes s.gives) (larger s.plots level goes)
    (part_stays (lengthening (can_lengthen s c.requires.more) c.in-Ok-lengthen.ensures.lengthened)) (λ v. ⊥) (λ v inside kept. c.in-Ok-lengthen.ensures.lengthened.pages 4 _ (omega arith))

pub returns-in-Ok-lengthen-clause-taken : goal.returns-in-Ok-lengthen-clause-taken
returns-in-Ok-lengthen-clause-taken g c =
    all_taken (starts (plots c.args.len c.requires.mounted.rest c.requires.mounted.unstaged c.requires.live c.requires.kind c.requires.more c.requires.within c.requires.plan c.requires.fits) c.level.ensures c.in-Ok.ensures.gives (ready_of c.in-Ok.ensures.mounted))

pub returns-in-Ok-lengthen-clause-mounted : goal.returns-in-Ok-lengthen-clause-mounted
returns-in-Ok-lengthen-clause-mounted g c =
    let s = starts (plots c.args.len c.requires.mounted.rest c.requires.mounted.unstaged c.requires.live c.requires.kind c.requires.more c.requires.within c.requires.plan c.requires.fits) c.level.ensures c.in-Ok.ensures.gives (ready_of c.in-Ok.ensures.mounted) in
    mounted_now c.in-Ok.ensures.mounted.rest (remade_longer (can_lengthen s c.requires.more) c.in-Ok-lengthen.ensures.lengthened) c.in-Ok.ensures.mounted.unstaged c.in-Ok-lengthen.ensures.ready c.in-Ok-lengthen.ensures.settled
    (c.in-Ok-lengthen.ensures.agrees c.grow.new.frames c.in-Ok.ensures.mounted.agrees)

pub returns-in-Ok-lengthen-clause-phase : goal.returns-in-Ok-lengthen-clause-phase
returns-in-Ok-lengthen-clause-phase g c =
    let s = starts (plots c.args.len c.requires.mounted.rest c.requires.mounted.unstaged c.requires.live c.requires.kind c.requires.more c.requires.within c.requires.plan c.requires.fits) c.level.ensures c.in-Ok.ensures.gives (ready_of c.in-Ok.ensures.mounted) in
    longer_phase c.in-Ok.ensures.mounted.rest (can_lengthen s c.requires.more) c.in-Ok.ensures.files c.in-Ok.ensures.phase c.in-Ok-lengthen.ensures.phase

pub returns-in-Err-lengthen-clause-phase : goal.returns-in-Err-lengthen-clause-phase
returns-in-Err-lengthen-clause-phase g c =
    let s = starts (plots c.args.len c.requires.mounted.rest c.requires.mounted.unstaged c.requires.live c.requires.kind c.requires.more c.requires.within c.requires.plan c.requires.fits) c.level.ensures c.in-Ok.ensures.gives (ready_of c.in-Ok.ensures.mounted) in
    longer_phase c.in-Ok.ensures.mounted.rest (can_lengthen s c.requires.more) c.in-Ok.ensures.files c.in-Ok.ensures.phase c.in-Err-lengthen.ensures.phase
