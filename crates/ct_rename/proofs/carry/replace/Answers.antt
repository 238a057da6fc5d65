use Rattle.std.proofs.Common.{arith}
use Rattle.ct_base.specs.Settled.{IsShut}
use Rattle.ct_pm.specs.Device.{NothingPending}
use Rattle.ct_record.specs.Seen.{device_behind}
use Rattle.ct_record.proofs.Ended.{ok_both, ok_then}
use Rattle.ct_remove.proofs.Whole.{rest_asked}
use Rattle.ct_rename.specs.Moves.{Replaces}
use Rattle.ct_rename.proofs.Changing.{AreBytes, replaced_are}
use Rattle.ct_rename.proofs.Ending.{bare_mounted, last_counted}
use Rattle.ct_rename.proofs.carry.replace.Given.{Over}
use Rattle.ct_rename.proofs.carry.replace.Goals as goal

module _ (g : Over) (c : goal.After-replace_now g) where
  abbrev R : Type 0
  R = Replaces (g.D.Pm.words c.args.dev) (g.D.Pm.words (device_behind c.replace_now.result)) c.args.entry.dir c.args.entry.offset c.args.gone.dir c.args.gone.offset c.args.entry.number c.args.gone.number c.args.name.now

  abbrev S : Type 0
  S = IsShut (g.D.Pm.words (device_behind c.replace_now.result))

  abbrev B : Type 0
  B = AreBytes c.args.name.now

pub returns-then-level-eq-NO_PARTITION-clause-objects : goal.returns-then-level-eq-NO_PARTITION-clause-objects
returns-then-level-eq-NO_PARTITION-clause-objects g c =
    ok_then (R g c × B g c) c.replace_now.result (λ has. replaced_are c.requires.can (rest_asked c.requires.mounted.rest c.requires.leaf) c.requires.away has.0 has.1)
    (ok_both (R g c) (B g c) c.replace_now.result c.replace_now.ensures.replaces c.replace_now.ensures.bytes)

pub returns-then-level-eq-NO_PARTITION-clause-counted : goal.returns-then-level-eq-NO_PARTITION-clause-counted
returns-then-level-eq-NO_PARTITION-clause-counted g c =
    ok_then ((R g c × B g c) × S g c) c.replace_now.result (λ has. last_counted c.requires.can (rest_asked c.requires.mounted.rest c.requires.leaf) c.requires.away c.requires.tree has.0.0 has.0.1 has.1)
    (ok_both (R g c × B g c) (S g c) c.replace_now.result (ok_both (R g c) (B g c) c.replace_now.result c.replace_now.ensures.replaces c.replace_now.ensures.bytes) c.replace_now.ensures.shut)

pub returns-then-level-eq-NO_PARTITION-clause-mounted : goal.returns-then-level-eq-NO_PARTITION-clause-mounted
returns-then-level-eq-NO_PARTITION-clause-mounted g c =
    let L : Type 0 = NothingPending (g.D.Pm.told (device_behind c.replace_now.result)) in
    ok_then ((R g c × B g c) × (S g c × L)) c.replace_now.result
    (λ has. bare_mounted c.requires.can (rest_asked c.requires.mounted.rest c.requires.leaf) c.requires.away c.requires.tree has.0.0 has.0.1 has.1.0 (omega (arith, c.requires.level)) c.requires.mounted has.1.1)
    (ok_both (R g c × B g c) (S g c × L) c.replace_now.result (ok_both (R g c) (B g c) c.replace_now.result c.replace_now.ensures.replaces c.replace_now.ensures.bytes) (ok_both (S g c) L c.replace_now.result c.replace_now.ensures.shut c.replace_now.ensures.settled))
