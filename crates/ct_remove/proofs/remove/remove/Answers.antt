use Rattle.std.proofs.Common.{sym, ap, ◌∙◌, arith}
use Rattle.ct_base.specs.Settled.{IsShut}
use Rattle.ct_pm.specs.Device.{NothingPending}
use Rattle.ct_record.specs.Seen.{device_behind}
use Rattle.ct_record.proofs.Ended.{ok_both, ok_then}
use Rattle.ct_remove.specs.Erased.{Removes}
use Rattle.ct_remove.proofs.Whole.{bare_files, bare_mounted}
use Rattle.ct_remove.proofs.remove.remove.Goals as goal

pub returns-then-inode-eq-NO_PARTITION-clause-objects : goal.returns-then-inode-eq-NO_PARTITION-clause-objects
returns-then-inode-eq-NO_PARTITION-clause-objects g c =
    let R : Type 0 = Removes (g.D.Pm.words c.args.dev) (g.D.Pm.words (device_behind c.remove_now.result)) c.args.entry.dir c.args.entry.offset c.args.entry.number in
    ok_then R c.remove_now.result (λ r. bare_files c.requires.mounted.rest c.requires.leaf (ap (λ i. i.level) (sym c.requires.inode) ∙ omega arith) r) c.remove_now.ensures.removes

pub returns-then-inode-eq-NO_PARTITION-clause-mounted : goal.returns-then-inode-eq-NO_PARTITION-clause-mounted
returns-then-inode-eq-NO_PARTITION-clause-mounted g c =
    let R : Type 0 = Removes (g.D.Pm.words c.args.dev) (g.D.Pm.words (device_behind c.remove_now.result)) c.args.entry.dir c.args.entry.offset c.args.entry.number in
    let S : Type 0 = IsShut (g.D.Pm.words (device_behind c.remove_now.result)) in
    let L : Type 0 = NothingPending (g.D.Pm.told (device_behind c.remove_now.result)) in
    ok_then (R × (S × L)) c.remove_now.result (λ has. bare_mounted c.requires.mounted.rest c.requires.leaf (ap (λ i. i.level) (sym c.requires.inode) ∙ omega arith) has.0 c.requires.mounted has.1.0 has.1.1)
    (ok_both R (S × L) c.remove_now.result c.remove_now.ensures.removes (ok_both S L c.remove_now.result c.remove_now.ensures.shut c.remove_now.ensures.settled))
