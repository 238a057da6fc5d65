use Rattle.ct_path.proofs.Sounds.{dir_is, from_one, to_most, readable, meets_file, meets_none, meets_slot, next_live}
use Rattle.ct_path.proofs.way.step.Goals as goal

pub get-dir-requires-clause-from : goal.get-dir-requires-clause-from
get-dir-requires-clause-from g c = from_one (g.D.Pm.words c.args.dev.now) c.requires.sound c.requires.most c.args.number c.requires.live

pub get-dir-requires-clause-to : goal.get-dir-requires-clause-to
get-dir-requires-clause-to g c = to_most (g.D.Pm.words c.args.dev.now) c.requires.sound c.requires.most c.args.number c.requires.live

pub returns-then-dir-ne-DIRECTORY_KIND-clause-meets : goal.returns-then-dir-ne-DIRECTORY_KIND-clause-meets
returns-then-dir-ne-DIRECTORY_KIND-clause-meets g c =
    meets_file (g.D.Pm.words c.args.dev.now) c.requires.sound c.requires.most c.args.number c.requires.live c.get-dir.result c.get-dir.ensures c.if-dir-ne-DIRECTORY_KIND.true c.args.name.now

pub find-requires-clause-number : goal.find-requires-clause-number
find-requires-clause-number g c =
    dir_is (g.D.Pm.words c.args.dev.now) c.requires.sound c.requires.most c.args.number c.requires.live c.get-dir.result c.get-dir.ensures

pub find-requires-clause-readable : goal.find-requires-clause-readable
find-requires-clause-readable g c =
    readable (g.D.Pm.words c.args.dev.now) c.requires.sound c.requires.most c.args.number c.requires.live c.get-dir.result c.get-dir.ensures c.requires.tables c.if-dir-ne-DIRECTORY_KIND.false

pub returns-in-None-clause-meets : goal.returns-in-None-clause-meets
returns-in-None-clause-meets g c =
    meets_none (g.D.Pm.words c.args.dev.now) c.requires.sound c.requires.most c.args.number c.requires.live c.get-dir.result c.get-dir.ensures c.if-dir-ne-DIRECTORY_KIND.false c.args.name.now c.in-None.ensures.none

pub returns-in-Some-clause-meets : goal.returns-in-Some-clause-meets
returns-in-Some-clause-meets g c =
    meets_slot (g.D.Pm.words c.args.dev.now) c.requires.sound c.requires.most c.args.number c.requires.live c.get-dir.result c.get-dir.ensures c.if-dir-ne-DIRECTORY_KIND.false c.args.name.now c.in-Some.found.offset c.in-Some.found.inode c.in-Some.ensures.found.slot c.in-Some.ensures.found.name c.in-Some.ensures.found.inode

pub returns-in-Some-clause-live : goal.returns-in-Some-clause-live
returns-in-Some-clause-live g c =
    next_live (g.D.Pm.words c.args.dev.now) c.requires.sound c.requires.most c.args.number c.requires.live c.get-dir.result c.get-dir.ensures c.in-Some.found.offset c.in-Some.found.inode c.in-Some.ensures.found.slot c.in-Some.ensures.found.inode
