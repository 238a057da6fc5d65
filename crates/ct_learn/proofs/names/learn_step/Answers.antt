use Rattle.std.proofs.Common.{refl, sym, ap, ◌∙◌}
use Rattle.ct_base.specs.declared.inode.Inode.{Inode}
use Rattle.ct_path.proofs.Sounds.{from_one, is_live, readable, to_most}
use Rattle.ct_learn.proofs.Living.{few, known_live}
use Rattle.ct_learn.proofs.names.learn_step.Goals as goal

pub returns-in-Some-clause-live : goal.returns-in-Some-clause-live
returns-in-Some-clause-live g c = known_live c.requires.rest c.requires.known (c.args.number, c.args.name.now) c.in-Some.found c.in-Some.ensures

pub get-dir-requires-clause-from : goal.get-dir-requires-clause-from
get-dir-requires-clause-from g c = from_one (g.D.Pm.words c.args.dev.now) c.requires.rest.sound (few c.requires.rest) c.args.number c.requires.live

pub get-dir-requires-clause-to : goal.get-dir-requires-clause-to
get-dir-requires-clause-to g c = to_most (g.D.Pm.words c.args.dev.now) c.requires.rest.sound (few c.requires.rest) c.args.number c.requires.live

pub learn_name-requires-clause-live : goal.learn_name-requires-clause-live
learn_name-requires-clause-live g c = is_live (g.D.Pm.words c.args.dev.now) c.requires.rest.sound (few c.requires.rest) c.args.number c.requires.live

pub learn_name-requires-clause-readable : goal.learn_name-requires-clause-readable
learn_name-requires-clause-readable g c =
    let w = g.D.Pm.words c.args.dev.now in
    readable w c.requires.rest.sound (few c.requires.rest) c.args.number c.requires.live _ refl c.requires.rest.tables (ap (λ (f : Inode). f.kind) (sym c.get-dir.ensures) ∙ c.if-dir-ne-DIRECTORY_KIND.false)

pub returns-in-Some-look_name-clause-live : goal.returns-in-Some-look_name-clause-live
returns-in-Some-look_name-clause-live g c =
    known_live c.requires.rest (c.learn_name.ensures.agrees c.requires.known) (c.args.number, c.args.name.now) c.in-Some-look_name.found c.in-Some-look_name.ensures
