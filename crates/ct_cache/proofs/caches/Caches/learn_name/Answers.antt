use Rattle.std.proofs.Common.{refl, sym, ◌∙◌, subst, ap}
use Rattle.ct_base.specs.Named.{Named}
use Rattle.ct_base.specs.Objects.{Object}
use Rattle.ct_dir.specs.Directory.{IsFirst}
use Rattle.ct_cache.proofs.Changed.{name_learnt, same_pages}
use Rattle.ct_cache.proofs.Kept.{dir_object, learns_name, named, one_first}
use Rattle.ct_cache.proofs.caches.Caches.learn_name.Goals as goal

pub returns-in-Some-clause-absent : goal.returns-in-Some-clause-absent
returns-in-Some-clause-absent g c none =
    let object = dir_object (g.D.Pm.words c.args.dev.now) c.args.number c.get-dir.result c.requires.live c.get-dir.ensures in
    absurd (none (subst (λ f. Named f c.args.name.now) object (named c.in-Some.ensures.found)))

pub returns-in-Some-clause-learns : goal.returns-in-Some-clause-learns
returns-in-Some-clause-learns g c found first =
    let object = dir_object (g.D.Pm.words c.args.dev.now) c.args.number c.get-dir.result c.requires.live c.get-dir.ensures in
    let here = subst (λ f. IsFirst f c.args.name.now c.in-Some.found) object c.in-Some.ensures.found in
    name_learnt c.args.self.now _ (c.args.number, c.args.name.now) c.place_of.result found c.cell_of.result c.cell_of.ensures.key c.place_of.ensures.is
    (c.cell_of.ensures.found ∙ one_first c.in-Some.found found here first) refl

pub returns-in-Some-clause-pages : goal.returns-in-Some-clause-pages
returns-in-Some-clause-pages g c = same_pages c.args.self.now _ refl

pub returns-in-Some-clause-agrees : goal.returns-in-Some-clause-agrees
returns-in-Some-clause-agrees g c a =
    let img = g.D.Pm.words c.args.dev.now in
    let object = dir_object img c.args.number c.get-dir.result c.requires.live c.get-dir.ensures in
    let here = subst (λ f. IsFirst f c.args.name.now c.in-Some.found) object c.in-Some.ensures.found in
    let kind = ap (λ (f : Object). f.kind) (sym (dir_object img c.args.number _ c.requires.live refl)) ∙ c.requires.readable.kind in
    learns_name img (c.args.number, c.args.name.now) c.in-Some.found (record { kind = kind; first = here })
    (name_learnt c.args.self.now _ (c.args.number, c.args.name.now) c.place_of.result c.in-Some.found c.cell_of.result c.cell_of.ensures.key c.place_of.ensures.is c.cell_of.ensures.found refl)
    (same_pages c.args.self.now _ refl) a

pub returns-in-None-clause-learns : goal.returns-in-None-clause-learns
returns-in-None-clause-learns g c found first =
    let object = dir_object (g.D.Pm.words c.args.dev.now) c.args.number c.get-dir.result c.requires.live c.get-dir.ensures in
    absurd (c.in-None.ensures.none (subst (λ f. Named f c.args.name.now) (sym object) (named first)))
