use Rattle.std.proofs.Common.{sym, subst, ◌∙◌}
use Rattle.ct_dir.specs.Directory.{IsFirst}
use Rattle.ct_cache.proofs.finding.CachesFinder.find.Goals as goal

pub returns-in-Some-clause-found : goal.returns-in-Some-clause-found
returns-in-Some-clause-found g c =
    subst (λ f. IsFirst f c.args.name.now c.in-Some.found) (sym c.requires.number)
    (c.requires.known.names (c.args.number, c.args.name.now) c.in-Some.found (sym c.in-Some.ensures)).first
