use Rattle.std.proofs.Common.{◌<◌, ◌^◌, subst}
use Rattle.ct_cache.proofs.Kept.{page_remembered}
use Rattle.ct_cache.proofs.finding.CachesMemory.page_of.Goals as goal

pub returns : goal.returns
returns c = page_remembered c.args.self.now c.args.v c.look_page.result (subst (λ v. v < 2 ^ 48) c.get.ensures.value c.get.ensures.bound) c.look_page.ensures
