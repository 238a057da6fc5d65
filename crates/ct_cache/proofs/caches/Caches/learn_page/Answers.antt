use Rattle.std.proofs.Common.{◌/◌, ◌%◌, ◌<◌, ◌^◌, refl, sym, ap, subst}
use Rattle.ct_base.specs.Walk.{walk}
use Rattle.ct_walk.proofs.Entries.{some_page-is}
use Rattle.ct_cache.proofs.Changed.{page_learnt, same_names}
use Rattle.ct_cache.proofs.Kept.{learns_page}
use Rattle.ct_cache.proofs.caches.Caches.learn_page.Goals as goal

pub returns-in-Some-clause-learns : goal.returns-in-Some-clause-learns
returns-in-Some-clause-learns g c some =
    let w = walk (g.D.Pm.words c.args.dev.now) c.args.v in
    let here = ap (λ a. a / 4096) c.get-number.ensures.value in
    page_learnt c.args.self.now _ (c.args.v / 4096) (c.get-number.result / 4096 % 1024) w (record { number = c.get-number.result / 4096; page = c.in-Some.page })
    here (ap (λ k. k % 1024) here) (sym (some_page-is c.in-Some.page w c.in-Some.ensures.exact).0) refl

pub returns-in-Some-clause-names : goal.returns-in-Some-clause-names
returns-in-Some-clause-names g c = same_names c.args.self.now _ refl

pub returns-in-Some-clause-agrees : goal.returns-in-Some-clause-agrees
returns-in-Some-clause-agrees g c a =
    let img = g.D.Pm.words c.args.dev.now in
    let w = walk img c.args.v in
    let here = ap (λ a. a / 4096) c.get-number.ensures.value in
    let found = some_page-is c.in-Some.page w c.in-Some.ensures.exact in
    learns_page img c.args.v (subst (λ v. v < 2 ^ 48) c.get-number.ensures.value c.get-number.ensures.bound) found.1
    (page_learnt c.args.self.now _ (c.args.v / 4096) (c.get-number.result / 4096 % 1024) w (record { number = c.get-number.result / 4096; page = c.in-Some.page })
    here (ap (λ k. k % 1024) here) (sym found.0) refl)
    (same_names c.args.self.now _ refl) a
