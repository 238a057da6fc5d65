use Rattle.std.proofs.Common.{◌≡◌, ◌≢◌, ℕ, suc, ◌+◌, ◌-◌, ◌/◌, ◌<◌, List, length, sym, ap, subst, ◌∙◌, ◌⊎◌, arith}
use Rattle.std.specs.Prelude.{Contains, ◌↔◌}
use Rattle.ct_base.specs.Walk.{next, IsUnder, IsSubtree}
use Rattle.ct_image.proofs.Below.{subtree_child, under_self}
use Rattle.ct_frames.specs.Free.{FreePages, inserted}
use Rattle.ct_frames.proofs.Lists.{length-inserted}
use Rattle.ct_walk.proofs.Gives.{Given, entry_none, entry_some, given_none, given_more, not_yet, given_all, given_alone, self_not_yet}
use Rattle.ct_walk.proofs.staging.+give_below.Goals as goal
use Rattle.ct_walk.proofs.staging.+give_below.Goals.{then-entry-ne0, else-entry-ne0}

pub give_below-requires : goal.give_below-requires
give_below-requires g t c κs within =
    let w = g.D.Pm.words c.args.dev.now in
    let k = c.args.levels - 1 in
    let more : c.args.levels ≡ suc k = let some = c.loop-i.invariant.some in omega arith in
    let sub : IsSubtree w c.args.page (suc k) = subst (λ (x : ℕ). IsSubtree w c.args.page x) more c.requires.subtree in
    let lt : c.loop-i.i < 512 = omega arith in
    let found = entry_some w c.args.page k c.loop-i.i sub lt (λ none. c.if-entry-ne0.true (c.load-entry.ensures ∙ none)) in
    let child : c.load-entry.result / 4096 ≡ next w c.args.page c.loop-i.i = ap (λ x. x / 4096) c.load-entry.ensures ∙ sym found.1 in
    let used = not_yet w c.args.frames.now.free c.loop-i.frames.free c.args.page k c.loop-i.i sub c.loop-i.invariant.given lt
    (λ q u. c.requires.used q (subst (λ (x : ℕ). IsUnder w c.args.page x q) (sym more) u)) in (
      omega (arith, more, c.decreases),
      (
        within,
        (
          subst (λ (x : ℕ). IsSubtree w x k) (sym child) (subtree_child w c.args.page k c.loop-i.i sub lt found.0),
          (
            omega arith,
            (
              omega arith,
              (
                c.loop-i.invariant.pages ∙ c.requires.pages,
                λ q u. used q (subst (λ (x : ℕ). IsUnder w x k q) child u),
              ),
            ),
          ),
        ),
      ),
    )

pub loop-i-preserved : goal.loop-i-preserved
loop-i-preserved g t c =
    let w = g.D.Pm.words c.args.dev.now in
    let k = c.args.levels - 1 in
    let more : c.args.levels ≡ suc k = let some = c.loop-i.invariant.some in omega arith in
    let sub : IsSubtree w c.args.page (suc k) = subst (λ (x : ℕ). IsSubtree w c.args.page x) more c.requires.subtree in
    let there : c.args.page ≢ 0 = λ z. omega (arith, c.requires.subtree.low, z) in
    elim c.if-entry-ne0.branch [
      | then-entry-ne0 v ↦
          let found = entry_some w c.args.page k c.loop-i.i sub (omega arith) (λ none. v.if-entry-ne0.true (c.load-entry.ensures ∙ none)) in
          let child : c.load-entry.result / 4096 ≡ next w c.args.page c.loop-i.i = ap (λ x. x / 4096) c.load-entry.ensures ∙ sym found.1 in
          let given = given_more w c.args.frames.now.free c.loop-i.frames.free v.give_below.new.frames.free c.args.page k c.loop-i.i c.loop-i.invariant.given
          (λ q. subst (λ (x : ℕ). Contains v.give_below.new.frames.free q ↔ (Contains c.loop-i.frames.free q ⊎ IsUnder w x k q)) child (v.give_below.ensures.given q)) in
          record {
            some = c.loop-i.invariant.some;
            pages = ap (λ (f : FreePages). f.pages) v.frames-is ∙ v.give_below.ensures.pages ∙ c.loop-i.invariant.pages;
            more = omega (arith, c.loop-i.invariant.more, v.give_below.ensures.more, ap (λ (f : FreePages). length f.free) v.frames-is);
            given = subst (λ (f : FreePages). Given w c.args.frames.now.free f.free c.args.page k (c.loop-i.i + 1)) (sym v.frames-is) given;
          }
      | else-entry-ne0 v ↦
          let none = entry_none w c.args.page c.loop-i.i there (sym c.load-entry.ensures ∙ v.if-entry-ne0.false) in
          let given = given_none w c.args.frames.now.free c.loop-i.frames.free c.args.page k c.loop-i.i c.loop-i.invariant.given none in
          record {
            some = c.loop-i.invariant.some;
            pages = ap (λ (f : FreePages). f.pages) v.frames-is ∙ c.loop-i.invariant.pages;
            more = omega (arith, c.loop-i.invariant.more, ap (λ (f : FreePages). length f.free) v.frames-is);
            given = subst (λ (f : FreePages). Given w c.args.frames.now.free f.free c.args.page k (c.loop-i.i + 1)) (sym v.frames-is) given;
          }
    ]

pub give_page-requires-clause-used : goal.give_page-requires-clause-used
give_page-requires-clause-used g t c contains =
    c.requires.used c.args.page (under_self (g.D.Pm.words c.args.dev.now) c.args.page c.args.levels (λ z. omega (arith, c.requires.subtree.low, z))) contains

pub returns-then-levels-eq0-clause-given : goal.returns-then-levels-eq0-clause-given
returns-then-levels-eq0-clause-given g t c q =
    let w = g.D.Pm.words c.args.dev.now in
    let free : c.give_page.new.frames.free ≡ inserted c.args.page c.args.frames.now.free = ap (λ (f : FreePages). f.free) c.give_page.ensures in
    subst (λ (xs : List ℕ). Contains xs q ↔ (Contains c.args.frames.now.free q ⊎ IsUnder w c.args.page c.args.levels q)) (sym free)
    (subst (λ (k : ℕ). Contains (inserted c.args.page c.args.frames.now.free) q ↔ (Contains c.args.frames.now.free q ⊎ IsUnder w c.args.page k q)) (sym c.if-levels-eq0.true)
    (given_alone w c.args.frames.now.free c.args.page (λ z. omega (arith, c.requires.subtree.low, z)) q))

pub returns-then-levels-eq0-clause-more : goal.returns-then-levels-eq0-clause-more
returns-then-levels-eq0-clause-more g t c = omega (arith, ap (λ (f : FreePages). length f.free) c.give_page.ensures, length-inserted c.args.page c.args.frames.now.free)

pub returns-clause-more : goal.returns-clause-more
returns-clause-more g t c = omega (arith, c.loop-i.invariant.more, ap (λ (f : FreePages). length f.free) c.give_page-2.ensures, length-inserted c.args.page c.loop-i.frames.free)

-- the loop has gone over all entries
done : (w before now : List ℕ) (page k levels i : ℕ) → levels ≡ suc k → i ≡ 512 → IsSubtree w page levels → Given w before now page k i
    → ((q : ℕ) → IsUnder w page levels q → Contains before q → ⊥)
    → (Contains now page → ⊥) × ((q : ℕ) → Contains (inserted page now) q ↔ (Contains before q ⊎ IsUnder w page levels q))
done w before now page k levels i more all sub given used =
    let sub' = subst (λ (x : ℕ). IsSubtree w page x) more sub in
    let given' = subst (λ (x : ℕ). Given w before now page k x) all given in (
      self_not_yet w before now page k sub' given' (λ q u. used q (subst (λ (x : ℕ). IsUnder w page x q) (sym more) u)),
      λ q. subst (λ (x : ℕ). Contains (inserted page now) q ↔ (Contains before q ⊎ IsUnder w page x q)) (sym more) (given_all w before now page k sub' given' q),
    )

pub give_page-requires-2-clause-used : goal.give_page-requires-2-clause-used
give_page-requires-2-clause-used g t c =
    let some = c.loop-i.invariant.some in
    (done (g.D.Pm.words c.args.dev.now) c.args.frames.now.free c.loop-i.frames.free c.args.page (c.args.levels - 1) c.args.levels c.loop-i.i
    (omega arith) (omega arith) c.requires.subtree c.loop-i.invariant.given c.requires.used).0

pub returns-clause-given : goal.returns-clause-given
returns-clause-given g t c q =
    let some = c.loop-i.invariant.some in
    let w = g.D.Pm.words c.args.dev.now in
    let free : c.give_page-2.new.frames.free ≡ inserted c.args.page c.loop-i.frames.free = ap (λ (f : FreePages). f.free) c.give_page-2.ensures in
    subst (λ (xs : List ℕ). Contains xs q ↔ (Contains c.args.frames.now.free q ⊎ IsUnder w c.args.page c.args.levels q)) (sym free)
    ((done w c.args.frames.now.free c.loop-i.frames.free c.args.page (c.args.levels - 1) c.args.levels c.loop-i.i
    (omega arith) (omega arith) c.requires.subtree c.loop-i.invariant.given c.requires.used).1 q)
