use Rattle.std.specs.Prelude.{IfNone}
use Rattle.std.proofs.Common.{Option, Some, None, sym, subst, ◌∙◌}
use Rattle.std.proofs.lemmas.Bool.{true≢false}
use Rattle.ct_dir.proofs.Choosing.{best_kept, best_taken, best_next, key_read, none_later}
use Rattle.ct_dir.proofs.Matching.{met, head_inode}
use Rattle.ct_dir.proofs.Stepping.{brings, ends}
use Rattle.ct_dir.specs.Directory.{dir_of, name_in}
use Rattle.ct_dir.specs.Nearest.{IsBest}
use Rattle.ct_dir.proofs.order.next_after.Goals as goal

pub loop-slot-preserved-then-not-is_later : goal.loop-slot-preserved-then-not-is_later
loop-slot-preserved-then-not-is_later g c =
    let img = g.D.Pm.words c.args.dev.now in
    let so_far = c.loop-slot.invariant in
    let next = c.in-Some.ensures in
    let b = brings img c.loop-slot.slots.dir c.args.dir c.loop-slot.slots.at _ c.in-Some.slot so_far.dir next.used next.shows next.on next.passed in
    let test = c.is_later.ensures (dir_of img c.args.dir) (name_in c.args.after) (met c.requires b) c.key_of-key.ensures in
    record {
      stands = next.stands;
      dir = next.dir ∙ so_far.dir;
      best = best_kept (name_in c.args.after) c.loop-slot.best b (λ y later _. absurd (true≢false (sym (test.1 later) ∙ c.if-not-is_later.true)))
          (λ _ later. true≢false (sym (test.1 later) ∙ c.if-not-is_later.true)) so_far.best;
    }

pub loop-slot-preserved-then-not-is_nearer : goal.loop-slot-preserved-then-not-is_nearer
loop-slot-preserved-then-not-is_nearer g c =
    let img = g.D.Pm.words c.args.dev.now in
    let so_far = c.loop-slot.invariant in
    let next = c.in-Some.ensures in
    let b = brings img c.loop-slot.slots.dir c.args.dir c.loop-slot.slots.at _ c.in-Some.slot so_far.dir next.used next.shows next.on next.passed in
    let h = met c.requires b in
    let f = dir_of img c.args.dir in
    record {
      stands = next.stands;
      dir = next.dir ∙ so_far.dir;
      best = best_kept (name_in c.args.after) c.loop-slot.best b (λ y _ keys less. true≢false (sym ((c.is_nearer.ensures f (Some y) h keys).1 less) ∙ c.if-not-is_nearer.true))
          (λ keys _. true≢false (sym ((c.is_nearer.ensures f None h keys).1 tt) ∙ c.if-not-is_nearer.true)) so_far.best;
    }

pub loop-slot-preserved : goal.loop-slot-preserved
loop-slot-preserved g c =
    let img = g.D.Pm.words c.args.dev.now in
    let so_far = c.loop-slot.invariant in
    let next = c.in-Some.ensures in
    let b = brings img c.loop-slot.slots.dir c.args.dir c.loop-slot.slots.at _ c.in-Some.slot so_far.dir next.used next.shows next.on next.passed in
    let h = met c.requires b in
    let f = dir_of img c.args.dir in
    let later = (c.is_later.ensures f (name_in c.args.after) h c.key_of-key.ensures).0 c.if-not-is_later.false in
    record {
      stands = next.stands;
      dir = next.dir ∙ so_far.dir;
      best = best_taken (name_in c.args.after) c.loop-slot.best c.found.result c.key.result b later (λ y keys. (c.is_nearer.ensures f (Some y) h keys).0 c.if-not-is_nearer.false)
          c.found.ensures.offset (sym (head_inode h) ∙ sym c.found.ensures.inode) (key_read h c.key.result c.key.ensures.size c.key.ensures.words c.key.ensures.length) so_far.best;
    }

if_none : {A : Type 0} {X : Type 0} (r : Option A) → X → IfNone r X
if_none None x = x
if_none (Some a) x = tt

pub returns-in_err-best-clause-none : goal.returns-in_err-best-clause-none
returns-in_err-best-clause-none g c =
    let img = g.D.Pm.words c.args.dev.now in
    let so_far = c.loop-slot.invariant in
    if_none c.from_residual.result
    (none_later (name_in c.args.after) c.loop-slot.slots.at (subst (IsBest (dir_of img c.args.dir) (name_in c.args.after) c.loop-slot.slots.at) c.in_err-best.was so_far.best)
    (ends img c.loop-slot.slots.dir c.args.dir c.loop-slot.slots.at so_far.dir c.in_default.ensures.end))

pub returns-clause-next : goal.returns-clause-next
returns-clause-next g c =
    let img = g.D.Pm.words c.args.dev.now in
    let so_far = c.loop-slot.invariant in
    best_next c.loop-slot.slots.at c.in_ok-best.field-0 (subst (IsBest (dir_of img c.args.dir) (name_in c.args.after) c.loop-slot.slots.at) c.in_ok-best.was so_far.best)
    (ends img c.loop-slot.slots.dir c.args.dir c.loop-slot.slots.at so_far.dir c.in_default.ensures.end)
