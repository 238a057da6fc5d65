use Rattle.std.proofs.Common.{◌≡◌, ◌⊎◌, inl, inr, refl, List, ℕ, ap, sym, subst, ◌∙◌}
use Rattle.std.specs.Prelude.{slice_index}
use Rattle.ct_pm.specs.Device.{LeavesOnly, MakesOnly, SameOff}
use Rattle.ct_pm.proofs.Made.{makes_then, makes_weaker}
use Rattle.ct_pm.proofs.Told.{started, and_then, weaker}
use Rattle.ct_base.specs.Settled.{HasFewPairs, settled, with_pairs, open_pairs}
use Rattle.ct_record.specs.Record.{InRecord, OpensOnly, SettlesTo}
use Rattle.ct_base.specs.Settled.{Gives}
use Rattle.ct_record.proofs.Lawful.{few_here, few_more}
use Rattle.ct_record.proofs.Opens.{opens_as}
use Rattle.ct_record.proofs.Settles.{same_refl, same_then, as_settled, as_settled_shut}
use Rattle.ct_record.proofs.Applying.{applied_pairs, applied_same}
use Rattle.ct_record.proofs.Moments.{each_settled}
use Rattle.ct_record.proofs.Drafts.{ok_of}
use Rattle.ct_record.specs.Seen.{after_finish}
use Rattle.ct_record.proofs.replaying.replay.Goals as goal

pub returns-then-load-eq0-2-clause-any_moment : goal.returns-then-load-eq0-2-clause-any_moment
returns-then-load-eq0-2-clause-any_moment g c =
    let was = g.D.Pm.words c.args.dev in
    let told = g.D.Pm.told c.args.dev in
    subst (λ d. LeavesOnly told (g.D.Pm.told d) (SettlesTo was)) (sym c.of.ensures) (started told (SettlesTo was) (each_settled told was (SettlesTo was) (g.met.D.Pm.replays c.args.dev) c.requires.settled (same_refl _)))

before : (g : _) (c : goal.After-finish g) → LeavesOnly (g.D.Pm.told c.args.dev) (g.D.Pm.told c.in-Ok.applied.dev) (SettlesTo (g.D.Pm.words c.args.dev))
before g c = subst (λ d. LeavesOnly (g.D.Pm.told d) (g.D.Pm.told c.in-Ok.applied.dev) (SettlesTo (g.D.Pm.words d))) c.of-2.ensures c.in-Ok.ensures.any_moment

stands : (g : _) (c : goal.After-finish g) → SettlesTo (g.D.Pm.words c.args.dev) (g.D.Pm.words c.in-Ok.applied.dev)
stands g c =
    let was = g.D.Pm.words c.args.dev in
    subst (SettlesTo was) (sym (subst (λ d. g.D.Pm.words c.in-Ok.applied.dev ≡ with_pairs (open_pairs (g.D.Pm.words d)) (g.D.Pm.words d)) c.of-2.ensures c.in-Ok.ensures.words))
    (applied_same c.requires.record c.requires.pages)

pub returns-in-Ok-clause-any_moment : goal.returns-in-Ok-clause-any_moment
returns-in-Ok-clause-any_moment g c =
    and_then (before g c) (weaker (SettlesTo (g.D.Pm.words c.args.dev)) (λ image same. same_then same (stands g c)) c.finish.ensures.any_moment)

-- what replay stores
abbrev Stores : List ℕ → ℕ → ℕ → Type 0
Stores was word value = InRecord word ⊎ Gives (open_pairs was) word value

made : (g : _) (c : goal.After-finish g) → MakesOnly (Stores (g.D.Pm.words c.args.dev)) (g.D.Pm.told c.args.dev) (g.D.Pm.told c.in-Ok.applied.dev)
made g c =
    makes_weaker (Stores (g.D.Pm.words c.args.dev)) (λ word value gives. inr gives)
    (subst (λ d. MakesOnly (Gives (open_pairs (g.D.Pm.words d))) (g.D.Pm.told d) (g.D.Pm.told c.in-Ok.applied.dev)) c.of-2.ensures c.in-Ok.ensures.made)

pub returns-in-Ok-clause-made : goal.returns-in-Ok-clause-made
returns-in-Ok-clause-made g c = makes_then (made g c) (makes_weaker (Stores (g.D.Pm.words c.args.dev)) (λ word value inside. inl inside) c.finish.ensures.made)

pub returns-in-Err-clause-made : goal.returns-in-Err-clause-made
returns-in-Err-clause-made g c =
    makes_weaker (Stores (g.D.Pm.words c.args.dev)) (λ word value gives. inr gives)
    (subst (λ d. MakesOnly (Gives (open_pairs (g.D.Pm.words d))) (g.D.Pm.told d) (g.D.Pm.told c.in-Err.broken.dev)) c.of-2.ensures c.in-Err.ensures.made)

pub returns-then-load-eq0-2-clause-as_settled : goal.returns-then-load-eq0-2-clause-as_settled
returns-then-load-eq0-2-clause-as_settled g c word from off =
    subst (λ d. slice_index (g.D.Pm.words d) word ≡ slice_index (settled (g.D.Pm.words c.args.dev)) word) (sym c.of.ensures)
    (as_settled_shut (g.D.Pm.words c.args.dev) (sym c.load.ensures ∙ c.if-load-eq0.true, sym c.load-then-load-eq0.ensures ∙ c.if-load-eq0-2.true) word from off)

pub returns-in-Ok-clause-as_settled : goal.returns-in-Ok-clause-as_settled
returns-in-Ok-clause-as_settled g c =
    let was = g.D.Pm.words c.args.dev in
    let new = g.D.Pm.words (after_finish c.finish.result) in
    ok_of c.finish.result (as_settled was new (subst (SameOff InRecord new)
    (subst (λ d. g.D.Pm.words c.in-Ok.applied.dev ≡ with_pairs (open_pairs (g.D.Pm.words d)) (g.D.Pm.words d)) c.of-2.ensures c.in-Ok.ensures.words) c.finish.ensures.same))

pub returns-then-load-eq0-2-clause-lawful : goal.returns-then-load-eq0-2-clause-lawful
returns-then-load-eq0-2-clause-lawful g c =
    let was = g.D.Pm.words c.args.dev in
    let told = g.D.Pm.told c.args.dev in
    let few = HasFewPairs (slice_index was 512) in
    subst (λ d. LeavesOnly told (g.D.Pm.told d) few) (sym c.of.ensures) (started told few (each_settled told was few (g.met.D.Pm.replays c.args.dev) c.requires.settled (few_here was c.requires.record)))

pub returns-then-load-eq0-2-clause-reads_lawful : goal.returns-then-load-eq0-2-clause-reads_lawful
returns-then-load-eq0-2-clause-reads_lawful g c =
    let was = g.D.Pm.words c.args.dev in subst (λ d. HasFewPairs (slice_index was 512) (g.D.Pm.words d)) (sym c.of.ensures) (few_here was c.requires.record)

before_lawful : (g : _) (c : goal.After-finish g) → LeavesOnly (g.D.Pm.told c.args.dev) (g.D.Pm.told c.in-Ok.applied.dev) (HasFewPairs (slice_index (g.D.Pm.words c.args.dev) 512))
before_lawful g c = subst (λ d. LeavesOnly (g.D.Pm.told d) (g.D.Pm.told c.in-Ok.applied.dev) (HasFewPairs (slice_index (g.D.Pm.words d) 512))) c.of-2.ensures c.in-Ok.ensures.lawful

before_few : (g : _) (c : goal.After-finish g) → HasFewPairs (slice_index (g.D.Pm.words c.args.dev) 512) (g.D.Pm.words c.in-Ok.applied.dev)
before_few g c = subst (λ d. HasFewPairs (slice_index (g.D.Pm.words d) 512) (g.D.Pm.words c.in-Ok.applied.dev)) c.of-2.ensures c.in-Ok.ensures.reads_lawful

pub returns-in-Ok-clause-lawful : goal.returns-in-Ok-clause-lawful
returns-in-Ok-clause-lawful g c =
    and_then (before_lawful g c) (weaker (HasFewPairs (slice_index (g.D.Pm.words c.args.dev) 512)) (λ image few. few_more image (before_few g c).few few) c.finish.ensures.lawful)

pub returns-in-Ok-clause-reads_lawful : goal.returns-in-Ok-clause-reads_lawful
returns-in-Ok-clause-reads_lawful g c = few_more (g.D.Pm.words (after_finish c.finish.result)) (before_few g c).few c.finish.ensures.reads_lawful

pub returns-then-load-eq0-2-clause-opens : goal.returns-then-load-eq0-2-clause-opens
returns-then-load-eq0-2-clause-opens g c =
    let was = g.D.Pm.words c.args.dev in
    let told = g.D.Pm.told c.args.dev in
    let opens = OpensOnly (open_pairs was) in
    subst (λ d. LeavesOnly told (g.D.Pm.told d) opens) (sym c.of.ensures) (started told opens (each_settled told was opens (g.met.D.Pm.replays c.args.dev) c.requires.settled (inr refl)))

pub returns-then-load-eq0-2-clause-reads_opens : goal.returns-then-load-eq0-2-clause-reads_opens
returns-then-load-eq0-2-clause-reads_opens g c =
    let was = g.D.Pm.words c.args.dev in subst (λ d. OpensOnly (open_pairs was) (g.D.Pm.words d)) (sym c.of.ensures) (inr refl)

before_opens : (g : _) (c : goal.After-finish g) → LeavesOnly (g.D.Pm.told c.args.dev) (g.D.Pm.told c.in-Ok.applied.dev) (OpensOnly (open_pairs (g.D.Pm.words c.args.dev)))
before_opens g c = subst (λ d. LeavesOnly (g.D.Pm.told d) (g.D.Pm.told c.in-Ok.applied.dev) (OpensOnly (open_pairs (g.D.Pm.words d)))) c.of-2.ensures c.in-Ok.ensures.opens

-- the open pairs are those at entry still
still_open : (g : _) (c : goal.After-finish g) → open_pairs (g.D.Pm.words c.in-Ok.applied.dev) ≡ open_pairs (g.D.Pm.words c.args.dev)
still_open g c =
    ap open_pairs (subst (λ d. g.D.Pm.words c.in-Ok.applied.dev ≡ with_pairs (open_pairs (g.D.Pm.words d)) (g.D.Pm.words d)) c.of-2.ensures c.in-Ok.ensures.words) ∙ applied_pairs c.requires.record c.requires.pages

pub returns-in-Ok-clause-opens : goal.returns-in-Ok-clause-opens
returns-in-Ok-clause-opens g c =
    and_then (before_opens g c) (weaker (OpensOnly (open_pairs (g.D.Pm.words c.args.dev))) (λ image opens. opens_as image (still_open g c) opens) c.finish.ensures.opens)

pub returns-in-Ok-clause-reads_opens : goal.returns-in-Ok-clause-reads_opens
returns-in-Ok-clause-reads_opens g c = opens_as (g.D.Pm.words (after_finish c.finish.result)) (still_open g c) c.finish.ensures.reads_opens
