use Rattle.std.proofs.Common.{◌≡◌, ◌⊎◌, ℕ, List, inl, inr, subst, arith}
use Rattle.std.specs.Prelude.{slice_index}
use Rattle.ct_base.specs.Settled.{Gives, HasFewPairs, IsShut, open_pairs}
use Rattle.ct_pm.specs.Device.{LeavesOnly, MakesOnly, SameOff, IsIn}
use Rattle.ct_pm.proofs.Made.{makes_then, makes_weaker}
use Rattle.ct_pm.proofs.Told.{and_then, weaker}
use Rattle.ct_record.specs.Record.{SettlesTo, InRecord, IsStaging, OpensOnly}
use Rattle.ct_record.proofs.Lawful.{shut_few}
use Rattle.ct_record.proofs.Opens.{shut_opens}
use Rattle.ct_record.proofs.Settles.{same_then}
use Rattle.ct_recover.specs.Settling.{Settling}
use Rattle.ct_recover.proofs.Staging.{settled_done, settles_staged, shut_staged}
use Rattle.ct_recover.proofs.settling.settle.Goals as goal
use Rattle.ct_recover.proofs.settling.settle.Goals.{After-clear_staging}

-- what the slots' clearing leaves, in terms of the device that was replayed
same : (g : _) (c : After-clear_staging g) → SameOff (IsIn 16898 8) (g.D.Pm.words c.clear_staging.new.dev) (g.D.Pm.words c.in-Ok.idle.dev)
same g c = subst (λ d. SameOff (IsIn 16898 8) (g.D.Pm.words c.clear_staging.new.dev) (g.D.Pm.words d)) c.into_dev-dev.ensures.dev c.clear_staging.ensures.same

reads : (g : _) (c : After-clear_staging g) → SettlesTo (g.D.Pm.words c.args.dev) (g.D.Pm.words c.clear_staging.new.dev)
reads g c =
    let idle = c.in-Ok.idle in
    same_then (settles_staged (g.D.Pm.words idle.dev) (g.D.Pm.words c.clear_staging.new.dev) idle.shut (same g c)) c.in-Ok.ensures.reads

moments : (g : _) (c : After-clear_staging g) → LeavesOnly (g.D.Pm.told c.args.dev) (g.D.Pm.told c.clear_staging.new.dev) (SettlesTo (g.D.Pm.words c.args.dev))
moments g c =
    let words = g.D.Pm.words c.args.dev in
    and_then c.in-Ok.ensures.any_moment
    (weaker (SettlesTo words) (λ image settles. same_then settles c.in-Ok.ensures.reads)
    (subst (λ d. LeavesOnly (g.D.Pm.told d) (g.D.Pm.told c.clear_staging.new.dev) (SettlesTo (g.D.Pm.words d))) c.into_dev-dev.ensures.dev c.clear_staging.ensures.any_moment))

-- both gates are closed while the slots are cleared
each_shut : (g : _) (c : After-clear_staging g) → LeavesOnly (g.D.Pm.told c.in-Ok.idle.dev) (g.D.Pm.told c.clear_staging.new.dev) IsShut
each_shut g c = subst (λ d. LeavesOnly (g.D.Pm.told d) (g.D.Pm.told c.clear_staging.new.dev) IsShut) c.into_dev-dev.ensures.dev c.clear_staging.ensures.each_shut

now_shut : (g : _) (c : After-clear_staging g) → IsShut (g.D.Pm.words c.clear_staging.new.dev)
now_shut g c = shut_staged (g.D.Pm.words c.in-Ok.idle.dev) (g.D.Pm.words c.clear_staging.new.dev) c.in-Ok.idle.shut (same g c)

lawful : (g : _) (c : After-clear_staging g) → LeavesOnly (g.D.Pm.told c.args.dev) (g.D.Pm.told c.clear_staging.new.dev) (HasFewPairs (slice_index (g.D.Pm.words c.args.dev) 512))
lawful g c =
    let most = slice_index (g.D.Pm.words c.args.dev) 512 in and_then c.in-Ok.ensures.lawful (weaker (HasFewPairs most) (λ image shut. shut_few most image shut) (each_shut g c))

reads_lawful : (g : _) (c : After-clear_staging g) → HasFewPairs (slice_index (g.D.Pm.words c.args.dev) 512) (g.D.Pm.words c.clear_staging.new.dev)
reads_lawful g c = shut_few (slice_index (g.D.Pm.words c.args.dev) 512) (g.D.Pm.words c.clear_staging.new.dev) (now_shut g c)

opens : (g : _) (c : After-clear_staging g) → LeavesOnly (g.D.Pm.told c.args.dev) (g.D.Pm.told c.clear_staging.new.dev) (OpensOnly (open_pairs (g.D.Pm.words c.args.dev)))
opens g c =
    let pairs = open_pairs (g.D.Pm.words c.args.dev) in and_then c.in-Ok.ensures.opens (weaker (OpensOnly pairs) (λ image shut. shut_opens pairs image shut) (each_shut g c))

reads_opens : (g : _) (c : After-clear_staging g) → OpensOnly (open_pairs (g.D.Pm.words c.args.dev)) (g.D.Pm.words c.clear_staging.new.dev)
reads_opens g c = shut_opens (open_pairs (g.D.Pm.words c.args.dev)) (g.D.Pm.words c.clear_staging.new.dev) (now_shut g c)

replayed : (words : List ℕ) (word value : ℕ) → InRecord word ⊎ Gives (open_pairs words) word value → Settling words word value
replayed words word value (inl inside) = inl inside
replayed words word value (inr gives) = inr (inl gives)

made : (g : _) (c : After-clear_staging g) → MakesOnly (Settling (g.D.Pm.words c.args.dev)) (g.D.Pm.told c.args.dev) (g.D.Pm.told c.clear_staging.new.dev)
made g c =
    let words = g.D.Pm.words c.args.dev in
    makes_then (makes_weaker (Settling words) (replayed words) c.in-Ok.ensures.made)
    (makes_weaker (Settling words) (λ word value is. inr (inr is))
    (subst (λ d. MakesOnly (λ word value. IsStaging word × (value ≡ 0)) (g.D.Pm.told d) (g.D.Pm.told c.clear_staging.new.dev)) c.into_dev-dev.ensures.dev c.clear_staging.ensures.made))

pub returns-in-Err-clause-made : goal.returns-in-Err-clause-made
returns-in-Err-clause-made g c = makes_weaker (Settling (g.D.Pm.words c.args.dev)) (replayed (g.D.Pm.words c.args.dev)) c.in-Err.ensures.made

pub returns-in-Ok-clear_staging-clause-words : goal.returns-in-Ok-clear_staging-clause-words
returns-in-Ok-clear_staging-clause-words g c =
    settled_done (g.D.Pm.words c.args.dev) (g.D.Pm.words c.in-Ok.idle.dev) (g.D.Pm.words c.clear_staging.new.dev) (omega (arith, c.requires.pages.0, c.requires.pages.1)) c.in-Ok.ensures.words
    c.in-Ok-clear_staging.ensures.zero (same g (goal.at.returns-in-Ok-clear_staging-clause-words g c).After-clear_staging)

pub returns-in-Ok-clear_staging-clause-any_moment : goal.returns-in-Ok-clear_staging-clause-any_moment
returns-in-Ok-clear_staging-clause-any_moment g c = moments g (goal.at.returns-in-Ok-clear_staging-clause-any_moment g c).After-clear_staging

pub returns-in-Err-clear_staging-clause-any_moment : goal.returns-in-Err-clear_staging-clause-any_moment
returns-in-Err-clear_staging-clause-any_moment g c = moments g (goal.at.returns-in-Err-clear_staging-clause-any_moment g c).After-clear_staging

pub returns-in-Ok-clear_staging-clause-reads : goal.returns-in-Ok-clear_staging-clause-reads
returns-in-Ok-clear_staging-clause-reads g c = reads g (goal.at.returns-in-Ok-clear_staging-clause-reads g c).After-clear_staging

pub returns-in-Err-clear_staging-clause-reads : goal.returns-in-Err-clear_staging-clause-reads
returns-in-Err-clear_staging-clause-reads g c = reads g (goal.at.returns-in-Err-clear_staging-clause-reads g c).After-clear_staging

pub returns-in-Ok-clear_staging-clause-made : goal.returns-in-Ok-clear_staging-clause-made
returns-in-Ok-clear_staging-clause-made g c = made g (goal.at.returns-in-Ok-clear_staging-clause-made g c).After-clear_staging

pub returns-in-Err-clear_staging-clause-made : goal.returns-in-Err-clear_staging-clause-made
returns-in-Err-clear_staging-clause-made g c = made g (goal.at.returns-in-Err-clear_staging-clause-made g c).After-clear_staging

pub returns-in-Ok-clear_staging-clause-lawful : goal.returns-in-Ok-clear_staging-clause-lawful
returns-in-Ok-clear_staging-clause-lawful g c = lawful g (goal.at.returns-in-Ok-clear_staging-clause-lawful g c).After-clear_staging

pub returns-in-Err-clear_staging-clause-lawful : goal.returns-in-Err-clear_staging-clause-lawful
returns-in-Err-clear_staging-clause-lawful g c = lawful g (goal.at.returns-in-Err-clear_staging-clause-lawful g c).After-clear_staging

pub returns-in-Ok-clear_staging-clause-reads_lawful : goal.returns-in-Ok-clear_staging-clause-reads_lawful
returns-in-Ok-clear_staging-clause-reads_lawful g c = reads_lawful g (goal.at.returns-in-Ok-clear_staging-clause-reads_lawful g c).After-clear_staging

pub returns-in-Err-clear_staging-clause-reads_lawful : goal.returns-in-Err-clear_staging-clause-reads_lawful
returns-in-Err-clear_staging-clause-reads_lawful g c = reads_lawful g (goal.at.returns-in-Err-clear_staging-clause-reads_lawful g c).After-clear_staging

pub returns-in-Ok-clear_staging-clause-opens : goal.returns-in-Ok-clear_staging-clause-opens
returns-in-Ok-clear_staging-clause-opens g c = opens g (goal.at.returns-in-Ok-clear_staging-clause-opens g c).After-clear_staging

pub returns-in-Err-clear_staging-clause-opens : goal.returns-in-Err-clear_staging-clause-opens
returns-in-Err-clear_staging-clause-opens g c = opens g (goal.at.returns-in-Err-clear_staging-clause-opens g c).After-clear_staging

pub returns-in-Ok-clear_staging-clause-reads_opens : goal.returns-in-Ok-clear_staging-clause-reads_opens
returns-in-Ok-clear_staging-clause-reads_opens g c = reads_opens g (goal.at.returns-in-Ok-clear_staging-clause-reads_opens g c).After-clear_staging

pub returns-in-Err-clear_staging-clause-reads_opens : goal.returns-in-Err-clear_staging-clause-reads_opens
returns-in-Err-clear_staging-clause-reads_opens g c = reads_opens g (goal.at.returns-in-Err-clear_staging-clause-reads_opens g c).After-clear_staging
