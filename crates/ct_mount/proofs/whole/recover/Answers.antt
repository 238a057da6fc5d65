use Rattle.std.proofs.Common.{subst, sym}
use Rattle.ct_base.specs.Head.{HasHead}
use Rattle.ct_base.specs.State.{SameState}
use Rattle.ct_call.specs.NotMounted.{why_not}
use Rattle.ct_mount.specs.Mounting.{IsSettledFrom, Recovers}
use Rattle.ct_mount.proofs.Judged.{first_head, holds_made, judges, unstaged}
use Rattle.ct_mount.proofs.Recovered.{Settles, head_after, recovers, state_moments, state_reads, state_still}
use Rattle.ct_pm.specs.Device.{LeavesOnly}
use Rattle.ct_mount.proofs.whole.recover.Goals as goal
use Rattle.ct_mount.proofs.whole.recover.Goals.{In-Ok, In-Err-settle}

head : (g : _) (c : In-Ok g) → HasHead (g.D.Pm.words c.args.dev)
head g c = c.in_default.ensures.head

-- the device was settled
settled : (g : _) (c : In-Ok g) → IsSettledFrom (g.D.Pm.words c.args.dev) (g.D.Pm.words c.in-Ok.dev) (g.D.Pm.told c.in-Ok.dev)
settled g c = record { words = c.in-Ok.ensures.words; shut = c.in-Ok.ensures.shut; lasts = c.in-Ok.ensures.settled }

settles : (g : _) (c : In-Ok g) → Settles (g.D.Pm.words c.args.dev) (g.D.Pm.told c.args.dev) (g.D.Pm.told c.in-Ok.dev) (g.D.Pm.words c.in-Ok.dev)
settles g c = let e = c.in-Ok.ensures in record {
  any_moment = e.any_moment;
  reads = e.reads;
  lawful = e.lawful;
  reads_lawful = e.reads_lawful;
  opens = e.opens;
  reads_opens = e.reads_opens;
  made = e.made;
}

-- or it stopped on the way
stops : (g : _) (c : In-Err-settle g) → Settles (g.D.Pm.words c.args.dev) (g.D.Pm.told c.args.dev) (g.D.Pm.told c.in-Err-settle.broken.dev) (g.D.Pm.words c.in-Err-settle.broken.dev)
stops g c = let e = c.in-Err-settle.ensures in record {
  any_moment = e.any_moment;
  reads = e.reads;
  lawful = e.lawful;
  reads_lawful = e.reads_lawful;
  opens = e.opens;
  reads_opens = e.reads_opens;
  made = e.made;
}

pub returns-in-Err-clause-judged : goal.returns-in-Err-clause-judged
returns-in-Err-clause-judged g c = first_head (g.D.Pm.words c.args.dev) c.in-Err.rule c.in-Err.ensures.damage

pub returns-in-Err-clause-moments : goal.returns-in-Err-clause-moments
returns-in-Err-clause-moments g c = state_still (g.met.D.Pm.replays c.args.dev) c.requires.settled

pub mount_settled-requires-clause-head : goal.mount_settled-requires-clause-head
mount_settled-requires-clause-head g c = let x = (goal.at.mount_settled-requires-clause-head g c).In-Ok in head_after (head g x) (settles g x)

pub mount_settled-requires-clause-staging : goal.mount_settled-requires-clause-staging
mount_settled-requires-clause-staging g c = let x = (goal.at.mount_settled-requires-clause-staging g c).In-Ok in unstaged (head g x) (settled g x)

pub returns-in-Ok-clause-judged : goal.returns-in-Ok-clause-judged
returns-in-Ok-clause-judged g c =
    let x = (goal.at.returns-in-Ok-clause-judged g c).In-Ok in judges (head g x) (settled g x) (why_not c.mount_settled.result) c.mount_settled.ensures.finds

pub returns-in-Ok-clause-holds : goal.returns-in-Ok-clause-holds
returns-in-Ok-clause-holds g c =
    let x = (goal.at.returns-in-Ok-clause-holds g c).In-Ok in
    holds_made g.D.Pm.words g.D.Pm.told c.in-Ok.dev c.mount_settled.result (head g x) (settled g x) c.mount_settled.ensures.rest c.mount_settled.ensures.dev

pub returns-in-Ok-clause-moments : goal.returns-in-Ok-clause-moments
returns-in-Ok-clause-moments g c =
    let x = (goal.at.returns-in-Ok-clause-moments g c).In-Ok in
    let was = g.D.Pm.words c.args.dev in
    let told = g.D.Pm.told c.args.dev in
    subst (λ d. LeavesOnly told (g.D.Pm.told d) (SameState was)) (sym c.mount_settled.ensures.dev) (state_moments (head g x) (settles g x))

pub returns-in-Ok-clause-reads : goal.returns-in-Ok-clause-reads
returns-in-Ok-clause-reads g c =
    let x = (goal.at.returns-in-Ok-clause-reads g c).In-Ok in
    let was = g.D.Pm.words c.args.dev in
    subst (λ d. SameState was (g.D.Pm.words d)) (sym c.mount_settled.ensures.dev) (state_reads (head g x) (settles g x))

pub returns-in-Ok-clause-recovers : goal.returns-in-Ok-clause-recovers
returns-in-Ok-clause-recovers g c t lands =
    let x = (goal.at.returns-in-Ok-clause-recovers g c).In-Ok in
    let was = g.D.Pm.words c.args.dev in
    let told = g.D.Pm.told c.args.dev in
    subst (λ d. Recovers t was told (g.D.Pm.told d) (g.D.Pm.words d)) (sym c.mount_settled.ensures.dev) (recovers (head g x) (settles g x) t lands)

pub returns-in-Err-settle-clause-moments : goal.returns-in-Err-settle-clause-moments
returns-in-Err-settle-clause-moments g c = let x = (goal.at.returns-in-Err-settle-clause-moments g c).In-Err-settle in state_moments c.in_default.ensures.head (stops g x)

pub returns-in-Err-settle-clause-reads : goal.returns-in-Err-settle-clause-reads
returns-in-Err-settle-clause-reads g c = let x = (goal.at.returns-in-Err-settle-clause-reads g c).In-Err-settle in state_reads c.in_default.ensures.head (stops g x)

pub returns-in-Err-settle-clause-recovers : goal.returns-in-Err-settle-clause-recovers
returns-in-Err-settle-clause-recovers g c t lands =
    let x = (goal.at.returns-in-Err-settle-clause-recovers g c).In-Err-settle in recovers c.in_default.ensures.head (stops g x) t lands
