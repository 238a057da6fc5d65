use Rattle.std.proofs.Common.{◌≡◌, ◌≤◌, Ok, Err, refl}
use Rattle.ct_record.specs.Seen.{count_of, pairs_of}
use Rattle.ct_record.proofs.Ended.{dropped_device, is_ok, whole_device}
use Rattle.ct_record.proofs.ending.conclude.Goals as goal

pub returns-in-Err-clause-concluded : goal.returns-in-Err-clause-concluded
returns-in-Err-clause-concluded g c was start pairs most o drafted = dropped_device c.args.draft c.abandon.result was start pairs most (Err (record { dev = c.abandon.result })) c.abandon.ensures.dev tt o

pub returns-in-Ok-complete-clause-concluded : goal.returns-in-Ok-complete-clause-concluded
returns-in-Ok-complete-clause-concluded g c was start pairs most o drafted =
    let e = c.in-Ok-complete.ensures in
    whole_device c.args.draft c.in-Ok-complete.idle.dev c.into_dev.result was start pairs most (Ok c.into_dev.result) c.into_dev.ensures.dev o
    (is_ok ((pairs_of c.args.draft ≡ pairs) × (count_of c.args.draft ≤ most)) c.in-Ok.is drafted) (record {
      words = e.words;
      shut = e.shut;
      settled = e.settled;
      pages = c.in-Ok-complete.idle.pages;
      any_moment = e.any_moment;
      reads = e.reads;
      lawful = e.lawful;
      reads_lawful = e.reads_lawful;
      opens = e.opens;
      reads_opens = e.reads_opens;
      made = e.made;
    })

pub returns-in-Err-complete-clause-concluded : goal.returns-in-Err-complete-clause-concluded
returns-in-Err-complete-clause-concluded g c was start pairs most o drafted =
    let e = c.in-Err-complete.ensures in
    whole_device c.args.draft c.in-Err-complete.broken.dev c.in-Err-complete.broken.dev was start pairs most (Err c.in-Err-complete.broken) refl o
    (is_ok ((pairs_of c.args.draft ≡ pairs) × (count_of c.args.draft ≤ most)) c.in-Ok.is drafted) (record {
      words = tt;
      shut = tt;
      settled = tt;
      pages = tt;
      any_moment = e.any_moment;
      reads = e.reads;
      lawful = e.lawful;
      reads_lawful = e.reads_lawful;
      opens = e.opens;
      reads_opens = e.reads_opens;
      made = e.made;
    })
