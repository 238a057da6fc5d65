use Rattle.ct_level.specs.Any.{partition}
use Rattle.ct_record.specs.Seen.{drafted}
use Rattle.ct_header.proofs.Chained.{release_stands}
use Rattle.ct_header.proofs.change.release.Goals as goal

pub returns-clause-stand : goal.returns-clause-stand
returns-clause-stand g c ps stands one =
    let e = c.place-level.ensures in
    release_stands ps (partition c.args.part) c.place-level.result.0 c.place-level.result.1 (drafted c.args.draft.now) (drafted c.set_path.new.draft) e.value e.partition
    c.in_ok-set_path.ensures.headers stands one
