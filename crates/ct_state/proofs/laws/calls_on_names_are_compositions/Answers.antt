use Rattle.ct_state.proofs.Composed.{create_composed, mkdir_composed, rename_composed, rename_over_composed}
use Rattle.ct_state.proofs.Removes.{unlinked, rmdired}
use Rattle.ct_state.proofs.Renames.{renamed_self}
use Rattle.ct_state.proofs.laws.calls_on_names_are_compositions.Goals as goal

pub returns-clause-create : goal.returns-clause-create
returns-clause-create c = λ path fs d o i t f free few leads place unused new h. create_composed path f free few leads place unused new h

pub returns-clause-mkdir : goal.returns-clause-mkdir
returns-clause-mkdir c = λ path fs d o i t f free few leads place unused new h. mkdir_composed path f free few leads place unused new h

pub returns-clause-unlink : goal.returns-clause-unlink
returns-clause-unlink c = λ path fs d o i t f e tail h. unlinked path f e tail h

pub returns-clause-rmdir : goal.returns-clause-rmdir
returns-clause-rmdir c = λ path fs d o i t f e tail h. rmdired path f e tail h

pub returns-clause-rename_same : goal.returns-clause-rename_same
returns-clause-rename_same c = λ path to fs t f same h. renamed_self path to f same h

pub returns-clause-rename_new : goal.returns-clause-rename_new
returns-clause-rename_new c = λ path to fs d o i k s t f e few tail leads place differ h new used. rename_composed path to k s f e few tail leads place differ h new used

pub returns-clause-rename_over : goal.returns-clause-rename_over
returns-clause-rename_over c = λ path to fs d o i j k s t f e few tail tail' differ h there.
    rename_over_composed path to k s f e few tail there.leads (record { dir = there.slot.dir; tail = tail'; aligned = there.slot.aligned }) differ h there
