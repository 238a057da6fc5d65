use Rattle.ct_state.proofs.Changes.{detached, attached, swapped, dropped, made_file, made_dir}
use Rattle.ct_state.proofs.laws.an_entry_goes_and_comes.Goals as goal

pub returns-clause-detach : goal.returns-clause-detach
returns-clause-detach c = λ fs gs d o i xs x t f e out. detached e f out

pub returns-clause-attach : goal.returns-clause-attach
returns-clause-attach c = λ fs gs d o i xs x t u f held leads unused new e. attached xs f held leads unused new e

pub returns-clause-swap : goal.returns-clause-swap
returns-clause-swap c = λ fs gs d o i j xs x t u f held there e. swapped there f held e

pub returns-clause-discard : goal.returns-clause-discard
returns-clause-discard c = λ fs i t u f held bare. dropped f held bare

pub returns-clause-fresh : goal.returns-clause-fresh
returns-clause-fresh c = λ fs i t f free. (made_file f free, made_dir f free)
