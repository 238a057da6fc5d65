use Rattle.ct_state.proofs.Landing.{lands_where, lands_once, lands_dir}
use Rattle.ct_state.proofs.laws.an_image_lands_on_one_tree.Goals as goal

pub returns-clause-sound : goal.returns-clause-sound
returns-clause-sound c = λ img t lands. (lands.head, lands.sound)

pub returns-clause-lands : goal.returns-clause-lands
returns-clause-lands c = lands_where

pub returns-clause-once : goal.returns-clause-once
returns-clause-once c = lands_once

pub returns-clause-root : goal.returns-clause-root
returns-clause-root c = lands_dir
