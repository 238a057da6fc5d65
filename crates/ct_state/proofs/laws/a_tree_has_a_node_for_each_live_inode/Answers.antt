use Rattle.ct_state.proofs.LiveNodes.{nodes_live, nodes_most, none_full, full_none, some_room, room_some, nodes_crowded}
use Rattle.ct_state.proofs.laws.a_tree_has_a_node_for_each_live_inode.Goals as goal

pub returns-clause-live : goal.returns-clause-live
returns-clause-live c = nodes_live

pub returns-clause-most : goal.returns-clause-most
returns-clause-most c = nodes_most

pub returns-clause-full : goal.returns-clause-full
returns-clause-full c = λ img t sound is st. (none_full img t sound is st, full_none img t sound is st)

pub returns-clause-room : goal.returns-clause-room
returns-clause-room c = λ img t sound is st. (λ some. some_room img t sound is st some.0 some.1, room_some img t sound is st)

pub returns-clause-crowded : goal.returns-clause-crowded
returns-clause-crowded c = nodes_crowded
