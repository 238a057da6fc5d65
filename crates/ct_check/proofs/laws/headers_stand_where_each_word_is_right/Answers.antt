use Rattle.std.proofs.Common.{◌+◌, arith}
use Rattle.ct_base.specs.Inode.{live_parts}
use Rattle.ct_base.specs.View.{inode_count, view}
use Rattle.ct_parts.proofs.Live.{live_disjoint}
use Rattle.ct_state.proofs.Bytes.{little-below}
use Rattle.ct_words.proofs.Shown.{view-small}
use Rattle.ct_placing.proofs.Standing.{local_looks, local_stand, looks_local, stand_local, stand_shown}
use Rattle.ct_check.proofs.laws.headers_stand_where_each_word_is_right.Goals as goal

pub returns-clause-local : goal.returns-clause-local
returns-clause-local c = λ img placed apart.
    let b = view img in
    let ps = live_parts b (inode_count img) in
    let disjoint = live_disjoint b (inode_count img) (inode_count img) (omega arith) placed apart in
    (λ stand. (stand_local b ps (view-small img) disjoint stand, stand_shown b ps (view-small img) disjoint stand), λ both. local_stand b ps (view-small img) disjoint both.0 both.1)

pub returns-clause-look : goal.returns-clause-look
returns-clause-look c = λ img. (local_looks, looks_local (λ a. little-below (view img) a 8 (λ k lt. view-small img (a + k))))
