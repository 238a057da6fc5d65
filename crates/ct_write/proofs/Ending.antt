-- Root slot 2 is emptied after the record of a write.
use Rattle.std.proofs.Common.{◌≡◌, ℕ, List, ap, ◌∙◌, arith}
use Rattle.std.specs.Prelude.{slice_set}
use Rattle.ct_base.specs.Inode.{inode}
use Rattle.ct_base.specs.Settled.{IsShut}
use Rattle.ct_grow.specs.Grown.{IsReady}
use Rattle.ct_stage.specs.declared.edit.Given.{Given}
use Rattle.ct_commit.proofs.Emptying.{Empties, empty_alike, empty_byte, empty_length, empty_page, empty_root, empty_shut, empty_slot, empty_whole, empty_word}
use Rattle.ct_write.specs.Written.{IsEdited}
use Rattle.ct_write.proofs.Changing.{changed_placed, changed_ready, changed_whole}
use Rattle.ct_write.proofs.Done.{Calls, IsSize, changing, written}

empty_written : {w0 old new : List ℕ} {i off len : ℕ} {given : Given} {size : ℕ} → Empties old new 2 → IsEdited w0 old i off len given size → IsEdited w0 new i off len given size
empty_written {w0} {i = i} x w = record {
  bytes = λ v off_size. ap (λ g. g v) (empty_alike x).bytes ∙ w.bytes v off_size;
  size = ap (λ g. (inode g i).size) (empty_alike x).bytes ∙ w.size;
  inodes = (empty_alike x).inodes ∙ w.inodes;
  pages = λ p away out. empty_page x p away ∙ w.pages p away out;
  staged = λ v from to. empty_byte x v (omega (arith, to)) (λ slot. omega (arith, slot, from)) ∙ w.staged v from to;
  roots = λ k from to. empty_root x k (λ e. omega (arith, e, from)) ∙ w.roots k from to;
  head = λ k lt. empty_word x k (omega arith) ∙ w.head k lt;
  length = empty_length x ∙ w.length;
}

module _ {w0 w2 w3 w4 : List ℕ} {i off len : ℕ} {given : Given} {size : ℕ} (sized : IsSize w0 i off len given size) (c : Calls w0 w2 w3 i off len given size) (shut : IsShut w3) (is : w4 ≡ slice_set w3 16898 0) where
  pub empties : Empties w3 w4 2
  empties =
      let change = changing c.can sized (written c) in
      record { closed = record { shut = shut; whole = changed_whole change c.recorded.sized.tables; placed = changed_placed change }; from = omega arith; to = omega arith; is = is }

  pub end_written : IsEdited w0 w4 i off len given size
  end_written = empty_written empties (written c)

  pub end_ready : IsReady w4
  end_ready = changed_ready (changing c.can sized end_written) (empty_whole empties).tables (empty_shut empties) (empty_slot empties)
