-- The calls of a workload, and their replies one after another.
use Rattle.std.proofs.Common.{◌≡◌, ℕ, ◌≤◌, List, [], ◌∷◌, ◌++◌, Option, Some, None, Ok, Err, refl, sym, ap, subst, ◌∙◌, arith}
use Rattle.std.specs.Borrow.{Bor}
use Rattle.ct_call.specs.Calls.{IsChange, Keeps}
use Rattle.ct_call.specs.Seen.{faults_in}
use Rattle.ct_call.specs.declared.mount.State.{State}
use Rattle.ct_gen.specs.Made.{gen_op}
use Rattle.ct_gen.specs.declared.gen_call.GenCall.{GenCall}
use Rattle.ct_gen.specs.declared.gen_call.GenCall.TheVariants.{Create, Fill, Append, Truncate, Read as ReadOf, Exchange, Rename}
use Rattle.ct_script.proofs.Puts.{rose_after}
use Rattle.ct_script.specs.Shows.{reply_of}
use Rattle.ct_script.specs.declared.reply.Shown.{Shown}
use Rattle.ct_tree.specs.Runs.{Item, call}
use Rattle.ct_tree.specs.Step.{Op, op_of, read}
use Rattle.ct_tree.specs.Tree.{Tree}
use Rattle.ct_tree.specs.declared.call.Call.{Call}
use Rattle.ct_tree.specs.declared.call.Call.TheVariants.{Create as CreateCall, Mkdir, Write, Fill as FillCall, Append as AppendCall, Read, Truncate as TruncateCall, Unlink, Rmdir, Rename as RenameCall, Exchange as ExchangeCall, Stat, List as ListNames, Where}
use Rattle.ct_tree.specs.declared.call.Reply.{Reply}
use Rattle.ct_chain.proofs.Chained.{begun_more, ran_more, ran_none}
use Rattle.ct_shell.specs.Moments.{IsBegunOf, Passed, moment_in}
use Rattle.ct_shell.specs.Served.{Ran}
use Rattle.ct_shell.specs.Shows.{Replies}
use Rattle.ct_tally.proofs.Counting.{counts_push}
use Rattle.ct_tally.specs.Tallies.{counts_of, with_reply}
use Rattle.ct_tally.specs.Tried.{Tries}
use Rattle.ct_tally.specs.declared.counts.Counts.{Counts}

-- a call that is read is one of a page
pub read_page : (made : GenCall) (path : List ℕ) (off len : ℕ) → read path off len ≡ gen_op made → len ≡ 4096
read_page (Create file) path off len is = absurd (cc)
read_page (Fill file from long byte) path off len is = absurd (cc)
read_page (Append file byte) path off len is = absurd (cc)
read_page (Truncate file long) path off len is = absurd (cc)
read_page (ReadOf file from) path off len is = cc
read_page (Exchange file other from) path off len is = absurd (cc)
read_page (Rename file to) path off len is = absurd (cc)

no_other : (m : Call) (path : List ℕ) (off len : ℕ) → op_of m ≡ read path off len → ((p : Bor (List ℕ)) (o l : ℕ) → m ≡ Read p o l → ⊥) → ⊥
no_other (Read p o l) path off len is not_read = not_read p o l refl
no_other (CreateCall p) path off len is not_read = absurd (cc)
no_other (Mkdir p) path off len is not_read = absurd (cc)
no_other (Write p o bytes) path off len is not_read = absurd (cc)
no_other (FillCall p o l byte) path off len is not_read = absurd (cc)
no_other (AppendCall p bytes) path off len is not_read = absurd (cc)
no_other (TruncateCall p l) path off len is not_read = absurd (cc)
no_other (Unlink p) path off len is not_read = absurd (cc)
no_other (Rmdir p) path off len is not_read = absurd (cc)
no_other (RenameCall p q) path off len is not_read = absurd (cc)
no_other (ExchangeCall p o q r l) path off len is not_read = absurd (cc)
no_other (Stat p) path off len is not_read = absurd (cc)
no_other (ListNames p) path off len is not_read = absurd (cc)
no_other (Where p) path off len is not_read = absurd (cc)

-- and each other changes the tree
pub made_change : (made : GenCall) (m : Call) → op_of m ≡ gen_op made → ((p : Bor (List ℕ)) (o l : ℕ) → m ≡ Read p o l → ⊥) → IsChange (op_of m)
made_change (Create file) m is not_read = subst IsChange (sym is) tt
made_change (Fill file from long byte) m is not_read = subst IsChange (sym is) tt
made_change (Append file byte) m is not_read = subst IsChange (sym is) tt
made_change (Truncate file long) m is not_read = subst IsChange (sym is) tt
made_change (ReadOf file from) m is not_read = absurd (no_other m _ _ _ is not_read)
made_change (Exchange file other from) m is not_read = subst IsChange (sym is) tt
made_change (Rename file to) m is not_read = subst IsChange (sym is) tt

-- the items before the rest were answered, and their replies counted
pub record Going {D : Type 0} {bound : _} (c : ℕ) (t : Tree) (all rest : List Item) (before now : Option (State D bound)) (counts : Counts) : Type 0 where
  pub replies : List Reply
  pub left : Tree
  pub ran : Ran c t left all rest replies (moment_in before) (moment_in now)
  pub keeps : Keeps c now left
  pub counted : counts ≡ counts_of replies
  pub later : faults_in before ≤ faults_in now

pub going_none : {D : Type 0} {bound : _} (c : ℕ) (t : Tree) (all : List Item) (state : Option (State D bound)) (counts : Counts) → counts ≡ counts_of [] → Keeps c state t → Going c t all all state state counts
going_none c t all state counts is keeps = record { replies = []; left = t; ran = ran_none (Passed c) t all (moment_in state); keeps = keeps; counted = is; later = omega arith }

module _ {D : Type 0} {bound : _} (c : ℕ) (t : Tree) (all rest more : List Item) (op : Op) (before now after : Option (State D bound)) (counts : Counts) (going : Going c t all rest before now counts) (is : rest ≡ call op ∷ more) where
  ran_next : Ran c t going.left all (call op ∷ more) going.replies (moment_in before) (moment_in now)
  ran_next = subst (λ (items : List Item). Ran c t going.left all items going.replies (moment_in before) (moment_in now)) is going.ran

  pub going_more : (reply : Option Shown) (shown : Shown) (next : Counts) → reply ≡ Some shown → next ≡ with_reply counts (reply_of shown) → Replies c going.left (call op) now after reply → Going c t all more before after next
  going_more None shown next some counted replies = absurd (cc)
  going_more (Some other) shown next some counted replies =
      let same : other ≡ shown = cc in
      let had = going.later in
      let on = replies.later in
      record {
        replies = going.replies ++ reply_of other ∷ [];
        left = replies.answered.0;
        ran = ran_more (Passed c) t going.left replies.answered.0 all more (call op) going.replies (reply_of other) (moment_in before) (moment_in now) (moment_in after) ran_next replies.answered.1;
        keeps = replies.answered.2;
        counted = counted ∙ ap (λ k. with_reply k (reply_of shown)) going.counted ∙ ap (λ s. with_reply (counts_of going.replies) (reply_of s)) (sym same) ∙ sym (counts_push going.replies (reply_of other));
        later = omega (arith, had, on);
      }

  pub going_halts : {T E : Type 0} (reply : Option Shown) (Tells : T → List Reply → Tree → Type 0) (error : E) → reply ≡ None → Replies c going.left (call op) now after reply → Tries {T = T} {E = E} c t all before after Tells (Err error)
  going_halts None Tells error none replies =
      let had = going.later in
      let on = replies.later in
      record {
        whole = tt;
        halted = record {
          rest = call op ∷ more;
          replies = going.replies;
          left = going.left;
          moment = moment_in now;
          ran = ran_next;
          begun = begun_more IsBegunOf going.left (call op ∷ []) more (moment_in now) (moment_in after) (replies.begun refl);
        };
        later = omega (arith, had, on);
        fault = rose_after _ _ _ had (replies.fault refl);
      }
  going_halts (Some shown) Tells error none replies = absurd (cc)

-- all were answered
pub going_ends : {D E : Type 0} {bound : _} (c : ℕ) (t : Tree) (all rest : List Item) (before now : Option (State D bound)) (counts : Counts) → rest ≡ [] → Going c t all rest before now counts
    → Tries {T = Counts} {E = E} c t all before now (λ counts replies left. counts ≡ counts_of replies) (Ok counts)
going_ends c t all rest before now counts none going = record {
  whole = record {
    replies = going.replies;
    left = going.left;
    ran = subst (λ (items : List Item). Ran c t going.left all items going.replies (moment_in before) (moment_in now)) none going.ran;
    keeps = going.keeps;
    fact = going.counted;
  };
  halted = tt;
  later = going.later;
  fault = tt;
}
