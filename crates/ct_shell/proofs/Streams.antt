-- A script that is served line by line: what is done when a line more has been served, and when no more is.
use Rattle.std.proofs.Common.{◌≡◌, ◌≢◌, ℕ, ◌≤◌, List, [], ◌++◌, refl, sym, ap, subst, append-nil, arith, Option, Ok, Err}
use Rattle.ct_call.specs.Calls.{Keeps}
use Rattle.ct_call.specs.Seen.{faults_in}
use Rattle.ct_call.specs.declared.mount.State.{State}
use Rattle.ct_chain.proofs.Chained.{served_before, served_more, served_none, stopped_where_more}
use Rattle.ct_chain.proofs.Fed.{IsFound, Taken, all_taken, begins_line, count_now, ended_all, ended_left, ends_now, found_line, gave_now, may_take, taken_next, taken_none}
use Rattle.ct_pm.proofs.OneWord.{Replays}
use Rattle.ct_script.proofs.Cuts.{long_items}
use Rattle.ct_script.proofs.Puts.{rose_after}
use Rattle.ct_script.specs.Feed.{Advances, FeedState, unasked}
use Rattle.ct_script.specs.Script.{items_of}
use Rattle.ct_script.specs.Texts.{reply_line}
use Rattle.ct_script.specs.declared.feed.Next.{Next}
use Rattle.ct_script.specs.declared.feed.Next.TheVariants.{Line, Overlong, End}
use Rattle.ct_script.specs.declared.feed.ReadEnd.TheVariants.{Fault as Unreadable, TooLong as OverLimit}
use Rattle.ct_tree.specs.Runs.{Item}
use Rattle.ct_tree.specs.Tree.{Tree}
use Rattle.ct_shell.proofs.Kept.{keeps_rests}
use Rattle.ct_shell.specs.Moments.{IsBegunOf, Passed, moment_in}
use Rattle.ct_shell.specs.Served.{Served, Serves, StoppedBy}
use Rattle.ct_shell.specs.Stream.{Halted, Streams, halted_end, next_items}
use Rattle.ct_shell.specs.declared.call.ServeEnd.{ServeEnd}
use Rattle.ct_shell.specs.declared.call.ServeEnd.TheVariants.{Device as DeviceFailed, Output as OutputFailed}
use Rattle.ct_shell.specs.declared.script.StreamEnd.TheVariants.{Output, Input, TooLong}

-- so many items of what came were taken, and all of these were served
pub record Going {D : Type 0} {bound : _} (feed : FeedState) (before now : Option (State D bound)) (first rest old new : Option (List ℕ)) : Type 0 where
  pub taken : List Item
  pub took : Taken items_of feed first rest taken
  pub served : (n : ℕ) (t : Tree) → Keeps n before t → (left : Tree) × Served n t left taken [] old new (moment_in before) (moment_in now) × Keeps n now left × (faults_in before ≤ faults_in now)

pub going_none : {D : Type 0} {bound : _} (feed : FeedState) (state : Option (State D bound)) (first old : Option (List ℕ)) → feed ≡ unasked → Going feed state state first first old old
going_none feed state first old is = record {
  taken = [];
  took = taken_none items_of feed first is;
  served = λ n t keeps. (t, served_none (Passed n) IsBegunOf reply_line t [] old (moment_in state), keeps, omega arith);
}

-- what was found has the items of its line
next_is : (text line : List ℕ) (feed : FeedState) (next : Next) → IsFound text feed next line → next_items next feed.line ≡ items_of line
next_is text line feed Line is = ap items_of (sym is.0)
next_is text line feed Overlong is = sym (long_items line is.1)
next_is text line feed End is = absurd is

module _ {D : Type 0} {bound : _} (old new : FeedState) (before now : Option (State D bound)) (first rest rest' out wrote : Option (List ℕ)) (going : Going old before now first rest out wrote) where
  -- a line was found, and served
  pub going_on : {T : Type 0} (next : Next) (after : Option (State D bound)) (wrote' : Option (List ℕ)) (value : T) → next ≢ End → Advances old new rest rest' (Ok next)
      → ((n : ℕ) (t : Tree) → Keeps n now t → Serves {T = T} n t (next_items next new.line) now after wrote wrote' (Ok value)) → Going new before after first rest' out wrote'
  going_on next after wrote' value other on serves =
      let found = found_line (old.held ++ on.more) new next other on.found.0 in
      let line = found.0 in
      let is : next_items next new.line ≡ items_of line = next_is (old.held ++ on.more) line new next found.1 in
      record {
        taken = going.taken ++ items_of line;
        took = taken_next items_of old new first rest rest' going.taken going.took on.more on.gives line (begins_line (old.held ++ on.more) new next line found.1) on.found.1;
        served = λ n t keeps.
            let had = going.served n t keeps in
            let s = serves n had.0 had.2 in
            let s_later = s.later in (
              s.whole.0,
              served_more (Passed n) IsBegunOf reply_line t had.0 (going.taken ++ items_of line) (items_of line) (items_of line) [] out wrote wrote' (moment_in before) (moment_in now) (moment_in after)
                  (served_before (Passed n) IsBegunOf reply_line t had.0 going.taken (items_of line) out wrote (moment_in before) (moment_in now) had.1) (sym (append-nil (items_of line))) s.whole.0
                  (subst (λ (its : List Item). Served n had.0 s.whole.0 its [] wrote wrote' (moment_in now) (moment_in after)) is s.whole.1),
              s.whole.2,
              omega (arith, had.3, s_later),
            );
      }

  -- nothing is left of the input
  pub streams_done : {T : Type 0} (value : T) → ((dev : D) → Replays (bound.told dev) (bound.words dev)) → Advances old new rest rest' (Ok End) → (n : ℕ) (t : Tree) → Keeps n before t → Streams {T = T} n t before now first rest' out wrote (Ok value)
  streams_done value replays on n t keeps =
      let took = going.took in
      let had = going.served n t keeps in
      let all = all_taken items_of old new first rest rest' going.taken took on.more on.gives refl on.found.0.0 in
      let count = count_now items_of old new first rest rest' going.taken took on.more on.gives in
      let below = on.found.1 in
      record {
        given = took.given ++ on.more;
        gave = gave_now items_of old new first rest rest' going.taken took on.more on.gives;
        leaves = (
          (ends_now items_of old new first rest rest' going.taken took on.more on.gives on.found.0.1, omega (arith, count, below)),
          (had.0, (keeps_rests n now had.0 replays had.2).holds, subst (λ (its : List Item). Served n t had.0 its [] out wrote (moment_in before) (moment_in now)) (sym all) had.1),
        );
        later = had.3;
        fault = λ is. absurd (cc);
      }

  -- or the input failed
  pub streams_unread : {T : Type 0} → ((dev : D) → Replays (bound.told dev) (bound.words dev)) → Advances old new rest rest' (Err Unreadable) → (n : ℕ) (t : Tree) → Keeps n before t → Streams {T = T} n t before now first rest' out wrote (Err Input)
  streams_unread replays on n t keeps =
      let took = going.took in
      let had = going.served n t keeps in
      let all = ended_all items_of old new first rest rest' going.taken took on.more on.gives on.found.0 on.found.2 in
      let count = count_now items_of old new first rest rest' going.taken took on.more on.gives in
      let below = on.found.1 in
      record {
        given = took.given ++ on.more;
        gave = gave_now items_of old new first rest rest' going.taken took on.more on.gives;
        leaves = (
          omega (arith, count, below),
          record {
            tree = had.0;
            holds = (keeps_rests n now had.0 replays had.2).holds;
            served = subst (λ (its : List Item). Served n t had.0 its [] out wrote (moment_in before) (moment_in now)) (sym all) had.1;
          },
        );
        later = had.3;
        fault = λ is. absurd (cc);
      }

  -- or it gave too much
  pub streams_long : {T : Type 0} → ((dev : D) → Replays (bound.told dev) (bound.words dev)) → Advances old new rest rest' (Err OverLimit) → (n : ℕ) (t : Tree) → Keeps n before t → Streams {T = T} n t before now first rest' out wrote (Err TooLong)
  streams_long replays on n t keeps =
      let took = going.took in
      let had = going.served n t keeps in
      let left = ended_left items_of old new first rest rest' going.taken took on.more on.gives on.found in
      let count = count_now items_of old new first rest rest' going.taken took on.more on.gives in
      let long = on.found in
      record {
        given = took.given ++ on.more;
        gave = gave_now items_of old new first rest rest' going.taken took on.more on.gives;
        leaves = (
          omega (arith, count, long),
          (
            left.0,
            record {
              tree = had.0;
              holds = (keeps_rests n now had.0 replays had.2).holds;
              served =
                  subst (λ (its : List Item). Served n t had.0 its left.0 out wrote (moment_in before) (moment_in now)) (sym left.1)
                  (served_before (Passed n) IsBegunOf reply_line t had.0 going.taken left.0 out wrote (moment_in before) (moment_in now) had.1);
            },
          ),
        );
        later = had.3;
        fault = λ is. absurd (cc);
      }

  -- or an item was not answered, or its reply was not written
  module _ (next : Next) (after : Option (State D bound)) (wrote' : Option (List ℕ)) (other : next ≢ End) (on : Advances old new rest rest' (Ok next)) where
    halted : {T : Type 0} (end : ServeEnd) (n : ℕ) (t left : Tree) → Served n t left going.taken [] out wrote (moment_in before) (moment_in now) → Serves {T = T} n left (next_items next new.line) now after wrote wrote' (Err end)
        → Halted end n t (going.took.given ++ on.more) rest' out wrote' (moment_in before) (moment_in after)
    halted end n t left had serves =
        let found = found_line (old.held ++ on.more) new next other on.found.0 in
        let line = found.0 in
        let is : next_items next new.line ≡ items_of line = next_is (old.held ++ on.more) line new next found.1 in
        let may = may_take items_of old new first rest rest' going.taken going.took on.more on.gives line (begins_line (old.held ++ on.more) new next line found.1) in
        record {
          all = may.0;
          may = may.3;
          stopped =
              subst (λ (all : List Item). StoppedBy end n t all out wrote' (moment_in before) (moment_in after)) (sym may.2)
              (stopped_where_more (Passed n) IsBegunOf reply_line t left (going.taken ++ (items_of line ++ may.1)) (items_of line ++ may.1) (items_of line) may.1 out wrote wrote' (moment_in before) (moment_in now) (moment_in after)
              (served_before (Passed n) IsBegunOf reply_line t left going.taken (items_of line ++ may.1) out wrote (moment_in before) (moment_in now) had) refl
              (subst (λ (its : List Item). StoppedBy end n left its wrote wrote' (moment_in now) (moment_in after)) is serves.stopped));
        }

    pub streams_halted : {T U : Type 0} (end : ServeEnd) → ((n : ℕ) (t : Tree) → Keeps n now t → Serves {T = T} n t (next_items next new.line) now after wrote wrote' (Err end))
        → (n : ℕ) (t : Tree) → Keeps n before t → Streams {T = U} n t before after first rest' out wrote' (Err (halted_end end))
    streams_halted DeviceFailed serves n t keeps =
        let had = going.served n t keeps in
        let s = serves n had.0 had.2 in
        let count = count_now items_of old new first rest rest' going.taken going.took on.more on.gives in
        let below = on.found.1 in
        record {
          given = going.took.given ++ on.more;
          gave = gave_now items_of old new first rest rest' going.taken going.took on.more on.gives;
          leaves = (omega (arith, count, below), halted DeviceFailed n t had.0 had.1 s);
          later = let s_later = s.later in omega (arith, had.3, s_later);
          fault = λ is. rose_after _ _ _ had.3 (s.fault DeviceFailed refl refl);
        }
    streams_halted OutputFailed serves n t keeps =
        let had = going.served n t keeps in
        let s = serves n had.0 had.2 in
        let count = count_now items_of old new first rest rest' going.taken going.took on.more on.gives in
        let below = on.found.1 in
        record {
          given = going.took.given ++ on.more;
          gave = gave_now items_of old new first rest rest' going.taken going.took on.more on.gives;
          leaves = (omega (arith, count, below), halted OutputFailed n t had.0 had.1 s);
          later = let s_later = s.later in omega (arith, had.3, s_later);
          fault = λ is. absurd (cc);
        }

-- neither end is that of the input, and one is that of the output
pub halted_unread : (end : ServeEnd) → halted_end end ≡ Input → ⊥
halted_unread DeviceFailed is = cc
halted_unread OutputFailed is = cc

pub halted_output : (end : ServeEnd) → halted_end end ≡ Output → end ≡ OutputFailed
halted_output DeviceFailed is = absurd (cc)
halted_output OutputFailed is = refl
