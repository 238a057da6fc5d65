-- The reply to a call is one that the tree may give, and is written.
use Rattle.std.proofs.Common.{◌≡◌, ◌≢◌, ℕ, ◌≤◌, List, [], ◌∷◌, length, drop, take, Option, Some, None, Ok, Err, Result, refl, sym, ap, subst, ◌∙◌, inl, arith, rules, true≢false, true, false}
use Rattle.std.specs.Prelude.{IsNone, IsSomeAnd, MatchOption, OnOk}
use Rattle.std.specs.Borrow.{Bor}
use Rattle.std.proofs.lemmas.List.{take_at}
use Rattle.ct_base.specs.Bytes.{PutAppends}
use Rattle.ct_base.specs.Causes.{Rose}
use Rattle.ct_call.specs.Answers.{CanStart, IsRefused}
use Rattle.ct_call.specs.Calls.{Does, Holds, IsChange, Keeps, StandsFor, after}
use Rattle.ct_look.specs.Content.{IsRead}
use Rattle.ct_look.specs.Looks.{IsLook, IsPlaceAt, stat_answer}
use Rattle.ct_call.specs.Mounted.{Volume}
use Rattle.ct_call.specs.Placed.{Places}
use Rattle.ct_call.specs.Seen.{device_in, faults_in, ready_in}
use Rattle.ct_call.specs.declared.mount.FsError.{FsError}
use Rattle.ct_call.specs.declared.mount.FsError.TheVariants.{Dead, Refused as refused, Fault}
use Rattle.ct_look.specs.declared.seen.Stat.{Stat as StatOf}
use Rattle.ct_call.specs.declared.mount.State.{State}
use Rattle.ct_script.specs.Shows.{reply_of}
use Rattle.ct_script.specs.Texts.{reply_line}
use Rattle.ct_script.specs.declared.reply.Shown.{Shown}
use Rattle.ct_script.specs.declared.reply.Shown.TheVariants.{Data as DataOf, File, Dir, At, Refused, BadLine}
use Rattle.ct_pm.proofs.OneWord.{Replays}
use Rattle.ct_tree.specs.Checks.{at, bad_path, first_of, no_node}
use Rattle.ct_tree.specs.Content.{bytes_in, range}
use Rattle.ct_tree.specs.Runs.{Answers, CallAnswers, Item, MayLieAt, bad, call}
use Rattle.ct_tree.specs.Step.{Op, answered, append, count, create, effect, exchange, fill, list, listed_in, locate, mkdir, op_of, read, refusal, rename, rmdir, size_at, stat, step, told, truncate, unlink, write}
use Rattle.ct_tree.specs.Tree.{Tree, File as file, Dir as dir}
use Rattle.ct_tree.specs.declared.call.Call.{Call}
use Rattle.ct_tree.specs.declared.call.Call.TheVariants.{Create, Mkdir, Write, Fill, Append, Read, Truncate, Unlink, Rmdir, Rename, Exchange, Stat, List as ListNames, Where}
use Rattle.ct_tree.specs.declared.call.Refusal.{Refusal}
use Rattle.ct_tree.specs.declared.call.Reply.{Reply}
use Rattle.ct_tree.specs.declared.call.Reply.TheVariants.{Done, Data, File as FileOf, Dir as DirOf, Names, At as AtOf, Refused as refusal_reply, BadLine as BadLineOf}
use Rattle.ct_shell.specs.Binds.{Binds}
use Rattle.ct_chain.proofs.Chained.{serves_begun, serves_nothing, serves_put}
use Rattle.ct_shell.specs.Moments.{IsBegun, IsBegunOf, PlacesOf, IsStill, Moment, Passed, RestsOn, Works, moment, moment_in, most_pairs}
use Rattle.ct_shell.specs.Script.{is_change}
use Rattle.ct_shell.specs.Served.{IsDevice, Serves, StopsBy}
use Rattle.ct_shell.specs.Shows.{Replies, error_reply, made_reply, place_reply, stat_reply}
use Rattle.ct_shell.specs.declared.call.ServeEnd.{ServeEnd}
use Rattle.ct_shell.specs.declared.call.ServeEnd.TheVariants.{Device, Output}
use Rattle.ct_shell.proofs.Kept.{device_faults, device_moment, held, keeps_at, keeps_rests, ready_faults, ready_moment, some_and, stays}
use Rattle.ct_shell.proofs.Refusals.{binds_refusal}

-- a call that makes something
pub made_replies : {D T : Type 0} {bound : _} (c : ℕ) (t : Tree) (op : Op) (from to : Option (State D bound)) (replays : (dev : D) → Replays (bound.told dev) (bound.words dev)) (result : Result T FsError) → Keeps c from t
    → ((was : Volume D) → ready_in from ≡ Some was → (u : Tree) → StandsFor (bound.words was.dev) u → Does was u op to result)
    → ((was : Volume D) → ready_in from ≡ Some was → OnOk result (IsSomeAnd (ready_in to) (λ now. Places (bound.words was.dev) (bound.words now.dev) op)))
    → Replies c t (call op) from to (made_reply result)
made_replies {D = D} {T = T} {bound = bound} c t op from to replays result keeps does places = let h = held c from t keeps in cases result h (does h.0 h.1 t h.2.stands) (places h.0 h.1)
  where
    works : (result : Result T FsError) (h : (was : Volume D) × (ready_in from ≡ Some was) × Holds c t (bound.words was.dev) (bound.told was.dev)) → Does h.0 t op to result
        → Works (most_pairs (call op)) t (after t op) (moment_in from) (moment_in to)
    works result h d =
        let e = some_and (device_in to) d.phase in
        subst (λ (m : Moment). Works (most_pairs (call op)) t (after t op) m (moment_in to)) (sym (ready_moment from h.0 h.1))
        (subst (λ (m : Moment). Works (most_pairs (call op)) t (after t op) (moment (bound.told h.0.dev) (bound.words h.0.dev)) m) (sym (device_moment to e.0 e.1)) e.2)

    placed : (h : (was : Volume D) × (ready_in from ≡ Some was) × Holds c t (bound.words was.dev) (bound.told was.dev)) → IsSomeAnd (ready_in to) (λ now. Places (bound.words h.0.dev) (bound.words now.dev) op) → Places (moment_in from).words (moment_in to).words op
    placed h p =
        let e = some_and (ready_in to) p in
        subst (λ (m : Moment). Places m.words (moment_in to).words op) (sym (ready_moment from h.0 h.1))
        (subst (λ (m : Moment). Places (bound.words h.0.dev) m.words op) (sym (ready_moment to e.0 e.1)) e.2)

    cases : (result : Result T FsError) (h : (was : Volume D) × (ready_in from ≡ Some was) × Holds c t (bound.words was.dev) (bound.told was.dev)) → Does h.0 t op to result
        → OnOk result (IsSomeAnd (ready_in to) (λ now. Places (bound.words h.0.dev) (bound.words now.dev) op)) → Replies c t (call op) from to (made_reply result)
    cases (Ok value) h d p = record {
      answered =
          let keeps = subst (λ n. Keeps n to (after t op)) h.2.counted d.leaves in (
            after t op,
            record {
              answers = subst (λ n. CallAnswers n t op Done (after t op)) h.2.counted d.told;
              binds = subst (λ (m : Moment). CanStart m.words t op) (sym (ready_moment from h.0 h.1)) d.answer;
              still = tt;
              placed = placed h p;
              works = works (Ok value) h d;
              rests = keeps_rests c to (after t op) replays keeps;
            },
            keeps,
          );
      later = subst (λ n. n ≤ faults_in to) (sym (ready_faults from h.0 h.1)) d.later;
      fault = λ none. absurd (true≢false none);
      begun = λ none. absurd (true≢false none);
    }
    cases (Err Dead) h d p = absurd d.answer
    cases (Err (refused r)) h d p = record {
      answered =
          let same : moment_in from ≡ moment_in to = ready_moment from h.0 h.1 ∙ sym (ready_moment to h.0 d.leaves) in
          let rests = keeps_rests c from t replays keeps in (
            t,
            record {
              answers = subst (λ n. CallAnswers n t op (refusal_reply r) t) h.2.counted d.told;
              binds = binds_refusal (moment_in from).words t op r (subst (λ (m : Moment). IsRefused m.words t op r) (sym (ready_moment from h.0 h.1)) d.answer);
              still = sym same;
              placed = tt;
              works = subst (λ (m : Moment). Works (most_pairs (call op)) t t (moment_in from) m) same (stays (most_pairs (call op)) c t (moment_in from) rests);
              rests = subst (RestsOn c t) same rests;
            },
            keeps_at c to t h.0 d.leaves h.2,
          );
      later = subst (λ n. n ≤ faults_in to) (sym (ready_faults from h.0 h.1)) d.later;
      fault = λ none. absurd (true≢false none);
      begun = λ none. absurd (true≢false none);
    }
    cases (Err Fault) h d p = record {
      answered = tt;
      later = subst (λ n. n ≤ faults_in to) (sym (ready_faults from h.0 h.1)) d.later;
      fault = λ none.
          let failed = some_and _ d.leaves.1 in
          subst (λ n. Rose n (faults_in to)) (sym (ready_faults from h.0 h.1)) (subst (Rose (bound.faults h.0.dev)) (sym (device_faults to failed.0 failed.1)) failed.2);
      begun = λ none. works (Err Fault) h d;
    }

still_here : (reply : Reply) (f : Moment) → IsStill reply f f
still_here Done f = tt
still_here (Data bytes) f = refl
still_here (FileOf size) f = refl
still_here (DirOf count) f = refl
still_here (Names names) f = refl
still_here (AtOf base level) f = refl
still_here (refusal_reply r) f = refl
still_here BadLineOf f = refl

-- an item that leaves the mount
pub passes_still : {D : Type 0} {bound : _} (c : ℕ) (t : Tree) (item : Item) (state : Option (State D bound)) (replays : (dev : D) → Replays (bound.told dev) (bound.words dev)) (reply : Reply) → Keeps c state t → Answers c t item reply t
    → Binds (moment_in state).words t item reply → PlacesOf item reply (moment_in state).words (moment_in state).words → Passed c t item reply t (moment_in state) (moment_in state)
passes_still c t item state replays reply keeps answers binds placed =
    let rests = keeps_rests c state t replays keeps in
    record { answers = answers; binds = binds; still = still_here reply (moment_in state); placed = placed; works = stays (most_pairs item) c t (moment_in state) rests; rests = rests }

looks : {D : Type 0} {bound : _} (c : ℕ) (t : Tree) (item : Item) (state : Option (State D bound)) (replays : (dev : D) → Replays (bound.told dev) (bound.words dev)) (reply : Option Shown) (shown : Shown) → reply ≡ Some shown → Keeps c state t → Answers c t item (reply_of shown) t
    → Binds (moment_in state).words t item (reply_of shown) → PlacesOf item (reply_of shown) (moment_in state).words (moment_in state).words → Replies c t item state state reply
looks c t item state replays reply shown is keeps answers binds placed =
    subst (λ r. Replies c t item state state r) (sym is)
    (record {
      answered = (t, passes_still c t item state replays (reply_of shown) keeps answers binds placed, keeps);
      later = omega arith;
      fault = λ none. absurd (true≢false none);
      begun = λ none. absurd (true≢false none);
    })

pub bad_replies : {D : Type 0} {bound : _} (c : ℕ) (t : Tree) (state : Option (State D bound)) (replays : (dev : D) → Replays (bound.told dev) (bound.words dev)) → Keeps c state t → Replies c t bad state state (Some BadLine)
bad_replies c t state replays keeps = looks c t bad state replays (Some BadLine) BadLine refl keeps (refl, refl) tt tt

refused_answers : (c : ℕ) (t : Tree) (op : Op) (r : Refusal) → refusal t op ≡ Some r → Answers c t (call op) (refusal_reply r) t
refused_answers c t op r is = inl (sym (ap (λ o. answered o t (effect t op)) is), λ allowed node. absurd (true≢false (subst IsNone is allowed)))

pub refused_replies : {D : Type 0} {bound : _} (c : ℕ) (t : Tree) (op : Op) (state : Option (State D bound)) (replays : (dev : D) → Replays (bound.told dev) (bound.words dev)) (r : Refusal) → refusal t op ≡ Some r → Keeps c state t → Replies c t (call op) state state (Some (Refused r))
refused_replies c t op state replays r is keeps = looks c t (call op) state replays (Some (Refused r)) (Refused r) refl keeps (refused_answers c t op r is) (binds_refusal (moment_in state).words t op r (inl is)) tt

-- what is told of an object
stat_case : (c : ℕ) (t : Tree) (path words : List ℕ) (check : Option Refusal) (n : Result Tree Refusal) → answered (first_of (check ∷ no_node n ∷ [])) t (told n, t) ≡ step t (stat path) → first_of (check ∷ no_node n ∷ []) ≡ refusal t (stat path)
    → (shown : Shown) × (stat_reply (stat_answer (answered (first_of (check ∷ no_node n ∷ [])) t (told n, t)).0) ≡ Some shown) × Answers c t (call (stat path)) (reply_of shown) t × Binds words t (call (stat path)) (reply_of shown) × PlacesOf (call (stat path)) (reply_of shown) words words
stat_case c t path words (Some r) n is first = (Refused r, refl, inl (is, λ allowed node. absurd node), binds_refusal words t (stat path) r (inl (sym first)), tt)
stat_case c t path words None (Err e) is first = (Refused e, refl, inl (is, λ allowed node. absurd node), binds_refusal words t (stat path) e (inl (sym first)), tt)
stat_case c t path words None (Ok (file bytes)) is first = (File (length bytes), refl, (is, λ allowed node. absurd node), tt, tt)
stat_case c t path words None (Ok (dir es)) is first = (Dir (count es), refl, (is, λ allowed node. absurd node), tt, tt)

pub stat_replies : {D : Type 0} {bound : _} (c : ℕ) (t : Tree) (path : List ℕ) (state : Option (State D bound)) (replays : (dev : D) → Replays (bound.told dev) (bound.words dev)) (result : Result StatOf FsError) → Keeps c state t
    → ((was : Volume D) → ready_in state ≡ Some was → (u : Tree) → StandsFor (bound.words was.dev) u → result ≡ stat_answer (step u (stat path)).0)
    → Replies c t (call (stat path)) state state (stat_reply result)
stat_replies c t path state replays result keeps answer =
    let h = held c state t keeps in
    let s = stat_case c t path (moment_in state).words (bad_path path) (at t path) refl refl in
    looks c t (call (stat path)) state replays (stat_reply result) s.0 (ap stat_reply (answer h.0 h.1 t h.2.stands) ∙ s.1) keeps s.2 s.3 s.4

-- where a file lies
place_case : {D : Type 0} {bound : _} (c : ℕ) (t : Tree) (path : List ℕ) (state : Option (State D bound)) (replays : (dev : D) → Replays (bound.told dev) (bound.words dev)) (result : Result (ℕ × ℕ) FsError) → Keeps c state t
    → IsLook (refusal t (locate path)) (λ place. IsPlaceAt (moment_in state).words path place × MayLieAt (size_at t path) place.0 place.1) result → Replies c t (call (locate path)) state state (place_reply result)
place_case c t path state replays (Ok place) keeps look =
    looks c t (call (locate path)) state replays (Some (At place.0 place.1)) (At place.0 place.1) refl keeps (subst IsNone (sym look.0) refl, look.1.1, refl) look.1.0 tt
place_case c t path state replays (Err Dead) keeps look = absurd look
place_case c t path state replays (Err (refused r)) keeps look = refused_replies c t (locate path) state replays r look keeps
place_case c t path state replays (Err Fault) keeps look = absurd look

pub place_replies : {D : Type 0} {bound : _} (c : ℕ) (t : Tree) (path : List ℕ) (state : Option (State D bound)) (replays : (dev : D) → Replays (bound.told dev) (bound.words dev)) (result : Result (ℕ × ℕ) FsError) → Keeps c state t
    → ((was : Volume D) → ready_in state ≡ Some was → (u : Tree) → StandsFor (bound.words was.dev) u
    → IsLook (refusal u (locate path)) (λ place. IsPlaceAt (bound.words was.dev) path place × MayLieAt (size_at u path) place.0 place.1) result)
    → Replies c t (call (locate path)) state state (place_reply result)
place_replies {bound = bound} c t path state replays result keeps answer =
    let h = held c state t keeps in
    place_case c t path state replays result keeps
    (subst (λ (m : Moment). IsLook (refusal t (locate path)) (λ place. IsPlaceAt m.words path place × MayLieAt (size_at t path) place.0 place.1) result) (sym (ready_moment state h.0 h.1)) (answer h.0 h.1 t h.2.stands))

stops_put : (end : ServeEnd) (g : Moment) → (end ≡ Device → ⊥) → (IsDevice end → ⊥) × ((torn : List Reply) → StopsBy end torn g g)
stops_put Device g fails = absurd (fails refl)
stops_put Output g fails = (fails, λ torn. refl)

module _ {D T : Type 0} {bound : _} (c : ℕ) (t : Tree) (item : Item) (from to : Option (State D bound)) (old new : Option (List ℕ)) where
  -- a reply is put: it is written whole, or in part
  pub served_put : (result : Result T ServeEnd) (reply : Reply) (left : Tree) → Passed c t item reply left (moment_in from) (moment_in to) → Keeps c to left → faults_in from ≤ faults_in to → PutAppends old new result (reply_line reply)
      → result ≢ Err Device → Serves c t (item ∷ []) from to old new result
  served_put result reply left passed keeps later put fails =
      serves_put (Passed c) IsBegunOf reply_line StopsBy IsDevice (Keeps c to) t item (moment_in from) (moment_in to) (faults_in from) (faults_in to) old new later result reply left passed keeps put
      (λ end is. stops_put end (moment_in to) (λ device. fails (is ∙ ap Err device)))

  -- nothing is put where the device failed
  pub served_none : (result : Result T ServeEnd) → result ≡ Err Device → new ≡ old → faults_in from ≤ faults_in to → Rose (faults_in from) (faults_in to) → IsBegun t (item ∷ []) (moment_in from) (moment_in to)
      → Serves c t (item ∷ []) from to old new result
  served_none (Ok value) is same later rose begun = absurd (cc)
  served_none (Err Output) is same later rose begun = absurd (cc)
  served_none (Err Device) is same later rose begun =
      serves_begun (Passed c) IsBegunOf reply_line StopsBy IsDevice (Keeps c to) t item (moment_in from) (moment_in to) (faults_in from) (faults_in to) old new later Device rose same refl begun

  pub served_reply : (result : Result T ServeEnd) (reply : Option Shown) → Replies c t item from to reply
      → MatchOption reply ((result ≡ Err Device) × (new ≡ old)) (λ shown. PutAppends old new result (reply_line (reply_of shown)) × (result ≢ Err Device))
      → Serves c t (item ∷ []) from to old new result
  served_reply result None r put = served_none result put.0 put.1 r.later (r.fault refl) (r.begun refl)
  served_reply result (Some shown) r put = served_put result (reply_of shown) r.answered.0 r.answered.1 r.answered.2 r.later put.0 put.1

-- the names of a directory
pub list_passes : {D : Type 0} {bound : _} (c : ℕ) (t : Tree) (path : List ℕ) (state : Option (State D bound)) (replays : (dev : D) → Replays (bound.told dev) (bound.words dev)) → Keeps c state t → refusal t (list path) ≡ None
    → Passed c t (call (list path)) (Names (listed_in (at t path))) t (moment_in state) (moment_in state)
list_passes c t path state replays keeps allowed =
    passes_still c t (call (list path)) state replays (Names (listed_in (at t path))) keeps (sym (ap (λ o. answered o t (effect t (list path))) allowed), λ none node. absurd node) tt tt

pub list_replies : {D : Type 0} {bound : _} (c : ℕ) (t : Tree) (path : List ℕ) (state : Option (State D bound)) (replays : (dev : D) → Replays (bound.told dev) (bound.words dev)) (error : FsError) (reply : Option Shown) → reply ≡ error_reply error → Keeps c state t
    → IsLook {T = ℕ} (refusal t (list path)) (λ count. count ≡ length (listed_in (at t path))) (Err error) → Replies c t (call (list path)) state state reply
list_replies c t path state replays Dead reply is keeps look = absurd look
list_replies c t path state replays (refused r) reply is keeps look = subst (λ o. Replies c t (call (list path)) state state o) (sym is) (refused_replies c t (list path) state replays r look keeps)
list_replies c t path state replays Fault reply is keeps look = absurd look

-- what the shell takes for a change the file system does, whichever calls these are
pub changes : (op : Op) → is_change op ≡ true → IsChange op
changes (create path) is = search rules
changes (mkdir path) is = search rules
changes (write path off bytes) is = search rules
changes (fill path off len byte) is = search rules
changes (append path bytes) is = search rules
changes (read path off len) is = search rules
changes (truncate path len) is = search rules
changes (unlink path) is = search rules
changes (rmdir path) is = search rules
changes (rename path to) is = search rules
changes (exchange path off other other_off len) is = search rules
changes (stat path) is = search rules
changes (list path) is = search rules
changes (locate path) is = search rules

-- a call that is neither a change nor a look is none
pub no_other : (m : Call) → is_change (op_of m) ≡ false → ((p : Bor (List ℕ)) → m ≡ Stat p → ⊥) → ((p : Bor (List ℕ)) → m ≡ ListNames p → ⊥) → ((p : Bor (List ℕ)) (off len : ℕ) → m ≡ Read p off len → ⊥) → ((p : Bor (List ℕ)) → m ≡ Where p → ⊥) → ⊥
no_other (Stat p) c s l r w = s p refl
no_other (ListNames p) c s l r w = l p refl
no_other (Read p off len) c s l r w = r p off len refl
no_other (Where p) c s l r w = w p refl
no_other (Create p) c s l r w = true≢false c
no_other (Mkdir p) c s l r w = true≢false c
no_other (Write p off bytes) c s l r w = true≢false c
no_other (Fill p off len byte) c s l r w = true≢false c
no_other (Append p bytes) c s l r w = true≢false c
no_other (Truncate p len) c s l r w = true≢false c
no_other (Unlink p) c s l r w = true≢false c
no_other (Rmdir p) c s l r w = true≢false c
no_other (Rename p q) c s l r w = true≢false c
no_other (Exchange p off q other_off len) c s l r w = true≢false c

-- the bytes of a file
pub read_passes : {D : Type 0} {bound : _} (c : ℕ) (t : Tree) (path : List ℕ) (off len : ℕ) (state : Option (State D bound)) (replays : (dev : D) → Replays (bound.told dev) (bound.words dev)) (old new : List ℕ) (n : ℕ) → Keeps c state t
    → IsLook (refusal t (read path off len)) (IsRead (range (bytes_in (at t path)) off len) old new) (Ok n) → Passed c t (call (read path off len)) (Data (take n new)) t (moment_in state) (moment_in state)
read_passes c t path off len state replays old new n keeps look =
    let bytes = range (bytes_in (at t path)) off len in
    let front : take n new ≡ bytes = ap (take n) look.1.1 ∙ take_at bytes (drop n old) n (sym look.1.0) in
    passes_still c t (call (read path off len)) state replays (Data (take n new)) keeps
    (ap (λ (list : List ℕ). (Data list, t)) front ∙ sym (ap (λ o. answered o t (effect t (read path off len))) look.0), λ none node. absurd node) tt tt

pub read_told : {D : Type 0} {bound : _} (c : ℕ) (t : Tree) (path : List ℕ) (off len : ℕ) (state : Option (State D bound)) (bytes : Bor (List ℕ)) → Keeps c state t
    → Passed c t (call (read path off len)) (Data bytes.now) t (moment_in state) (moment_in state) → Replies c t (call (read path off len)) state state (Some (DataOf bytes))
read_told c t path off len state bytes keeps passed = record { answered = (t, passed, keeps); later = omega arith; fault = λ none. absurd (true≢false none); begun = λ none. absurd (true≢false none) }

pub read_refused : {D : Type 0} {bound : _} (c : ℕ) (t : Tree) (path : List ℕ) (off len : ℕ) (state : Option (State D bound)) (replays : (dev : D) → Replays (bound.told dev) (bound.words dev)) (old new : List ℕ) (error : FsError) (reply : Option Shown) → reply ≡ error_reply error → Keeps c state t
    → IsLook (refusal t (read path off len)) (IsRead (range (bytes_in (at t path)) off len) old new) (Err error) → Replies c t (call (read path off len)) state state reply
read_refused c t path off len state replays old new Dead reply is keeps look = absurd look
read_refused c t path off len state replays old new (refused r) reply is keeps look = subst (λ o. Replies c t (call (read path off len)) state state o) (sym is) (refused_replies c t (read path off len) state replays r look keeps)
read_refused c t path off len state replays old new Fault reply is keeps look = absurd look

-- a line with no item
pub served_empty : {D T : Type 0} {bound : _} (c : ℕ) (t : Tree) (state : Option (State D bound)) (old : Option (List ℕ)) (value : T) → Keeps c state t → Serves {T = T} c t [] state state old old (Ok value)
served_empty c t state old value keeps = serves_nothing (Passed c) IsBegunOf reply_line StopsBy IsDevice (Keeps c state) t (moment_in state) (faults_in state) old value keeps
