-- What the calls of a mount answer, as looks at its tree.
use Rattle.std.proofs.Common.{◌≡◌, ℕ, zero, suc, ◌+◌, ◌-◌, ◌<◌, ◌≤◌, ◌++◌, Bool, true, false, List, [], ◌∷◌, Option, Result, Some, None, Ok, Err, length, min, take, drop, refl, sym, ap, ◌∙◌, subst, inl, inr, arith, rules}
use Rattle.std.specs.Prelude.{◌&&◌, ◌==◌, if◌then◌else◌, IsOkAnd, IsSomeAnd, is_none, is_some, slice_index}
use Rattle.std.specs.Coded.{Coded-set, coded_bool, coded_list, coded_option, coded_ℕ}
use Rattle.std.specs.List.{list_all}
use Rattle.std.specs.declared.cmp.Ordering.{Ordering}
use Rattle.std.specs.declared.cmp.Ordering.TheVariants.{Less, Equal, Greater}
use Rattle.std.proofs.Math.Logic.{∥∥₁_elim}
use Rattle.std.proofs.Math.Seq.{take-append_seam}
use Rattle.std.proofs.lemmas.Bool.{cases_lt}
use Rattle.std.proofs.lemmas.List.{places}
use Rattle.ct_base.specs.Path.{name_cmp, names_of}
use Rattle.ct_call.specs.Calls.{StandsFor}
use Rattle.ct_call.specs.Mounted.{Volume}
use Rattle.ct_call.specs.Seen.{ready_in}
use Rattle.ct_call.specs.declared.mount.FsError.{FsError}
use Rattle.ct_call.specs.declared.mount.FsError.TheVariants.{Dead, Refused, Fault}
use Rattle.ct_call.specs.declared.mount.State.{State}
use Rattle.ct_dump.specs.Dumped.{are_zeros}
use Rattle.ct_dump.specs.Looks.{IsFile, IsNode, LeadsTo, entries_above, entries_at, first_name, least_after, size_of}
use Rattle.ct_look.specs.Content.{IsRead}
use Rattle.ct_look.specs.Holes.{AreNext, AreZeros}
use Rattle.ct_look.specs.Looks.{IsLook, is_less, next_name, stat_answer}
use Rattle.ct_look.specs.declared.seen.Stat.TheVariants.{File as a_file, Dir as a_dir}
use Rattle.ct_state.proofs.Puts.{cmp_equal}
use Rattle.ct_tree.specs.Checks.{at, bad_path, first_of, no_dir, no_file, no_node, refuse_if}
use Rattle.ct_tree.specs.Content.{range}
use Rattle.ct_tree.specs.Entries.{by_order}
use Rattle.ct_tree.specs.Ordered.{AreEntries, IsBelow}
use Rattle.ct_tree.specs.Resolve.{IsDir, entries_in, node_in}
use Rattle.ct_tree.specs.Step.{answered, effect, list, listed_in, names_in, read, refusal, stat, step, told}
use Rattle.ct_tree.specs.Tree.{Tree, File, Dir, Entries, none, entry}
use Rattle.ct_tree.specs.declared.call.Refusal.{Refusal}
use Rattle.ct_tree.specs.declared.call.Refusal.TheVariants.{BadPath}
use Rattle.ct_seen.specs.Held.{HoldsTree, RestFor}

-- what follows of the words of a mount that holds a tree
pub of_held : {D : Type 0} {bound : _} {P : Type 0} (prop : IsProp P) (state : Option (State D bound)) (held : HoldsTree state)
    → ((was : Volume D) → ready_in state ≡ Some was → StandsFor (bound.words was.dev) held.0 → P) → P
of_held {D = D} {bound = bound} {P = P} prop state held on = ∥∥₁_elim held.1 prop (λ k. there (ready_in state) refl k)
  where
    there : (o : Option (Volume D)) → ready_in state ≡ o → IsSomeAnd o (λ now. RestFor (bound.words now.dev) held.0) → P
    there None is k = absurd k
    there (Some was) is k = on was is k.1

-- facts that hold in one way at most
pub size_prop : (a b : Option ℕ) → IsProp (a ≡ b)
size_prop = Coded-set (coded_option coded_ℕ)

pub name_prop : (a b : Option (List ℕ)) → IsProp (a ≡ b)
name_prop = Coded-set (coded_option (coded_list coded_ℕ))

pub bytes_prop : (a b : List ℕ) → IsProp (a ≡ b)
bytes_prop = Coded-set (coded_list coded_ℕ)

pub number_prop : (a b : ℕ) → IsProp (a ≡ b)
number_prop = Coded-set coded_ℕ

pub test_prop : (a b : Bool) → IsProp (a ≡ b)
test_prop = Coded-set coded_bool

pub never_prop : IsProp ⊥
never_prop a b = absurd a

-- a path that leads somewhere is one
valid : (path : List ℕ) → is_some (names_of path) ≡ true → bad_path path ≡ None
valid path h = at_names (names_of path) h
  where
    at_names : (o : Option (List (List ℕ))) → is_some o ≡ true → refuse_if (is_none o) BadPath ≡ None
    at_names None e = absurd (let bad : false ≡ true = e in cc)
    at_names (Some ns) e = refl

passed : (check : Result Tree Refusal → Option Refusal) (t : Tree) (path : List ℕ) → is_some (names_of path) ≡ true → check (at t path) ≡ None → first_of (bad_path path ∷ check (at t path) ∷ []) ≡ None
passed check t path named passes = ap (λ q. first_of (q ∷ check (at t path) ∷ [])) (valid path named) ∙ ap (λ q. first_of (q ∷ [])) passes

node_check : (r : Result Tree Refusal) → IsOkAnd r IsNode → no_node r ≡ None
node_check (Ok n) h = refl
node_check (Err e) h = absurd h

dir_check : (r : Result Tree Refusal) → IsOkAnd r IsDir → no_dir r ≡ None
dir_check (Ok (Dir es)) h = refl
dir_check (Ok (File bytes)) h = absurd h
dir_check (Err e) h = absurd h

file_check : (r : Result Tree Refusal) → IsOkAnd r IsFile → no_file r ≡ None
file_check (Ok (File bytes)) h = refl
file_check (Ok (Dir es)) h = absurd h
file_check (Err e) h = absurd h

pub list_passes : (t : Tree) (path : List ℕ) → LeadsTo t path IsDir → refusal t (list path) ≡ None
list_passes t path leads = passed no_dir t path leads.0 (dir_check (at t path) leads.1)

pub read_passes : (t : Tree) (path : List ℕ) (off : ℕ) → LeadsTo t path IsFile → refusal t (read path off 4096) ≡ None
read_passes t path off leads =
    ap (λ q. first_of (q ∷ no_file (at t path) ∷ None ∷ [])) (valid path leads.0) ∙ ap (λ q. first_of (q ∷ None ∷ [])) (file_check (at t path) leads.1)

-- what is told of a node
pub stat_told : (t : Tree) (path : List ℕ) → LeadsTo t path IsNode → stat_answer (step t (stat path)).0 ≡ stat_answer (told (at t path))
stat_told t path leads =
    ap (λ q. stat_answer (answered q t (effect t (stat path))).0) (passed no_node t path leads.0 (node_check (at t path) leads.1))

pub told_file : (r : Result Tree Refusal) (size : ℕ) → Ok (a_file size) ≡ stat_answer (told r) → Some size ≡ size_of r
told_file (Err e) size is = absurd (cc)
told_file (Ok (File bytes)) size is = let same : size ≡ length bytes = cc in ap Some same
told_file (Ok (Dir es)) size is = absurd (cc)

pub told_dir : (r : Result Tree Refusal) (count : ℕ) → Ok (a_dir count) ≡ stat_answer (told r) → None ≡ size_of r
told_dir (Err e) count is = refl
told_dir (Ok (File bytes)) count is = absurd (cc)
told_dir (Ok (Dir es)) count is = refl

pub told_none : (r : Result Tree Refusal) (e : FsError) → IsOkAnd r IsNode → Err e ≡ stat_answer (told r) → ⊥
told_none (Err r) e h is = h
told_none (Ok (File bytes)) e h is = cc
told_none (Ok (Dir es)) e h is = cc

-- a look that passes its checks is not refused
pub not_refused : {T : Type 0} (check : Option Refusal) (IsRight : T → Type 0) (e : FsError) → check ≡ None → IsLook check IsRight (Err e) → ⊥
not_refused check IsRight Dead passes h = h
not_refused check IsRight (Refused r) passes h = cc
not_refused check IsRight Fault passes h = h

-- the names after one that comes before them all
next_below : (name : List ℕ) (es : Entries) → IsBelow name es → next_name (Some name) (names_in es) ≡ first_name es
next_below name none below = refl
next_below name (entry y node rest) below = ap (λ o. at_order o) below.0
  where
    at_order : Ordering → Option (List ℕ)
    at_order o = if is_less o then Some y else next_name (Some name) (names_in rest)

next_above : (after : List ℕ) (es : Entries) → AreEntries es → next_name (Some after) (names_in es) ≡ first_name (entries_above after es)
next_above after none are = refl
next_above after (entry y node rest) are = at_order (name_cmp after y) refl (next_above after rest are.3)
  where
    at_order : (o : Ordering) → name_cmp after y ≡ o → next_name (Some after) (names_in rest) ≡ first_name (entries_above after rest)
        → (if is_less o then Some y else next_name (Some after) (names_in rest)) ≡ first_name (by_order o (entry y node rest) rest (entries_above after rest))
    at_order Less is more = refl
    at_order Equal is more = subst (λ x. next_name (Some x) (names_in rest) ≡ first_name rest) (sym (cmp_equal after y is)) (next_below y rest are.2)
    at_order Greater is more = more

next_least : (after : Option (List ℕ)) (es : Entries) → AreEntries es → next_name after (names_in es) ≡ least_after after es
next_least None none are = refl
next_least None (entry y node rest) are = refl
next_least (Some after) es are = next_above after es are

-- the names of the directory at a path
listed_is : (r : Result Tree Refusal) → IsOkAnd r IsDir → listed_in r ≡ names_in (entries_in (node_in r))
listed_is (Ok (Dir es)) h = refl
listed_is (Ok (File bytes)) h = absurd h
listed_is (Err e) h = absurd h

pub next_is : (t : Tree) (path : List ℕ) (after : Option (List ℕ)) → AreEntries (entries_at t path) → LeadsTo t path IsDir → next_name after (listed_in (at t path)) ≡ least_after after (entries_at t path)
next_is t path after are leads = ap (next_name after) (listed_is (at t path) leads.1) ∙ next_least after (entries_at t path) are

-- how many bytes of a page were read, and which
module _ (bytes old new : List ℕ) (off count : ℕ) (r : IsRead (range bytes off 4096) old new count) where
  pub read_count : count ≡ min 4096 (length bytes - off)
  read_count = r.0 ∙ search (rules, places)

  pub read_bytes : take count new ≡ range bytes off 4096
  read_bytes = ap (take count) r.1 ∙ ap (λ n. take n (range bytes off 4096 ++ drop count old)) r.0 ∙ take-append_seam (range bytes off 4096) (drop count old)

-- bytes that are 0 one by one
zeros_all : (xs : List ℕ) (n : ℕ) → ((k : ℕ) → k < n → slice_index xs k ≡ 0) → list_all (λ b. b == 0) (take n xs) ≡ true
zeros_all xs zero h = refl
zeros_all [] (suc n) h = refl
zeros_all (x ∷ xs) (suc n) h =
    let first : x ≡ 0 = h 0 (omega arith) in
    ap (λ b. (b == 0) && list_all (λ b. b == 0) (take n xs)) first ∙ zeros_all xs n (λ k lt. h (suc k) (omega arith))

dropped : (xs : List ℕ) (off k : ℕ) → slice_index (drop off xs) k ≡ slice_index xs (off + k)
dropped xs off k = search (rules, places)

past_end : (xs : List ℕ) (k : ℕ) → length xs ≤ k → slice_index xs k ≡ 0
past_end [] k le = refl
past_end (x ∷ xs) zero le = absurd (omega arith)
past_end (x ∷ xs) (suc k) le = past_end xs k (omega arith)

range_zeros : (bytes : List ℕ) (off n : ℕ) → ((k : ℕ) → off ≤ k → k < off + n → slice_index bytes k ≡ 0) → are_zeros (range bytes off n) ≡ true
range_zeros bytes off n h = zeros_all (drop off bytes) n (λ k lt. dropped bytes off k ∙ h (off + k) (omega arith) (omega arith))

pub zeros_before : (bytes : List ℕ) (off next : ℕ) → AreNext bytes off next → are_zeros (range bytes off (next - off)) ≡ true
zeros_before bytes off next is = range_zeros bytes off (next - off) (λ k low high. is.zeros k low (omega (arith, high, is.later)))

-- where no data come, all is 0 however far one goes
pub zeros_after : (bytes : List ℕ) (off n : ℕ) → AreZeros bytes off (length bytes) → are_zeros (range bytes off n) ≡ true
zeros_after bytes off n zeros = range_zeros bytes off n (λ k low high. elim (cases_lt k (length bytes)) [ inl less ↦ zeros k low less | inr past ↦ past_end bytes k past ])
