-- What is told of the root and of its entries.
use Rattle.std.proofs.Common.{◌≡◌, ◌∙◌, ℕ, ◌+◌, ◌^◌, ◌≤◌, ◌<◌, List, [], ◌∷◌, length, Option, Some, None, Result, Ok, Err, refl, sym, ap, subst, arith, true}
use Rattle.std.specs.Prelude.{is_none, slice_get}
use Rattle.std.specs.Option.{ok_or}
use Rattle.ct_base.specs.Path.{is_name}
use Rattle.ct_call.specs.Calls.{Holds}
use Rattle.ct_call.specs.declared.mount.FsError.{FsError}
use Rattle.ct_call.specs.declared.mount.FsError.TheVariants.{Dead, Refused, Fault}
use Rattle.ct_dump.proofs.Entered.{entries_tree}
use Rattle.ct_dump.proofs.Places.{at_below, names_below}
use Rattle.ct_look.specs.Looks.{IsLook, next_name, stat_answer}
use Rattle.ct_look.specs.declared.seen.Stat.{Stat}
use Rattle.ct_look.specs.declared.seen.Stat.TheVariants.{File as FileStat, Dir as DirStat}
use Rattle.ct_look.proofs.Following.{first_name, next_later}
use Rattle.ct_shell.proofs.Names.{get_within}
use Rattle.ct_state.proofs.LiveNodes.{nodes_most}
use Rattle.ct_tree.specs.Checks.{at, bad_path, first_of, no_node, refuse_if}
use Rattle.ct_tree.specs.Entries.{lookup}
use Rattle.ct_tree.specs.Ordered.{IsTree}
use Rattle.ct_tree.specs.Resolve.{entries_in}
use Rattle.ct_tree.specs.Step.{answered, count, list, listed_in, names_in, refusal, stat, step, told}
use Rattle.ct_tree.specs.Tree.{Tree, File, Dir, Entries, none, entry}
use Rattle.ct_tree.specs.declared.call.Refusal.{Refusal}
use Rattle.ct_tree.specs.declared.call.Refusal.TheVariants.{BadPath, NotFound}
use Rattle.ct_tally.proofs.Numbered.{bytes_all, bytes_fit, bytes_to, bytes_zero, numbered}
use Rattle.ct_tally.specs.Tallies.{bytes_below, size_of}

-- what is told of a node
abbrev pub stat_of : Tree → Result Stat FsError
stat_of (File bytes) = Ok (FileStat (length bytes))
stat_of (Dir es) = Ok (DirStat (count es))

pub root_told : (t : Tree) → stat_answer (step t (stat (47 ∷ []))).0 ≡ stat_of t
root_told (File bytes) = refl
root_told (Dir es) = refl

pub root_is_dir : (t : Tree) (n : ℕ) → stat_of t ≡ Ok (DirStat n) → n ≡ count (entries_in t)
root_is_dir (File bytes) n is = absurd (cc)
root_is_dir (Dir es) n is = cc

-- a root that is no directory has no entries
pub record IsBare (t : Tree) : Type 0 where
  pub files : 0 ≡ count (entries_in t)
  pub bytes : 0 ≡ bytes_below (entries_in t)

pub root_is_file : (t : Tree) (n : ℕ) → stat_of t ≡ Ok (FileStat n) → IsBare t
root_is_file (File bytes) n is = record { files = refl; bytes = refl }
root_is_file (Dir es) n is = absurd (cc)

pub node_is_there : (t : Tree) (e : FsError) → stat_of t ≡ Err e → ⊥
node_is_there (File bytes) e is = absurd (cc)
node_is_there (Dir es) e is = absurd (cc)

-- the names in the root
root_names : (t : Tree) → listed_in (at t (47 ∷ [])) ≡ names_in (entries_in t)
root_names (File bytes) = refl
root_names (Dir es) = refl

root_refused : (t : Tree) (after : Option (List ℕ)) (r : Refusal) → refusal t (list (47 ∷ [])) ≡ Some r → None ≡ next_name after (names_in (entries_in t))
root_refused (File bytes) after r is = refl
root_refused (Dir es) after r is = absurd (cc)

-- what was found, and none where the root was refused
pub next_found : {T : Type 0} (t : Tree) (after : Option (List ℕ)) (read : Option T → Option (List ℕ)) (found : Option T) → IsLook {T = Option T} (refusal t (list (47 ∷ []))) (λ found. read found ≡ next_name after (listed_in (at t (47 ∷ [])))) (Ok found)
    → read found ≡ next_name after (names_in (entries_in t))
next_found t after read found look = look.1 ∙ ap (next_name after) (root_names t)

pub next_refused : {T : Type 0} (t : Tree) (after : Option (List ℕ)) (read : Option T → Option (List ℕ)) (error : FsError) → read None ≡ None → IsLook {T = Option T} (refusal t (list (47 ∷ []))) (λ found. read found ≡ next_name after (listed_in (at t (47 ∷ [])))) (Err error)
    → read None ≡ next_name after (names_in (entries_in t))
next_refused t after read Dead empty look = absurd look
next_refused t after read (Refused r) empty look = empty ∙ root_refused t after r look
next_refused t after read Fault empty look = absurd look

-- what is told of an entry of the root
node_told : (t node : Tree) (check : Option Refusal) (n : Result Tree Refusal) → check ≡ None → n ≡ Ok node → stat_answer (answered (first_of (check ∷ no_node n ∷ [])) t (told n, t)).0 ≡ stat_of node
node_told t node (Some r) n good is = absurd (cc)
node_told t node None (Err e) good is = absurd (cc)
node_told t node None (Ok (File bytes)) good is = let same : node ≡ File bytes = cc in subst (λ m. Ok (FileStat (length bytes)) ≡ stat_of m) (sym same) refl
node_told t node None (Ok (Dir es)) good is = let same : node ≡ Dir es = cc in subst (λ m. Ok (DirStat (count es)) ≡ stat_of m) (sym same) refl

pub entry_told : (t node : Tree) (name : List ℕ) → is_name name ≡ true → length name ≤ 248 → lookup name (entries_in t) ≡ Some node → stat_answer (step t (stat (47 ∷ name))).0 ≡ stat_of node
entry_told (File bytes) node name is short found = absurd (cc)
entry_told (Dir es) node name is short found =
    let fits : length (47 ∷ name) ≤ 4096 = omega (arith, short) in
    node_told (Dir es) node (bad_path (47 ∷ name)) (at (Dir es) (47 ∷ name))
    (ap (λ o. refuse_if (is_none o) BadPath) (names_below [] name tt is fits))
    (at_below (Dir es) [] name tt is fits ∙ ap (λ o. ok_or o NotFound) found)

pub size_told : (node : Tree) (n : ℕ) → stat_of node ≡ Ok (FileStat n) → n ≡ size_of node
size_told (File bytes) n is = cc
size_told (Dir es) n is = absurd (cc)

pub no_size : (node : Tree) (n : ℕ) → stat_of node ≡ Ok (DirStat n) → 0 ≡ size_of node
no_size (File bytes) n is = absurd (cc)
no_size (Dir es) n is = refl

-- So many entries were looked at: the next name is known, and so are the bytes of their files.
pub record Summed (t : Tree) (i : ℕ) (next : Option (List ℕ)) (bytes : ℕ) : Type 0 where
  pub follows : next ≡ slice_get (names_in (entries_in t)) i
  pub sum : bytes ≡ bytes_to (entries_in t) i

pub summed_none : (t : Tree) (next : Option (List ℕ)) → next ≡ next_name None (names_in (entries_in t)) → Summed t 0 next 0
summed_none t next is = record { follows = is ∙ first_name (names_in (entries_in t)); sum = sym (bytes_zero (entries_in t)) }

-- what is known of the bytes together
pub all_fit : {c : ℕ} {t : Tree} {words : List ℕ} {told : _} → Holds c t words told → bytes_below (entries_in t) < 2 ^ 60
all_fit {t = t} {words = words} h =
    let few = nodes_most words t h.rest.sound h.stands.tree h.stands.stands in
    let most = h.rest.head.inodes.1 in
    bytes_fit t h.stands.tree (omega (arith, few, most))

-- one entry more
pub summed_more : (t : Tree) (i : ℕ) (next : Option (List ℕ)) (bytes size : ℕ) (x : List ℕ) (after : Option (List ℕ)) → IsTree t → Summed t i next bytes → next ≡ Some x → ((node : Tree) → is_name x ≡ true → lookup x (entries_in t) ≡ Some node → size ≡ size_of node)
    → after ≡ next_name (Some x) (names_in (entries_in t)) → Summed t (i + 1) after (bytes + size)
summed_more t i next bytes size x after is summed named sized follows =
    let here : slice_get (names_in (entries_in t)) i ≡ Some x = sym summed.follows ∙ named in
    let ordered = entries_tree t is in
    let it = numbered (entries_in t) i x ordered here in
    let same = sized it.node it.named it.found in
    let had = summed.sum in
    let more = it.more in
    record { follows = follows ∙ next_later (entries_in t) i x ordered here; sum = omega (arith, same, had, more) }

-- none is next where none is left
pub summed_end : (t : Tree) (i n : ℕ) (next : Option (List ℕ)) (bytes : ℕ) → Summed t i next bytes → i < n → n ≡ count (entries_in t) → next ≡ None → ⊥
summed_end t i n next bytes summed less all ended =
    let got = get_within (names_in (entries_in t)) i (let same = names_all (entries_in t) in omega (arith, less, all, same)) in
    let there : None ≡ Some got.0 = sym ended ∙ summed.follows ∙ got.1 in
    cc
  where
    names_all : (es : Entries) → length (names_in es) ≡ count es
    names_all none = refl
    names_all (entry name node rest) = let e = names_all rest in omega (arith, e)

pub summed_all : (t : Tree) (i : ℕ) (next : Option (List ℕ)) (bytes : ℕ) → Summed t i next bytes → i ≡ count (entries_in t) → bytes ≡ bytes_below (entries_in t)
summed_all t i next bytes summed all = summed.sum ∙ ap (bytes_to (entries_in t)) all ∙ bytes_all (entries_in t)
