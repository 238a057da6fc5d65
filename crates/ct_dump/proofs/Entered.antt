-- One entry of a directory in the walk of a dump.
use Rattle.std.proofs.Common.{◌≡◌, ◌∙◌, ℕ, ◌+◌, ◌≤◌, List, ◌++◌, length, refl, sym, ap, subst, arith, append_assoc, Some, Option, Ok, Err, Result, Bool, true, false}
use Rattle.std.specs.Prelude.{IsOkAnd}
use Rattle.std.specs.Option.{ok_or}
use Rattle.std.specs.Io.KnownBytes.{Appends}
use Rattle.ct_tree.specs.Tree.{Tree, File, Dir, Entries, entry, nodes, nodes_below}
use Rattle.ct_tree.specs.Entries.{lookup}
use Rattle.ct_tree.specs.Ordered.{IsTree, AreEntries}
use Rattle.ct_tree.specs.Resolve.{child, and_then, entries_in, node_in, IsDir}
use Rattle.ct_tree.specs.Checks.{at, names}
use Rattle.ct_tree.specs.declared.call.Refusal.{Refusal}
use Rattle.ct_tree.specs.declared.call.Refusal.TheVariants.{NotFound}
use Rattle.ct_tree.proofs.Ordered.{node_tree}
use Rattle.ct_dump.specs.Dumped.{Placed, path_below, placed, placed_in, alone, text_of, are_short}
use Rattle.ct_dump.specs.Dumps.{DumpAppends}
use Rattle.ct_dump.specs.Looks.{IsNode, entries_at, first_name}
use Rattle.ct_dump.specs.Places.{LiesAt, HasEntry, entry_at, is_dir}
use Rattle.ct_dump.specs.declared.fault.DumpFault.{DumpFault}
use Rattle.ct_dump.proofs.Dumps.{dump_first, dump_second, short_fits}
use Rattle.ct_dump.proofs.Places.{at_below, place_below}
use Rattle.ct_dump.proofs.Rests.{IsRest, Found, found, first_is, fewer_nodes}

pub entries_tree : (n : Tree) → IsTree n → AreEntries (entries_in n)
entries_tree (File bytes) h = tt
entries_tree (Dir es) h = h

-- the entries of a directory of a tree are as they have to be
pub are_entries : (t : Tree) (path : List ℕ) → IsTree t → AreEntries (entries_at t path)
are_entries t path h = entries_tree (node_in (at t path)) (node_tree t (names path) h)

pub record Entered (t : Tree) (path x : List ℕ) (rest : Entries) : Type 0 where
  pub node : Tree
  pub more : Entries
  pub rest_is : rest ≡ entry x node more
  pub is_rest : IsRest (entry x node more) (entries_at t path)
  pub found : Found x node more (entries_at t path)
  pub there : entry_at t path x ≡ Ok node

child_is : (r : Result Tree Refusal) (x : List ℕ) (n : Tree) → IsOkAnd r IsDir → lookup x (entries_in (node_in r)) ≡ Some n → and_then r (λ m. child m x) ≡ Ok n
child_is (Err e) x n h l = absurd h
child_is (Ok (File bytes)) x n h l = absurd h
child_is (Ok (Dir es)) x n h l = ap (λ o. ok_or o NotFound) l

pub entered : (t : Tree) (path x : List ℕ) (rest : Entries) → IsTree t → IsOkAnd (at t path) IsDir → IsRest rest (entries_at t path) → Some x ≡ first_name rest → Entered t path x rest
entered t path x rest tree dir is first =
    let f = first_is x rest first in
    let here : IsRest (entry x f.0 f.1) (entries_at t path) = subst (λ r. IsRest r (entries_at t path)) f.2 is in
    let seen = found x f.0 f.1 (entries_at t path) here (are_entries t path tree) in
    record { node = f.0; more = f.1; rest_is = f.2; is_rest = here; found = seen; there = child_is (at t path) x f.0 dir seen.is }

pub has_entry : (t : Tree) (path x p y : List ℕ) (rest : Entries) → LiesAt t path IsDir → Entered t path x rest → p ≡ path → y ≡ x → HasEntry t p y
has_entry t path x p y rest lies e at_path same =
    subst (λ q. HasEntry t q y) (sym at_path)
    (subst (HasEntry t path) (sym same) (lies.0, e.found.named, subst (λ r. IsOkAnd r IsNode) (sym e.there) tt))

-- what was answered and written of the entry is of the node
pub node_is : (t : Tree) (path x p y : List ℕ) (rest : Entries) (e : Entered t path x rest) → p ≡ path → y ≡ x → node_in (entry_at t p y) ≡ e.node
node_is t path x p y rest e at_path same = ap (λ q. node_in (entry_at t q y)) at_path ∙ ap (λ z. node_in (entry_at t path z)) same ∙ ap node_in e.there

pub path_is : (path x p y : List ℕ) → p ≡ path → y ≡ x → path_below p y ≡ path_below path x
path_is path x p y at_path same = ap (λ q. path_below q y) at_path ∙ ap (path_below path) same

pub alone_is : (t : Tree) (path x p y : List ℕ) (rest : Entries) (e : Entered t path x rest) → p ≡ path → y ≡ x → alone (path_below p y) (node_in (entry_at t p y)) ≡ alone (path_below path x) e.node
alone_is t path x p y rest e at_path same = ap (λ q. alone q (node_in (entry_at t p y))) (path_is path x p y at_path same) ∙ ap (alone (path_below path x)) (node_is t path x p y rest e at_path same)

-- what holds of an entry whose lines were written
pub record Wrote (t : Tree) (path x : List ℕ) (rest : Entries) (e : Entered t path x rest) (a b : Option (List ℕ)) (dir : Bool) : Type 0 where
  pub is : is_dir e.node ≡ dir
  pub fits : length (path_below path x) ≤ 4096
  pub short : are_short (alone (path_below path x) e.node) ≡ true
  pub lines : Appends a b (text_of (alone (path_below path x) e.node))

pub wrote : (t : Tree) (path x p y : List ℕ) (rest : Entries) (e : Entered t path x rest) (a b : Option (List ℕ)) (dir told : Bool) → p ≡ path → y ≡ x → told ≡ is_dir (node_in (entry_at t p y)) → told ≡ dir →
    DumpAppends {A = Bool} a b (Ok told) (alone (path_below p y) (node_in (entry_at t p y))) → Wrote t path x rest e a b dir
wrote t path x p y rest e a b dir told at_path same is test u =
    let v = subst (DumpAppends {A = Bool} a b (Ok told)) (alone_is t path x p y rest e at_path same) u in
    record {
      is = ap is_dir (sym (node_is t path x p y rest e at_path same)) ∙ sym is ∙ test;
      fits = short_fits (path_below path x) e.node v.0;
      short = v.0;
      lines = v.1;
    }

dir_of : (n : Tree) → is_dir n ≡ true → IsDir n
dir_of (File bytes) h = absurd (cc)
dir_of (Dir es) h = tt

pub lies_below : (t : Tree) (path x : List ℕ) (rest : Entries) → LiesAt t path IsDir → (e : Entered t path x rest) → length (path_below path x) ≤ 4096 → is_dir e.node ≡ true → LiesAt t (path_below path x) IsDir
lies_below t path x rest lies e fits dir =
    (place_below path x lies.0 e.found.named fits, subst (λ r. IsOkAnd r IsDir) (sym (at_below t path x lies.0 e.found.named fits ∙ e.there)) (dir_of e.node dir))

pub entries_below : (t : Tree) (path x : List ℕ) (rest : Entries) → LiesAt t path IsDir → (e : Entered t path x rest) → length (path_below path x) ≤ 4096 → entries_at t (path_below path x) ≡ entries_in e.node
entries_below t path x rest lies e fits = ap (λ r. entries_in (node_in r)) (at_below t path x lies.0 e.found.named fits ∙ e.there)

fewer_in : (n : Tree) → nodes_below (entries_in n) + 1 ≤ nodes n
fewer_in (File bytes) = omega arith
fewer_in (Dir es) = omega arith

pub fewer_below : (t : Tree) (path x : List ℕ) (rest : Entries) → LiesAt t path IsDir → (e : Entered t path x rest) → length (path_below path x) ≤ 4096 →
    nodes_below (entries_at t (path_below path x)) + 1 ≤ nodes_below (entries_at t path)
fewer_below t path x rest lies e fits =
    let one = ap nodes_below (entries_below t path x rest lies e fits) in
    let two = fewer_in e.node in
    let three = fewer_nodes x e.node e.more (entries_at t path) e.is_rest in
    omega (arith, one, two, three)

-- a node is placed before all that is below it
placed_is : (path : List ℕ) (n : Tree) → placed path n ≡ alone path n ++ placed_in path (entries_in n)
placed_is path (File bytes) = refl
placed_is path (Dir es) = refl

file_has_none : (path : List ℕ) (n : Tree) → is_dir n ≡ false → alone path n ≡ placed path n
file_has_none path (File bytes) h = refl
file_has_none path (Dir es) h = absurd (cc)

-- a file was dumped
pub file_done : {A : Type 0} (r : Result A DumpFault) (a b : Option (List ℕ)) (path : List ℕ) (n : Tree) → is_dir n ≡ false → DumpAppends a b r (alone path n) → DumpAppends a b r (placed path n)
file_done r a b path n h u = subst (DumpAppends a b r) (file_has_none path n h) u

-- a directory's line was written, and its entries were dumped
pub dir_done : {A : Type 0} (r : Result A DumpFault) (a b d : Option (List ℕ)) (path : List ℕ) (n : Tree) → are_short (alone path n) ≡ true → Appends a b (text_of (alone path n)) → DumpAppends b d r (placed_in path (entries_in n)) →
    DumpAppends a d r (placed path n)
dir_done r a b d path n s u v = subst (DumpAppends a d r) (sym (placed_is path n)) (dump_second r a b d (alone path n) (placed_in path (entries_in n)) s u v)

-- a node's own lines were not written whole
pub node_failed : (A B : Type 0) (f : DumpFault) (a b : Option (List ℕ)) (path : List ℕ) (n : Tree) → DumpAppends {A = A} a b (Err f) (alone path n) → DumpAppends {A = B} a b (Err f) (placed path n)
node_failed A B f a b path n u = subst (DumpAppends {A = B} a b (Err f)) (sym (placed_is path n)) (dump_first A B f a b (alone path n) (placed_in path (entries_in n)) u)

-- a fault at an entry, after others
pub entry_failed : (A B : Type 0) (f : DumpFault) (a b d : Option (List ℕ)) (done all : List Placed) (path x : List ℕ) (n : Tree) (more : Entries) → Appends a b (text_of done) → are_short done ≡ true →
    done ++ placed_in path (entry x n more) ≡ all → DumpAppends {A = A} b d (Err f) (placed (path_below path x) n) → DumpAppends {A = B} a d (Err f) all
entry_failed A B f a b d done all path x n more u s is v =
    subst (DumpAppends {A = B} a d (Err f)) is
    (dump_second {A = B} (Err f) a b d done (placed_in path (entry x n more)) s u (dump_first A B f b d (placed (path_below path x) n) (placed_in path more) v))

-- what is written so far, with an entry more
pub record Goes (a d : Option (List ℕ)) (path : List ℕ) (more : Entries) (all : List Placed) : Type 0 where
  pub done : List Placed
  pub lines : Appends a d (text_of done)
  pub short : are_short done ≡ true
  pub is : done ++ placed_in path more ≡ all

pub goes_on : (a b d : Option (List ℕ)) (done all : List Placed) (path x : List ℕ) (n : Tree) (more : Entries) → Appends a b (text_of done) → are_short done ≡ true →
    done ++ placed_in path (entry x n more) ≡ all → DumpAppends {A = Unit {0}} b d (Ok tt) (placed (path_below path x) n) → Goes a d path more all
goes_on a b d done all path x n more u s is v =
    let w = dump_second {A = Unit {0}} (Ok tt) a b d done (placed (path_below path x) n) s u v in
    record { done = done ++ placed (path_below path x) n; lines = w.1; short = w.0; is = append_assoc done (placed (path_below path x) n) (placed_in path more) ∙ is }
