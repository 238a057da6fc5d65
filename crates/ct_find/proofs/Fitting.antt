-- An entry whose object may go, and why another may not.
use Rattle.std.proofs.Common.{◌≡◌, ◌≢◌, ℕ, List, [], ◌∷◌, ◌++◌, Result, Ok, Err, Some, None, refl, sym, ap, ◌∙◌, subst, inl, inr, arith}
use Rattle.std.specs.Prelude.{is_none, unwrap_or}
use Rattle.std.specs.declared.option.Option.{Option}
use Rattle.ct_base.specs.declared.inode.Inode.{Inode}
use Rattle.ct_base.specs.Inode.{IsLive, inode}
use Rattle.ct_base.specs.Objects.{Object}
use Rattle.ct_base.specs.Path.{names_of}
use Rattle.ct_base.specs.Rules.{slots}
use Rattle.ct_base.specs.Slots.{IsSlot}
use Rattle.ct_base.specs.View.{view, inode_count}
use Rattle.ct_dir.specs.Directory.{IsReadable, dir_of}
use Rattle.ct_path.proofs.Answered.{has_names}
use Rattle.ct_path.proofs.Sounds.{is_live}
use Rattle.ct_tree.specs.Checks.{at, bad_path, first_of, has_entries, has_none, names, no_dir, no_file, no_node, refuse_if, Passes}
use Rattle.ct_tree.specs.Lands.{files}
use Rattle.ct_tree.specs.Resolve.{last_name, parent}
use Rattle.ct_tree.specs.Stands.{Stands}
use Rattle.ct_tree.specs.Step.{refusal}
use Rattle.ct_tree.specs.Tree.{Tree, File, Dir, none, entry}
use Rattle.ct_tree.specs.declared.call.Refusal.{Refusal}
use Rattle.ct_tree.specs.declared.call.Refusal.TheVariants.{BadPath, IsRoot}
use Rattle.ct_commit.specs.Rest.{IsAtRest, StandsFor}
use Rattle.ct_find.specs.declared.kind.Kind.{Kind}
use Rattle.ct_find.specs.declared.kind.Kind.TheVariants.{File as file, Directory as directory}
use Rattle.ct_find.proofs.Living.{dir_is, readable_at}
use Rattle.ct_find.proofs.Rooted.{root_entries}
use Rattle.ct_find.specs.Entries.{IsEntryAt, IsFit, IsLeaf, StandsAt}
use Rattle.ct_find.specs.Kinds.{leave_op}
use Rattle.ct_find.specs.declared.entry.Entry.{Entry}

-- ---- the refusals by the names of a path

abbrev file_checks : Option (List (List ℕ)) → Result Tree Refusal → Option Refusal
file_checks o n = first_of (refuse_if (is_none o) BadPath ∷ no_file n ∷ [])

abbrev dir_checks : Option (List (List ℕ)) → Result Tree Refusal → Option Refusal
dir_checks o n = first_of (refuse_if (is_none o) BadPath ∷ refuse_if (has_none (unwrap_or o [])) IsRoot ∷ no_dir n ∷ has_entries n ∷ [])

file_some : (o : Option (List (List ℕ))) (n : Result Tree Refusal) → o ≢ None → file_checks o n ≡ no_file n
file_some None n some = absurd (some refl)
file_some (Some ns) (Ok (File bytes)) some = refl
file_some (Some ns) (Ok (Dir es)) some = refl
file_some (Some ns) (Err e) some = refl

dir_some : (o : Option (List (List ℕ))) (n : Tree) → o ≢ None → unwrap_or o [] ≢ [] → dir_checks o (Ok n) ≡ first_of (no_dir (Ok n) ∷ has_entries (Ok n) ∷ [])
dir_some None n some below = absurd (some refl)
dir_some (Some []) n some below = absurd (below refl)
dir_some (Some (x ∷ xs)) n some below = refl

-- a path that leads to no node is refused for that
missing_node : (o : Option (List (List ℕ))) (n : Result Tree Refusal) (why : Refusal) → first_of (refuse_if (is_none o) BadPath ∷ no_node n ∷ []) ≡ Some why → file_checks o n ≡ Some why
missing_node None n why is = is
missing_node (Some ns) (Ok m) why is = absurd (cc)
missing_node (Some ns) (Err e) why is = is

missing_dir : (o : Option (List (List ℕ))) (n : Result Tree Refusal) (why : Refusal) → o ≢ Some [] → first_of (refuse_if (is_none o) BadPath ∷ no_node n ∷ []) ≡ Some why → dir_checks o n ≡ Some why
missing_dir None n why below is = is
missing_dir (Some []) n why below is = absurd (below refl)
missing_dir (Some (x ∷ xs)) (Ok m) why below is = absurd (cc)
missing_dir (Some (x ∷ xs)) (Err e) why below is = is

pub some_last : (ns xs : List (List ℕ)) (x : List ℕ) → ns ≡ xs ++ (x ∷ []) → ns ≢ []
some_last ns [] x is nil = absurd (cc)
some_last ns (y ∷ ys) x is nil = absurd (cc)

-- ---- what an object's being fit says

pub fit_file : {T : Type 0} (fs : ℕ → Object) (i : ℕ) (n : Tree) (r : Result T Refusal) → Stands fs i n → IsFit (fs i) file r → Passes r (no_file (Ok n))
fit_file fs i (File bytes) (Ok x) st fit = refl
fit_file fs i (File bytes) (Err e) st fit = absurd (omega (arith, st.kind, fit.0))
fit_file fs i (Dir es) (Ok x) st fit = absurd (fit st.0.kind)
fit_file fs i (Dir es) (Err e) st fit = ap (λ r. Some r) (sym fit.1)

pub fit_dir : {T : Type 0} (fs : ℕ → Object) (i : ℕ) (n : Tree) (r : Result T Refusal) → Stands fs i n → IsFit (fs i) directory r → Passes r (first_of (no_dir (Ok n) ∷ has_entries (Ok n) ∷ []))
fit_dir fs i (File bytes) (Ok x) st fit = absurd (omega (arith, st.kind, fit.0))
fit_dir fs i (File bytes) (Err e) st (inl other) = ap (λ r. Some r) (sym other.1)
fit_dir fs i (File bytes) (Err e) st (inr some) = absurd (omega (arith, st.kind, some.0))
fit_dir fs i (Dir none) (Ok x) st fit = refl
fit_dir fs i (Dir none) (Err e) st (inl other) = absurd (other.0 st.0.kind)
fit_dir fs i (Dir none) (Err e) st (inr some) = absurd (st.0.names some.1 some.2)
fit_dir fs i (Dir (entry x n rest)) (Ok y) st fit = absurd (fit.1 st.1.0.0.offset st.1.0.0.slot)
fit_dir fs i (Dir (entry x n rest)) (Err e) st (inl other) = absurd (other.0 st.0.kind)
fit_dir fs i (Dir (entry x n rest)) (Err e) st (inr some) = ap (λ r. Some r) (sym some.3)

passes_on : {T : Type 0} (r : Result T Refusal) {a b : Option Refusal} → b ≡ a → Passes r a → Passes r b
passes_on (Ok x) is p = is ∙ p
passes_on (Err e) is p = is ∙ p

no_slots : {T : Type 0} (f : Object) (kind : Kind) (x : T) → IsFit f kind (Ok x) → (k : ℕ) → IsSlot f k → ⊥
no_slots f file x fit k s = fit s.dir
no_slots f directory x fit k s = fit.1 k s

module _ {w path : List ℕ} (rest : IsAtRest w) where
  -- why the root may not go
  pub root_answer : (kind : Kind) (t : Tree) (why : Refusal) → StandsFor w t → ((u : Tree) → Rattle.ct_tree.specs.Resolve.IsDir u → refusal u (leave_op kind (47 ∷ [])) ≡ Some why) → path ≡ 47 ∷ [] → refusal t (leave_op kind path) ≡ Some why
  root_answer kind t why st says is =
      let root = root_entries rest t st in
      subst (λ p. refusal t (leave_op kind p) ≡ Some why) (sym is) (says t (subst Rattle.ct_tree.specs.Resolve.IsDir (sym root.1) tt))

  -- why no entry is there
  pub missing_answer : (kind : Kind) (t : Tree) (why : Refusal) → path ≢ 47 ∷ [] → first_of (bad_path path ∷ no_node (at t path) ∷ []) ≡ Some why → refusal t (leave_op kind path) ≡ Some why
  missing_answer file t why below is = missing_node (names_of path) (at t path) why is
  missing_answer directory t why below is = missing_dir (names_of path) (at t path) why (has_names path below) is

  module _ {e : Entry} (there : IsEntryAt w path e) where
    live : (files w e.number).kind ≢ 0
    live z = (rest.sound slots e.dir e.offset there.entered.slot).live (ap (λ i. (files w i).kind) there.entered.child ∙ z)

    pub entry_live : IsLive (view w) (inode_count w) e.number
    entry_live = is_live w rest.sound rest.head.inodes.1 e.number live

    pub object_is : (d : Inode) → d ≡ inode (view w) e.number → dir_of w d ≡ files w e.number
    object_is d is = dir_is rest entry_live (sym is)

    pub entry_readable : (d : Inode) → d ≡ inode (view w) e.number → d.kind ≡ 2 → IsReadable w d
    entry_readable d is kind = readable_at rest entry_live (sym is) kind

    -- the object decides
    pub fit_answer : {T : Type 0} (kind : Kind) (d : Inode) (r : Result T Refusal) → d ≡ inode (view w) e.number → IsFit (dir_of w d) kind r → (t : Tree) → StandsFor w t → StandsAt w path t e.number → Passes r (refusal t (leave_op kind path))
    fit_answer file d r is fit t st s =
        passes_on r (file_some (names_of path) (at t path) there.good ∙ ap no_file s.is) (fit_file (files w) e.number s.node r s.stands (subst (λ f. IsFit f file r) (object_is d is) fit))
    fit_answer directory d r is fit t st s =
        passes_on r (ap (λ n. dir_checks (names_of path) n) s.is ∙ dir_some (names_of path) s.node there.good (some_last (names path) (parent (names path)) (last_name (names path)) there.ends))
        (fit_dir (files w) e.number s.node r s.stands (subst (λ f. IsFit f directory r) (object_is d is) fit))

    pub leaf : {T : Type 0} (kind : Kind) (d : Inode) (x : T) → d ≡ inode (view w) e.number → IsFit (dir_of w d) kind (Ok x) → IsLeaf (files w) e.dir e.offset e.number
    leaf kind d x is fit = record {
      way = parent (names path);
      leads = there.entered.leads;
      slot = there.entered.slot;
      child = there.entered.child;
      bare = subst (λ f. (k : ℕ) → IsSlot f k → ⊥) (object_is d is) (no_slots (dir_of w d) kind x fit);
    }
