-- What is known where no check of a call fails.
use Rattle.std.proofs.Common.{◌≡◌, ℕ, List, [], ◌∷◌, ◌++◌, refl, ap, arith, Some, None, Option, Ok, Err, Result, Bool, true, false}
use Rattle.ct_base.specs.Objects.{Object}
use Rattle.ct_base.specs.Slots.{IsSlot}
use Rattle.ct_tree.specs.Checks.{first_of, refuse_if, has_none, no_node, no_file, no_dir, has_entries, unlike}
use Rattle.ct_tree.specs.Resolve.{parent, last_name, resolve}
use Rattle.ct_tree.specs.Stands.{Stands}
use Rattle.ct_tree.specs.Tree.{Tree, File, Dir, Entries, none, entry}
use Rattle.ct_tree.specs.declared.call.Refusal.{Refusal}
pub use Rattle.ct_tree.proofs.Steps.{first_none, not_refused}

-- names that do not lead to the root end with a name
pub split_last : (ns : List (List ℕ)) → has_none ns ≡ false → ns ≡ parent ns ++ (last_name ns ∷ [])
split_last [] h = absurd (cc)
split_last (x ∷ []) h = refl
split_last (x ∷ y ∷ ys) h = ap (λ zs. x ∷ zs) (split_last (y ∷ ys) refl)

pub node_there : (r : Result Tree Refusal) → no_node r ≡ None → (n : Tree) × (r ≡ Ok n)
node_there (Ok n) h = (n, refl)
node_there (Err e) h = absurd (cc)

pub dir_there : (r : Result Tree Refusal) → no_dir r ≡ None → (es : Entries) × (r ≡ Ok (Dir es))
dir_there (Ok (File bytes)) h = absurd (cc)
dir_there (Ok (Dir es)) h = (es, refl)
dir_there (Err e) h = absurd (cc)

-- a directory's path to a file is not that of the root
pub file_below : (t : Tree) (ns : List (List ℕ)) → (t' : Entries) → t ≡ Dir t' → no_file (resolve t ns) ≡ None → has_none ns ≡ false
file_below (File bytes) ns es is h = absurd (cc)
file_below (Dir es') [] es is h = absurd (cc)
file_below (Dir es') (x ∷ xs) es is h = refl

-- a file, or a directory without entries
abbrev pub IsBare : Tree → Type 0
IsBare (File bytes) = Unit {0}
IsBare (Dir none) = Unit {0}
IsBare (Dir (entry x n rest)) = ⊥

pub bare_file : (n : Tree) → no_file (Ok n) ≡ None → IsBare n
bare_file (File bytes) h = tt
bare_file (Dir es) h = absurd (cc)

pub bare_dir : (n : Tree) → has_entries (Ok n) ≡ None → IsBare n
bare_dir (File bytes) h = tt
bare_dir (Dir none) h = tt
bare_dir (Dir (entry x n rest)) h = absurd (cc)

-- what can be replaced
pub bare_replaced : (m n : Tree) → unlike (Ok m) (Ok n) ≡ None → IsBare n
bare_replaced (File bytes) (File other) h = tt
bare_replaced (File bytes) (Dir es) h = absurd (cc)
bare_replaced (Dir es) (File other) h = absurd (cc)
bare_replaced (Dir es) (Dir none) h = tt
bare_replaced (Dir es) (Dir (entry x n rest)) h = absurd (cc)

-- its object has no slots
pub bare_slots : (fs : ℕ → Object) (i : ℕ) (n : Tree) → IsBare n → Stands fs i n → (k : ℕ) → IsSlot (fs i) k → ⊥
bare_slots fs i (File bytes) bare st k s = omega (arith, st.kind, s.dir)
bare_slots fs i (Dir none) bare st k s = st.0.names k s
bare_slots fs i (Dir (entry x n rest)) bare st k s = bare
