-- Two trees are equal in one way at most, and so a tree is one in one way.
use Rattle.std.specs.Prelude.{◌≡◌, ℕ, zero, suc, Bool, true, false, List, [], refl}
use Rattle.std.specs.Coded.{Unit-prop, le_prop}
use Rattle.std.specs.declared.cmp.Ordering.{Ordering}
use Rattle.std.specs.declared.cmp.Ordering.TheVariants.{Less, Equal, Greater}
use Rattle.std.proofs.Common.{◌∙◌, ap, sym, true≢false}
use mathlib.Core.Bool.{Bool-set}
use mathlib.Core.HLevel.{Discrete, hedberg}
use mathlib.Core.List.{List-discrete}
use native.Mathlib.Decide.{ℕ_discrete}
use Rattle.ct_base.specs.Path.{is_name}
use Rattle.ct_tree.specs.Entries.{name_cmp}
use Rattle.ct_tree.specs.Ordered.{AreEntries, IsBelow, IsTree}
use Rattle.ct_tree.specs.Tree.{Tree, File, Dir, Entries, none, entry}

bytes_discrete : Discrete (List ℕ)
bytes_discrete = List-discrete ℕ_discrete

abbrev is_file : Tree → Bool
is_file (File bytes) = true
is_file (Dir es) = false

abbrev bytes_of : Tree → List ℕ
bytes_of (File bytes) = bytes
bytes_of (Dir es) = []

abbrev entries_of : Tree → Entries
entries_of (File bytes) = none
entries_of (Dir es) = es

abbrev has_first : Entries → Bool
has_first none = false
has_first (entry name node rest) = true

abbrev name_of : Entries → List ℕ
name_of none = []
name_of (entry name node rest) = name

abbrev node_of : Entries → Tree
node_of none = File []
node_of (entry name node rest) = node

abbrev rest_of : Entries → Entries
rest_of none = none
rest_of (entry name node rest) = rest

same_file : (a b : List ℕ) → Dec (a ≡ b) → Dec (File a ≡ File b)
same_file a b (yes e) = yes (ap File e)
same_file a b (no off) = no (λ e. off (ap bytes_of e))

same_dir : (a b : Entries) → Dec (a ≡ b) → Dec (Dir a ≡ Dir b)
same_dir a b (yes e) = yes (ap Dir e)
same_dir a b (no off) = no (λ e. off (ap entries_of e))

same_entry : (x y : List ℕ) (n m : Tree) (r s : Entries) → Dec (x ≡ y) → Dec (n ≡ m) → Dec (r ≡ s) → Dec (entry x n r ≡ entry y m s)
same_entry x y n m r s (no off) f g = no (λ e. off (ap name_of e))
same_entry x y n m r s (yes e) (no off) g = no (λ e. off (ap node_of e))
same_entry x y n m r s (yes e) (yes f) (no off) = no (λ e. off (ap rest_of e))
same_entry x y n m r s (yes e) (yes f) (yes g) = yes (λ i. entry (e i) (f i) (g i))

mutual
  tree_discrete : Discrete Tree
  tree_discrete (File a) (File b) = same_file a b (bytes_discrete a b)
  tree_discrete (File a) (Dir es) = no (λ e. true≢false (ap is_file e))
  tree_discrete (Dir es) (File b) = no (λ e. true≢false (sym (ap is_file e)))
  tree_discrete (Dir es) (Dir fs) = same_dir es fs (entries_discrete es fs)

  entries_discrete : Discrete Entries
  entries_discrete none none = yes refl
  entries_discrete none (entry y m s) = no (λ e. true≢false (sym (ap has_first e)))
  entries_discrete (entry x n r) none = no (λ e. true≢false (ap has_first e))
  entries_discrete (entry x n r) (entry y m s) = same_entry x y n m r s (bytes_discrete x y) (tree_discrete n m) (entries_discrete r s)

pub tree_set : IsSet Tree
tree_set = hedberg tree_discrete

abbrev place_of : Ordering → ℕ
place_of Less = 0
place_of Equal = 1
place_of Greater = 2

abbrev order_at : ℕ → Ordering
order_at zero = Less
order_at (suc zero) = Equal
order_at (suc (suc k)) = Greater

order_back : (o : Ordering) → order_at (place_of o) ≡ o
order_back Less = refl
order_back Equal = refl
order_back Greater = refl

same_order : (a b : Ordering) → Dec (place_of a ≡ place_of b) → Dec (a ≡ b)
same_order a b (yes e) = yes (sym (order_back a) ∙ ap order_at e ∙ order_back b)
same_order a b (no off) = no (λ e. off (ap place_of e))

before_prop : (o : Ordering) → IsProp (o ≡ Less)
before_prop o = hedberg (λ a b. same_order a b (ℕ_discrete (place_of a) (place_of b))) o Less

below_prop : (y : List ℕ) (es : Entries) → IsProp (IsBelow y es)
below_prop y none = Unit-prop
below_prop y (entry z node rest) = λ a b i. (before_prop (name_cmp y z) a.0 b.0 i, below_prop y rest a.1 b.1 i)

mutual
  pub tree_prop : (t : Tree) → IsProp (IsTree t)
  tree_prop (File bytes) = le_prop
  tree_prop (Dir es) = entries_prop es

  entries_prop : (es : Entries) → IsProp (AreEntries es)
  entries_prop none = Unit-prop
  entries_prop (entry name node rest) = λ a b i. (Bool-set (is_name name) true a.0 b.0 i, tree_prop node a.1 b.1 i, below_prop name rest a.2 b.2 i, entries_prop rest a.3 b.3 i)
