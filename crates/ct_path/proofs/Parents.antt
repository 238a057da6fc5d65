-- A parent is found as in each tree that the objects stand for.
use Rattle.std.proofs.Common.{◌≡◌, ◌≢◌, ℕ, List, [], ◌∷◌, Result, Ok, Err, Bor, true, refl, sym, ap, ◌∙◌, subst, arith}
use Rattle.std.specs.Prelude.{IsErrAnd}
use Rattle.ct_base.specs.Objects.{Object}
use Rattle.std.proofs.lemmas.Bool.{and_parts}
use Rattle.ct_base.specs.Path.{is_name}
use Rattle.ct_base.specs.Rules.{AreNamesApart}
use Rattle.ct_tree.specs.Tree.{Tree, File, Dir}
use Rattle.ct_tree.specs.Stands.{Stands}
use Rattle.ct_tree.specs.Checks.{no_dir}
use Rattle.ct_tree.specs.Resolve.{resolve, parent, last_name}
use Rattle.ct_path.specs.declared.fault.PathFault.{PathFault}
use Rattle.ct_path.specs.declared.fault.PathFault.TheVariants.{NotDir}
use Rattle.ct_path.specs.Meets.{Meets, Ahead}
use Rattle.ct_path.specs.Resolves.{IsParent, Follows, FindsParent}
use Rattle.ct_path.specs.Left.{AreNames}
use Rattle.ct_path.proofs.Ways.{ahead_start, ahead_step, ahead_stop, ahead_end}

module _ (fs : ℕ → Object) (all : List (List ℕ)) where
  of_dir : (i : ℕ) (name : Bor (List ℕ)) → (fs i).kind ≡ 2 → (t n : Tree) → resolve t (parent all) ≡ Ok n → Stands fs i n → IsParent fs (resolve t (parent all)) (Ok (i, name))
  of_dir i name dir t (File bytes) is st = absurd (omega (arith, dir, st.kind))
  of_dir i name dir t (Dir es) is st = (es, is, st)

  of_file : (i : ℕ) → (fs i).kind ≢ 2 → (t n : Tree) → resolve t (parent all) ≡ Ok n → Stands fs i n → IsParent fs (resolve t (parent all)) (Err NotDir)
  of_file i other t (File bytes) is st = ap no_dir is
  of_file i other t (Dir es) is st = absurd (other st.0.kind)

  module _ (i : ℕ) (follows : Follows fs (parent all) (Ok i)) where
    -- the parent is a directory
    parent_is : (name : Bor (List ℕ)) → (fs i).kind ≡ 2 → name.now ≡ last_name all → is_name name.now ≡ true → FindsParent fs all (Ok (i, name))
    parent_is name dir last valid = record {
      leads = follows.leads;
      dir = dir;
      name = last;
      valid = valid;
      only = λ k leads kind. let same = follows.only k leads in cc;
      tree = λ t is st. let a = follows.tree t is st in of_dir i name dir t a.0 a.1 a.2;
    }

    -- or a file
    parent_is_file : (fs i).kind ≢ 2 → FindsParent fs all (Err NotDir)
    parent_is_file other = record {
      leads = tt;
      dir = tt;
      name = tt;
      valid = tt;
      only = λ k leads kind. let same = follows.only k leads in let one : i ≡ k = cc in absurd (other (ap (λ j. (fs j).kind) one ∙ kind));
      tree = λ t is st. let a = follows.tree t is st in of_file i other t a.0 a.1 a.2;
    }

  no_parent : (fault : PathFault) → Follows fs (parent all) (Err fault) → FindsParent fs all (Err fault)
  no_parent fault follows = record {
    leads = tt;
    dir = tt;
    name = tt;
    valid = tt;
    only = λ k leads kind. let same = follows.only k leads in absurd (cc);
    tree = λ t is st. ap no_dir (follows.tree t is st);
  }

-- the last name so far, and the names that are left: all but the last of these lead on from object i
pub record Halfway (fs : ℕ → Object) (all : List (List ℕ)) (last : List ℕ) (left : List (List ℕ)) (i : ℕ) : Type 0 where
  pub ahead : Ahead fs (parent all) (parent (last ∷ left)) i
  pub same : last_name (last ∷ left) ≡ last_name all
  pub valid : AreNames (last ∷ left)

pub halfway_start : {fs : ℕ → Object} (first : List ℕ) (rest : List (List ℕ)) → (fs 1).kind ≢ 0 → AreNames (first ∷ rest) → Halfway fs (first ∷ rest) first rest 1
halfway_start first rest live valid = record { ahead = ahead_start (parent (first ∷ rest)) live; same = refl; valid = valid }

module _ (fs : ℕ → Object) (all : List (List ℕ)) (last : List ℕ) (i : ℕ) where
  pub halfway_step : AreNamesApart fs → (x : List ℕ) (xs : List (List ℕ)) (c : ℕ) → Halfway fs all last (x ∷ xs) i → Meets fs i last (Ok c) → (fs c).kind ≢ 0 → Halfway fs all x xs c
  halfway_step apart x xs c so_far m live = record {
    ahead = ahead_step fs (parent all) i last (parent (x ∷ xs)) apart c m.0 m.1 m.2 so_far.ahead live;
    same = so_far.same;
    valid = (and_parts _ _ so_far.valid).1;
  }

  -- a name on the way that leads nowhere
  pub halfway_stop : (x : List ℕ) (xs : List (List ℕ)) (r : Result (ℕ × Bor (List ℕ)) PathFault) (fault : PathFault) → IsErrAnd r (λ e. e ≡ fault) → Halfway fs all last (x ∷ xs) i → Meets fs i last (Err fault) → FindsParent fs all r
  halfway_stop x xs (Ok split) fault same so_far m = absurd same
  halfway_stop x xs (Err e) fault same so_far m =
      subst (λ f. FindsParent fs all (Err f)) (sym same) (no_parent fs all fault (ahead_stop fs (parent all) i last (parent (x ∷ xs)) fault so_far.ahead m))

-- where no name is left
pub halfway_dir : {fs : ℕ → Object} {all : List (List ℕ)} {i : ℕ} (name : Bor (List ℕ)) → Halfway fs all name.now [] i → (fs i).kind ≡ 2 → FindsParent fs all (Ok (i, name))
halfway_dir {fs = fs} {all = all} {i = i} name so_far dir =
    parent_is fs all i (ahead_end so_far.ahead) name dir so_far.same (and_parts _ _ so_far.valid).0

pub halfway_file : {fs : ℕ → Object} {all : List (List ℕ)} {i : ℕ} {last : List ℕ} → Halfway fs all last [] i → (fs i).kind ≢ 2 → FindsParent fs all (Err NotDir)
halfway_file {fs = fs} {all = all} {i = i} so_far other = parent_is_file fs all i (ahead_end so_far.ahead) other
