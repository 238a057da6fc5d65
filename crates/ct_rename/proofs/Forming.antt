-- An entry that takes the place of another.
use Rattle.std.proofs.Common.{◌≡◌, ℕ, List, Result, Ok, refl, sym, ap, ◌∙◌, subst, arith}
use Rattle.ct_base.specs.declared.inode.Inode.{Inode}
use Rattle.ct_base.specs.Inode.{inode}
use Rattle.ct_base.specs.Objects.{Object}
use Rattle.ct_base.specs.View.{view}
use Rattle.ct_dir.specs.Directory.{dir_of}
use Rattle.ct_tree.specs.Checks.{unlike, Passes}
use Rattle.ct_tree.specs.Lands.{files}
use Rattle.ct_tree.specs.Stands.{Stands}
use Rattle.ct_tree.specs.Tree.{Tree, File, Dir, none, entry}
use Rattle.ct_tree.specs.declared.call.Refusal.{Refusal}
use Rattle.ct_commit.specs.Rest.{IsAtRest}
use Rattle.ct_find.specs.declared.kind.Kind.{Kind}
use Rattle.ct_find.specs.declared.kind.Kind.TheVariants.{File as file, Directory as directory}
use Rattle.ct_find.proofs.Fitting.{fit_dir, fit_file, object_is}
use Rattle.ct_find.specs.Entries.{IsEntryAt, IsFit, StandsAt}
use Rattle.ct_find.specs.declared.entry.Entry.{Entry}
use Rattle.ct_rename.specs.Forms.{IsKindOf}

-- what an object's being fit to give way says
way_passes : {T : Type 0} (fs : ℕ → Object) (i j : ℕ) (n m : Tree) (kind : Kind) (f : Inode) (r : Result T Refusal) → (fs i).kind ≡ f.kind → IsKindOf f kind → Stands fs i n → Stands fs j m → IsFit (fs j) kind r → Passes r (unlike (Ok n) (Ok m))
way_passes fs i j (File bytes) (File other) file f r is kind st sm fit = fit_file fs j (File other) r sm fit
way_passes fs i j (File bytes) (Dir es) file f r is kind st sm fit = fit_file fs j (Dir es) r sm fit
way_passes fs i j (File bytes) m directory f r is kind st sm fit = absurd (omega (arith, st.kind, is, kind))
way_passes fs i j (Dir es) m file f r is kind st sm fit = absurd (kind (sym is ∙ st.0.kind))
way_passes fs i j (Dir es) (File bytes) directory f r is kind st sm fit = fit_dir fs j (File bytes) r sm fit
way_passes fs i j (Dir es) (Dir none) directory f r is kind st sm fit = fit_dir fs j (Dir none) r sm fit
way_passes fs i j (Dir es) (Dir (entry x n rest)) directory f r is kind st sm fit = fit_dir fs j (Dir (entry x n rest)) r sm fit

module _ {w path to : List ℕ} {from there : Entry} (rest : IsAtRest w) (at_path : IsEntryAt w path from) (at_to : IsEntryAt w to there) where
  from_kind : (files w from.number).kind ≡ (inode (view w) from.number).kind
  from_kind = sym (ap (λ (f : Object). f.kind) (object_is rest at_path (inode (view w) from.number) refl))

  pub way_answer : {T : Type 0} (kind : Kind) (d : Inode) (r : Result T Refusal) → d ≡ inode (view w) there.number → IsKindOf (inode (view w) from.number) kind → IsFit (dir_of w d) kind r
      → (t : Tree) (s : StandsAt w path t from.number) (u : StandsAt w to t there.number) → Passes r (unlike (Ok s.node) (Ok u.node))
  way_answer kind d r is sort fit t s u =
      way_passes (files w) from.number there.number s.node u.node kind (inode (view w) from.number) r from_kind sort s.stands u.stands (subst (λ f. IsFit f kind r) (object_is rest at_to d is) fit)
