-- Directories of an image on which the rules of placement and of slots hold.
use Rattle.std.proofs.Common.{◌≡◌, ◌≢◌, ℕ, List, sym, ap, subst, inl, inr, arith}
use Rattle.ct_base.specs.Inode.{inode, IsNumber}
use Rattle.ct_base.specs.Objects.{Object, objects}
use Rattle.ct_base.specs.Rules.{AreEntries, ArePlaced, IsEntry}
use Rattle.ct_base.specs.Slots.{IsSlot, slot_inode}
use Rattle.ct_base.specs.View.{view}
use Rattle.ct_base.specs.Walk.{AreTables}
use Rattle.ct_state.proofs.Bytes.{objects-cases, objects-in}
use Rattle.ct_dir.specs.Directory.{IsReadable, IsText, dir_of}

-- an inode that is not live is not named
named_some : (b : ℕ → ℕ) (count c : ℕ) → (objects b count c).kind ≢ 0 → c ≢ 0
named_some b count c live none = elim (objects-cases b count c) [
  | inl here ↦ omega (arith, here.0.from, none)
  | inr other ↦ live (ap (λ f. f.kind) other.1)
]

-- a slot that meets the rule has a name and an inode
pub entry_text : (b : ℕ → ℕ) (count : ℕ) (f : Object) (o : ℕ) → IsEntry (objects b count) f o → IsText f o
entry_text b count f o e = record { some = named_some b count (slot_inode f o) e.live; length = e.length; name = e.name; padding = e.padding }

-- the directory of an inode is its object
pub dir_object : (img : List ℕ) (count i : ℕ) → IsNumber count i → objects (view img) count i ≡ dir_of img (inode (view img) i)
dir_object img count i number = objects-in (view img) count i number

-- a directory can be read where the two rules hold
pub readable : (img : List ℕ) (count i : ℕ) → AreTables img → IsNumber count i → (inode (view img) i).kind ≡ 2 → ArePlaced (view img) count → AreEntries (objects (view img) count) → IsReadable img (inode (view img) i)
readable img count i tables number kind placed entries =
    let b = view img in
    let is = dir_object img count i number in
    record {
      tables = tables;
      kind = kind;
      placed = placed i (record { number = number; used = λ none. omega (arith, kind, none) });
      texts = λ o s. entry_text b count (dir_of img (inode b i)) o
          (subst (λ f. IsEntry (objects b count) f o) is (entries i o (subst (λ f. IsSlot f o) (sym is) s)));
    }
