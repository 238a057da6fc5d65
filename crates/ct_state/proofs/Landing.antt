-- An image on which no rule fails lands on a tree, and on one alone.
use Rattle.std.proofs.Common.{◌≡◌, ℕ, ◌%◌, ◌^◌, ◌≤◌, List, refl, sym, ap, ◌∙◌, subst, inl, inr, arith}
use Rattle.std.proofs.Math.Nat.{pow-le-pow_right}
use Rattle.std.proofs.lemmas.Bool.{cases_eq}
use Rattle.ct_tree.specs.Tree.{Tree, File, Dir}
use Rattle.ct_tree.specs.Resolve.{IsDir}
use Rattle.ct_tree.specs.Ordered.{IsTree}
use Rattle.ct_base.specs.View.{view, inode_count}
use Rattle.ct_base.specs.Inode.{inode, IsNumber}
use Rattle.ct_base.specs.Objects.{Object, object, objects, no_object}
use Rattle.ct_base.specs.Rules.{inodes, placed, slots, names, named, reached, Sound, AreInodes, ArePlaced, AreEntries, AreNamed, AreReached}
use Rattle.ct_tree.specs.Stands.{Stands}
use Rattle.ct_base.specs.Settled.{settled}
use Rattle.ct_tree.specs.Lands.{HasHead, Lands, files}
use Rattle.ct_state.proofs.Bytes.{objects-cases, objects-in}
use Rattle.ct_state.proofs.Exists.{AreObjects, exists_tree}
use Rattle.ct_state.proofs.Head.{settled_inodes}
use Rattle.ct_state.proofs.Unique.{stands_once}

module _ (b : ℕ → ℕ) (count : ℕ) (few : 1 ≤ count) (are : AreInodes b count) (place : ArePlaced b count) where
  of_object : (P : Object → Type 0) → P no_object → ((i : ℕ) → IsNumber count i → P (object b i)) → (i : ℕ) → P (objects b count i)
  of_object P none some i = elim (objects-cases b count i) [ inl k ↦ subst P (sym k.1) (some i k.0) | inr k ↦ subst P (sym k.1) none ]

  size-most : (i : ℕ) → IsNumber count i → (inode b i).size ≤ 2 ^ 39
  size-most i number = elim (cases_eq (inode b i).kind 0) [
    | inl free ↦ omega (arith, (are i number).free 1 (omega arith) free)
    | inr used ↦ elim (place i (record { number = number; used = used })).place [
      | inl none ↦ omega (arith, none.size)
      | inr r ↦ let wide : 8 ^ (inode b i).level ≤ 8 ^ 9 = pow-le-pow_right {n = 8} (omega arith) {i = (inode b i).level} {j = 9} r.part.level in omega (arith, r.size, wide)
    ]
  ]

  are_objects : AreEntries (objects b count) → AreNamed (objects b count) → AreReached (objects b count) → AreObjects (objects b count) count
  are_objects e n r = record {
    kinds = of_object (λ f. f.kind ≤ 2) (omega arith) (λ i number. (are i number).kind);
    numbers = λ i used. elim (objects-cases b count i) [ inl k ↦ k.0.to | inr k ↦ absurd (used (ap (λ (f : Object). f.kind) k.1)) ];
    sizes = of_object (λ f. f.size ≤ 2 ^ 39) (omega arith) (λ i number. size-most i number);
    slots = of_object (λ f. f.kind ≡ 2 → f.size % 256 ≡ 0) (λ is. refl) (λ i number dir. (place i (record { number = number; used = λ z. omega (arith, dir, z) })).slots dir);
    root = let number : IsNumber count 1 = record { from = omega arith; to = few } in ap (λ (f : Object). f.kind) (objects-in b count 1 number) ∙ (are 1 number).root refl;
    entries = e;
    named = n;
    reached = r;
  }

pub sound_stands : (img : List ℕ) → 1 ≤ inode_count img → Sound img → (t : Tree) × IsTree t × Stands (files img) 1 t
sound_stands img few sound =
    exists_tree (are_objects (view img) (inode_count img) few (sound inodes) (sound placed) (sound slots) (sound named) (sound reached))

pub lands_once : (img : List ℕ) (t u : Tree) → IsTree t → IsTree u → Lands img t → Lands img u → t ≡ u
lands_once img t u is is' p q = stands_once (files (settled img)) (p.sound names) t u 1 is is' p.stands q.stands

-- an image lands exactly where no rule fails
pub lands_where : (img : List ℕ) → HasHead img → Sound (settled img) → (t : Tree) × IsTree t × Lands img t
lands_where img head sound =
    let few : 1 ≤ inode_count (settled img) = omega (arith, settled_inodes img head.recorded, head.inodes.0) in
    let there = sound_stands (settled img) few sound in
    (there.0, there.1, record { head = head; sound = sound; stands = there.2 })

-- and where one lands on a tree, the root is a directory
pub lands_dir : (img : List ℕ) (t : Tree) → Lands img t → IsDir t
lands_dir img (Dir es) l = tt
lands_dir img (File bytes) l =
    let few : 1 ≤ inode_count (settled img) = omega (arith, settled_inodes img l.head.recorded, l.head.inodes.0) in
    let number : IsNumber (inode_count (settled img)) 1 = record { from = omega arith; to = few } in
    let root = ap (λ (f : Object). f.kind) (objects-in (view (settled img)) (inode_count (settled img)) 1 number) ∙ (l.sound inodes 1 number).root refl in
    absurd (omega (arith, l.stands.kind, root))
