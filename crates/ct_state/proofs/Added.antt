-- A sound image is a forest with no orphan, and `Adds` is fresh and attach.
use Rattle.std.proofs.Common.{◌≡◌, ◌≢◌, ◌∙◌, ℕ, ◌≤◌, List, [], ◌∷◌, ◌++◌, refl, sym, ap, subst, inl, inr, arith}
use Rattle.std.proofs.lemmas.Bool.{cases_eq}
use Rattle.ct_base.specs.Inode.{IsNumber}
use Rattle.ct_base.specs.Objects.{Object}
use Rattle.ct_base.specs.Path.{is_name}
use Rattle.ct_base.specs.Named.{Leads}
use Rattle.ct_base.specs.Rules.{inodes, slots, names, named, reached, Sound, HoldsAt}
use Rattle.ct_base.specs.View.{view, inode_count}
use Rattle.ct_tree.specs.Lands.{files}
use Rattle.ct_tree.specs.Ordered.{IsTree}
use Rattle.ct_tree.specs.Resolve.{put}
use Rattle.ct_tree.specs.Stands.{IsFile, IsDir, Stands}
use Rattle.ct_tree.specs.Tree.{Tree, File, Dir, none, entry}
use Rattle.ct_state.specs.Edits.{fresh, Rewrites, Attaches}
use Rattle.ct_state.specs.Forest.{OneTree, IsUnder, AreTrees}
use Rattle.ct_base.specs.Slots.{IsSlot, slot_name}
use Rattle.ct_state.proofs.Bare.{up_on, fresh_trees}
use Rattle.ct_state.proofs.Relinks.{trees_after}
use Rattle.ct_state.proofs.Adds.{Adds}
use Rattle.ct_state.proofs.Bytes.{objects-in}
use Rattle.ct_state.proofs.Changes.{made}
use Rattle.ct_state.proofs.Edits.{same_at, other_at, bares_at, attach_relinks}
use Rattle.ct_state.proofs.Forests.{trees_of, forest_of, named_of, reached_of}
use Rattle.ct_state.proofs.Removes.{added}
use Rattle.ct_state.proofs.Turning.{Bares}

-- ---- images

pub sound_forest : (img : List ℕ) (t : Tree) → 1 ≤ inode_count img → Sound img → IsTree t → Stands (files img) 1 t → OneTree (files img) t
sound_forest img t few sound tree st =
    let number : IsNumber (inode_count img) 1 = record { from = omega arith; to = few } in
    let root : (files img 1).kind ≡ 2 = ap (λ (f : Object). f.kind) (objects-in (view img) (inode_count img) 1 number) ∙ (sound inodes 1 number).root refl in
    forest_of (trees_of (sound slots) (sound names) (sound named) (sound reached) root) tree st

-- and a forest meets the rules on objects
pub forest_rules : (img : List ℕ) (t : Tree) → OneTree (files img) t → HoldsAt img slots × HoldsAt img names × HoldsAt img named × HoldsAt img reached
forest_rules img t f = (f.are.entries, f.are.apart, named_of f.are, reached_of f.are)

-- ---- an empty object

empty_tree : (gs : ℕ → Object) (i : ℕ) (u : Tree) → (gs i).size ≡ 0 → Stands gs i u → IsTree u
empty_tree gs i (File bytes) zero_size st = omega (arith, zero_size, st.size)
empty_tree gs i (Dir none) zero_size st = tt
empty_tree gs i (Dir (entry y n rest)) zero_size st = let s = st.1.0.0 in absurd (omega (arith, s.slot.below, zero_size))

empty_stands : (gs hs : ℕ → Object) (i : ℕ) (u : Tree) → (gs i).size ≡ 0 → hs i ≡ gs i → Stands gs i u → Stands hs i u
empty_stands gs hs i (File bytes) zero_size same st = subst (λ f. IsFile f bytes) (sym same) st
empty_stands gs hs i (Dir none) zero_size same st = (subst (λ f. IsDir f none) (sym same) st.0, tt)
empty_stands gs hs i (Dir (entry y n rest)) zero_size same st = let s = st.1.0.0 in absurd (omega (arith, s.slot.below, zero_size))

-- ---- entries

module _ {fs gs : ℕ → Object} {d o i kind : ℕ} {x : List ℕ} (a : Adds fs gs d o i x) (new : gs i ≡ record { kind = kind; size = 0; at = λ k. 0 }) where
  apart : d ≢ i
  apart is = omega (arith, a.was, ap (λ k. (fs k).kind) is, a.free)

  pub adds_attaches : Attaches (fresh fs i kind) gs d o i x
  adds_attaches = record {
    others = λ j there. elim (cases_eq j i) [
      | inl is ↦ ap gs is ∙ new ∙ sym (ap (fresh fs i kind) is ∙ same_at fs i (record { kind = kind; size = 0; at = λ k. 0 }))
      | inr old ↦ a.others j there old ∙ sym (other_at fs i (record { kind = kind; size = 0; at = λ k. 0 }) j old)
    ];
    rewrites = subst (λ f. Rewrites f (gs d) o) (sym (other_at fs i (record { kind = kind; size = 0; at = λ k. 0 }) d apart)) (record {
      dir = a.was;
      kind = a.is ∙ sym a.was;
      tail = a.past;
      room = a.room;
      kept = a.kept;
    });
    holds = record { slot = a.slot; child = a.child; name = a.name; is_name = ap is_name (sym a.name) ∙ a.entry.name; length = a.entry.length; padding = a.entry.padding };
  }

  bares : Bares fs (fresh fs i kind) i
  bares = bares_at fs i (record { kind = kind; size = 0; at = λ k. 0 }) (λ k s. omega (arith, s.dir, a.free)) (λ k s. omega (arith, s.below))

  some : kind ≢ 0
  some z = a.made (ap (λ (f : Object). f.kind) new ∙ z)

  -- the rules on objects
  pub adds_trees : AreTrees gs 1
  adds_trees =
      let f = trees_of a.entries a.apart a.named a.reached a.root in
      let made : (fresh fs i kind i).kind ≢ 0 = λ z. some (sym (ap (λ (f : Object). f.kind) (same_at fs i (record { kind = kind; size = 0; at = λ k. 0 }))) ∙ z) in
      let mid = fresh_trees bares f a.free made in
      let held : i ≢ 1 = λ is. omega (arith, a.free, ap (λ n. (fs n).kind) is, a.root) in
      let same = other_at fs i (record { kind = kind; size = 0; at = λ k. 0 }) d apart in
      let l = attach_relinks mid.entries adds_attaches (λ s. a.unused (subst (λ g. IsSlot g o) same s))
      (λ k s is. a.fresh k (subst (λ g. IsSlot g k) same s) (ap (λ g. slot_name g k) (sym same) ∙ is)) held in
      let way : IsUnder (fresh fs i kind) 1 d = elim (f.reached d (λ z. omega (arith, z, a.was))) [ inl up ↦ (up.0, up_on bares 1 up.0 d up.1) | inr up ↦ (up.0, up_on bares 1 up.0 d up.1) ] in
      trees_after l mid way.0 way.1

  -- the tree with what the new object stands for
  pub adds_stands : (xs : List (List ℕ)) (u : Tree) {t : Tree} → OneTree fs t → Leads fs 1 xs d → Stands gs i u → Stands gs 1 (put t (xs ++ (x ∷ [])) u)
  adds_stands xs u f leads st =
      let same = new ∙ sym (same_at fs i (record { kind = kind; size = 0; at = λ k. 0 })) in
      (added kind xs f a.free leads a.unused a.fresh adds_attaches (made f a.free some (empty_tree gs i u a.empty st) (empty_stands gs (fresh fs i kind) i u a.empty (sym same) st))).stands
