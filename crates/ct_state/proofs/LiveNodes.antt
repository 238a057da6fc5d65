-- How many nodes the tree of an image has, by its inodes.
use Rattle.std.proofs.Common.{◌≡◌, ◌≢◌, ℕ, ◌<◌, ◌≤◌, List, [], Option, Some, None, refl, sym, ap, ◌∙◌, inl, inr, arith}
use Rattle.ct_base.specs.Inode.{IsLive, live_parts, free_parts}
use Rattle.ct_base.specs.Objects.{Object, objects}
use Rattle.ct_base.specs.Plan.{first_free_number}
use Rattle.ct_base.specs.Rules.{placed, slots, names, named, reached, Sound}
use Rattle.ct_base.specs.View.{view, inode_count}
use Rattle.ct_tree.specs.Lands.{files}
use Rattle.ct_tree.specs.Ordered.{IsTree}
use Rattle.ct_tree.specs.Stands.{Stands}
use Rattle.ct_tree.specs.Tree.{Tree, nodes}
use Rattle.ct_state.specs.Live.{live_count}
use Rattle.ct_state.proofs.Bytes.{objects-in, objects-cases}
use Rattle.ct_state.proofs.Counted.{listed_all}
use Rattle.ct_state.proofs.Nodes.{numbers, length-numbers, all_live, reached_among, once_each}
use Rattle.ct_state.proofs.FreeNumbers.{live_most, none_all, all_none, some_less}
use Rattle.ct_state.proofs.RootSlots.{slots_live}

-- an inode is live where its object has a kind
live_object : (b : ℕ → ℕ) (count i : ℕ) → (objects b count i).kind ≢ 0 → IsLive b count i
live_object b count i used = elim (objects-cases b count i) [
  | inl k ↦ record { number = k.0; used = λ z. used (ap (λ (f : Object). f.kind) k.1 ∙ z) }
  | inr k ↦ absurd (used (ap (λ (f : Object). f.kind) k.1))
]

object_live : (b : ℕ → ℕ) (count i : ℕ) → IsLive b count i → (objects b count i).kind ≢ 0
object_live b count i live z = live.used (sym (ap (λ (f : Object). f.kind) (objects-in b count i live.number)) ∙ z)

module _ (img : List ℕ) (t : Tree) (sound : Sound img) (is : IsTree t) (st : Stands (files img) 1 t) where
  -- a node for each live inode
  pub nodes_live : nodes t ≡ live_count (view img) (inode_count img)
  nodes_live =
      let all = listed_all (view img) (inode_count img) (numbers (files img) 1 t st) (once_each (sound slots) (sound named) t st is)
      (λ x h. live_object (view img) (inode_count img) x (all_live (files img) 1 t st x h))
      (λ x live. let up = sound reached x (object_live (view img) (inode_count img) x live) in reached_among (files img) (sound names) t st up.0 x up.1) in
      sym (length-numbers (files img) 1 t st) ∙ all

  pub nodes_most : nodes t ≤ inode_count img
  nodes_most = omega (arith, nodes_live, live_most (view img) (inode_count img))

  -- no number is free exactly where there are as many nodes as inodes
  pub none_full : first_free_number (view img) (inode_count img) ≡ None → nodes t ≡ inode_count img
  none_full none = nodes_live ∙ none_all (view img) (inode_count img) none

  pub full_none : nodes t ≡ inode_count img → first_free_number (view img) (inode_count img) ≡ None
  full_none full = all_none (view img) (inode_count img) (sym nodes_live ∙ full)

  pub some_room : (i : ℕ) → first_free_number (view img) (inode_count img) ≡ Some i → nodes t < inode_count img
  some_room i some = omega (arith, nodes_live, some_less (view img) (inode_count img) i some)

  -- and where there are fewer, one is
  pub room_some : nodes t < inode_count img → (i : ℕ) × (first_free_number (view img) (inode_count img) ≡ Some i)
  room_some room = cases (first_free_number (view img) (inode_count img)) refl
    where
      cases : (o : Option ℕ) → first_free_number (view img) (inode_count img) ≡ o → (i : ℕ) × (first_free_number (view img) (inode_count img) ≡ Some i)
      cases None none = absurd (omega (arith, none_full none, room))
      cases (Some i) some = (i, some)

  -- where no partition of a level is free, there are at least as many nodes as root slots for partitions
  pub nodes_crowded : (level : ℕ) → level ≤ 9 → free_parts (live_parts (view img) (inode_count img)) level ≡ [] → 502 ≤ nodes t
  nodes_crowded level le none = omega (arith, nodes_live, slots_live (view img) (inode_count img) level le (sound placed) none)
