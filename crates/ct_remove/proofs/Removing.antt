-- The rules and the objects once an entry is gone with its object.
use Rattle.std.proofs.Common.{◌≡◌, ◌≢◌, ℕ, ◌+◌, ◌*◌, ◌^◌, ◌<◌, ◌≤◌, ◌⊎◌, List, [], ◌∷◌, ◌++◌, refl, sym, ap, subst, ◌∙◌, inl, inr, arith}
use Rattle.std.proofs.lemmas.Bool.{cases_eq, cases_lt}
use Rattle.ct_base.specs.Inode.{IsNumber, inode, inode_word, part_bytes}
use Rattle.ct_base.specs.Objects.{Object, object, objects}
use Rattle.ct_base.specs.Rules.{IsInode, IsMappedInParts, Owns, Sound, entries, once, inodes, placed, apart, tails, mapped, headers, rest, slots, names, named, reached}
use Rattle.ct_base.specs.Settled.{IsShut}
use Rattle.ct_base.specs.Slots.{IsSlot, slot_name}
use Rattle.ct_base.specs.View.{view, inode_count}
use Rattle.ct_commit.proofs.Pages.{room_of}
use Rattle.ct_commit.proofs.States.{head_over}
use Rattle.ct_state.specs.Alike.{IsWhole}
use Rattle.ct_state.specs.Edits.{HasTail}
use Rattle.ct_state.specs.Forest.{Entered, OneTree}
use Rattle.ct_state.proofs.Added.{forest_rules, sound_forest}
use Rattle.ct_state.proofs.Addressed.{Empties, object_tail, removed_objects}
use Rattle.ct_state.proofs.Bytes.{SameObject, content-at, little-same, little-zero}
use Rattle.ct_state.proofs.Changes.{entered}
use Rattle.ct_state.proofs.Landing.{sound_stands}
use Rattle.ct_state.proofs.Passes.{IsBare}
use Rattle.ct_state.proofs.Rebuilt.{Vacates, vacated_mapped, vacated_space}
use Rattle.ct_state.proofs.Removes.{removed as forest_removed}
use Rattle.ct_state.proofs.Write.{HasSpace}
use Rattle.ct_tree.specs.Lands.{files}
use Rattle.ct_tree.specs.Stands.{Stands}
use Rattle.ct_tree.specs.Tree.{Tree, File, Dir, none, entry}
use Rattle.ct_remove.specs.Asked.{IsAsked}
use Rattle.ct_commit.specs.Rest.{IsAtRest}
use Rattle.ct_remove.specs.Erased.{Removes}
use Rattle.ct_remove.specs.Removed.{removed}
use Rattle.ct_remove.proofs.Asked.{below_root, dir_live, dir_object, dir_other, dir_owns, dir_room, few, inside_or, object_live, slot_ends}

-- an object without slots stands for no more than itself
node_bare : (fs : ℕ → Object) (i : ℕ) (n : Tree) → Stands fs i n → ((k : ℕ) → IsSlot (fs i) k → ⊥) → IsBare n
node_bare fs i (File bytes) st bare = tt
node_bare fs i (Dir none) st bare = tt
node_bare fs i (Dir (entry x n more)) st bare = absurd (bare st.1.0.0.offset st.1.0.0.slot)

module _ {w new : List ℕ} {dir offset number : ℕ} (a : IsAsked w dir offset number) (r : Removes w new dir offset number) where
  abbrev b : ℕ → ℕ
  b = view w

  abbrev c : ℕ → ℕ
  c = view new

  abbrev count : ℕ
  count = inode_count w

  pub count_same : inode_count new ≡ inode_count w
  count_same = r.head 3 (omega arith)

  -- ---- by address

  low : (v : ℕ) → v < 2 ^ 39 → (v < 64 * number) ⊎ (64 * number + 64 ≤ v) → view new v ≡ view w v
  low v lt off = r.others v (record {
    side = inl lt;
    object = off;
    slot = inl (omega (arith, lt, (dir_room a).part.low));
    part = λ owns inside. omega (arith, lt, inside.from, (room_of w a.rest.sound owns).part.low);
  })

  pub words : (j k : ℕ) → IsNumber (inode_count w) j → j ≢ number → k < 8 → inode_word (view new) j k ≡ inode_word (view w) j k
  words j k counted other lt =
      let most : j ≤ 1048576 = omega (arith, counted.to, few a) in
      little-same (view w) (view new) (64 * j + 8 * k) (64 * j + 8 * k) 8 (λ m small. low (64 * j + 8 * k + m) (omega arith) (elim (cases_lt j number) [
        | inl less ↦ inl (omega arith)
        | inr more ↦ inr (omega (arith, other))
      ]))

  pub freed : (k : ℕ) → k < 8 → inode_word (view new) number k ≡ 0
  freed k lt = little-zero (view new) (64 * number + 8 * k) 8 (λ m small. ap (view new) (omega arith) ∙ r.object (8 * k + m) (omega arith))

  lawful : IsInode (view new) number
  lawful = record { kind = omega (arith, freed 0 (omega arith)); free = λ k lt z. freed k lt; spare = λ k le lt. freed k lt; root = λ is. absurd (below_root a is) }

  -- another partition, but for the slot
  in_part : (j k : ℕ) → Owns (view w) (inode_count w) j → j ≢ number → k < part_bytes (inode (view w) j).level → (j ≡ dir → (k < offset) ⊎ (offset + 256 ≤ k))
      → view new ((inode (view w) j).base + k) ≡ view w ((inode (view w) j).base + k)
  in_part j k owns other lt beside =
      let room = room_of w a.rest.sound owns in
      let base_low : 10 * 2 ^ 39 ≤ (inode (view w) j).base = room.part.low in
      let most : number ≤ 1048576 = omega (arith, few a, (object_live a).number.to) in
      r.others ((inode (view w) j).base + k) (record {
        side = inr (omega (arith, base_low));
        object = inr (omega (arith, base_low, most));
        slot = elim (cases_eq j dir) [
          | inl is ↦
              let base : (inode (view w) j).base ≡ (inode (view w) dir).base = ap (λ i. (inode (view w) i).base) is in
              elim (beside is) [ inl before ↦ inl (omega (arith, base, before)) | inr past ↦ inr (omega (arith, base, past)) ]
          | inr away ↦ elim (a.rest.sound apart j dir owns (dir_owns a) away) [
            | inl before ↦ inl (omega (arith, before, lt))
            | inr after ↦ inr (omega (arith, after, slot_ends a, (dir_room a).size))
          ]
        ];
        part = λ owner inside. elim (a.rest.sound apart j number owns owner other) [
          | inl before ↦ omega (arith, before, lt, inside.from)
          | inr after ↦ omega (arith, after, inside.to)
        ];
      })

  space : HasSpace (view w) (inode_count w)
  space = record {
    few = few a;
    inodes = a.rest.sound inodes;
    placed = a.rest.sound placed;
    apart = a.rest.sound apart;
    tails = a.rest.sound tails;
    headers = a.rest.sound headers;
    rest = a.rest.sound rest;
  }

  pub vacates : Vacates (view w) (view new) (inode_count w) number
  vacates = record {
    space = space;
    number = (object_live a).number;
    words = words;
    lawful = lawful;
    none = λ used. absurd (used (freed 0 (omega arith)));
    past = λ j k other owns from to. in_part j k owns other to (λ is. inr (omega (arith, slot_ends a, from, ap (λ i. (inode (view w) i).size) is)));
    headers = r.headers;
    rest = λ v lt out. low v lt (elim out [
      | inl first ↦ inl (omega (arith, first, (object_live a).number.from))
      | inr past ↦ inr (omega (arith, past, (object_live a).number.to))
    ]) ∙ a.rest.sound rest v lt out;
  }

  -- ---- the objects

  others_same : (j : ℕ) → IsNumber (inode_count w) j → j ≢ dir → j ≢ number → SameObject (view w) (view new) j
  others_same j counted away other = record {
    kind = words j 0 counted other (omega arith);
    size = words j 1 counted other (omega arith);
    bytes = λ k lt. ap (λ base. view new (base + k)) (words j 2 counted other (omega arith)) ∙ elim (cases_eq (inode (view w) j).kind 0) [
      | inl free ↦ absurd (omega (arith, lt, (a.rest.sound inodes j counted).free 1 (omega arith) free))
      | inr used ↦ elim (a.rest.sound placed j (record { number = counted; used = used })).place [
        | inl none_there ↦ absurd (omega (arith, lt, none_there.size))
        | inr room ↦ in_part j k (record { live = record { number = counted; used = used }; level = room.part.level }) other (omega (arith, lt, room.size)) (λ is. absurd (away is))
      ]
    ];
  }

  empties : Empties (view new) dir (object (view w) dir) offset
  empties =
      let base : (inode (view new) dir).base ≡ (inode (view w) dir).base = words dir 2 (dir_live a).number (dir_other a) (omega arith) in
      record {
        kind = words dir 0 (dir_live a).number (dir_other a) (omega arith);
        size = words dir 1 (dir_live a).number (dir_other a) (omega arith);
        zero = λ k lt below. ap (view new) (omega (arith, base)) ∙ r.slot k lt;
        kept = λ k lt out.
            ap (λ x. view new (x + k)) base ∙ in_part dir k (dir_owns a) (dir_other a) (omega (arith, lt, (dir_room a).size)) (λ is. out)
            ∙ sym (content-at (view w) (inode (view w) dir).base (inode (view w) dir).size k lt);
      }

  pub files_are : files new ≡ removed (files w) dir offset number
  files_are =
      ap (objects (view new)) count_same
      ∙ removed_objects (view w) (view new) (inode_count w) dir offset number (dir_live a).number (object_live a).number (dir_other a) empties (freed 0 (omega arith)) (freed 1 (omega arith)) others_same

  -- ---- the tree

  one_tree : (t : Tree) × OneTree (files new) t
  one_tree =
      let least : 1 ≤ inode_count w = omega (arith, a.rest.head.inodes.0) in
      let there = sound_stands w least a.rest.sound in
      let forest = sound_forest w there.0 least a.rest.sound there.1 there.2 in
      let x = slot_name (files w dir) offset in
      let e : Entered (files w) dir offset number a.leaf.way (slot_name (files w dir) offset) = record { leads = a.leaf.leads; slot = a.leaf.slot; child = a.leaf.child; name = refl } in
      let tail : HasTail (files w dir) = subst HasTail (sym (dir_object a)) (object_tail (view w) dir) in
      let way = entered e forest in
      let after = forest_removed forest e tail (node_bare (files w) number way.node way.stands a.leaf.bare) in
      (Rattle.ct_tree.specs.Resolve.cut there.0 (a.leaf.way ++ (slot_name (files w dir) offset ∷ [])), subst (λ fs. OneTree fs (Rattle.ct_tree.specs.Resolve.cut there.0 (a.leaf.way ++ (slot_name (files w dir) offset ∷ [])))) (sym files_are) after)

  -- ---- the rules

  on : (P : (ℕ → ℕ) → ℕ → Type 0) → P (view new) (inode_count w) → P (view new) (inode_count new)
  on P h = subst (P (view new)) (sym count_same) h

  mapped_now : IsMappedInParts new (view new) (inode_count w)
  mapped_now = vacated_mapped vacates w new (a.rest.sound mapped) (λ p from. elim (inside_or a p) [
    | inl inside ↦ inr (r.unmapped inside.0 p inside.1)
    | inr out ↦ inl (r.pages p from out)
  ]) (λ p owns inside. r.unmapped owns p inside)

  pub removed_whole : IsWhole new
  removed_whole = record { tables = r.tables; mapped = on (IsMappedInParts new) mapped_now }

  pub removed_space : HasSpace (view new) (inode_count new)
  removed_space = on HasSpace (vacated_space vacates)

  pub removed_sound : Sound new
  removed_sound entries = λ d x j ld lt seen. r.tables.entries d x j ld lt
  removed_sound once = λ d x e y ld lf seen seen'. r.tables.once d x e y ld lf
  removed_sound inodes = removed_space.inodes
  removed_sound placed = removed_space.placed
  removed_sound apart = removed_space.apart
  removed_sound tails = removed_space.tails
  removed_sound mapped = removed_whole.mapped
  removed_sound headers = removed_space.headers
  removed_sound rest = removed_space.rest
  removed_sound slots = (forest_rules new one_tree.0 one_tree.1).0
  removed_sound names = (forest_rules new one_tree.0 one_tree.1).1
  removed_sound named = (forest_rules new one_tree.0 one_tree.1).2
  removed_sound reached = (forest_rules new one_tree.0 one_tree.1).3

  pub removed_settled : IsShut new → IsAtRest new
  removed_settled shut = record { head = head_over a.rest.head r.head r.size shut; sound = removed_sound; shut = shut; tables = r.tables }
