-- After the record of a create the image stands for the tree with the new node.
use Rattle.std.proofs.Common.{◌≡◌, ◌≢◌, ℕ, ◌*◌, ◌≤◌, true, List, [], ◌∷◌, ◌++◌, length, refl, sym, ap, ◌∙◌, subst, arith}
use Rattle.ct_base.specs.Inode.{inode, IsIn}
use Rattle.ct_base.specs.Named.{Leads}
use Rattle.ct_base.specs.Objects.{Object, object, objects}
use Rattle.ct_base.specs.Path.{is_name}
use Rattle.ct_base.specs.Rules.{entries, once, inodes, placed, apart, tails, mapped, headers, rest, slots, names, named, reached, Sound, Owns, AreInodes, ArePlaced, ArePartsApart, AreTailsZero, AreHeaders, IsRestZero, AreEntries, AreNamesApart, AreNamed, AreReached}
use Rattle.ct_base.specs.Slots.{IsSlot, slot_name}
use Rattle.ct_base.specs.View.{view, inode_count}
use Rattle.ct_base.specs.Walk.{page_at, AreTables}
use Rattle.ct_tree.specs.Lands.{files}
use Rattle.ct_tree.specs.Ordered.{IsTree}
use Rattle.ct_tree.specs.Resolve.{put}
use Rattle.ct_tree.specs.Stands.{Stands}
use Rattle.ct_tree.specs.Tree.{Tree, File, Dir, none}
use Rattle.ct_state.specs.Alike.{IsWhole}
use Rattle.ct_state.specs.Leads.{LeadsTo}
use Rattle.ct_state.proofs.Adds.{Adds}
use Rattle.ct_state.proofs.Added.{adds_trees, adds_stands}
use Rattle.ct_state.proofs.Addressed.{empty_is}
use Rattle.ct_state.proofs.Bytes.{objects-in}
use Rattle.ct_state.proofs.Forests.{trees_of, forest_of, named_of, reached_of}
use Rattle.ct_state.specs.Forest.{AreTrees}
use Rattle.ct_state.proofs.Entry.{MakesEntry, entry_space, entry_adds, owns_on, part-same, free_old}

pub record Creates (old new : List ℕ) (d o i : ℕ) (x : List ℕ) : Type 0 where
  pub whole : IsWhole old
  pub sound : Sound old
  pub makes : MakesEntry (view old) (view new) (inode_count old) d o i x
  pub tables : AreTables new
  pub pages : (p : ℕ) → page_at new 4 p ≡ page_at old 4 p
  pub inodes : inode_count new ≡ inode_count old
  pub unused : IsSlot (files old d) o → ⊥
  pub name : is_name x ≡ true
  pub few : length x ≤ 248
  pub fresh : (k : ℕ) → IsSlot (files old d) k → slot_name (files old d) k ≢ x
  pub root : (files old 1).kind ≡ 2

module _ {old new : List ℕ} {d o i : ℕ} {x : List ℕ} (c : Creates old new d o i x) where
  adds : Adds (files old) (objects (view new) (inode_count old)) d o i x
  adds = entry_adds c.makes (record {
    entries = c.sound slots;
    apart = c.sound names;
    named = c.sound named;
    reached = c.sound reached;
    root = c.root;
    unused = c.unused;
    name = c.name;
    few = c.few;
    fresh = c.fresh;
  })

  made_object : objects (view new) (inode_count old) i ≡ record { kind = (inode (view new) i).kind; size = 0; at = λ k. 0 }
  made_object = objects-in (view new) (inode_count old) i c.makes.number ∙ empty_is (view new) i (inode (view new) i).kind refl c.makes.size

  trees : AreTrees (objects (view new) (inode_count old)) 1
  trees = adds_trees adds made_object

  back : (P : (ℕ → ℕ) → ℕ → Type 0) → P (view new) (inode_count old) → P (view new) (inode_count new)
  back P h = subst (λ k. P (view new) k) (sym c.inodes) h

  pub created_whole : IsWhole new
  created_whole = record {
    tables = c.tables;
    mapped = λ p low out. c.pages p ∙ c.whole.mapped p low (λ j owns inside.
        out j (subst (λ k. Owns (view new) k j) (sym c.inodes) (owns_on c.makes j owns))
        (subst (λ q. IsIn q (p * 4096)) (sym (part-same c.makes j owns.live.number (free_old c.makes j owns))) inside));
  }

  pub created_sound : Sound new
  created_sound entries = λ d x j le lt seen. c.tables.entries d x j le lt
  created_sound once = λ d x e y le lf seen seen'. c.tables.once d x e y le lf
  created_sound mapped = created_whole.mapped
  created_sound inodes = back (λ b k. AreInodes b k) (entry_space c.makes).inodes
  created_sound placed = back (λ b k. ArePlaced b k) (entry_space c.makes).placed
  created_sound apart = back (λ b k. ArePartsApart b k) (entry_space c.makes).apart
  created_sound tails = back (λ b k. AreTailsZero b k) (entry_space c.makes).tails
  created_sound headers = back (λ b k. AreHeaders b k) (entry_space c.makes).headers
  created_sound rest = back (λ b k. IsRestZero b k) (entry_space c.makes).rest
  created_sound slots = back (λ b k. AreEntries (objects b k)) trees.entries
  created_sound names = back (λ b k. AreNamesApart (objects b k)) trees.apart
  created_sound named = back (λ b k. AreNamed (objects b k)) (named_of trees)
  created_sound reached = back (λ b k. AreReached (objects b k)) (reached_of trees)

  files_new : files new ≡ objects (view new) (inode_count old)
  files_new = ap (objects (view new)) c.inodes

  new_object : files new i ≡ object (view new) i
  new_object = ap (λ fs. fs i) files_new ∙ objects-in (view new) (inode_count old) i c.makes.number

  -- a new file is empty, and so is a new directory
  pub new_file : (inode (view new) i).kind ≡ 1 → Stands (files new) i (File [])
  new_file is = record {
    kind = ap (λ (f : Object). f.kind) new_object ∙ is;
    size = ap (λ (f : Object). f.size) new_object ∙ c.makes.size;
    all = λ k lt. absurd (omega arith);
  }

  pub new_dir : (inode (view new) i).kind ≡ 2 → Stands (files new) i (Dir none)
  new_dir is = (
    record {
      kind = ap (λ (f : Object). f.kind) new_object ∙ is;
      names = λ k s. omega (arith, s.below, ap (λ (f : Object). f.size) new_object, c.makes.size);
    },
    tt,
  )

  -- the tree with the new node at its path
  pub created_stands : (xs : List (List ℕ)) (t leaf : Tree) (es : Rattle.ct_tree.specs.Tree.Entries) → IsTree t → Stands (files old) 1 t → Stands (files old) d (Dir es) → Leads (files old) 1 xs d → LeadsTo t xs (Dir es)
      → Stands (files new) i leaf → Stands (files new) 1 (put t (xs ++ (x ∷ [])) leaf)
  created_stands xs t leaf es tree st was leads to made =
      let f = forest_of (trees_of (c.sound slots) (c.sound names) (c.sound named) (c.sound reached) c.root) tree st in
      subst (λ fs. Stands fs 1 (put t (xs ++ (x ∷ [])) leaf)) (sym files_new) (adds_stands adds made_object xs leaf f leads (subst (λ fs. Stands fs i leaf) files_new made))
