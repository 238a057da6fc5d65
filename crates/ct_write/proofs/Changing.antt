-- The bytes of one file change inside its partition, and its size: the rules, the file and the tree after that.
use Rattle.std.proofs.Common.{◌≡◌, ℕ, ◌+◌, ◌*◌, ◌^◌, ◌<◌, ◌≤◌, List, [], length, sym, ap, subst, ◌∙◌, inl, inr, arith}
use Rattle.std.specs.Prelude.{slice_index}
use Rattle.std.proofs.lemmas.Bool.{cases_lt}
use Rattle.std.proofs.lemmas.List.{get_or_past}
use Rattle.ct_base.specs.declared.inode.Inode.{Inode}
use Rattle.ct_base.specs.Inode.{inode, IsIn, part_bytes}
use Rattle.ct_base.specs.Named.{Leads}
use Rattle.ct_base.specs.Objects.{Object, object, objects}
use Rattle.ct_base.specs.Rules.{Rule, number, HoldsAt, Sound, ArePlaced, AreEntries, AreNamesApart, AreNamed, AreReached, Owns, part_of, entries, once, inodes, placed, apart, tails, mapped, headers, rest, slots, names, named, reached}
use Rattle.ct_base.specs.Settled.{IsShut}
use Rattle.ct_base.specs.View.{view, inode_count}
use Rattle.ct_base.specs.Walk.{word, page_at, AreTables}
use Rattle.ct_grow.specs.Grown.{IsReady}
use Rattle.ct_grow.proofs.Moved.{space_of}
use Rattle.ct_state.specs.Alike.{IsWhole}
use Rattle.ct_state.specs.Leads.{LeadsTo}
use Rattle.ct_state.proofs.Bytes.{content-at, objects-in}
use Rattle.ct_state.proofs.Forests.{once_named, path_up}
use Rattle.ct_state.proofs.Grafts.{tree_graft}
use Rattle.ct_state.proofs.Paths.{Path}
use Rattle.ct_state.proofs.Puts.{onto}
use Rattle.ct_state.proofs.Write.{HasSpace, WritesFile, owns_on, part-same, space_stays, written as object_written}
use Rattle.ct_state.proofs.Written.{entries_stay, names_apart_stay, named_stay, reached_stay}
use Rattle.ct_tree.specs.Lands.{files}
use Rattle.ct_tree.specs.Ordered.{IsTree}
use Rattle.ct_tree.specs.Resolve.{put}
use Rattle.ct_tree.specs.Stands.{IsFile, Stands}
use Rattle.ct_tree.specs.Tree.{Tree, File}

-- File i changes so, on words where a call may begin, and past root slot 10 no walk off its partition.
pub record Changing (old new : List ℕ) (i : ℕ) : Type 0 where
  pub ready : IsReady old
  pub writes : WritesFile (view old) (view new) (inode_count old) i
  pub inodes : inode_count new ≡ inode_count old
  pub pages : (p : ℕ) → 10 * 2 ^ 27 ≤ p → (IsIn (part_of (view old) i) (p * 4096) → ⊥) → page_at new 4 p ≡ page_at old 4 p

module _ {old new : List ℕ} {i : ℕ} (c : Changing old new i) where
  abbrev f : Inode
  f = inode (view old) i

  unmapped : (p : ℕ) → 10 * 2 ^ 27 ≤ p → ((j : ℕ) → Owns (view new) (inode_count new) j → IsIn (part_of (view new) j) (p * 4096) → ⊥) → page_at new 4 p ≡ 0
  unmapped p low out =
      let not_in : (j : ℕ) → Owns (view old) (inode_count old) j → IsIn (part_of (view old) j) (p * 4096) → ⊥ =
      λ j owns inside. out j (subst (λ k. Owns (view new) k j) (sym c.inodes) (owns_on c.writes j owns))
      (subst (λ q. IsIn q (p * 4096)) (sym (part-same c.writes j owns.live.number)) inside) in
      c.pages p low (λ inside. not_in i c.writes.owns inside) ∙ c.ready.rules mapped (omega arith) p low not_in

  pub changed_whole : AreTables new → IsWhole new
  changed_whole tables = record { tables = tables; mapped = unmapped }

  space_now : HasSpace (view new) (inode_count new)
  space_now = subst (λ (k : ℕ). HasSpace (view new) k) (sym c.inodes) (space_stays c.writes)

  rules_now : AreTables new → (r : Rule) → number r ≤ 16 → HoldsAt new r
  rules_now t entries le = λ d x j ld lt seen. t.entries d x j ld lt
  rules_now t once le = λ d x e y ld lf seen seen'. t.once d x e y ld lf
  rules_now t inodes le = space_now.inodes
  rules_now t placed le = space_now.placed
  rules_now t apart le = space_now.apart
  rules_now t tails le = space_now.tails
  rules_now t mapped le = unmapped
  rules_now t headers le = space_now.headers
  rules_now t rest le = space_now.rest
  rules_now t slots le = absurd (omega arith)
  rules_now t names le = absurd (omega arith)
  rules_now t named le = absurd (omega arith)
  rules_now t reached le = absurd (omega arith)

  pub changed_ready : AreTables new → IsShut new → word new 16898 ≡ 0 → IsReady new
  changed_ready tables shut unstaged = record {
    tables = tables;
    shut = shut;
    unstaged = unstaged;
    rules = rules_now tables;
    inodes = (omega (arith, c.inodes, c.ready.inodes.0), omega (arith, c.inodes, c.ready.inodes.1));
  }

  pub changed_placed : ArePlaced (view new) (inode_count new)
  changed_placed = space_now.placed

  back : (P : (ℕ → ℕ) → ℕ → Type 0) → P (view new) (inode_count old) → P (view new) (inode_count new)
  back P h = subst (λ k. P (view new) k) (sym c.inodes) h

  -- none of the rules fails
  pub changed_sound : AreTables new → Sound old → Sound new
  changed_sound t sound entries = rules_now t entries (omega arith)
  changed_sound t sound once = rules_now t once (omega arith)
  changed_sound t sound inodes = rules_now t inodes (omega arith)
  changed_sound t sound placed = rules_now t placed (omega arith)
  changed_sound t sound apart = rules_now t apart (omega arith)
  changed_sound t sound tails = rules_now t tails (omega arith)
  changed_sound t sound mapped = rules_now t mapped (omega arith)
  changed_sound t sound headers = rules_now t headers (omega arith)
  changed_sound t sound rest = rules_now t rest (omega arith)
  changed_sound t sound slots = back (λ b k. AreEntries (objects b k)) (entries_stay (object_written c.writes) (sound slots))
  changed_sound t sound names = back (λ b k. AreNamesApart (objects b k)) (names_apart_stay (object_written c.writes) (sound names))
  changed_sound t sound named = back (λ b k. AreNamed (objects b k)) (named_stay (object_written c.writes) (sound named))
  changed_sound t sound reached = back (λ b k. AreReached (objects b k)) (reached_stay (object_written c.writes) (sound reached))

  -- ---- the file

  same_base : (inode (view new) i).base ≡ f.base
  same_base = ap (λ p. p.base) (part-same c.writes i c.writes.owns.live.number)

  -- what the partition had
  pub bytes_had : (was : List ℕ) → IsFile (files old i) was → (k : ℕ) → k < part_bytes f.level → view old (f.base + k) ≡ slice_index was k
  bytes_had was is k small =
      let had : IsFile (object (view old) i) was = subst (λ o. IsFile o was) (objects-in (view old) (inode_count old) i c.writes.owns.live.number) is in
      elim (cases_lt k f.size) [
        | inl less ↦ sym (content-at (view old) f.base f.size k less) ∙ had.all k (omega (arith, had.size))
        | inr more ↦ (space_of old c.ready).tails i c.writes.owns k more small ∙ sym (get_or_past was k 0 (omega (arith, had.size)))
      ]

  pub size_had : (was : List ℕ) → IsFile (files old i) was → f.size ≡ length was
  size_had was is = (subst (λ o. IsFile o was) (objects-in (view old) (inode_count old) i c.writes.owns.live.number) is).size

  -- and what the file has
  pub file_now : (now : List ℕ) → (inode (view new) i).size ≡ length now → ((k : ℕ) → k < (inode (view new) i).size → view new (f.base + k) ≡ slice_index now k) → IsFile (files new i) now
  file_now now size bytes =
      let live = c.writes.owns.live in
      let object_new : files new i ≡ object (view new) i = ap (λ k. objects (view new) k i) c.inodes ∙ objects-in (view new) (inode_count old) i live.number in
      subst (λ o. IsFile o now) (sym object_new) (record {
        kind = sym (ap (λ (o : Object). o.kind) (objects-in (view new) (inode_count old) i live.number)) ∙ (object_written c.writes).is;
        size = size;
        all = λ k lt. content-at (view new) (inode (view new) i).base (inode (view new) i).size k (omega (arith, size, lt)) ∙ ap (λ x. view new (x + k)) same_base ∙ bytes k (omega (arith, size, lt));
      })

  -- the tree is that of the file's new bytes
  pub changed_stands : Sound old → (rs xs : List (List ℕ)) (t : Tree) (was now : List ℕ) → Path (files old) rs i → rs ≡ onto xs [] → Leads (files old) 1 xs i → LeadsTo t xs (File was) → IsTree t
      → Stands (files old) 1 t → IsFile (files new i) now → Stands (files new) 1 (put t xs (File now))
  changed_stands sound rs xs t was now way on leads to tree st is =
      let files_new : files new ≡ objects (view new) (inode_count old) = ap (objects (view new)) c.inodes in
      let o = object_written c.writes in
      subst (λ fs. Stands fs 1 (put t xs (File now))) (sym files_new)
      (tree_graft (λ j other. o.others j other) (once_named (sound slots) (sound names) (sound named)) rs (path_up (files old) rs i way) xs t (File was) (File now) on leads to tree st
      (subst (λ fs. IsFile (fs i) now) files_new is))
