-- The directory of a path, and what the last name has there: an entry, or a place for one.
use Rattle.std.proofs.Common.{◌≡◌, ◌≢◌, ℕ, zero, suc, ◌+◌, ◌*◌, ◌/◌, ◌%◌, ◌≤◌, inl, inr, true, false, List, [], ◌∷◌, ◌++◌, Bor, Result, Ok, Err, Some, None, refl, sym, ap, ◌∙◌, subst, arith}
use Rattle.std.specs.Prelude.{is_none, ◌==◌}
use Rattle.std.specs.declared.option.Option.{Option}
use Rattle.std.proofs.lemmas.Bool.{cases_Bool, false≢true}
use Rattle.ct_base.specs.declared.inode.Inode.{Inode}
use Rattle.ct_base.specs.Inode.{IsLive, inode, little}
use Rattle.ct_base.specs.Named.{Named}
use Rattle.ct_base.specs.Objects.{Object}
use Rattle.ct_base.specs.Path.{is_name, names_of}
use Rattle.ct_base.specs.Rules.{names as names_apart}
use Rattle.ct_base.specs.Slots.{IsSlot, free_slot, free_slot_from, slot_inode, slot_name}
use Rattle.ct_base.specs.View.{view, inode_count}
use Rattle.ct_dir.specs.Directory.{IsFirst, IsReadable, dir_of}
use Rattle.ct_dir.specs.declared.lookup.Found.{Found}
use Rattle.ct_path.proofs.Refusing.{passes_first}
use Rattle.ct_path.specs.Resolves.{FindsParent, Splits, refusal_of}
use Rattle.ct_path.specs.declared.fault.PathFault.{PathFault}
use Rattle.ct_path.specs.declared.fault.PathFault.TheVariants.{BadPath}
use Rattle.ct_state.proofs.Changes.{entered_leads}
use Rattle.ct_state.proofs.Followed.{followed, leads_resolve}
use Rattle.ct_state.proofs.Passes.{split_last}
use Rattle.ct_state.proofs.Resolve.{stand_lookup}
use Rattle.ct_tree.specs.Checks.{at, first_of, has_none, names, no_dir, parent_at, refuse_if}
use Rattle.ct_tree.specs.Entries.{lookup}
use Rattle.ct_tree.specs.Lands.{files}
use Rattle.ct_tree.specs.Resolve.{and_then, child, last_name, parent, resolve}
use Rattle.ct_tree.specs.Stands.{Stands}
use Rattle.ct_tree.specs.Tree.{Tree, Dir, Entries}
use Rattle.ct_tree.specs.declared.call.Refusal.{Refusal}
use Rattle.ct_tree.specs.declared.call.Refusal.TheVariants.{BadPath as bad, NotFound}
use Rattle.ct_commit.specs.Rest.{IsAtRest, StandsFor}
use Rattle.ct_find.proofs.Living.{dir_is, kind_is, readable_at}
use Rattle.ct_find.specs.Entries.{IsEntryAt, StandsAt}
use Rattle.ct_find.specs.Places.{place_refusal}
use Rattle.ct_find.specs.Spots.{IsNewName}
use Rattle.ct_find.specs.declared.entry.Entry.{Entry}

back : (r : Result Tree Refusal) → and_then r (λ n. Ok n) ≡ r
back (Ok n) = refl
back (Err e) = refl

along : (r : Result Tree Refusal) (f h k : Tree → Result Tree Refusal) → ((n : Tree) → f n ≡ and_then (h n) k) → and_then r f ≡ and_then (and_then r h) k
along (Ok n) f h k same = same n
along (Err e) f h k same = refl

-- what names lead to is what the last of them leads to from what the others do
pub resolve_last : (t : Tree) (x : List ℕ) (xs : List (List ℕ)) → resolve t (x ∷ xs) ≡ and_then (resolve t (parent (x ∷ xs))) (λ n. child n (last_name (x ∷ xs)))
resolve_last t x [] = back (child t x)
resolve_last t x (y ∷ ys) = along (child t x) (λ n. resolve n (y ∷ ys)) (λ n. resolve n (parent (y ∷ ys))) (λ n. child n (last_name (y ∷ ys))) (λ n. resolve_last n y ys)

not_none : (ns : List (List ℕ)) → is_name (last_name ns) ≡ true → has_none ns ≡ false
not_none [] is = absurd (false≢true is)
not_none (x ∷ xs) is = refl

-- the next slot begins at a multiple of 256, and lies below the size or at it
free_bounds : (f : Object) (o n : ℕ) → o % 256 ≡ 0 → (free_slot_from f o n % 256 ≡ 0) × (free_slot_from f o n ≤ o + 256 * n)
unfolding free_slot_from
free_bounds f o zero aligned = (aligned, omega arith)
free_bounds f o (suc n) aligned = elim (cases_Bool (little f.at o 256 == 0)) [
  | inl here ↦ rw here (aligned, omega arith)
  | inr used ↦ let later = free_bounds f (o + 256) n (omega arith) in rw used (later.0, omega (arith, later.1))
]

abbrev no_split : PathFault → Result (ℕ × Bor (List ℕ)) PathFault
no_split fault = Err fault

abbrev split : ℕ → Bor (List ℕ) → Result (ℕ × Bor (List ℕ)) PathFault
split dir name = Ok (dir, name)

-- a path whose parent is not to be found
pub fault_answer : {w path : List ℕ} (fault : PathFault) → Splits (files w) path (Err fault) → (t : Tree) → StandsFor w t → place_refusal t path ≡ Some (refusal_of fault)
fault_answer {w} {path} fault splits t st = by (names_of path) refl
  where
    by : (o : Option (List (List ℕ))) → names_of path ≡ o → place_refusal t path ≡ Some (refusal_of fault)
    by None is =
        let same : fault ≡ BadPath = (let both : no_split fault ≡ no_split BadPath = splits.bad.1 is in cc) in
        ap (λ o. first_of (refuse_if (is_none o) bad ∷ no_dir (parent_at t path) ∷ [])) is ∙ sym (ap (λ f. Some (refusal_of f)) same)
    by (Some ns) is =
        let finds = splits.finds (λ none. (let both : None ≡ Some ns = sym none ∙ is in absurd (cc))) in
        ap (λ o. first_of (refuse_if (is_none o) bad ∷ no_dir (parent_at t path) ∷ [])) is ∙ ap (λ r. first_of (r ∷ [])) (finds.tree t st.tree st.stands)

module _ {w path : List ℕ} {dir : ℕ} {name : Bor (List ℕ)} {d : Inode} (rest : IsAtRest w) (splits : Splits (files w) path (Ok (dir, name))) (live : IsLive (view w) (inode_count w) dir) (is : d ≡ inode (view w) dir) where
  lawful : split dir name ≢ no_split BadPath
  lawful fails = absurd (cc)

  good : names_of path ≢ None
  good none = lawful (splits.bad.1 none)

  finds : FindsParent (files w) (names path) (Ok (dir, name))
  finds = splits.finds good

  below : has_none (names path) ≡ false
  below = not_none (names path) (ap is_name (sym finds.name) ∙ finds.valid)

  object_is : dir_of w d ≡ files w dir
  object_is = dir_is rest live (sym is)

  dir_kind : d.kind ≡ 2
  dir_kind = sym (kind_is rest live (sym is)) ∙ finds.dir

  pub dir_readable : IsReadable w d
  dir_readable = readable_at rest live (sym is) dir_kind

  -- the tree has the directory
  pub dir_answer : (t : Tree) → StandsFor w t → place_refusal t path ≡ None
  dir_answer t st =
      ap (λ q. first_of (q ∷ no_dir (parent_at t path) ∷ [])) (passes_first path (split dir name) splits.bad lawful)
      ∙ ap (λ n. first_of (no_dir n ∷ [])) (finds.tree t st.tree st.stands).1

  -- an entry has the name
  pub entry_found : (found : Found) → IsFirst (dir_of w d) name.now found → IsEntryAt w path (record { dir = dir; offset = found.offset; number = found.inode })
  entry_found found first = record {
    good = good;
    ends = split_last (names path) below;
    entered = record {
      leads = finds.leads;
      slot = subst (λ f. IsSlot f found.offset) object_is first.slot;
      child = subst (λ f. slot_inode f found.offset ≡ found.inode) object_is first.inode;
      name = subst (λ f. slot_name f found.offset ≡ name.now) object_is first.name ∙ finds.name;
    };
  }

  -- or none has it
  module _ (none : Named (dir_of w d) name.now → ⊥) where
    pub none_there : (t : Tree) → StandsFor w t → at t path ≡ Err NotFound
    none_there t st =
        let p = finds.tree t st.tree st.stands in
        let off : Named (files w dir) name.now → ⊥ = subst (λ f. Named f name.now → ⊥) object_is none in
        at_names (names path) below p.1 (ap (λ x. lookup x p.0) (sym finds.name) ∙ free (lookup name.now p.0) refl off p.2)
      where
        free : (o : Option Tree) {es : Entries} → lookup name.now es ≡ o → (Named (files w dir) name.now → ⊥) → Stands (files w) dir (Dir es) → lookup name.now es ≡ None
        free None e off st = e
        free (Some node) {es = es} e off st = absurd (off (stand_lookup (files w) (files w dir) name.now node es st.1 e).slot)

        at_names : (ns : List (List ℕ)) → has_none ns ≡ false → {es : Entries} → resolve t (parent ns) ≡ Ok (Dir es) → lookup (last_name ns) es ≡ None → resolve t ns ≡ Err NotFound
        at_names [] below' found gone = absurd (cc)
        at_names (x ∷ xs) below' found gone = resolve_last t x xs ∙ rw (found, gone) refl

    pub spot_found : (offset : ℕ) → offset ≡ free_slot (dir_of w d) → IsNewName w path dir d offset name.now
    spot_found offset first =
        let whole : d.size % 256 ≡ 0 = dir_readable.placed.slots dir_kind in
        let bounds = free_bounds (dir_of w d) 0 (d.size / 256) (omega arith) in
        record {
          parent = finds.leads;
          last = finds.name;
          lawful = finds.valid;
          next = record {
            live = live;
            is = sym is;
            kind = dir_kind;
            aligned = omega (arith, first, bounds.0);
            within = omega (arith, first, bounds.1, whole);
            first = first ∙ ap free_slot object_is;
          };
          fresh = λ k slot named. none (subst (λ f. Named f name.now) (sym object_is) (record { offset = k; slot = slot; name = named }));
        }

-- the tree has a node where an entry is
pub entry_stands : {w path : List ℕ} {e : Entry} → IsAtRest w → IsEntryAt w path e → (t : Tree) → StandsFor w t → StandsAt w path t e.number
entry_stands {w} {path} {e} rest is t st =
    let xs = parent (names path) ++ (last_name (names path) ∷ []) in
    let way = followed (files w) (rest.sound names_apart) 1 e.number xs t st.tree st.stands (entered_leads is.entered) in
    record { node = way.node; is = ap (resolve t) is.ends ∙ leads_resolve t xs way.node way.to; stands = way.stands }
