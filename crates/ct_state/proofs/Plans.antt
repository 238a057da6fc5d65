-- Exactly one plan for each call that is not refused.
use Rattle.std.proofs.Common.{◌≡◌, ◌≢◌, ◌∙◌, ℕ, ◌<◌, ◌≤◌, List, [], ◌∷◌, ◌++◌, length, refl, sym, ap, subst, arith, inl, inr, Some, None, Option, Ok, Err, Result, Bool, true, false}
use Rattle.std.specs.Prelude.{◌+◌, ◌⊎◌, ◌==◌, if◌then◌else◌}
use Rattle.std.specs.Str.{bytes_eq}
use Rattle.ct_base.specs.Inode.{inode}
use Rattle.ct_base.specs.Named.{Leads}
use Rattle.ct_base.specs.Plan.{Plan, no_plan, plan_of, give_up_wants, first_free_number, create_plan, entry_plan, write_plan, truncate_plan, exchange_plan}
use Rattle.ct_base.specs.Rules.{Sound, names as names_rule}
use Rattle.ct_base.specs.Slots.{free_slot}
use Rattle.ct_base.specs.View.{view, inode_count}
use Rattle.ct_tree.specs.Checks.{first_of, names, bad_path, is_root, no_node, no_file, no_dir, is_dir, exists, has_entries, has_none, at, parent_at, into_self, in_the_way, bad_range, overlap, above}
use Rattle.ct_tree.specs.Lands.{files}
use Rattle.ct_tree.specs.Need.{IsAt, IsParentAt, PlansCreate, PlansWrite, PlansRemoval, PlansNewName, PlansRename, HasPlan}
use Rattle.ct_tree.specs.Ordered.{IsTree}
use Rattle.ct_tree.specs.Resolve.{resolve, parent, last_name}
use Rattle.ct_tree.specs.Runs.{MakesNode}
use Rattle.ct_tree.specs.Stands.{Stands}
use Rattle.ct_tree.specs.Step.{Op, create, mkdir, write, fill, append, read, truncate, unlink, rmdir, rename, exchange, stat, list, locate, refusal, exchange_limit, file_limit, size_at}
use Rattle.ct_tree.specs.Tree.{Tree, File, Dir, nodes}
use Rattle.ct_tree.specs.declared.call.Refusal.{Refusal}
use Rattle.ct_tree.specs.declared.call.Refusal.TheVariants.{Exists, IsRoot, TooBig, TooLong}
use Rattle.ct_state.specs.Leads.{LeadsTo}
use Rattle.ct_state.proofs.Followed.{followed, leads_resolve, resolve_leads}
use Rattle.ct_state.proofs.LiveNodes.{room_some}
use Rattle.ct_state.proofs.Passes.{dir_there, node_there, split_last}
use Rattle.ct_state.proofs.Resolve.{resolved, leads_once}
use Rattle.ct_tree.proofs.Steps.{first_none, not_refused, file_at}

-- ---- one at most

module _ (img : List ℕ) (sound : Sound img) where
  at_once : (path : List ℕ) (i j : ℕ) → IsAt img path i → IsAt img path j → i ≡ j
  at_once path i j a b = leads_once (files img) (sound names_rule) 1 i j (names path) a b

  parent_once : (path : List ℕ) (i j : ℕ) → IsParentAt img path i → IsParentAt img path j → i ≡ j
  parent_once path i j a b = leads_once (files img) (sound names_rule) 1 i j (parent (names path)) a b

  create_once : (path : List ℕ) (p q : Plan) → PlansCreate img path p → PlansCreate img path q → p ≡ q
  create_once path p q a b =
      let e = parent_once path a.0 b.0 a.2 b.2 in
      let n : a.1 ≡ b.1 = let is : Some a.1 ≡ Some b.1 = sym a.3 ∙ b.3 in cc in
      a.4 ∙ ap (λ i. create_plan (view img) (inode_count img) (inode (view img) i) (free_slot (files img i)) a.1) e
      ∙ ap (λ n. create_plan (view img) (inode_count img) (inode (view img) b.0) (free_slot (files img b.0)) n) n ∙ sym b.4

  by_object : (path : List ℕ) (plan : ℕ → Plan) (p q : Plan) → (i : ℕ) × IsAt img path i × (p ≡ plan i) → (i : ℕ) × IsAt img path i × (q ≡ plan i) → p ≡ q
  by_object path plan p q a b = a.2 ∙ ap plan (at_once path a.0 b.0 a.1 b.1) ∙ sym b.2

  removal_once : (path : List ℕ) (p q : Plan) → PlansRemoval img path p → PlansRemoval img path q → p ≡ q
  removal_once path p q a b = by_object path (λ i. plan_of (give_up_wants (inode (view img) i))) p q a b

  new_name_once : (path to : List ℕ) (p q : Plan) → PlansNewName img path to p → PlansNewName img path to q → p ≡ q
  new_name_once path to p q a b =
      let plan : ℕ → ℕ → Plan = λ i k. if i == k then no_plan else entry_plan (view img) (inode_count img) (inode (view img) k) (free_slot (files img k)) [] in
      a.1.4 ∙ ap (λ i. plan i a.1.1) (parent_once path a.1.0 b.1.0 a.1.2 b.1.2) ∙ ap (plan b.1.0) (parent_once to a.1.1 b.1.1 a.1.3 b.1.3) ∙ sym b.1.4

  placed_once : (path to : List ℕ) (p q : Plan) → PlansRemoval img to p ⊎ PlansNewName img path to p → PlansRemoval img to q ⊎ PlansNewName img path to q → p ≡ q
  placed_once path to p q (inl a) (inl b) = removal_once to p q a b
  placed_once path to p q (inl a) (inr b) = absurd (b.0 a.0 a.1)
  placed_once path to p q (inr a) (inl b) = absurd (a.0 b.0 b.1)
  placed_once path to p q (inr a) (inr b) = new_name_once path to p q a b

  rename_once : (path to : List ℕ) (p q : Plan) → PlansRename img path to p → PlansRename img path to q → p ≡ q
  rename_once path to p q (inl a) (inl b) = a.1 ∙ sym b.1
  rename_once path to p q (inl a) (inr b) = let no : true ≡ false = sym a.0 ∙ b.0 in cc
  rename_once path to p q (inr a) (inl b) = let no : true ≡ false = sym b.0 ∙ a.0 in cc
  rename_once path to p q (inr a) (inr b) = placed_once path to p q a.1 b.1

  pub plan_once : (op : Op) (p q : Plan) → HasPlan img op p → HasPlan img op q → p ≡ q
  plan_once (create path) p q a b = create_once path p q a b
  plan_once (mkdir path) p q a b = create_once path p q a b
  plan_once (write path off bytes) p q a b = by_object path (λ i. write_plan (view img) (inode_count img) (inode (view img) i) off (length bytes)) p q a b
  plan_once (fill path off len byte) p q a b = by_object path (λ i. write_plan (view img) (inode_count img) (inode (view img) i) off len) p q a b
  plan_once (append path bytes) p q a b = by_object path (λ i. write_plan (view img) (inode_count img) (inode (view img) i) (inode (view img) i).size (length bytes)) p q a b
  plan_once (read path off len) p q a b = a ∙ sym b
  plan_once (truncate path len) p q a b = by_object path (λ i. truncate_plan (view img) (inode_count img) (inode (view img) i) len) p q a b
  plan_once (unlink path) p q a b = removal_once path p q a b
  plan_once (rmdir path) p q a b = removal_once path p q a b
  plan_once (rename path to) p q a b = rename_once path to p q a b
  plan_once (exchange path off other other_off len) p q a b =
      let plan : ℕ → ℕ → Plan = λ i j. if len == 0 then no_plan else exchange_plan (inode (view img) i) off (inode (view img) j) other_off len in
      a.4 ∙ ap (λ i. plan i a.1) (at_once path a.0 b.0 a.2 b.2) ∙ ap (plan b.0) (at_once other a.1 b.1 a.3 b.3) ∙ sym b.4
  plan_once (stat path) p q a b = a ∙ sym b
  plan_once (list path) p q a b = a ∙ sym b
  plan_once (locate path) p q a b = a ∙ sym b

-- ---- one at least

-- names lead to where all but the last lead
leads_front : (t : Tree) (xs : List (List ℕ)) (x : List ℕ) (n : Tree) → LeadsTo t (xs ++ (x ∷ [])) n → (m : Tree) × LeadsTo t xs m
unfolding LeadsTo
leads_front t [] x n to = (t, refl)
leads_front t (y ∷ ys) x n to = let rest = leads_front to.0 ys x n to.2 in (rest.0, (to.0, to.1, rest.1))

module _ (img : List ℕ) (t : Tree) (sound : Sound img) (is : IsTree t) (st : Stands (files img) 1 t) where
  -- what a path leads to in the tree has an object
  has_object : (xs : List (List ℕ)) (n : Tree) → resolve t xs ≡ Ok n → (i : ℕ) × Leads (files img) 1 xs i
  has_object xs n h = let found = resolved (files img) 1 xs t n st (resolve_leads t xs n h) in (found.object, found.leads)

  has_file : (path : List ℕ) → no_file (at t path) ≡ None → (i : ℕ) × IsAt img path i
  has_file path h = let f = file_at (at t path) h in has_object (names path) (File f.0) f.1

  has_dir : (xs : List (List ℕ)) → no_dir (resolve t xs) ≡ None → (i : ℕ) × Leads (files img) 1 xs i
  has_dir xs h = let d = dir_there (resolve t xs) h in has_object xs (Dir d.0) d.1

  has_node : (path : List ℕ) → no_node (at t path) ≡ None → (i : ℕ) × IsAt img path i
  has_node path h = let n = node_there (at t path) h in has_object (names path) n.0 n.1

  has_parent : (path : List ℕ) → has_none (names path) ≡ false → no_node (at t path) ≡ None → (i : ℕ) × IsParentAt img path i
  has_parent path below h =
      let n = node_there (at t path) h in
      let to = subst (λ xs. LeadsTo t xs n.0) (split_last (names path) below) (resolve_leads t (names path) n.0 n.1) in
      let front = leads_front t (parent (names path)) (last_name (names path)) n.0 to in
      has_object (parent (names path)) front.0 (leads_resolve t (parent (names path)) front.0 front.1)

  -- where the tree has nothing no object is
  no_object_at : (path : List ℕ) (e : Refusal) → at t path ≡ Err e → (i : ℕ) → IsAt img path i → ⊥
  no_object_at path e h i leads =
      let found = followed (files img) (sound names_rule) 1 i (names path) t is st leads in
      let no : Ok found.node ≡ Err e = sym (leads_resolve t (names path) found.node found.to) ∙ h in cc

  create_plan_there : (path : List ℕ) → refusal t (create path) ≡ None → nodes t < inode_count img → (p : Plan) × PlansCreate img path p
  create_plan_there path h few =
      let a = first_none (bad_path path) (is_root path Exists ∷ no_dir (parent_at t path) ∷ exists t path ∷ []) h in
      let b = first_none (is_root path Exists) (no_dir (parent_at t path) ∷ exists t path ∷ []) a.1 in
      let c = first_none (no_dir (parent_at t path)) (exists t path ∷ []) b.1 in
      let d = has_dir (parent (names path)) c.0 in
      let number = room_some img t sound is st few in
      (create_plan (view img) (inode_count img) (inode (view img) d.0) (free_slot (files img d.0)) number.0, (d.0, number.0, d.1, number.1, refl))

  file_plan : (path : List ℕ) (n : ℕ) (plan : ℕ → Plan) → first_of (bad_path path ∷ no_file (at t path) ∷ above n file_limit TooBig ∷ []) ≡ None → (p : Plan) × ((i : ℕ) × IsAt img path i × (p ≡ plan i))
  file_plan path n plan h =
      let a = first_none (bad_path path) (no_file (at t path) ∷ above n file_limit TooBig ∷ []) h in
      let b = first_none (no_file (at t path)) (above n file_limit TooBig ∷ []) a.1 in
      let i = has_file path b.0 in
      (plan i.0, (i.0, i.1, refl))

  removal_there : (path : List ℕ) → (i : ℕ) × IsAt img path i → (p : Plan) × PlansRemoval img path p
  removal_there path i = (plan_of (give_up_wants (inode (view img) i.0)), (i.0, i.1, refl))

  placed_there : (path to : List ℕ) (r : Result Tree Refusal) → at t to ≡ r → (i : ℕ) × IsParentAt img path i → (k : ℕ) × IsParentAt img to k → (p : Plan) × (PlansRemoval img to p ⊎ PlansNewName img path to p)
  placed_there path to (Ok n) h from into = let gone = removal_there to (has_object (names to) n h) in (gone.0, inl gone.1)
  placed_there path to (Err e) h from into =
      ((if from.0 == into.0 then no_plan else entry_plan (view img) (inode_count img) (inode (view img) into.0) (free_slot (files img into.0)) []), inr (no_object_at to e h, (from.0, into.0, from.1, into.1, refl)))

  rename_by : (path to : List ℕ) (b : Bool) → bytes_eq path to ≡ b → (p : Plan) × (PlansRemoval img to p ⊎ PlansNewName img path to p) → (p : Plan) × PlansRename img path to p
  rename_by path to true h placed = (no_plan, inl (h, refl))
  rename_by path to false h placed = (placed.0, inr (h, placed.1))

  rename_there : (path to : List ℕ) → refusal t (rename path to) ≡ None → (p : Plan) × PlansRename img path to p
  rename_there path to h =
      let a = first_none (bad_path path) (bad_path to ∷ is_root path IsRoot ∷ is_root to IsRoot ∷ no_node (at t path) ∷ no_dir (parent_at t to) ∷ into_self path to ∷ in_the_way t path to ∷ []) h in
      let b = first_none (bad_path to) (is_root path IsRoot ∷ is_root to IsRoot ∷ no_node (at t path) ∷ no_dir (parent_at t to) ∷ into_self path to ∷ in_the_way t path to ∷ []) a.1 in
      let c = first_none (is_root path IsRoot) (is_root to IsRoot ∷ no_node (at t path) ∷ no_dir (parent_at t to) ∷ into_self path to ∷ in_the_way t path to ∷ []) b.1 in
      let d = first_none (is_root to IsRoot) (no_node (at t path) ∷ no_dir (parent_at t to) ∷ into_self path to ∷ in_the_way t path to ∷ []) c.1 in
      let e = first_none (no_node (at t path)) (no_dir (parent_at t to) ∷ into_self path to ∷ in_the_way t path to ∷ []) d.1 in
      let f = first_none (no_dir (parent_at t to)) (into_self path to ∷ in_the_way t path to ∷ []) e.1 in
      rename_by path to (bytes_eq path to) refl (placed_there path to (at t to) refl (has_parent path (not_refused (has_none (names path)) IsRoot c.0) e.0) (has_dir (parent (names to)) f.0))

  exchange_there : (path other : List ℕ) (off other_off len : ℕ) → refusal t (exchange path off other other_off len) ≡ None → (p : Plan) × HasPlan img (exchange path off other other_off len) p
  exchange_there path other off other_off len h =
      let rest = is_dir (at t path) ∷ is_dir (at t other) ∷ bad_range t path off other other_off len ∷ overlap path off other other_off len ∷ above len exchange_limit TooLong ∷ [] in
      let a = first_none (bad_path path) (bad_path other ∷ no_node (at t path) ∷ no_node (at t other) ∷ rest) h in
      let b = first_none (bad_path other) (no_node (at t path) ∷ no_node (at t other) ∷ rest) a.1 in
      let c = first_none (no_node (at t path)) (no_node (at t other) ∷ rest) b.1 in
      let d = first_none (no_node (at t other)) rest c.1 in
      let i = has_node path c.0 in
      let j = has_node other d.0 in
      ((if len == 0 then no_plan else exchange_plan (inode (view img) i.0) off (inode (view img) j.0) other_off len), (i.0, j.0, i.1, j.1, refl))

  pub plan_there : (op : Op) → refusal t op ≡ None → (MakesNode op → nodes t < inode_count img) → (p : Plan) × HasPlan img op p
  plan_there (create path) h few = create_plan_there path h (few tt)
  plan_there (mkdir path) h few = create_plan_there path h (few tt)
  plan_there (write path off bytes) h few = file_plan path (off + length bytes) (λ i. write_plan (view img) (inode_count img) (inode (view img) i) off (length bytes)) h
  plan_there (fill path off len byte) h few = file_plan path (off + len) (λ i. write_plan (view img) (inode_count img) (inode (view img) i) off len) h
  plan_there (append path bytes) h few = file_plan path (size_at t path + length bytes) (λ i. write_plan (view img) (inode_count img) (inode (view img) i) (inode (view img) i).size (length bytes)) h
  plan_there (read path off len) h few = (no_plan, refl)
  plan_there (truncate path len) h few = file_plan path len (λ i. truncate_plan (view img) (inode_count img) (inode (view img) i) len) h
  plan_there (unlink path) h few =
      let a = first_none (bad_path path) (no_file (at t path) ∷ []) h in
      removal_there path (has_file path (first_none (no_file (at t path)) [] a.1).0)
  plan_there (rmdir path) h few =
      let a = first_none (bad_path path) (is_root path IsRoot ∷ no_dir (at t path) ∷ has_entries (at t path) ∷ []) h in
      let b = first_none (is_root path IsRoot) (no_dir (at t path) ∷ has_entries (at t path) ∷ []) a.1 in
      removal_there path (has_dir (names path) (first_none (no_dir (at t path)) (has_entries (at t path) ∷ []) b.1).0)
  plan_there (rename path to) h few = rename_there path to h
  plan_there (exchange path off other other_off len) h few = exchange_there path other off other_off len h
  plan_there (stat path) h few = (no_plan, refl)
  plan_there (list path) h few = (no_plan, refl)
  plan_there (locate path) h few = (no_plan, refl)
