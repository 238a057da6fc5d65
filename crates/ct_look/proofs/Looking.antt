-- What a sound image shows at a path is what each tree for which it stands has there.
use Rattle.std.proofs.Common.{◌≡◌, ◌≢◌, ℕ, ◌<◌, ◌≤◌, ◌%◌, List, Ok, Option, Some, None, length, length-take, map, take, sym, ap, ◌∙◌, subst, inl, inr, arith}
use Rattle.ct_base.specs.declared.inode.Inode.{Inode}
use Rattle.ct_base.specs.Rules.{names as names_apart}
use Rattle.ct_base.specs.Slots.{IsSlot, entries, slot_name}
use Rattle.ct_dir.specs.Directory.{IsLater, IsNext, IsReadable, dir_of}
use Rattle.ct_dir.specs.Sorting.{AreSorted}
use Rattle.ct_tree.proofs.Ordered.{resolve_tree}
use Rattle.ct_tree.specs.Checks.{at, names, no_dir, no_file, no_node}
use Rattle.ct_tree.specs.Content.{bytes_in}
use Rattle.ct_tree.specs.Lands.{files}
use Rattle.ct_tree.specs.Runs.{MayLieAt}
use Rattle.ct_tree.specs.Stands.{Stands}
use Rattle.ct_tree.specs.Step.{answered, count, effect, list, listed_in, locate, names_in, refusal, size_at, stat, step, told}
use Rattle.ct_tree.specs.Tree.{Tree, Entries, File, Dir}
use Rattle.ct_tree.specs.declared.call.Refusal.TheVariants.{IsDir as is_dir, NotDir as not_dir}
use Rattle.ct_find.proofs.Leading.{checked_by, dir_node, file_node, no_file_at}
use Rattle.ct_find.proofs.Living.{dir_is, placed_at, readable_at, size_is}
use Rattle.ct_find.specs.Nodes.{IsNodeAt}
use Rattle.ct_look.proofs.Following.{names_sorted}
use Rattle.ct_look.proofs.Listed.{names_count, slots_counted, slot_next, no_slot_next}
use Rattle.ct_call.specs.Calls.{StandsFor}
use Rattle.ct_look.specs.Looks.{IsListed, IsPlaceAt, next_name, stat_answer}
use Rattle.ct_commit.specs.Rest.{IsAtRest}
use Rattle.ct_look.specs.declared.seen.Stat.TheVariants.{File as a_file, Dir as a_dir}

module _ {w path : List ℕ} {i : ℕ} {d : Inode} (rest : IsAtRest w) (found : IsNodeAt w path i d) where
  -- a directory can be read
  pub dir_readable : d.kind ≡ 2 → IsReadable w d
  dir_readable = readable_at rest found.live found.is

  -- a level fits
  pub level_small : d.level ≤ 15
  level_small = elim (placed_at rest found.live found.is).place [ inl n ↦ omega (arith, n.level) | inr r ↦ omega (arith, r.part.level) ]

  module _ (t : Tree) (s : StandsFor w t) where
    -- what is told of the node
    told_at : (n : Tree) → at t path ≡ Ok n → stat_answer (step t (stat path)).0 ≡ stat_answer (told (Ok n))
    told_at n is =
        ap (λ q. stat_answer (answered q t (effect t (stat path))).0) (checked_by no_node t path (Ok n) found.valid is) ∙ ap (λ node. stat_answer (told node)) is

    -- there are as many slots as entries
    slots_named : d.kind ≡ 2 → (es : Entries) → at t path ≡ Ok (Dir es) → Stands (files w) i (Dir es) → length (entries (dir_of w d)) ≡ count es
    slots_named dir es is st =
        ap (λ f. length (entries f)) (dir_is rest found.live found.is)
        ∙ slots_counted (files w) (files w i) es (resolve_tree (names path) t (Dir es) s.tree is) st.0 st.1 (rest.sound names_apart i) (ap (λ k. k % 256) (size_is rest found.live found.is) ∙ (placed_at rest found.live found.is).slots dir)

    pub stat_dir : d.kind ≡ 2 → (c : ℕ) → c ≡ length (entries (dir_of w d)) → Ok (a_dir c) ≡ stat_answer (step t (stat path)).0
    stat_dir dir c is =
        let n = dir_node rest found t s dir in
        ap (λ k. Ok (a_dir k)) (is ∙ slots_named dir n.0 n.1 n.2) ∙ sym (told_at (Dir n.0) n.1)

    pub stat_file : d.kind ≢ 2 → Ok (a_file d.size) ≡ stat_answer (step t (stat path)).0
    stat_file other = let n = file_node rest found t s other in ap (λ k. Ok (a_file k)) (sym (size_is rest found.live found.is) ∙ n.2.size) ∙ sym (told_at (File n.0) n.1)

    -- a file has no names
    pub list_file : d.kind ≢ 2 → refusal t (list path) ≡ Some not_dir
    list_file other = let n = file_node rest found t s other in checked_by no_dir t path (Ok (File n.0)) found.valid n.1

    module _ (dir : d.kind ≡ 2) (after : Option (List ℕ)) where
      pub next_there : (o : ℕ) (x : List ℕ) → x ≡ slot_name (dir_of w d) o → IsNext (dir_of w d) after o → (refusal t (list path) ≡ None) × (Some x ≡ next_name after (listed_in (at t path)))
      next_there o x is next =
          let n = dir_node rest found t s dir in
          let f = dir_is rest found.live found.is in
          let named = slot_next (files w) (files w i) n.0 n.2.0 n.2.1 after (resolve_tree (names path) t (Dir n.0) s.tree n.1) o (subst (λ g. IsNext g after o) f next) in (
            checked_by no_dir t path (Ok (Dir n.0)) found.valid n.1,
            ap Some (is ∙ ap (λ g. slot_name g o) f) ∙ sym named ∙ sym (ap (λ node. next_name after (listed_in node)) n.1),
          )

      pub none_there : ((o : ℕ) → IsSlot (dir_of w d) o → IsLater after (slot_name (dir_of w d) o) → ⊥) → (refusal t (list path) ≡ None) × (None ≡ next_name after (listed_in (at t path)))
      none_there off =
          let n = dir_node rest found t s dir in
          let named = no_slot_next (files w) (files w i) n.0 n.2.0 n.2.1 after (subst (λ f. (o : ℕ) → IsSlot f o → IsLater after (slot_name f o) → ⊥) (dir_is rest found.live found.is) off) in
          (checked_by no_dir t path (Ok (Dir n.0)) found.valid n.1, sym named ∙ sym (ap (λ node. next_name after (listed_in node)) n.1))

    module _ (dir : d.kind ≡ 2) where
      -- the slots in the order of their names
      pub listed_there : (old new : List ℕ) (n : ℕ) → AreSorted (dir_of w d) (take n new) → n ≡ length (entries (dir_of w d)) → n ≤ length new
          → (refusal t (list path) ≡ None) × IsListed w (listed_in (at t path)) old new (Some (record { dir = d; count = n }))
      listed_there old new n sorted counted room =
          let node = dir_node rest found t s dir in
          let are = resolve_tree (names path) t (Dir node.0) s.tree node.1 in
          let is = dir_is rest found.live found.is in
          let long = length-take n new in
          let size : length (take n new) ≡ length (names_in node.0) = omega (arith, long, room, counted, slots_named dir node.0 node.1 node.2, names_count node.0) in
          let all = names_sorted (rest.sound names_apart i) (subst (λ f. AreSorted f (take n new)) is sorted) (files w) node.0 are node.2.0 node.2.1 size in (
            checked_by no_dir t path (Ok (Dir node.0)) found.valid node.1,
            ap listed_in node.1 ∙ all ∙ ap (λ f. map (slot_name f) (take n new)) (sym is),
          )

      pub listed_more : (old new : List ℕ) → length old < length (entries (dir_of w d)) → (refusal t (list path) ≡ None) × IsListed w (listed_in (at t path)) old new None
      listed_more old new more =
          let n = dir_node rest found t s dir in (
            checked_by no_dir t path (Ok (Dir n.0)) found.valid n.1,
            subst (λ k. length old < k) (slots_named dir n.0 n.1 n.2 ∙ sym (names_count n.0) ∙ sym (ap (λ node. length (listed_in node)) n.1)) more,
          )

    -- a directory lies nowhere
    pub locate_dir : d.kind ≡ 2 → refusal t (locate path) ≡ Some is_dir
    locate_dir dir = no_file_at rest found dir t s

    lies : MayLieAt d.size d.base d.level
    lies = elim (placed_at rest found.live found.is).place [ inl n ↦ inl (n.level, n.base, n.size) | inr r ↦ inr (r.part, r.size) ]

    pub locate_file : d.kind ≢ 2 → (refusal t (locate path) ≡ None) × (IsPlaceAt w path (d.base, d.level) × MayLieAt (size_at t path) d.base d.level)
    locate_file other =
        let n = file_node rest found t s other in (
          checked_by no_file t path (Ok (File n.0)) found.valid n.1,
          (
            (i, found.leads, ap (λ (f : Inode). f.base) (sym found.is), ap (λ (f : Inode). f.level) (sym found.is)),
            subst (λ k. MayLieAt k d.base d.level) (sym (size_is rest found.live found.is) ∙ n.2.size ∙ sym (ap (λ node. length (bytes_in node)) n.1)) lies,
          ),
        )
