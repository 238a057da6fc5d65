-- A slot is emptied or filled: the tree loses what it named, or gets what was the orphan.
use Rattle.std.proofs.Common.{◌≡◌, ◌≢◌, ◌∙◌, ℕ, List, [], ◌∷◌, ◌++◌, refl, sym, ap, subst, inl, inr, arith, true}
use Rattle.std.proofs.lemmas.Bool.{cases_eq}
use Rattle.std.specs.declared.cmp.Ordering.{Ordering}
use Rattle.std.specs.declared.cmp.Ordering.TheVariants.{Less, Equal, Greater}
use Rattle.ct_base.specs.Objects.{Object}
use Rattle.ct_base.specs.Path.{is_name}
use Rattle.ct_base.specs.Slots.{IsSlot, slot_inode, slot_name}
use Rattle.ct_base.specs.Named.{Named, Leads}
use Rattle.ct_tree.specs.Tree.{Tree, File, Dir, Entries, none, entry}
use Rattle.ct_tree.specs.Entries.{by_order, name_cmp, put_entry, cut_entry}
use Rattle.ct_tree.specs.Ordered.{IsBelow, IsTree}
use Rattle.ct_tree.specs.Resolve.{put, cut}
use Rattle.ct_tree.specs.Stands.{HasName, Stands, StandIn}
use Rattle.ct_tree.proofs.Ordered.{put_tree, cut_tree}
use Rattle.ct_state.specs.Leads.{LeadsTo}
use Rattle.ct_state.specs.Forest.{Up, AreTrees, Forest}
use Rattle.ct_state.proofs.Exists.{has_self, stand_put}
use Rattle.ct_state.proofs.Followed.{Followed, followed, all_names, leads_push, cut_last, put_last, put_cut_entry, has_cut}
use Rattle.ct_state.proofs.Forests.{path_up, forest_of, once_of}
use Rattle.ct_state.proofs.Grafts.{child_off, orphan_off, tree_graft}
use Rattle.ct_state.proofs.Puts.{cmp_equal, not_less, not_greater, onto, has_put}
use Rattle.ct_state.proofs.Relinks.{kept_named, trees_after}
use Rattle.ct_state.proofs.Resolve.{leads_path}
use Rattle.ct_state.proofs.Sorted.{below_trans}
use Rattle.ct_state.proofs.Paths.{Path}
use Rattle.ct_state.proofs.Turning.{Relinks}

-- ---- the directory

module _ {fs gs : ℕ → Object} {d o : ℕ} {x : List ℕ} {a b : ℕ} (l : Relinks fs gs d o x a b) (f : AreTrees fs a) (rs : List (List ℕ)) (way : Up fs 1 rs d) where
  -- an entry under another name
  one_in : (y : List ℕ) (node : Tree) → y ≢ x → ((s : Named (fs d) y) × Stands fs (slot_inode (fs d) s.offset) node) → (s : Named (gs d) y) × Stands gs (slot_inode (gs d) s.offset) node
  one_in y node other st =
      let s = st.0 in
      let kept = l.turns.on s.offset (λ at. other (sym s.name ∙ ap (slot_name (fs d)) at ∙ (l.before (subst (IsSlot (fs d)) at s.slot)).1)) s.slot in
      (kept_named s kept, subst (λ n. Stands gs n node) (sym kept.inode) (child_off l.turns.others (once_of f) rs way y s node st.1))

  rest_in : (es : Entries) → IsBelow x es → StandIn fs (fs d) es → StandIn gs (gs d) es
  rest_in none below st = tt
  rest_in (entry y node rest) below st = (one_in y node (λ is. not_less x y below.0 (sym is)) st.0, rest_in rest below.1 st.1)

  cut_at : (q : Ordering) (y : List ℕ) (node : Tree) (rest : Entries) → name_cmp x y ≡ q → IsBelow y rest → StandIn fs (fs d) (entry y node rest) → StandIn gs (gs d) (cut_entry x rest)
      → StandIn gs (gs d) (by_order q (entry y node rest) rest (entry y node (cut_entry x rest)))
  cut_at Less y node rest q below st go = (one_in y node (λ is. not_less x y q (sym is)) st.0, rest_in rest (below_trans x y rest q below) st.1)
  cut_at Equal y node rest q below st go = rest_in rest (subst (λ k. IsBelow k rest) (sym (cmp_equal x y q)) below) st.1
  cut_at Greater y node rest q below st go = (one_in y node (λ is. not_greater x y q (sym is)) st.0, go)

  in_cut : (es : Entries) → Rattle.ct_tree.specs.Ordered.AreEntries es → StandIn fs (fs d) es → StandIn gs (gs d) (cut_entry x es)
  in_cut none are st = tt
  in_cut (entry y node rest) are st = cut_at (name_cmp x y) y node rest refl are.2 st (in_cut rest are.3 st.1)

  -- a slot under another name was there
  other_name : (k : ℕ) → k ≢ o → IsSlot (gs d) k → (P : List ℕ → Type 0) → (IsSlot (fs d) k → slot_name (fs d) k ≢ x → P (slot_name (fs d) k)) → P (slot_name (gs d) k)
  other_name k away s P go =
      let was = l.turns.back k away s in
      subst P (sym (l.turns.on k away was).name) (go was (l.fresh k away was))

  pub dir_cut : (es : Entries) → a ≡ 1 → IsTree (Dir es) → Stands fs d (Dir es) → Stands gs d (Dir (cut_entry x es))
  dir_cut es empty are st = (
    record {
      kind = l.turns.is;
      names = λ k s. elim (cases_eq k o) [
        | inl at ↦ absurd ((l.after (subst (IsSlot (gs d)) at s)).1 empty)
        | inr away ↦ other_name k away s (λ n. HasName n (cut_entry x es)) (λ was other. has_cut (slot_name (fs d) k) x es other (st.0.names k was))
      ];
    },
    in_cut es are st.1,
  )

  pub dir_put : (u : Tree) (es : Entries) → a ≢ 1 → IsTree (Dir es) → Stands fs d (Dir es) → Stands fs a u → Stands gs d (Dir (put_entry x u es))
  dir_put u es some are st new =
      let slot = l.here some in
      let now = (l.after slot).0 in
      let here = subst (λ n. Stands gs n u) (sym now.child) (orphan_off l.turns.others (once_of f) rs way u some new) in (
        record {
          kind = l.turns.is;
          names = λ k s. elim (cases_eq k o) [
            | inl at ↦ subst (λ n. HasName n (put_entry x u es)) (sym (ap (slot_name (gs d)) at ∙ now.name)) (has_self x u es)
            | inr away ↦ other_name k away s (λ n. HasName n (put_entry x u es)) (λ was other. has_put (slot_name (fs d) k) x u es (st.0.names k was))
          ];
        },
        subst (StandIn gs (gs d)) (put_cut_entry x u es are)
            (stand_put gs (gs d) x u (record { offset = o; slot = slot; name = now.name }, here) (cut_entry x es) (in_cut es are st.1)),
      )

-- ---- the tree

pub record DirAt (fs : ℕ → Object) (d : ℕ) (xs : List (List ℕ)) (t : Tree) : Type 0 where
  pub es : Entries
  pub tree : IsTree (Dir es)
  pub to : LeadsTo t xs (Dir es)
  pub stands : Stands fs d (Dir es)

dir_of : (fs : ℕ → Object) (d : ℕ) (xs : List (List ℕ)) (t n : Tree) → (fs d).kind ≡ 2 → IsTree n → LeadsTo t xs n → Stands fs d n → DirAt fs d xs t
dir_of fs d xs t (File bytes) dir tree to st = absurd (omega (arith, dir, st.kind))
dir_of fs d xs t (Dir es) dir tree to st = record { es = es; tree = tree; to = to; stands = st }

module _ {fs gs : ℕ → Object} {d o : ℕ} {x : List ℕ} {a b : ℕ} {t u : Tree} (l : Relinks fs gs d o x a b) (f : Forest fs a t u) (xs : List (List ℕ)) (leads : Leads fs 1 xs d) where
  way : Up fs 1 (onto xs []) d
  unfolding Path
  way = path_up fs (onto xs []) d (leads_path fs 1 d xs [] leads refl)

  pub dir_at : DirAt fs d xs t
  dir_at = let n = followed fs f.are.apart 1 d xs t f.tree f.stands leads in dir_of fs d xs t n.node l.turns.was n.tree n.to n.stands

  -- the tree with the directory's other entries
  graft : (es : Entries) → Stands gs d (Dir es) → Stands gs 1 (put t xs (Dir es))
  graft es st = tree_graft l.turns.others (once_of f.are) (onto xs []) way xs t (Dir dir_at.es) (Dir es) refl leads dir_at.to f.tree f.stands st

  -- what the slot named before, where it did
  pub named_before : b ≢ 1 → Followed fs b (xs ++ (x ∷ [])) t
  named_before some =
      let s : Named (fs d) x = record { offset = o; slot = l.there some; name = (l.before (l.there some)).1 } in
      followed fs f.are.apart 1 b (xs ++ (x ∷ [])) t f.tree f.stands (subst (Leads fs 1 (xs ++ (x ∷ []))) (l.before (l.there some)).0 (leads_push fs 1 d xs x leads s))

  pub before_stands : (some : b ≢ 1) → Stands gs b (named_before some).node
  before_stands some =
      let s : Named (fs d) x = record { offset = o; slot = l.there some; name = (l.before (l.there some)).1 } in
      let child : slot_inode (fs d) o ≡ b = (l.before (l.there some)).0 in
      subst (λ n. Stands gs n (named_before some).node) child
      (child_off l.turns.others (once_of f.are) (onto xs []) way x s (named_before some).node (subst (λ n. Stands fs n (named_before some).node) (sym child) (named_before some).stands))

  -- the names as far as the slot
  named_all : is_name x ≡ true → Rattle.std.specs.List.list_all is_name (xs ++ (x ∷ [])) ≡ true
  named_all is = all_names fs f.are.entries 1 d xs x is leads

  -- a slot is emptied
  pub cut_stands : a ≡ 1 → Stands gs 1 (cut t (xs ++ (x ∷ [])))
  cut_stands empty = subst (Stands gs 1) (sym (cut_last xs x t dir_at.es dir_at.to)) (graft (cut_entry x dir_at.es) (dir_cut l f.are (onto xs []) way dir_at.es empty dir_at.tree dir_at.stands))

  -- a slot is filled
  pub put_stands : a ≢ 1 → Stands gs 1 (put t (xs ++ (x ∷ [])) u)
  put_stands some =
      subst (Stands gs 1) (sym (put_last xs x t u dir_at.es dir_at.to)) (graft (put_entry x u dir_at.es) (dir_put l f.are (onto xs []) way u dir_at.es some dir_at.tree dir_at.stands f.orphan_stands))

  pub cut_forest : a ≡ 1 → (some : b ≢ 1) → Forest gs b (cut t (xs ++ (x ∷ []))) (named_before some).node
  cut_forest empty some = record {
    are = trees_after l f.are (onto xs []) way;
    tree = cut_tree t (xs ++ (x ∷ [])) (named_all (ap is_name (sym (l.before (l.there some)).1) ∙ (f.are.entries d o (l.there some)).name)) f.tree;
    stands = cut_stands empty;
    orphan_tree = (named_before some).tree;
    orphan_stands = before_stands some;
  }

  put_is_tree : a ≢ 1 → IsTree (put t (xs ++ (x ∷ [])) u)
  put_is_tree some = put_tree t (xs ++ (x ∷ [])) u (named_all (l.after (l.here some)).0.is_name) f.tree f.orphan_tree

  pub put_forest : a ≢ 1 → b ≡ 1 → Forest gs 1 (put t (xs ++ (x ∷ [])) u) (put t (xs ++ (x ∷ [])) u)
  put_forest some gone = forest_of (subst (AreTrees gs) gone (trees_after l f.are (onto xs []) way)) (put_is_tree some) (put_stands some)

  pub swap_forest : a ≢ 1 → (had : b ≢ 1) → Forest gs b (put t (xs ++ (x ∷ [])) u) (named_before had).node
  swap_forest some had = record {
    are = trees_after l f.are (onto xs []) way;
    tree = put_is_tree some;
    stands = put_stands some;
    orphan_tree = (named_before had).tree;
    orphan_stands = before_stands had;
  }
