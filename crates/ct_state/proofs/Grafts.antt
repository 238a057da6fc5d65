-- One object changes among objects with an orphan or without: what its path does not meet stands as before, the orphan's
-- tree too, and the tree of inode 1 gets another node where the object is.
use Rattle.std.proofs.Common.{◌≡◌, ◌≢◌, ℕ, List, [], ◌∷◌, ◌++◌, length, refl, sym, ap, ◌∙◌, subst, arith, Some, None, append_assoc}
use Rattle.std.proofs.lemmas.List.{length-append}
use Rattle.std.specs.declared.cmp.Ordering.{Ordering}
use Rattle.std.specs.declared.cmp.Ordering.TheVariants.{Less, Equal, Greater}
use Rattle.std.specs.Prelude.{unwrap_or}
use Rattle.ct_tree.specs.Tree.{Tree, File, Dir, Entries, none, entry}
use Rattle.ct_tree.specs.Entries.{by_order, name_cmp, lookup, put_entry}
use Rattle.ct_tree.specs.Ordered.{IsBelow, IsTree}
use Rattle.ct_tree.specs.Resolve.{put}
use Rattle.ct_tree.specs.Stands.{IsFile, IsDir, Stands, StandIn}
use Rattle.ct_base.specs.Objects.{Object}
use Rattle.ct_base.specs.Slots.{slot_inode, slot_name}
use Rattle.ct_base.specs.Named.{Named, Leads}
use Rattle.ct_state.specs.Leads.{LeadsTo}
use Rattle.ct_state.specs.Forest.{Up, IsTop}
use Rattle.ct_state.proofs.Forests.{up_once, AreOnce}
use Rattle.ct_state.proofs.Puts.{cmp_equal, not_less, not_greater, ends_same, onto, onto-append, has_put, child_tree}

module _ {fs gs : ℕ → Object} {d r : ℕ} (same : (j : ℕ) → j ≢ d → gs j ≡ fs j) (f : AreOnce fs r) (rs : List (List ℕ)) (way : Up fs 1 rs d) where
  -- an object that is not on the way is as it was
  off_way : (c q : ℕ) (ys : List (List ℕ)) → IsTop fs q → Up fs q ys c → ((zs : List (List ℕ)) → q ≡ 1 → rs ≢ zs ++ ys) → gs c ≡ fs c
  off_way c q ys top p off = same c (λ is. let once = up_once f 1 q rs ys d f.top top way (subst (λ k. Up fs q ys k) is p) in off [] (sym once.0) once.1)

  mutual
    unfolding Up

    pub stands_off : (t : Tree) (c q : ℕ) (ys : List (List ℕ)) → IsTop fs q → Up fs q ys c → ((zs : List (List ℕ)) → q ≡ 1 → rs ≢ zs ++ ys) → Stands fs c t → Stands gs c t
    stands_off (File bytes) c q ys top p off st = subst (λ g. IsFile g bytes) (sym (off_way c q ys top p off)) st
    stands_off (Dir es) c q ys top p off st = subst (λ g. IsDir g es × StandIn gs g es) (sym (off_way c q ys top p off)) (st.0, in_off es c q ys top p off st.1)

    in_off : (es : Entries) (c q : ℕ) (ys : List (List ℕ)) → IsTop fs q → Up fs q ys c → ((zs : List (List ℕ)) → q ≡ 1 → rs ≢ zs ++ ys) → StandIn fs (fs c) es → StandIn gs (fs c) es
    in_off none c q ys top p off st = tt
    in_off (entry x node rest) c q ys top p off st =
        let s = st.0.0 in (
          (s, stands_off node (slot_inode (fs c) s.offset) q (x ∷ ys) top (c, s, refl, p) (λ zs e is. off (zs ++ (x ∷ [])) e (is ∙ sym (append_assoc zs (x ∷ []) ys))) st.0.1),
          in_off rest c q ys top p off st.1,
        )

  -- what a slot of the directory leads to
  pub child_off : (x : List ℕ) (s : Named (fs d) x) (t : Tree) → Stands fs (slot_inode (fs d) s.offset) t → Stands gs (slot_inode (fs d) s.offset) t
  unfolding Up
  child_off x s t st =
      stands_off t (slot_inode (fs d) s.offset) 1 (x ∷ rs) f.top (d, s, refl, way) (λ zs e is. omega (arith, ap length is, length-append zs (x ∷ rs))) st

  -- the orphan's tree
  pub orphan_off : (t : Tree) → r ≢ 1 → Stands fs r t → Stands gs r t
  unfolding Up
  orphan_off t other st = stands_off t r r [] f.free refl (λ zs e is. other e) st

  -- at a directory on the way, where the next name is x
  module _ (c : ℕ) (x : List ℕ) (ys ws : List (List ℕ)) (p : Up fs 1 ys c) (on : rs ≡ ws ++ (x ∷ ys)) (child n : Tree)
      (new : (s : Named (fs c) x) → Stands fs (slot_inode (fs c) s.offset) child → Stands gs (slot_inode (fs c) s.offset) n) where
    one_off : (y : List ℕ) (node : Tree) → y ≢ x → (s : Named (fs c) y) → Stands fs (slot_inode (fs c) s.offset) node → Stands gs (slot_inode (fs c) s.offset) node
    unfolding Up
    one_off y node other s st = stands_off node (slot_inode (fs c) s.offset) 1 (y ∷ ys) f.top (c, s, refl, p) (λ zs e is. other (ends_same zs ws y x ys (sym is ∙ on))) st

    rest_off : (es : Entries) → IsBelow x es → StandIn fs (fs c) es → StandIn gs (fs c) es
    rest_off none below st = tt
    rest_off (entry y node rest) below st = ((st.0.0, one_off y node (λ is. not_less x y below.0 (sym is)) st.0.0 st.0.1), rest_off rest below.1 st.1)

    put_at : (o : Ordering) (y : List ℕ) (node : Tree) (rest : Entries) → name_cmp x y ≡ o → IsBelow y rest → by_order o None (Some node) (lookup x rest) ≡ Some child → StandIn fs (fs c) (entry y node rest)
        → (lookup x rest ≡ Some child → StandIn gs (fs c) (put_entry x n rest))
        → StandIn gs (fs c) (by_order o (entry x n (entry y node rest)) (entry y n rest) (entry y node (put_entry x n rest)))
    put_at Less y node rest o below is st go = absurd (cc)
    put_at Equal y node rest o below is st go =
        let same_name = cmp_equal x y o in
        let tree : node ≡ child = cc in
        let s = st.0.0 in
        let sx : Named (fs c) x = record { offset = s.offset; slot = s.slot; name = s.name ∙ sym same_name } in
        ((s, new sx (subst (λ k. Stands fs (slot_inode (fs c) s.offset) k) tree st.0.1)), rest_off rest (subst (λ k. IsBelow k rest) (sym same_name) below) st.1)
    put_at Greater y node rest o below is st go = ((st.0.0, one_off y node (λ e. not_greater x y o (sym e)) st.0.0 st.0.1), go is)

    in_put : (es : Entries) → Rattle.ct_tree.specs.Ordered.AreEntries es → lookup x es ≡ Some child → StandIn fs (fs c) es → StandIn gs (fs c) (put_entry x n es)
    in_put none are is st = absurd (cc)
    in_put (entry y node rest) are is st = put_at (name_cmp x y) y node rest refl are.2 is st (λ k. in_put rest are.3 k st.1)

  longer : (xs ys : List (List ℕ)) (x : List ℕ) → ys ≡ onto xs (x ∷ ys) → ⊥
  longer xs ys x is = omega (arith, ap length is, ap length (onto-append xs (x ∷ ys)), length-append (onto xs []) (x ∷ ys))

  -- the tree with another node where the names lead to d
  stands_graft : (xs : List (List ℕ)) (t : Tree) (c : ℕ) (ys : List (List ℕ)) (old new : Tree) → Up fs 1 ys c → rs ≡ onto xs ys → Leads fs c xs d → LeadsTo t xs old → IsTree t
      → Stands fs c t → Stands gs d new → Stands gs c (put t xs new)
  unfolding Leads LeadsTo Up
  stands_graft [] t c ys old new p on leads to tree st here = subst (λ k. Stands gs k new) (sym leads) here
  stands_graft (x ∷ xs) (File bytes) c ys old new p on leads to tree st here = absurd (cc to.1)
  stands_graft (x ∷ xs) (Dir es) c ys old new p on leads to tree st here =
      let child = to.0 in
      let n = put (unwrap_or (lookup x es) (Dir none)) xs new in
      let at : rs ≡ onto xs [] ++ (x ∷ ys) = on ∙ onto-append xs (x ∷ ys) in
      let same_put : put (unwrap_or (lookup x es) (Dir none)) xs new ≡ put child xs new = ap (λ o. put (unwrap_or o (Dir none)) xs new) to.1 in
      let other : c ≢ d = λ is. longer xs ys x ((up_once f 1 1 ys rs d f.top f.top (subst (λ k. Up fs 1 ys k) is p) way).1 ∙ on) in
      let below : (s : Named (fs c) x) → Stands fs (slot_inode (fs c) s.offset) child → Stands gs (slot_inode (fs c) s.offset) n =
      λ s below_st.
      let offset : leads.0.offset ≡ s.offset = f.apart c leads.0.offset s.offset leads.0.slot s.slot (leads.0.name ∙ sym s.name) in
      let on_leads = subst (λ k. Leads fs (slot_inode (fs c) k) xs d) offset leads.1 in
      subst (λ k. Stands gs (slot_inode (fs c) s.offset) k) (sym same_put)
      (stands_graft xs child (slot_inode (fs c) s.offset) (x ∷ ys) old new (c, s, refl, p) on on_leads to.2 (child_tree x es child tree to.1) below_st here) in
      subst (λ g. IsDir g (put_entry x n es) × StandIn gs g (put_entry x n es)) (sym (same c other)) (
        record { kind = st.0.kind; names = λ o s. has_put (slot_name (fs c) o) x n es (st.0.names o s) },
        in_put c x ys (onto xs []) p at child n below es tree to.1 st.1,
      )

  -- from the root
  pub tree_graft : (xs : List (List ℕ)) (t old new : Tree) → rs ≡ onto xs [] → Leads fs 1 xs d → LeadsTo t xs old → IsTree t → Stands fs 1 t → Stands gs d new → Stands gs 1 (put t xs new)
  unfolding Up
  tree_graft xs t old new on leads to tree st here = stands_graft xs t 1 [] old new refl on leads to tree st here
