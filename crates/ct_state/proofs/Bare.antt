-- An object that has no slots and no name comes or goes: the rules hold as before, and the rest stands as before.
use Rattle.std.proofs.Common.{◌≡◌, ◌≢◌, ◌∙◌, ℕ, List, [], ◌∷◌, sym, ap, subst, inl, inr, arith}
use Rattle.std.proofs.lemmas.Bool.{cases_eq}
use Rattle.ct_base.specs.Objects.{Object}
use Rattle.ct_base.specs.Slots.{IsSlot, Names, slot_inode}
use Rattle.ct_base.specs.Rules.{AreEntries, AreNamesApart}
use Rattle.ct_tree.specs.Tree.{Tree}
use Rattle.ct_tree.specs.Ordered.{IsTree}
use Rattle.ct_tree.specs.Stands.{Stands}
use Rattle.ct_state.specs.Forest.{Up, IsTop, AreTrees, Forest}
use Rattle.ct_state.proofs.Drops.{stands_dropped}
use Rattle.ct_state.proofs.Forests.{forest_of}
use Rattle.ct_state.proofs.Relinks.{kept_same, kept_named}
use Rattle.ct_state.proofs.Turning.{Kept, Bares}

module _ {fs gs : ℕ → Object} {i : ℕ} (b : Bares fs gs i) where
  on : (j k : ℕ) → IsSlot (fs j) k → Kept (fs j) (gs j) k
  on j k s = kept_same (b.others j (λ is. b.was k (subst (λ n. IsSlot (fs n) k) is s))) s

  back : (j k : ℕ) → IsSlot (gs j) k → IsSlot (fs j) k
  back j k s = subst (λ f. IsSlot f k) (b.others j (λ is. b.is k (subst (λ n. IsSlot (gs n) k) is s))) s

  names_on : (j k c : ℕ) → Names fs j k c → Names gs j k c
  names_on j k c n = let kept = on j k n.slot in record { slot = kept.slot; child = kept.inode ∙ n.child }

  names_back : (j k c : ℕ) → Names gs j k c → Names fs j k c
  names_back j k c n = let s = back j k n.slot in record { slot = s; child = sym (on j k s).inode ∙ n.child }

  pub up_on : (q : ℕ) (xs : List (List ℕ)) (c : ℕ) → Up fs q xs c → Up gs q xs c
  unfolding Up
  up_on q [] c is = is
  up_on q (x ∷ xs) c up =
      let kept = on up.0 up.1.offset up.1.slot in
      (up.0, kept_named up.1 kept, kept.inode ∙ up.2, up_on q xs up.0 up.3)

  kind-same : (c : ℕ) → c ≢ i → (gs c).kind ≡ (fs c).kind
  kind-same c other = ap (λ (f : Object). f.kind) (b.others c other)

  module _ (top : IsTop fs i) where
    entries_stay : AreEntries fs → AreEntries gs
    entries_stay entries j k s =
        let old = back j k s in
        let was = entries j k old in
        let kept = on j k old in
        record {
          live = λ z. was.live (sym (kind-same (slot_inode (fs j) k) (λ is. top j k (record { slot = old; child = is }))) ∙ ap (λ n. (gs n).kind) (sym kept.inode) ∙ z);
          length = omega (arith, kept.length, was.length);
          name = ap Rattle.ct_base.specs.Path.is_name kept.name ∙ was.name;
          padding = λ m le lt. kept.bytes m lt ∙ was.padding m (omega (arith, le, kept.length)) lt;
        }

    apart_stay : AreNamesApart fs → AreNamesApart gs
    apart_stay apart j k m s t same =
        let old = back j k s in
        let old' = back j m t in
        apart j k m old old' (sym (on j k old).name ∙ same ∙ (on j m old').name)

    pub stands_stay : (t : Tree) (c : ℕ) → c ≢ i → Stands fs c t → Stands gs c t
    stands_stay t c other st = stands_dropped b.others (λ j k s is. top j k (record { slot = s; child = is })) t c other st

  -- the orphan goes
  module _ (f : AreTrees fs i) (some : i ≢ 1) (gone : (gs i).kind ≡ 0) where
    live_old : (c : ℕ) → (gs c).kind ≢ 0 → c ≢ i
    live_old c live is = live (ap (λ n. (gs n).kind) is ∙ gone)

    live_was : (c : ℕ) → (gs c).kind ≢ 0 → (fs c).kind ≢ 0
    live_was c live z = live (kind-same c (live_old c live) ∙ z)

    not_below : (xs : List (List ℕ)) (c : ℕ) → c ≢ i → Up fs i xs c → ⊥
    unfolding Up
    not_below [] c other is = other is
    not_below (x ∷ xs) c other up = elim (cases_eq up.0 i) [
      | inl is ↦ b.was up.1.offset (subst (λ n. IsSlot (fs n) up.1.offset) is up.1.slot)
      | inr above ↦ not_below xs up.0 above up.3
    ]

    pub dropped_trees : AreTrees gs 1
    dropped_trees = record {
      entries = entries_stay f.free f.entries;
      apart = apart_stay f.free f.apart;
      root = kind-same 1 (λ is. some (sym is)) ∙ f.root;
      alive = λ z. omega (arith, z, kind-same 1 (λ is. some (sym is)), f.root);
      top = λ j k n. f.top j k (names_back j k 1 n);
      free = λ j k n. f.top j k (names_back j k 1 n);
      others = λ c live below same.
          let once = f.others c (live_was c live) below (live_old c live) in
          record { dir = once.dir; slot = once.slot; is = names_on once.dir once.slot c once.is; only = λ j k n. once.only j k (names_back j k c n) };
      reached = λ c live. elim (f.reached c (live_was c live)) [
        | inl up ↦ inl (up.0, up_on 1 up.0 c up.1)
        | inr up ↦ absurd (not_below up.0 c (live_old c live) up.1)
      ];
    }

  -- an orphan comes
  module _ (f : AreTrees fs 1) (was : (fs i).kind ≡ 0) (made : (gs i).kind ≢ 0) where
    new_top : IsTop fs i
    new_top j k n = (f.entries j k n.slot).live (ap (λ n. (fs n).kind) n.child ∙ was)

    new_other : i ≢ 1
    new_other is = omega (arith, was, ap (λ n. (fs n).kind) is, f.root)

    old_was : (c : ℕ) → c ≢ i → (gs c).kind ≢ 0 → (fs c).kind ≢ 0
    old_was c other live z = live (kind-same c other ∙ z)

    pub fresh_trees : AreTrees gs i
    unfolding Up
    fresh_trees = record {
      entries = entries_stay new_top f.entries;
      apart = apart_stay new_top f.apart;
      root = kind-same 1 (λ is. new_other (sym is)) ∙ f.root;
      alive = made;
      top = λ j k n. f.top j k (names_back j k 1 n);
      free = λ j k n. new_top j k (names_back j k i n);
      others = λ c live below other.
          let once = f.others c (old_was c other live) below below in
          record { dir = once.dir; slot = once.slot; is = names_on once.dir once.slot c once.is; only = λ j k n. once.only j k (names_back j k c n) };
      reached = λ c live. elim (cases_eq c i) [
        | inl is ↦ inr ([], is)
        | inr other ↦ elim (f.reached c (old_was c other live)) [
          | inl up ↦ inl (up.0, up_on 1 up.0 c up.1)
          | inr up ↦ inl (up.0, up_on 1 up.0 c up.1)
        ]
      ];
    }

-- the same with the trees
pub dropped_forest : {fs gs : ℕ → Object} {i : ℕ} {t u : Tree} → Bares fs gs i → Forest fs i t u → i ≢ 1 → (gs i).kind ≡ 0 → Forest gs 1 t t
dropped_forest {t = t} b f some gone = forest_of (dropped_trees b f.are some gone) f.tree (stands_stay b f.are.free t 1 (λ is. some (sym is)) f.stands)

pub fresh_forest : {fs gs : ℕ → Object} {i : ℕ} {t u : Tree} → Bares fs gs i → Forest fs 1 t t → (fs i).kind ≡ 0 → (gs i).kind ≢ 0 → IsTree u → Stands gs i u → Forest gs i t u
fresh_forest {t = t} b f was made tree st = record {
  are = fresh_trees b f.are was made;
  tree = f.tree;
  stands = stands_stay b (new_top b f.are was made) t 1 (λ is. new_other b f.are was made (sym is)) f.stands;
  orphan_tree = tree;
  orphan_stands = st;
}
