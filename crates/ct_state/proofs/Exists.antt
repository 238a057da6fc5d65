-- Where the rules hold there is a tree.
use Rattle.std.proofs.Common.{◌≡◌, ◌≢◌, ℕ, zero, suc, ◌+◌, ◌*◌, ◌/◌, ◌%◌, ◌^◌, ◌<◌, ◌≤◌, List, length, refl, sym, ap, ◌∙◌, subst, inl, inr, arith}
use Rattle.std.specs.Prelude.{slice_index}
use Rattle.std.proofs.lemmas.Bool.{cases_eq, cases_lt}
use Rattle.std.specs.declared.cmp.Ordering.{Ordering}
use Rattle.std.specs.declared.cmp.Ordering.TheVariants.{Less, Equal, Greater}
use Rattle.ct_tree.specs.Tree.{Tree, File, Dir, Entries, none, entry}
use Rattle.ct_tree.specs.Entries.{by_order, name_cmp, put_entry}
use Rattle.ct_tree.specs.Ordered.{IsTree}
use Rattle.ct_base.specs.Inode.{little}
use Rattle.ct_base.specs.Objects.{Object}
use Rattle.ct_base.specs.Slots.{IsSlot, Names, Steps, slot_inode, slot_name, bytes_from}
use Rattle.ct_tree.specs.Stands.{HasName, Stands, StandIn}
use Rattle.ct_base.specs.Named.{Named}
use Rattle.ct_base.specs.Rules.{AreEntries, AreNamed, AreReached}
use Rattle.ct_state.proofs.Puts.{cmp_equal, has_put}
use Rattle.ct_state.proofs.Sorted.{put_entries}

-- what the objects are known to be
pub record AreObjects (fs : ℕ → Object) (count : ℕ) : Type 0 where
  pub kinds : (c : ℕ) → (fs c).kind ≤ 2
  pub numbers : (c : ℕ) → (fs c).kind ≢ 0 → c ≤ count
  pub sizes : (c : ℕ) → (fs c).size ≤ 2 ^ 39
  pub slots : (c : ℕ) → (fs c).kind ≡ 2 → (fs c).size % 256 ≡ 0
  pub root : (fs 1).kind ≡ 2
  pub entries : AreEntries fs
  pub named : AreNamed fs
  pub reached : AreReached fs

bytes_from-length : (b : ℕ → ℕ) (v n : ℕ) → length (bytes_from b v n) ≡ n
unfolding bytes_from
bytes_from-length b v zero = refl
bytes_from-length b v (suc n) = omega (arith, bytes_from-length b (v + 1) n)

bytes_from-at : (b : ℕ → ℕ) (v n k : ℕ) → k < n → slice_index (bytes_from b v n) k ≡ b (v + k)
unfolding bytes_from
bytes_from-at b v zero k lt = absurd (omega arith)
bytes_from-at b v (suc n) zero lt = ap b (omega arith)
bytes_from-at b v (suc n) (suc k) lt = bytes_from-at b (v + 1) n k (omega arith) ∙ ap b (omega arith)

has_self_at : (o : Ordering) (x y : List ℕ) (n m : Tree) (rest putted : Entries) → name_cmp x y ≡ o → HasName x putted → HasName x (by_order o (entry x n (entry y m rest)) (entry y n rest) (entry y m putted))
has_self_at Less x y n m rest putted is h = inl refl
has_self_at Equal x y n m rest putted is h = inl (cmp_equal x y is)
has_self_at Greater x y n m rest putted is h = inr h

pub has_self : (x : List ℕ) (n : Tree) (es : Entries) → HasName x (put_entry x n es)
has_self x n none = inl refl
has_self x n (entry y m rest) = has_self_at (name_cmp x y) x y n m rest (put_entry x n rest) refl (has_self x n rest)

module _ (fs : ℕ → Object) (f : Object) (x : List ℕ) (n : Tree) (new : (s : Named f x) × Stands fs (slot_inode f s.offset) n) where
  stand_at : (o : Ordering) (y : List ℕ) (m : Tree) (rest putted : Entries) → name_cmp x y ≡ o → StandIn fs f (entry y m rest) → StandIn fs f putted
      → StandIn fs f (by_order o (entry x n (entry y m rest)) (entry y n rest) (entry y m putted))
  stand_at Less y m rest putted is st go = (new, st)
  stand_at Equal y m rest putted is st go =
      let s = new.0 in
      let t : Named f y = record { offset = s.offset; slot = s.slot; name = s.name ∙ cmp_equal x y is } in
      ((t, new.1), st.1)
  stand_at Greater y m rest putted is st go = (st.0, go)

  pub stand_put : (es : Entries) → StandIn fs f es → StandIn fs f (put_entry x n es)
  stand_put none st = (new, tt)
  stand_put (entry y m rest) st = stand_at (name_cmp x y) y m rest (put_entry x n rest) refl st (stand_put rest st.1)

-- the entries of the slots below an offset
record Built (fs : ℕ → Object) (f : Object) (below : ℕ) : Type 0 where
  es : Entries
  sorted : Rattle.ct_tree.specs.Ordered.AreEntries es
  stand : StandIn fs f es
  all : (o : ℕ) → o < below → IsSlot f o → HasName (slot_name f o) es

record Tall (fs : ℕ → Object) (c : ℕ) : Type 0 where
  tree : Tree
  is_tree : IsTree tree
  stands : Stands fs c tree

module _ {fs : ℕ → Object} {count : ℕ} (a : AreObjects fs count) where
  live_child : (i o c : ℕ) → Names fs i o c → (fs c).kind ≢ 0
  live_child i o c n z = (a.entries i o n.slot).live (ap (λ k. (fs k).kind) n.child ∙ z)

  -- each object has one depth
  steps_once : (k l c : ℕ) → Steps fs k c → Steps fs l c → k ≡ l
  unfolding Steps
  steps_once zero zero c p q = refl
  steps_once zero (suc l) c p q = absurd (a.named.root q.0 q.1 (subst (λ k. Names fs q.0 q.1 k) p q.2))
  steps_once (suc k) zero c p q = absurd (a.named.root p.0 p.1 (subst (λ k. Names fs p.0 p.1 k) q p.2))
  steps_once (suc k) (suc l) c p q =
      let other : c ≢ 1 = λ is. a.named.root p.0 p.1 (subst (λ k. Names fs p.0 p.1 k) is p.2) in
      let once = a.named.others c (live_child p.0 p.1 c p.2) other in
      let same : q.0 ≡ p.0 = (once.only q.0 q.1 q.2).0 ∙ sym (once.only p.0 p.1 p.2).0 in
      ap suc (steps_once k l p.0 p.3 (subst (λ i. Steps fs l i) same q.3))

  -- and there is a greatest
  deepest : (n : ℕ) → (most : ℕ) × ((c k : ℕ) → c ≤ n → (fs c).kind ≢ 0 → Steps fs k c → k ≤ most)
  deepest zero = one zero 0 (λ c k le. absurd (omega arith))
    where
      one : (n most : ℕ) → ((c k : ℕ) → c < n → (fs c).kind ≢ 0 → Steps fs k c → k ≤ most) → (m : ℕ) × ((c k : ℕ) → c ≤ n → (fs c).kind ≢ 0 → Steps fs k c → k ≤ m)
      one n most all = elim (cases_eq (fs n).kind 0) [
        | inl z ↦ (most, λ c k le live st. elim (cases_eq c n) [ inl is ↦ absurd (live (ap (λ j. (fs j).kind) is ∙ z)) | inr other ↦ all c k (omega arith) live st ])
        | inr live ↦
            let up = a.reached n live in (
              most + up.0,
              λ c k le live' st. elim (cases_eq c n) [
                | inl is ↦ omega (arith, steps_once k up.0 n (subst (λ j. Steps fs k j) is st) up.1)
                | inr other ↦ omega (arith, all c k (omega arith) live' st)
              ],
            )
      ]
  deepest (suc n) = one (suc n) (deepest n).0 (λ c k lt. (deepest n).1 c k (omega arith))
    where
      one : (n most : ℕ) → ((c k : ℕ) → c < n → (fs c).kind ≢ 0 → Steps fs k c → k ≤ most) → (m : ℕ) × ((c k : ℕ) → c ≤ n → (fs c).kind ≢ 0 → Steps fs k c → k ≤ m)
      one n most all = elim (cases_eq (fs n).kind 0) [
        | inl z ↦ (most, λ c k le live st. elim (cases_eq c n) [ inl is ↦ absurd (live (ap (λ j. (fs j).kind) is ∙ z)) | inr other ↦ all c k (omega arith) live st ])
        | inr live ↦
            let up = a.reached n live in (
              most + up.0,
              λ c k le live' st. elim (cases_eq c n) [
                | inl is ↦ omega (arith, steps_once k up.0 n (subst (λ j. Steps fs k j) is st) up.1)
                | inr other ↦ omega (arith, all c k (omega arith) live' st)
              ],
            )
      ]

  -- a directory whose children have trees
  built : (i : ℕ) → (fs i).kind ≡ 2 → ((o c : ℕ) → Names fs i o c → Tall fs c) → (n : ℕ) → 256 * n ≤ (fs i).size → Built fs (fs i) (256 * n)
  built i dir child zero le = record { es = none; sorted = tt; stand = tt; all = λ o lt. absurd (omega arith) }
  built i dir child (suc n) le =
      let before = built i dir child n (omega arith) in
      let o = 256 * n in
      let f = fs i in
      elim (cases_eq (little (fs i).at (256 * n) 256) 0) [
        | inl empty ↦ record {
          es = before.es;
          sorted = before.sorted;
          stand = before.stand;
          all = λ k lt s. elim (cases_lt k (256 * n)) [
            | inl below ↦ before.all k below s
            | inr from ↦ absurd (s.used (ap (λ j. little (fs i).at j 256) (omega (arith, s.aligned)) ∙ empty))
          ];
        }
        | inr used ↦
            let slot : IsSlot (fs i) (256 * n) = record { dir = dir; below = omega arith; aligned = omega arith; used = used } in
            let c = slot_inode (fs i) (256 * n) in
            let x = slot_name (fs i) (256 * n) in
            let tall = child (256 * n) c (record { slot = slot; child = refl }) in
            let new : (s : Named (fs i) x) × Stands fs (slot_inode (fs i) s.offset) tall.tree = (record { offset = 256 * n; slot = slot; name = refl }, tall.stands) in
            record {
              es = put_entry x tall.tree before.es;
              sorted = put_entries x tall.tree before.es (a.entries i (256 * n) slot).name tall.is_tree before.sorted;
              stand = stand_put fs (fs i) x tall.tree new before.es before.stand;
              all = λ k lt s. elim (cases_lt k (256 * n)) [
                | inl below ↦ has_put (slot_name (fs i) k) x tall.tree before.es (before.all k below s)
                | inr from ↦ subst (λ j. HasName (slot_name (fs i) j) (put_entry x tall.tree before.es)) (omega (arith, s.aligned)) (has_self x tall.tree before.es)
              ];
            }
      ]

  grow : (fuel k c most : ℕ) → ((c k : ℕ) → c ≤ count → (fs c).kind ≢ 0 → Steps fs k c → k ≤ most) → most < k + fuel → (fs c).kind ≢ 0 → Steps fs k c → Tall fs c
  unfolding Steps
  grow zero k c most all enough live st = absurd (omega (arith, all c k (a.numbers c live) live st))
  grow (suc fuel) k c most all enough live st = elim (cases_eq (fs c).kind 1) [
    | inl file ↦
        let bytes = bytes_from (fs c).at 0 (fs c).size in
        record {
          tree = File (bytes_from (fs c).at 0 (fs c).size);
          is_tree = omega (arith, bytes_from-length (fs c).at 0 (fs c).size, a.sizes c);
          stands = record {
            kind = file;
            size = sym (bytes_from-length (fs c).at 0 (fs c).size);
            all = λ j lt. sym (bytes_from-at (fs c).at 0 (fs c).size j (omega (arith, bytes_from-length (fs c).at 0 (fs c).size)) ∙ ap (fs c).at (omega arith));
          };
        }
    | inr other ↦
        let dir : (fs c).kind ≡ 2 = omega (arith, a.kinds c) in
        let whole : 256 * ((fs c).size / 256) ≡ (fs c).size = omega (arith, a.slots c dir) in
        let b = built c dir (λ o d n. grow fuel (suc k) d most all (omega arith) (live_child c o d n) (c, o, n, st)) ((fs c).size / 256) (omega (arith, whole)) in
        record {
          tree = Dir b.es;
          is_tree = b.sorted;
          stands = (record { kind = dir; names = λ o s. b.all o (omega (arith, whole, s.below)) s }, b.stand);
        }
  ]

  pub exists_tree : (t : Tree) × IsTree t × Stands fs 1 t
  unfolding Steps
  exists_tree =
      let d = deepest count in
      let tall = grow (d.0 + 1) 0 1 d.0 d.1 (omega arith) (λ z. omega (arith, z, a.root)) refl in
      (tall.tree, tall.is_tree, tall.stands)
