-- The rules on objects, and paths up to a root.
use Rattle.std.proofs.Common.{◌≡◌, ◌≢◌, ℕ, zero, suc, List, [], ◌∷◌, refl, sym, ap, ◌∙◌, subst, inl, inr, arith}
use Rattle.ct_base.specs.Objects.{Object}
use Rattle.ct_base.specs.Slots.{Names, Steps, slot_name}
use Rattle.ct_base.specs.Rules.{AreEntries, AreNamesApart, AreNamed, AreReached}
use Rattle.ct_tree.specs.Tree.{Tree}
use Rattle.ct_tree.specs.Ordered.{IsTree}
use Rattle.ct_tree.specs.Stands.{Stands}
use Rattle.ct_state.specs.Forest.{Up, IsTop, IsUnder, AreTrees, Forest}
use Rattle.ct_state.proofs.Paths.{Path}

-- no object has two names, and these two have none
pub record AreOnce (fs : ℕ → Object) (orphan : ℕ) : Type 0 where
  pub apart : AreNamesApart fs
  pub top : IsTop fs 1
  pub free : IsTop fs orphan
  pub once : (i o j k c : ℕ) → Names fs i o c → Names fs j k c → (i ≡ j) × (o ≡ k)

-- ---- the rules

-- what the slots lead to from a root
pub reaches : (fs : ℕ → Object) (k c : ℕ) → Steps fs k c → IsUnder fs 1 c
unfolding Steps Up
reaches fs zero c is = ([], is)
reaches fs (suc k) c s =
    let up = reaches fs k s.0 s.3 in
    (slot_name (fs s.0) s.1 ∷ up.0, (s.0, record { offset = s.1; slot = s.2.slot; name = refl }, s.2.child, up.1))

pub steps_of : (fs : ℕ → Object) (xs : List (List ℕ)) (c : ℕ) → Up fs 1 xs c → (k : ℕ) × Steps fs k c
unfolding Steps Up
steps_of fs [] c is = (0, is)
steps_of fs (x ∷ xs) c up =
    let s = steps_of fs xs up.0 up.3 in
    (suc s.0, (up.0, up.1.offset, record { slot = up.1.slot; child = up.2 }, s.1))

-- objects that meet the rules are a forest without an orphan
pub trees_of : {fs : ℕ → Object} → AreEntries fs → AreNamesApart fs → AreNamed fs → AreReached fs → (fs 1).kind ≡ 2 → AreTrees fs 1
trees_of {fs} entries apart named reached root = record {
  entries = entries;
  apart = apart;
  root = root;
  alive = λ z. omega (arith, z, root);
  top = named.root;
  free = named.root;
  others = λ c live other same. named.others c live other;
  reached = λ c live. let up = reached c live in inl (reaches fs up.0 c up.1);
}

pub forest_of : {fs : ℕ → Object} {t : Tree} → AreTrees fs 1 → IsTree t → Stands fs 1 t → Forest fs 1 t t
forest_of are tree st = record { are = are; tree = tree; stands = st; orphan_tree = tree; orphan_stands = st }

-- and such a forest meets them
pub named_of : {fs : ℕ → Object} → AreTrees fs 1 → AreNamed fs
named_of f = record { root = f.top; others = λ c live other. f.others c live other other }

pub reached_of : {fs : ℕ → Object} → AreTrees fs 1 → AreReached fs
reached_of {fs} f c live = elim (f.reached c live) [ inl up ↦ steps_of fs up.0 c up.1 | inr up ↦ steps_of fs up.0 c up.1 ]

-- ---- paths

pub path_up : (fs : ℕ → Object) (xs : List (List ℕ)) (c : ℕ) → Path fs xs c → Up fs 1 xs c
unfolding Path Up
path_up fs [] c is = is
path_up fs (x ∷ xs) c p = (p.0, p.1, p.2, path_up fs xs p.0 p.3)

module _ {fs : ℕ → Object} {r : ℕ} (f : AreTrees fs r) where
  -- an object has one name at most
  pub named_once : (i o j k c : ℕ) → Names fs i o c → Names fs j k c → (i ≡ j) × (o ≡ k)
  named_once i o j k c p q =
      let live : (fs c).kind ≢ 0 = λ z. (f.entries i o p.slot).live (ap (λ n. (fs n).kind) p.child ∙ z) in
      let below : c ≢ 1 = λ is. f.top i o (subst (λ n. Names fs i o n) is p) in
      let held : c ≢ r = λ is. f.free i o (subst (λ n. Names fs i o n) is p) in
      let once = f.others c live below held in
      let a = once.only i o p in
      let b = once.only j k q in
      (a.0 ∙ sym b.0, a.1 ∙ sym b.1)

  pub once_of : AreOnce fs r
  once_of = record { apart = f.apart; top = f.top; free = f.free; once = named_once }

-- the same of the rules on names alone
pub once_named : {fs : ℕ → Object} → AreEntries fs → AreNamesApart fs → AreNamed fs → AreOnce fs 1
once_named {fs} entries apart named = record {
  apart = apart;
  top = named.root;
  free = named.root;
  once = λ i o j k c p q.
      let once = named.others c (λ z. (entries i o p.slot).live (ap (λ n. (fs n).kind) p.child ∙ z)) (λ is. named.root i o (subst (λ n. Names fs i o n) is p)) in
      let a = once.only i o p in
      let b = once.only j k q in
      (a.0 ∙ sym b.0, a.1 ∙ sym b.1);
}

module _ {fs : ℕ → Object} {r : ℕ} (f : AreOnce fs r) where
  -- an object has one path up, to one root
  pub up_once : (p q : ℕ) (xs ys : List (List ℕ)) (c : ℕ) → IsTop fs p → IsTop fs q → Up fs p xs c → Up fs q ys c → (p ≡ q) × (xs ≡ ys)
  unfolding Up
  up_once p q [] [] c top top' u v = (sym u ∙ v, refl)
  up_once p q [] (y ∷ ys) c top top' u v = absurd (top v.0 v.1.offset (record { slot = v.1.slot; child = v.2 ∙ u }))
  up_once p q (x ∷ xs) [] c top top' u v = absurd (top' u.0 u.1.offset (record { slot = u.1.slot; child = u.2 ∙ v }))
  up_once p q (x ∷ xs) (y ∷ ys) c top top' u v =
      let same = f.once u.0 u.1.offset v.0 v.1.offset c (record { slot = u.1.slot; child = u.2 }) (record { slot = v.1.slot; child = v.2 }) in
      let name : x ≡ y = sym u.1.name ∙ ap (λ k. slot_name (fs u.0) k) same.1 ∙ ap (λ k. slot_name (fs k) v.1.offset) same.0 ∙ v.1.name in
      let rest = up_once p q xs ys v.0 top top' (subst (λ k. Up fs p xs k) same.0 u.3) v.3 in
      (rest.0, λ j. name j ∷ rest.1 j)
