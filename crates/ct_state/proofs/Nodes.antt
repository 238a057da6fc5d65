-- The nodes of a tree, by the objects that they stand for.
use Rattle.std.proofs.Common.{◌≡◌, ◌≢◌, ℕ, zero, suc, List, [], ◌∷◌, ◌++◌, length, refl, sym, ap, ◌∙◌, subst, inl, inr, arith, append_assoc, length-append}
use Rattle.ct_base.specs.Objects.{Object}
use Rattle.ct_base.specs.Slots.{IsSlot, Names, Steps, slot_inode, slot_name}
use Rattle.ct_base.specs.Named.{Named}
use Rattle.ct_base.specs.Rules.{AreEntries, AreNamesApart, AreNamed}
use Rattle.ct_tree.specs.Tree.{Tree, File, Dir, Entries, none, entry, nodes, nodes_below}
use Rattle.ct_tree.specs.Ordered.{IsTree}
use Rattle.ct_tree.specs.Stands.{HasName, Stands, StandIn}
use Rattle.ct_state.proofs.Counted.{IsAmong, AreOnce, among_left, among_right, among_cases, once_append}
use Rattle.ct_state.proofs.Puts.{not_less}
use Rattle.ct_state.proofs.Unique.{below_has}
use Rattle.ct_state.proofs.Written.{path_once}
use Rattle.ct_state.proofs.Paths.{Path}

abbrev mutual
  -- the numbers of the objects of a tree, in its order
  pub numbers : (fs : ℕ → Object) (i : ℕ) (t : Tree) → Stands fs i t → List ℕ
  numbers fs i (File bytes) st = i ∷ []
  numbers fs i (Dir es) st = i ∷ numbers_in fs (fs i) es st.1

  pub numbers_in : (fs : ℕ → Object) (f : Object) (es : Entries) → StandIn fs f es → List ℕ
  numbers_in fs f none st = []
  numbers_in fs f (entry x n rest) st = numbers fs (slot_inode f st.0.0.offset) n st.0.1 ++ numbers_in fs f rest st.1

-- ---- there are as many as nodes

mutual
  pub length-numbers : (fs : ℕ → Object) (i : ℕ) (t : Tree) (st : Stands fs i t) → length (numbers fs i t st) ≡ nodes t
  length-numbers fs i (File bytes) st = refl
  length-numbers fs i (Dir es) st = omega (arith, length-numbers_in fs (fs i) es st.1)

  length-numbers_in : (fs : ℕ → Object) (f : Object) (es : Entries) (st : StandIn fs f es) → length (numbers_in fs f es st) ≡ nodes_below es
  length-numbers_in fs f none st = refl
  length-numbers_in fs f (entry x n rest) st =
      let c = slot_inode f st.0.0.offset in
      omega (arith, length-append (numbers fs c n st.0.1) (numbers_in fs f rest st.1), length-numbers fs c n st.0.1, length-numbers_in fs f rest st.1)

-- the first is the object of the tree
first_among : (fs : ℕ → Object) (i : ℕ) (t : Tree) (st : Stands fs i t) → IsAmong i (numbers fs i t st)
first_among fs i (File bytes) st = inl refl
first_among fs i (Dir es) st = inl refl

-- ---- each is live

mutual
  pub all_live : (fs : ℕ → Object) (i : ℕ) (t : Tree) (st : Stands fs i t) (c : ℕ) → IsAmong c (numbers fs i t st) → (fs c).kind ≢ 0
  all_live fs i (File bytes) st c (inl is) z = omega (arith, st.kind, ap (λ k. (fs k).kind) is, z)
  all_live fs i (File bytes) st c (inr h) z = absurd h
  all_live fs i (Dir es) st c (inl is) z = omega (arith, st.0.kind, ap (λ k. (fs k).kind) is, z)
  all_live fs i (Dir es) st c (inr h) z = live_in fs (fs i) es st.1 c h z

  live_in : (fs : ℕ → Object) (f : Object) (es : Entries) (st : StandIn fs f es) (c : ℕ) → IsAmong c (numbers_in fs f es st) → (fs c).kind ≢ 0
  live_in fs f none st c h z = absurd h
  live_in fs f (entry x n rest) st c h z =
      let d = slot_inode f st.0.0.offset in
      elim (among_cases c (numbers fs d n st.0.1) (numbers_in fs f rest st.1) h) [
        | inl here ↦ all_live fs d n st.0.1 c here z
        | inr more ↦ live_in fs f rest st.1 c more z
      ]

-- ---- what a slot names is among them, where its directory is

child_among : (fs : ℕ → Object) → AreNamesApart fs → (i o : ℕ) (es : Entries) (st : StandIn fs (fs i) es) → IsSlot (fs i) o → HasName (slot_name (fs i) o) es
    → IsAmong (slot_inode (fs i) o) (numbers_in fs (fs i) es st)
child_among fs apart i o none st slot h = absurd h
child_among fs apart i o (entry x n rest) st slot (inl is) =
    let s = st.0.0 in
    let c = slot_inode (fs i) s.offset in
    let same : s.offset ≡ o = apart i s.offset o s.slot slot (s.name ∙ sym is) in
    let there = among_left c (numbers fs c n st.0.1) (numbers_in fs (fs i) rest st.1) (first_among fs c n st.0.1) in
    subst (λ k. IsAmong (slot_inode (fs i) k) (numbers_in fs (fs i) (entry x n rest) st)) same there
child_among fs apart i o (entry x n rest) st slot (inr h) =
    among_right (slot_inode (fs i) o) (numbers fs (slot_inode (fs i) st.0.0.offset) n st.0.1) (numbers_in fs (fs i) rest st.1) (child_among fs apart i o rest st.1 slot h)

mutual
  step_among : (fs : ℕ → Object) → AreNamesApart fs → (i : ℕ) (t : Tree) (st : Stands fs i t) (d o c : ℕ) → IsAmong d (numbers fs i t st) → Names fs d o c → IsAmong c (numbers fs i t st)
  step_among fs apart i (File bytes) st d o c (inl is) n = absurd (omega (arith, st.kind, ap (λ k. (fs k).kind) is, n.slot.dir))
  step_among fs apart i (File bytes) st d o c (inr h) n = absurd h
  step_among fs apart i (Dir es) st d o c (inl is) n =
      let m : Names fs i o c = subst (λ k. Names fs k o c) is n in
      let there = child_among fs apart i o es st.1 m.slot (st.0.names o m.slot) in
      inr (subst (λ k. IsAmong k (numbers_in fs (fs i) es st.1)) m.child there)
  step_among fs apart i (Dir es) st d o c (inr h) n = inr (step_in fs apart (fs i) es st.1 d o c h n)

  step_in : (fs : ℕ → Object) → AreNamesApart fs → (f : Object) (es : Entries) (st : StandIn fs f es) (d o c : ℕ) → IsAmong d (numbers_in fs f es st) → Names fs d o c → IsAmong c (numbers_in fs f es st)
  step_in fs apart f none st d o c h n = absurd h
  step_in fs apart f (entry x node rest) st d o c h n =
      let e = slot_inode f st.0.0.offset in
      elim (among_cases d (numbers fs e node st.0.1) (numbers_in fs f rest st.1) h) [
        | inl a ↦ among_left c (numbers fs e node st.0.1) (numbers_in fs f rest st.1) (step_among fs apart e node st.0.1 d o c a n)
        | inr b ↦ among_right c (numbers fs e node st.0.1) (numbers_in fs f rest st.1) (step_in fs apart f rest st.1 d o c b n)
      ]

-- so each object that is reached is
pub reached_among : (fs : ℕ → Object) → AreNamesApart fs → (t : Tree) (st : Stands fs 1 t) (k c : ℕ) → Steps fs k c → IsAmong c (numbers fs 1 t st)
unfolding Steps
reached_among fs apart t st zero c is = subst (λ j. IsAmong j (numbers fs 1 t st)) (sym is) (first_among fs 1 t st)
reached_among fs apart t st (suc k) c up = step_among fs apart 1 t st up.0 up.1 c (reached_among fs apart t st k up.0 up.3) up.2

-- ---- no object is there twice

-- the names of a way down to an object, the last first, before those of where it begins
record Way (fs : ℕ → Object) (ys : List (List ℕ)) (c : ℕ) : Type 0 where
  names : List (List ℕ)
  path : Path fs (names ++ ys) c

-- the same, through one of the entries
record WayIn (fs : ℕ → Object) (ys : List (List ℕ)) (es : Entries) (c : ℕ) : Type 0 where
  first : List ℕ
  has : HasName first es
  way : Way fs (first ∷ ys) c

way_on : (fs : ℕ → Object) (x : List ℕ) (ys : List (List ℕ)) (c : ℕ) → Way fs (x ∷ ys) c → Way fs ys c
way_on fs x ys c w = record { names = w.names ++ (x ∷ []); path = subst (λ zs. Path fs zs c) (sym (append_assoc w.names (x ∷ []) ys)) w.path }

path_down : (fs : ℕ → Object) (i : ℕ) (x : List ℕ) (ys : List (List ℕ)) (s : Named (fs i) x) → Path fs ys i → Path fs (x ∷ ys) (slot_inode (fs i) s.offset)
unfolding Path
path_down fs i x ys s p = (i, s, refl, p)

mutual
  way_to : (fs : ℕ → Object) (i : ℕ) (t : Tree) (st : Stands fs i t) (ys : List (List ℕ)) (c : ℕ) → Path fs ys i → IsAmong c (numbers fs i t st) → Way fs ys c
  way_to fs i (File bytes) st ys c p (inl is) = record { names = []; path = subst (Path fs ys) (sym is) p }
  way_to fs i (File bytes) st ys c p (inr h) = absurd h
  way_to fs i (Dir es) st ys c p (inl is) = record { names = []; path = subst (Path fs ys) (sym is) p }
  way_to fs i (Dir es) st ys c p (inr h) = let w = way_in fs i es st.1 ys c p h in way_on fs w.first ys c w.way

  way_in : (fs : ℕ → Object) (i : ℕ) (es : Entries) (st : StandIn fs (fs i) es) (ys : List (List ℕ)) (c : ℕ) → Path fs ys i → IsAmong c (numbers_in fs (fs i) es st) → WayIn fs ys es c
  way_in fs i none st ys c p h = absurd h
  way_in fs i (entry x n rest) st ys c p h =
      let d = slot_inode (fs i) st.0.0.offset in
      elim (among_cases c (numbers fs d n st.0.1) (numbers_in fs (fs i) rest st.1) h) [
        | inl here ↦ record { first = x; has = inl refl; way = way_to fs d n st.0.1 (x ∷ ys) c (path_down fs i x ys st.0.0 p) here }
        | inr more ↦ let w = way_in fs i rest st.1 ys c p more in record { first = w.first; has = inr w.has; way = w.way }
      ]

-- names that end in the same ones begin these with the same
same_end : (xs zs ys : List (List ℕ)) (x z : List ℕ) → xs ++ (x ∷ ys) ≡ zs ++ (z ∷ ys) → x ≡ z
same_end [] [] ys x z is = cc
same_end [] (w ∷ zs) ys x z is = absurd (omega (arith, ap length is, length-append zs (z ∷ ys)))
same_end (w ∷ xs) [] ys x z is = absurd (omega (arith, ap length is, length-append xs (x ∷ ys)))
same_end (w ∷ xs) (v ∷ zs) ys x z is = same_end xs zs ys x z cc

module _ {fs : ℕ → Object} (entries : AreEntries fs) (named : AreNamed fs) where
  mutual
    once : (i : ℕ) (t : Tree) (st : Stands fs i t) (ys : List (List ℕ)) → IsTree t → Path fs ys i → AreOnce (numbers fs i t st)
    once i (File bytes) st ys is p = (λ h. h, tt)
    once i (Dir es) st ys is p = (
      λ h.
          let w = way_in fs i es st.1 ys i p h in
          let same = path_once entries named ys (w.way.names ++ (w.first ∷ ys)) i p w.way.path in
          omega (arith, ap length same, length-append w.way.names (w.first ∷ ys)),
      once_in i es st.1 ys is p,
    )

    once_in : (i : ℕ) (es : Entries) (st : StandIn fs (fs i) es) (ys : List (List ℕ)) → Rattle.ct_tree.specs.Ordered.AreEntries es → Path fs ys i → AreOnce (numbers_in fs (fs i) es st)
    once_in i none st ys are p = tt
    once_in i (entry x n rest) st ys are p =
        let d = slot_inode (fs i) st.0.0.offset in
        let down = path_down fs i x ys st.0.0 p in
        once_append (numbers fs d n st.0.1) (numbers_in fs (fs i) rest st.1) (once d n st.0.1 (x ∷ ys) are.1 down) (once_in i rest st.1 ys are.3 p) (λ c here more.
        let a = way_to fs d n st.0.1 (x ∷ ys) c down here in
        let b = way_in fs i rest st.1 ys c p more in
        let paths = path_once entries named (a.names ++ (x ∷ ys)) (b.way.names ++ (b.first ∷ ys)) c a.path b.way.path in
        not_less x b.first (below_has x b.first rest are.2 b.has) (same_end a.names b.way.names ys x b.first paths))

  pub once_each : (t : Tree) (st : Stands fs 1 t) → IsTree t → AreOnce (numbers fs 1 t st)
  unfolding Path
  once_each t st is = once 1 t st [] is refl
