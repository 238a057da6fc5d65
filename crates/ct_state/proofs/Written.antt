-- A file gets other bytes.
use Rattle.std.proofs.Common.{◌≡◌, ◌≢◌, ℕ, zero, suc, List, [], ◌∷◌, refl, sym, ap, ◌∙◌, subst, inl, inr, arith}
use Rattle.std.proofs.lemmas.Bool.{cases_eq}
use Rattle.ct_base.specs.Objects.{Object}
use Rattle.ct_base.specs.Slots.{IsSlot, Names, Steps, slot_inode, slot_name}
use Rattle.ct_base.specs.Rules.{IsEntry, AreEntries, AreNamesApart, AreNamed, AreReached}
use Rattle.ct_state.proofs.Paths.{Path}

pub record Written (fs gs : ℕ → Object) (i : ℕ) : Type 0 where
  pub others : (j : ℕ) → j ≢ i → gs j ≡ fs j
  pub was : (fs i).kind ≡ 1
  pub is : (gs i).kind ≡ 1

module _ {fs gs : ℕ → Object} {i : ℕ} (w : Written fs gs i) where
  pub kind-same : (j : ℕ) → (gs j).kind ≡ (fs j).kind
  kind-same j = elim (cases_eq j i) [
    | inl here ↦ ap (λ k. (gs k).kind) here ∙ w.is ∙ sym (ap (λ k. (fs k).kind) here ∙ w.was)
    | inr other ↦ ap (λ (f : Object). f.kind) (w.others j other)
  ]

  -- a directory is as it was
  pub dir-same : (j : ℕ) → (fs j).kind ≡ 2 → gs j ≡ fs j
  dir-same j dir = w.others j (λ here. omega (arith, dir, ap (λ k. (fs k).kind) here, w.was))

  slot-same : (j o : ℕ) → IsSlot (gs j) o → gs j ≡ fs j
  slot-same j o s = dir-same j (sym (kind-same j) ∙ s.dir)

  pub names_back : (j o c : ℕ) → Names gs j o c → Names fs j o c
  names_back j o c n =
      let e = slot-same j o n.slot in
      record { slot = subst (λ f. IsSlot f o) e n.slot; child = sym (ap (λ f. slot_inode f o) e) ∙ n.child }

  pub names_on : (j o c : ℕ) → Names fs j o c → Names gs j o c
  names_on j o c n =
      let e = sym (dir-same j n.slot.dir) in
      record { slot = subst (λ f. IsSlot f o) e n.slot; child = sym (ap (λ f. slot_inode f o) e) ∙ n.child }

  pub entries_stay : AreEntries fs → AreEntries gs
  entries_stay all j o s =
      let e = slot-same j o s in
      let was = all j o (subst (λ f. IsSlot f o) e s) in
      let now : IsEntry gs (fs j) o = record { live = λ z. was.live (sym (kind-same (slot_inode (fs j) o)) ∙ z); length = was.length; name = was.name; padding = was.padding } in
      subst (λ f. IsEntry gs f o) (sym e) now

  pub names_apart_stay : AreNamesApart fs → AreNamesApart gs
  names_apart_stay apart j o k s t same =
      let e = slot-same j o s in
      apart j o k (subst (λ f. IsSlot f o) e s) (subst (λ f. IsSlot f k) e t) (sym (ap (λ f. slot_name f o) e) ∙ same ∙ ap (λ f. slot_name f k) e)

  pub named_stay : AreNamed fs → AreNamed gs
  named_stay named = record {
    root = λ j o n. named.root j o (names_back j o 1 n);
    others = λ c live other.
        let once = named.others c (λ z. live (kind-same c ∙ z)) other in
        record { dir = once.dir; slot = once.slot; is = names_on once.dir once.slot c once.is; only = λ j o n. once.only j o (names_back j o c n) };
  }

  steps_stay : (k c : ℕ) → Steps fs k c → Steps gs k c
  unfolding Steps
  steps_stay zero c is = is
  steps_stay (suc k) c up = (up.0, up.1, names_on up.0 up.1 c up.2, steps_stay k up.0 up.3)

  pub reached_stay : AreReached fs → AreReached gs
  reached_stay all c live = let up = all c (λ z. live (kind-same c ∙ z)) in (up.0, steps_stay up.0 c up.1)

-- no object has two paths
pub path_once : {fs : ℕ → Object} → AreEntries fs → AreNamed fs → (xs ys : List (List ℕ)) (c : ℕ) → Path fs xs c → Path fs ys c → xs ≡ ys
unfolding Path
path_once entries named [] [] c p q = refl
path_once {fs} entries named [] (y ∷ ys) c p q = absurd (named.root q.0 q.1.offset (record { slot = q.1.slot; child = q.2 ∙ p }))
path_once {fs} entries named (x ∷ xs) [] c p q = absurd (named.root p.0 p.1.offset (record { slot = p.1.slot; child = p.2 ∙ q }))
path_once {fs} entries named (x ∷ xs) (y ∷ ys) c p q =
    let np : Names fs p.0 p.1.offset c = record { slot = p.1.slot; child = p.2 } in
    let nq : Names fs q.0 q.1.offset c = record { slot = q.1.slot; child = q.2 } in
    let not_root : c ≢ 1 = λ is. named.root p.0 p.1.offset (subst (λ k. Names fs p.0 p.1.offset k) is np) in
    let live : (fs c).kind ≢ 0 = λ z. (entries p.0 p.1.offset p.1.slot).live (ap (λ k. (fs k).kind) p.2 ∙ z) in
    let once = named.others c live not_root in
    let a = once.only p.0 p.1.offset np in
    let b = once.only q.0 q.1.offset nq in
    let dir : q.0 ≡ p.0 = b.0 ∙ sym a.0 in
    let slot : q.1.offset ≡ p.1.offset = b.1 ∙ sym a.1 in
    let name : x ≡ y = sym p.1.name ∙ sym (ap (λ k. slot_name (fs p.0) k) slot) ∙ sym (ap (λ k. slot_name (fs k) q.1.offset) dir) ∙ q.1.name in
    let rest : xs ≡ ys = path_once entries named xs ys p.0 p.3 (subst (λ k. Path fs ys k) dir q.3) in
    λ j. name j ∷ rest j
