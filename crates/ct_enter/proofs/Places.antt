-- Where a new entry goes in a directory of a mounted file system.
use Rattle.std.proofs.Common.{◌≡◌, ◌≢◌, ℕ, zero, suc, ◌+◌, ◌*◌, ◌/◌, ◌<◌, ◌≤◌, true, false, List, refl, sym, ap, subst, ◌∙◌, inl, inr, arith}
use Rattle.std.specs.Prelude.{◌==◌}
use Rattle.std.proofs.lemmas.Bool.{cases_Bool, eqb-false}
use Rattle.ct_base.specs.declared.inode.Inode.{Inode}
use Rattle.ct_base.specs.Inode.{little}
use Rattle.ct_base.specs.Objects.{Object}
use Rattle.ct_base.specs.Rules.{IsPlaced, placed, apart, headers, slots, named}
use Rattle.ct_base.specs.Slots.{IsSlot, Names, free_slot_from, slot_inode}
use Rattle.ct_base.specs.View.{view, inode_count}
use Rattle.ct_parts.proofs.Live.{live_stand}
use Rattle.ct_state.proofs.Bytes.{objects-in, objects-cases}
use Rattle.ct_image.proofs.Turns.{injected, count_below-every}
use Rattle.ct_tree.specs.Lands.{files}
use Rattle.ct_commit.specs.Rest.{IsAtRest}
use Rattle.ct_enter.specs.Plans.{CanPlan}
use Rattle.ct_find.specs.Spots.{IsNextSlot}

-- the slots before the first empty one are used
before_free : (f : Object) (n o k : ℕ) → o + 256 * k < free_slot_from f o n → little f.at (o + 256 * k) 256 ≢ 0
unfolding free_slot_from
before_free f zero o k lt = absurd (omega arith)
before_free f (suc n) o k lt = elim (cases_Bool (little f.at o 256 == 0)) [
  | inl t ↦
      let here : o + 256 * k < o = rw t at lt in
      absurd (omega (arith, here))
  | inr u ↦ later k u (rw u at lt) (before_free f n (o + 256))
]
  where
    later : (k : ℕ) → (little f.at o 256 == 0) ≡ false → o + 256 * k < free_slot_from f (o + 256) n
        → ((j : ℕ) → o + 256 + 256 * j < free_slot_from f (o + 256) n → little f.at (o + 256 + 256 * j) 256 ≢ 0) → little f.at (o + 256 * k) 256 ≢ 0
    later zero u lt rest = λ z. eqb-false (little f.at o 256) 0 u (ap (λ p. little f.at p 256) (let e : o ≡ o + 256 * 0 = omega arith in e) ∙ z)
    later (suc k) u lt rest =
        let e : o + 256 + 256 * k ≡ o + 256 * suc k = omega arith in
        subst (λ p. little f.at p 256 ≢ 0) e (rest k (omega (arith, e, lt)))

free_most : (f : Object) (n o : ℕ) → free_slot_from f o n ≤ o + 256 * n
unfolding free_slot_from
free_most f zero o = omega arith
free_most f (suc n) o = elim (cases_Bool (little f.at o 256 == 0)) [
  | inl t ↦ rw t (omega arith)
  | inr u ↦ rw u (omega (arith, free_most f n (o + 256)))
]

module _ {img : List ℕ} (rest : IsAtRest img) {dir : ℕ} {f : Inode} {offset : ℕ} (s : IsNextSlot img dir f offset) where
  count : ℕ
  count = inode_count img

  dir_kind : (files img dir).kind ≡ 2
  dir_kind = ap (λ (o : Object). o.kind) (objects-in (view img) (inode_count img) dir s.live.number) ∙ ap (λ (g : Inode). g.kind) s.is ∙ s.kind

  -- slot k lies before the offset
  slot_before : (k : ℕ) → k < offset / 256 → IsSlot (files img dir) (256 * k)
  slot_before k lt =
      let size = (files img dir).size in
      let first : offset ≡ free_slot_from (files img dir) 0 (size / 256) = s.first in
      let most : free_slot_from (files img dir) 0 (size / 256) ≤ 0 + 256 * (size / 256) = free_most (files img dir) (size / 256) 0 in
      let start : 0 + 256 * k ≡ 256 * k = omega arith in
      record {
        dir = dir_kind;
        below = omega (arith, first, most, lt);
        aligned = omega arith;
        used = subst (λ p. little (files img dir).at p 256 ≢ 0) start (before_free (files img dir) (size / 256) 0 k (omega (arith, first, lt)));
      }

  entry_live : (o : ℕ) → IsSlot (files img dir) o → (files img (slot_inode (files img dir) o)).kind ≢ 0
  entry_live o slot = (rest.sound slots dir o slot).live

  entry_number : (o : ℕ) → IsSlot (files img dir) o → slot_inode (files img dir) o ≤ inode_count img
  entry_number o slot = elim (objects-cases (view img) (inode_count img) (slot_inode (files img dir) o)) [
    | inl in_range ↦ in_range.0.to
    | inr none ↦ absurd (entry_live o slot (ap (λ (g : Object). g.kind) none.1))
  ]

  -- two slots of the directory do not name one inode
  entry_once : (o p : ℕ) → IsSlot (files img dir) o → IsSlot (files img dir) p → slot_inode (files img dir) o ≡ slot_inode (files img dir) p → o ≡ p
  entry_once o p slot other same =
      let c = slot_inode (files img dir) p in
      let first : Names (files img) dir o c = record { slot = slot; child = same } in
      let second : Names (files img) dir p c = record { slot = other; child = refl } in
      let away : c ≢ 1 = λ z. (rest.sound named).root dir p (subst (λ n. Names (files img) dir p n) z second) in
      let once = (rest.sound named).others c (entry_live p other) away in
      (once.only dir o first).1 ∙ sym (once.only dir p second).1

  -- There are no more entries than inodes.
  pub few_slots : offset / 256 ≤ inode_count img + 1
  few_slots = omega (
    arith,
    injected (λ k. true) (offset / 256) (λ k. true) (inode_count img + 1) (record {
      to = λ k. slot_inode (files img dir) (256 * k);
      low = λ k lt is. omega (arith, entry_number (256 * k) (slot_before k lt));
      passes = λ k lt is. refl;
      once = λ k j lt lt' is is' same. let e : 256 * k ≡ 256 * j = entry_once (256 * k) (256 * j) (slot_before k lt) (slot_before j lt') same in omega (arith, e);
    }),
    count_below-every (offset / 256),
    count_below-every (inode_count img + 1),
  )

  pub can_plan : CanPlan img f offset
  can_plan = record {
    tables = rest.tables;
    stand = live_stand (view img) (inode_count img) (rest.sound placed) (rest.sound apart) (rest.sound headers);
    placed = subst IsPlaced s.is (rest.sound placed dir s.live);
    dir = s.kind;
    aligned = s.aligned;
    within = s.within;
    fits = omega (arith, few_slots, rest.head.inodes.1);
  }
