-- What the slots name, met one after the other.
use Rattle.std.proofs.Common.{◌≡◌, ◌≢◌, ◌⊎◌, ℕ, ◌+◌, ◌%◌, ◌<◌, ◌≤◌, true, false, List, refl, sym, ap, subst, ◌∙◌, inl, inr, arith}
use Rattle.std.proofs.lemmas.Bool.{both_ways, cases_eq, cases_lt}
use Rattle.ct_base.specs.declared.inode.Inode.{Inode}
use Rattle.ct_base.specs.Inode.{inode, IsNumber}
use Rattle.ct_base.specs.Objects.{Object, objects}
use Rattle.ct_base.specs.Rules.{AreEntries, AreNamed}
use Rattle.ct_base.specs.Slots.{IsSlot, Names, slot_inode}
use Rattle.ct_base.specs.View.{inode_count, view}
use Rattle.ct_base.specs.Walk.{word}
use Rattle.ct_dir.specs.Directory.{AreEmpty, dir_of}
use Rattle.ct_state.proofs.Bytes.{objects-cases, objects-in}
use Rattle.ct_marks.specs.Marks.{AreBlank, Marked, is_marked}
use Rattle.ct_naming.specs.Naming.{Counts, IsPast}
use Rattle.ct_naming.specs.declared.slot.Slot.{Slot}
use Rattle.ct_naming.specs.Slots.{Meets}
use Rattle.ct_naming.proofs.Meeting.{inode_is}

-- one more slot is met
past_cases : (d at next i o : ℕ) → IsPast d next i o → ((i ≡ d) × (at ≤ o) × (o < next)) ⊎ IsPast d at i o
past_cases d at next i o (inl before) = inr (inl before)
past_cases d at next i o (inr here) = elim (cases_lt o at) [
  | inl lt ↦ inr (inr (here.0, lt))
  | inr ge ↦ inl (here.0, ge, here.1)
]

past_more : (d at next i o : ℕ) → at ≤ next → IsPast d at i o → IsPast d next i o
past_more d at next i o le (inl before) = inl before
past_more d at next i o le (inr here) = inr (here.0, omega (arith, here.1))

-- a slot that was met on the device is one of the object, and names a live inode
pub record IsStep (fs : ℕ → Object) (count d at o c : ℕ) : Type 0 where
  pub on : at ≤ o
  pub slot : IsSlot (fs d) o
  pub passed : (k : ℕ) → at ≤ k → k < o → IsSlot (fs d) k → ⊥
  pub child : c ≡ slot_inode (fs d) o
  pub live : (fs c).kind ≢ 0
  pub few : c ≤ count

module _ {fs : ℕ → Object} {count d at o c : ℕ} (step : IsStep fs count d at o c) where
  -- between the offsets there is this slot alone
  alone : (k : ℕ) → at ≤ k → k < o + 256 → IsSlot (fs d) k → k ≡ o
  alone k from to s = elim (cases_lt k o) [
    | inl lt ↦ absurd (step.passed k from lt s)
    | inr ge ↦ omega (arith, s.aligned, step.slot.aligned)
  ]

  new_or_old : (i k e : ℕ) → IsPast d (o + 256) i k → Names fs i k e → ((i ≡ d) × (k ≡ o) × (e ≡ slot_inode (fs d) o)) ⊎ IsPast d at i k
  new_or_old i k e past n = elim (past_cases d at (o + 256) i k past) [
    | inl here ↦
        let s = subst (λ j. IsSlot (fs j) k) here.0 n.slot in
        let same = alone k here.1 here.2 s in
        inl (here.0, same, sym n.child ∙ ap (λ j. slot_inode (fs j) k) here.0 ∙ ap (slot_inode (fs d)) same)
    | inr old ↦ inr old
  ]

  names_it : Names fs d o c
  names_it = record { slot = step.slot; child = sym step.child }

  pub count_more : {old new : List ℕ} → c ≢ 1 → is_marked old c ≡ false → Marked c old new → Counts fs d at old → Counts fs d (o + 256) new
  count_more {old} {new} other fresh m counts = record {
    from = λ e on_it. elim (cases_eq e c) [
      | inl same ↦ record { dir = d; slot = o; past = inr (refl, omega arith); names = subst (Names fs d o) (sym same) names_it }
      | inr ne ↦
          let h = counts.from e (sym (m.others e ne) ∙ on_it) in
          record { dir = h.dir; slot = h.slot; past = past_more d at (o + 256) h.dir h.slot (omega (arith, step.on)) h.past; names = h.names }
    ];
    all = λ i k e past n. elim (new_or_old i k e past n) [
      | inl here ↦ ap (is_marked new) (here.2 ∙ sym step.child) ∙ m.here
      | inr before ↦ elim (cases_eq e c) [
        | inl same ↦ ap (is_marked new) same ∙ m.here
        | inr ne ↦ m.others e ne ∙ counts.all i k e before n
      ]
    ];
    once = λ i k p q e past past_too n n_too. elim (new_or_old i k e past n) [
      | inl here ↦ elim (new_or_old p q e past_too n_too) [
        | inl here_too ↦ (here.0 ∙ sym here_too.0, here.1 ∙ sym here_too.1)
        | inr before ↦ absurd (both_ways _ fresh (ap (is_marked old) (step.child ∙ sym here.2) ∙ counts.all p q e before n_too))
      ]
      | inr before ↦ elim (new_or_old p q e past_too n_too) [
        | inl here ↦ absurd (both_ways _ fresh (ap (is_marked old) (step.child ∙ sym here.2) ∙ counts.all i k e before n))
        | inr before_too ↦ counts.once i k p q e before before_too n n_too
      ]
    ];
    root = λ i k past n. elim (new_or_old i k 1 past n) [
      | inl here ↦ other (step.child ∙ sym here.2)
      | inr before ↦ counts.root i k before n
    ];
  }

  pub count_root : c ≡ 1 → AreNamed fs → ⊥
  count_root one named = named.root d o (subst (Names fs d o) one names_it)

  pub count_again : {old : List ℕ} → c ≢ 1 → is_marked old c ≡ true → Counts fs d at old → AreNamed fs → ⊥
  count_again {old} other marked counts named =
      let h = counts.from c marked in
      let once = named.others c step.live other in
      let a = once.only h.dir h.slot h.names in
      let b = once.only d o names_it in
      elim h.past [
        | inl before ↦ omega (arith, a.0, b.0, before)
        | inr here ↦ omega (arith, a.1, b.1, here.1)
      ]

-- no slot of the directory is left
pub count_end : {fs : ℕ → Object} {d at : ℕ} {marks : List ℕ} → ((k : ℕ) → at ≤ k → IsSlot (fs d) k → ⊥) → Counts fs d at marks → Counts fs (d + 1) 0 marks
count_end {fs} {d} {at} {marks} none counts = record {
  from = λ c on. let h = counts.from c on in record { dir = h.dir; slot = h.slot; past = elim h.past [ inl before ↦ inl (omega arith) | inr here ↦ inl (omega (arith, here.0)) ]; names = h.names };
  all = λ i o c past n. counts.all i o c (back i o c past n) n;
  once = λ i o k p c past past_too n n_too. counts.once i o k p c (back i o c past n) (back k p c past_too n_too) n n_too;
  root = λ i o past n. counts.root i o (back i o 1 past n) n;
}
  where
    back : (i o c : ℕ) → IsPast (d + 1) 0 i o → Names fs i o c → IsPast d at i o
    back i o c (inl before) n = elim (cases_eq i d) [
      | inl same ↦ elim (cases_lt o at) [
        | inl lt ↦ inr (same, lt)
        | inr ge ↦ absurd (none o ge (subst (λ j. IsSlot (fs j) o) same n.slot))
      ]
      | inr other ↦ inl (omega arith)
    ]
    back i o c (inr here) n = absurd (omega (arith, here.1))

-- nothing was met yet
pub count_start : (b : ℕ → ℕ) (count : ℕ) (marks : List ℕ) → AreBlank marks → Counts (objects b count) 1 0 marks
count_start b count marks blank = record {
  from = λ c on. absurd (both_ways _ (blank c) on);
  all = λ i o c past n. absurd (none i o c past n);
  once = λ i o k p c past past_too n n_too. absurd (none i o c past n);
  root = λ i o past n. none i o 1 past n;
}
  where
    none : (i o c : ℕ) → IsPast 1 0 i o → Names (objects b count) i o c → ⊥
    none i o c (inl before) n = elim (objects-cases b count i) [
      | inl in_it ↦ omega (arith, in_it.0.from, before)
      | inr out ↦ omega (arith, ap (λ (f : Object). f.kind) out.1, n.slot.dir)
    ]
    none i o c (inr here) n = absurd (omega (arith, here.1))

-- all directories were passed
module _ (b : ℕ → ℕ) (count : ℕ) {marks : List ℕ} (counts : Counts (objects b count) (count + 1) 0 marks) where
  past_all : (i o c : ℕ) → Names (objects b count) i o c → IsPast (count + 1) 0 i o
  past_all i o c n = elim (objects-cases b count i) [
    | inl in_it ↦ inl (omega (arith, in_it.0.to))
    | inr out ↦ absurd (omega (arith, ap (λ (f : Object). f.kind) out.1, n.slot.dir))
  ]

  pub named_all : ((c : ℕ) → 2 ≤ c → c ≤ count → (inode b c).kind ≢ 0 → is_marked marks c ≡ true) → AreNamed (objects b count)
  named_all marked = record {
    root = λ i o n. counts.root i o (past_all i o 1 n) n;
    others = λ c live other. elim (objects-cases b count c) [
      | inl in_it ↦
          let h = counts.from c (marked c (omega (arith, in_it.0.from, other)) in_it.0.to (λ gone. live (ap (λ (f : Object). f.kind) in_it.1 ∙ gone))) in
          record { dir = h.dir; slot = h.slot; is = h.names; only = λ i o n. counts.once i o h.dir h.slot c (past_all i o c n) h.past n h.names }
      | inr out ↦ absurd (live (ap (λ (f : Object). f.kind) out.1))
    ];
  }

  pub all_named : AreNamed (objects b count) → (c : ℕ) → 2 ≤ c → c ≤ count → (inode b c).kind ≢ 0 → is_marked marks c ≡ true
  all_named named c from to live =
      let is = objects-in b count c (record { from = omega arith; to = to }) in
      let once = named.others c (λ gone. live (sym (ap (λ (f : Object). f.kind) is) ∙ gone)) (λ one. omega arith) in
      counts.all once.dir once.slot c (past_all once.dir once.slot c once.is) once.is

module _ (img : List ℕ) {n : ℕ} {dir : Inode} (number : IsNumber (inode_count img) n) (is : dir ≡ inode (view img) n) where
  pub dir_is : objects (view img) (inode_count img) n ≡ dir_of img dir
  dir_is = objects-in (view img) (inode_count img) n number ∙ sym (ap (dir_of img) is)

  pub step_of : AreEntries (objects (view img) (inode_count img)) → (at : ℕ) (slot : Slot) (c : ℕ) → c ≡ word img slot.place % 4294967296 → Meets img dir at slot
      → IsStep (objects (view img) (inode_count img)) (inode_count img) n at slot.offset c
  step_of entries at slot c child m =
      let fs = objects (view img) (inode_count img) in
      let here : IsSlot (fs n) slot.offset = subst (λ f. IsSlot f slot.offset) (sym dir_is) m.stands.slot in
      let names : c ≡ slot_inode (fs n) slot.offset = child ∙ inode_is img dir m.stands ∙ ap (λ f. slot_inode f slot.offset) (sym dir_is) in
      let live : (fs c).kind ≢ 0 = λ gone. (entries n slot.offset here).live (ap (λ k. (fs k).kind) (sym names) ∙ gone) in
      record {
        on = m.on;
        slot = here;
        passed = λ k from to s. m.passed k from to (subst (λ f. IsSlot f k) dir_is s);
        child = names;
        live = live;
        few = elim (objects-cases (view img) (inode_count img) c) [
          | inl in_it ↦ in_it.0.to
          | inr out ↦ absurd (live (ap (λ (f : Object). f.kind) out.1))
        ];
      }

  pub none_left : (at : ℕ) → AreEmpty (dir_of img dir) at dir.size → (k : ℕ) → at ≤ k → IsSlot (objects (view img) (inode_count img) n) k → ⊥
  none_left at empty k from s = let t = subst (λ f. IsSlot f k) dir_is s in empty k from t.below t

-- an object that is no directory has no slot
pub no_slot : (b : ℕ → ℕ) (count n : ℕ) → IsNumber count n → (inode b n).kind ≢ 2 → (k : ℕ) → IsSlot (objects b count n) k → ⊥
no_slot b count n number other k s = other (sym (ap (λ (f : Object). f.kind) (objects-in b count n number)) ∙ s.dir)
