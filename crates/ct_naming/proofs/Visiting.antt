-- Inodes that are visited one after the other.
use Rattle.std.proofs.Common.{◌≡◌, ◌≢◌, ◌⊎◌, ℕ, zero, suc, ◌+◌, ◌<◌, ◌≤◌, true, false, List, [], ◌∷◌, ◌++◌, length-append, refl, sym, ap, subst, ◌∙◌, inl, inr, arith}
use Rattle.std.specs.Prelude.{Contains, All}
use Rattle.std.proofs.lemmas.Bool.{both_ways, cases_Bool, cases_eq, cases_lt, cond-true, cond-false}
use Rattle.std.proofs.lemmas.List.{get_or_append_left}
use Rattle.std.proofs.lemmas.List.Elements.{All-contains, All-nil, All-cons, All-push, All-weaker, Contains-push, Contains-push_cases, Contains-append_left}
use Rattle.ct_base.specs.Inode.{inode, IsNumber}
use Rattle.ct_base.specs.Objects.{Object, objects}
use Rattle.ct_base.specs.Rules.{AreEntries, AreReached}
use Rattle.ct_base.specs.Slots.{IsSlot, Names, Steps, slot_inode}
use Rattle.ct_state.proofs.Bytes.{objects-cases, objects-in}
use Rattle.ct_marks.specs.Marks.{AreBlank, Marked, is_marked}
use Rattle.ct_naming.proofs.Meeting.{live_number}
use Rattle.ct_naming.proofs.Naming.{IsStep}
use Rattle.ct_naming.specs.Visits.{Visits, unmarked}

-- fewer have no mark
unmarked-marked : (marks : List ℕ) (n : ℕ) → is_marked marks n ≡ true → unmarked marks (suc n) ≡ unmarked marks n
unfolding unmarked
unmarked-marked marks n on = cond-true _ _ _ on

unmarked-not : (marks : List ℕ) (n : ℕ) → is_marked marks n ≡ false → unmarked marks (suc n) ≡ unmarked marks n + 1
unfolding unmarked
unmarked-not marks n off = cond-false _ _ _ off

module _ {page : ℕ} {old new : List ℕ} (m : Marked page old new) where
  pub kept : (q : ℕ) → is_marked old q ≡ true → is_marked new q ≡ true
  kept q on = elim (cases_eq q page) [
    | inl here ↦ ap (is_marked new) here ∙ m.here
    | inr other ↦ m.others q other ∙ on
  ]

  unmarked-same : (n : ℕ) → n ≤ page → unmarked new n ≡ unmarked old n
  unfolding unmarked
  unmarked-same zero le = refl
  unmarked-same (suc n) le = elim (cases_Bool (is_marked old n)) [
    | inl on ↦ unmarked-marked new n (kept n on) ∙ unmarked-same n (omega arith) ∙ sym (unmarked-marked old n on)
    | inr off ↦ unmarked-not new n (m.others n (λ e. omega arith) ∙ off) ∙ ap (λ k. k + 1) (unmarked-same n (omega arith)) ∙ sym (unmarked-not old n off)
  ]

  pub unmarked-less : is_marked old page ≡ false → (n : ℕ) → page < n → unmarked new n + 1 ≡ unmarked old n
  unmarked-less fresh zero lt = absurd (omega arith)
  unmarked-less fresh (suc n) lt = elim (cases_eq n page) [
    | inl here ↦
        ap (λ k. k + 1) (unmarked-marked new n (ap (is_marked new) here ∙ m.here) ∙ unmarked-same n (omega arith))
        ∙ sym (unmarked-not old n (ap (is_marked old) here ∙ fresh))
    | inr other ↦
        let less = unmarked-less fresh n (omega arith) in
        elim (cases_Bool (is_marked old n)) [
          | inl on ↦ ap (λ k. k + 1) (unmarked-marked new n (kept n on)) ∙ less ∙ sym (unmarked-marked old n on)
          | inr off ↦ ap (λ k. k + 1) (unmarked-not new n (m.others n other ∙ off)) ∙ ap (λ k. k + 1) less ∙ sym (unmarked-not old n off)
        ]
  ]

-- one more slot is visited
module _ {fs : ℕ → Object} {count d at o c : ℕ} (step : IsStep fs count d at o c) where
  new_or_old : (k e : ℕ) → k < o + 256 → Names fs d k e → (e ≡ c) ⊎ (k < at)
  new_or_old k e lt n = elim (cases_lt k at) [
    | inl old ↦ inr old
    | inr ge ↦ elim (cases_lt k o) [
      | inl before ↦ absurd (step.passed k ge before n.slot)
      | inr from ↦ let same : k ≡ o = omega (arith, n.slot.aligned, step.slot.aligned) in inl (sym n.child ∙ ap (slot_inode (fs d)) same ∙ sym step.child)
    ]
  ]

  pub visit_skip : {marks visit : List ℕ} → is_marked marks c ≡ true → Visits fs d at marks visit → Visits fs d (o + 256) marks visit
  visit_skip {marks} {visit} marked v = record {
    root = v.root;
    from = v.from;
    listed = v.listed;
    done = v.done;
    dir = v.dir;
    here = λ k e lt n. elim (new_or_old k e lt n) [
      | inl new ↦ ap (is_marked marks) new ∙ marked
      | inr old ↦ v.here k e old n
    ];
  }

  pub visit_more : {marks new visit listed : List ℕ} → Marked c marks new → listed ≡ visit ++ c ∷ [] → Visits fs d at marks visit → Visits fs d (o + 256) new listed
  unfolding Steps
  visit_more {marks} {new} {visit} {listed} m more v =
      let it : Names fs d o c = record { slot = step.slot; child = sym step.child } in
      subst (Visits fs d (o + 256) new) (sym more) (record {
        root = kept m 1 v.root;
        from = λ e on_it. elim (cases_eq e c) [
          | inl same ↦ let up = v.from d (v.dir o c it) in subst (λ q. (k : ℕ) × Steps fs k q) (sym same) (suc up.0, (d, o, it, up.1))
          | inr other ↦ v.from e (sym (m.others e other) ∙ on_it)
        ];
        listed = All-push (λ e. is_marked new e ≡ true) visit c (All-weaker (λ e. is_marked marks e ≡ true) (λ e. is_marked new e ≡ true) (kept m) visit v.listed) m.here;
        done = λ i on_it. elim (cases_eq i c) [
          | inl same ↦ inl (subst (Contains (visit ++ c ∷ [])) (sym same) (Contains-push visit c))
          | inr other ↦ elim (v.done i (sym (m.others i other) ∙ on_it)) [
            | inl has ↦ inl (Contains-append_left visit (c ∷ []) i has)
            | inr rest ↦ elim rest [
              | inl this ↦ inr (inl this)
              | inr children ↦ inr (inr (λ k e n. kept m e (children k e n)))
            ]
          ]
        ];
        dir = λ k e n. kept m d (v.dir k e n);
        here = λ k e lt n. elim (new_or_old k e lt n) [
          | inl new_one ↦ ap (is_marked new) new_one ∙ m.here
          | inr old ↦ kept m e (v.here k e old n)
        ];
      })

-- between two directories: there is no inode 0
module _ {fs : ℕ → Object} (none : (o c : ℕ) → Names fs 0 o c → ⊥) where
  pub visit_end : {d at : ℕ} {marks visit : List ℕ} → ((k : ℕ) → at ≤ k → IsSlot (fs d) k → ⊥) → Visits fs d at marks visit → Visits fs 0 0 marks visit
  visit_end {d} {at} {marks} {visit} last v = record {
    root = v.root;
    from = v.from;
    listed = v.listed;
    done = λ i on. elim (v.done i on) [
      | inl has ↦ inl has
      | inr rest ↦ elim rest [
        | inl this ↦ inr (inr (λ o c n. elim (cases_lt o at) [
          | inl old ↦ v.here o c old (subst (λ j. Names fs j o c) this n)
          | inr ge ↦ absurd (last o ge (subst (λ j. IsSlot (fs j) o) this n.slot))
        ]))
        | inr children ↦ inr (inr children)
      ]
    ];
    dir = λ o c n. absurd (none o c n);
    here = λ o c lt n. absurd (none o c n);
  }

  pub visit_next : {marks visit listed : List ℕ} → (d : ℕ) → listed ≡ visit ++ d ∷ [] → Visits fs 0 0 marks listed → Visits fs d 0 marks visit
  visit_next {marks} {visit} {listed} d is v =
      let all = subst (All (λ e. is_marked marks e ≡ true)) is v.listed in
      record {
        root = v.root;
        from = v.from;
        listed = λ k e lt. subst (λ q. is_marked marks q ≡ true) (get_or_append_left visit (d ∷ []) e k lt) (all k e (omega (arith, length-append visit (d ∷ []))));
        done = λ i on. elim (v.done i on) [
          | inl has ↦ elim (Contains-push_cases visit d i (subst (λ xs. Contains xs i) is has)) [
            | inl old ↦ inl old
            | inr this ↦ inr (inl (sym this))
          ]
          | inr rest ↦ elim rest [
            | inl zero_it ↦ inr (inr (λ o c n. absurd (none o c (subst (λ j. Names fs j o c) zero_it n))))
            | inr children ↦ inr (inr children)
          ]
        ];
        dir = λ o c n. All-contains (λ e. is_marked marks e ≡ true) (visit ++ d ∷ []) d all (Contains-push visit d);
        here = λ o c lt n. absurd (omega arith);
      }

  -- all are visited
  pub visit_all : {marks : List ℕ} → Visits fs 0 0 marks [] → (k c : ℕ) → Steps fs k c → is_marked marks c ≡ true
  unfolding Steps
  visit_all {marks} v zero c is = ap (is_marked marks) is ∙ v.root
  visit_all {marks} v (suc k) c s =
      let up = visit_all v k s.0 s.3 in
      elim (v.done s.0 up) [
        | inl has ↦ absurd (omega (arith, has.1))
        | inr rest ↦ elim rest [
          | inl zero_it ↦ absurd (none s.1 c (subst (λ j. Names fs j s.1 c) zero_it s.2))
          | inr children ↦ children s.1 c s.2
        ]
      ]

  pub visit_start : {marks new : List ℕ} → AreBlank marks → Marked 1 marks new → Visits fs 0 0 new (1 ∷ [])
  unfolding Steps
  visit_start {marks} {new} blank m = record {
    root = m.here;
    from = λ c on. elim (cases_eq c 1) [
      | inl one ↦ (0, one)
      | inr other ↦ absurd (both_ways _ (blank c) (sym (m.others c other) ∙ on))
    ];
    listed = All-cons (λ e. is_marked new e ≡ true) 1 [] m.here (All-nil (λ e. is_marked new e ≡ true));
    done = λ i on. elim (cases_eq i 1) [
      | inl one ↦ inl (subst (Contains (1 ∷ [])) (sym one) (Contains-push [] 1))
      | inr other ↦ absurd (both_ways _ (blank i) (sym (m.others i other) ∙ on))
    ];
    dir = λ o c n. absurd (none o c n);
    here = λ o c lt n. absurd (none o c n);
  }

pub no_zero : (b : ℕ → ℕ) (count : ℕ) → (o c : ℕ) → Names (objects b count) 0 o c → ⊥
no_zero b count o c n = elim (objects-cases b count 0) [
  | inl in_it ↦ omega (arith, in_it.0.from)
  | inr out ↦ omega (arith, ap (λ (f : Object). f.kind) out.1, n.slot.dir)
]

module _ (b : ℕ → ℕ) (count : ℕ) {marks : List ℕ} (v : Visits (objects b count) 0 0 marks []) where
  pub reached_all : ((c : ℕ) → 1 ≤ c → c ≤ count → (inode b c).kind ≢ 0 → is_marked marks c ≡ true) → AreReached (objects b count)
  reached_all marked c live = elim (objects-cases b count c) [
    | inl in_it ↦ v.from c (marked c in_it.0.from in_it.0.to (λ gone. live (ap (λ (f : Object). f.kind) in_it.1 ∙ gone)))
    | inr out ↦ absurd (live (ap (λ (f : Object). f.kind) out.1))
  ]

  pub all_reached : AreReached (objects b count) → (c : ℕ) → 1 ≤ c → c ≤ count → (inode b c).kind ≢ 0 → is_marked marks c ≡ true
  all_reached reached c from to live =
      let is = objects-in b count c (record { from = from; to = to }) in
      let way = reached c (λ gone. live (sym (ap (λ (f : Object). f.kind) is) ∙ gone)) in
      visit_all (no_zero b count) v way.0 c way.1

-- what is marked has a number
pub marked_number : (b : ℕ → ℕ) (count : ℕ) {d at : ℕ} {marks visit : List ℕ} → 1 ≤ count → AreEntries (objects b count) → Visits (objects b count) d at marks visit → (c : ℕ) → is_marked marks c ≡ true → IsNumber count c
unfolding Steps
marked_number b count least entries v c on = let way = v.from c on in steps_number way.0 c way.1
  where
    steps_number : (k c : ℕ) → Steps (objects b count) k c → IsNumber count c
    steps_number zero c is = record { from = omega (arith, is); to = omega (arith, is) }
    steps_number (suc k) c s =
        let e = entries s.0 s.1 s.2.slot in
        live_number b count c (λ gone. e.live (ap (λ j. (objects b count j).kind) s.2.child ∙ gone))
