-- Where one slot changes, the orphan and what the slot names change places, and the rules hold as before.
use Rattle.std.proofs.Common.{◌≡◌, ◌≢◌, ℕ, List, [], ◌∷◌, refl, sym, ap, ◌∙◌, subst, ◌⊎◌, inl, inr, arith}
use Rattle.std.proofs.lemmas.Bool.{cases_eq}
use Rattle.ct_base.specs.Objects.{Object}
use Rattle.ct_base.specs.Slots.{IsSlot, Names, slot_inode, slot_name}
use Rattle.ct_base.specs.Named.{Named}
use Rattle.ct_base.specs.Path.{is_name}
use Rattle.ct_base.specs.Rules.{IsEntry, AreEntries, AreNamesApart, IsNamedOnce}
use Rattle.ct_state.specs.Forest.{Up, IsTop, IsUnder, AreTrees}
use Rattle.ct_state.proofs.Turning.{Kept, Turns, Relinks}

pub kept_same : {f g : Object} {k : ℕ} → g ≡ f → IsSlot f k → Kept f g k
kept_same {f} {g} {k} e s = subst (λ h. Kept f h k) (sym e) (record { slot = s; inode = refl; length = refl; name = refl; bytes = λ m lt. refl })

abbrev pub kept_named : {f g : Object} {x : List ℕ} (s : Named f x) → Kept f g s.offset → Named g x
kept_named s k = record { offset = s.offset; slot = k.slot; name = k.name ∙ s.name }

-- a slot that was there before too
pub record Old (fs gs : ℕ → Object) (d o j k : ℕ) : Type 0 where
  pub slot : IsSlot (fs j) k
  pub kept : Kept (fs j) (gs j) k
  pub away : j ≡ d → k ≡ o → ⊥

module _ {d o : ℕ} (P : ℕ → ℕ → Type 0) where
  pub to_there : {j k : ℕ} → j ≡ d → k ≡ o → P j k → P d o
  to_there {j} {k} e q h = subst (λ n. P d n) q (subst (λ n. P n k) e h)

  from_there : {j k : ℕ} → j ≡ d → k ≡ o → P d o → P j k
  from_there {j} {k} e q h = subst (λ n. P n k) (sym e) (subst (λ n. P d n) (sym q) h)

module _ {fs gs : ℕ → Object} {d o : ℕ} (t : Turns fs gs d o) where
  pub kind-same : (c : ℕ) → (gs c).kind ≡ (fs c).kind
  kind-same c = elim (cases_eq c d) [
    | inl here ↦ ap (λ n. (gs n).kind) here ∙ t.is ∙ sym (ap (λ n. (fs n).kind) here ∙ t.was)
    | inr other ↦ ap (λ (f : Object). f.kind) (t.others c other)
  ]

  pub kept_slot : (j k : ℕ) → (j ≡ d → k ≡ o → ⊥) → IsSlot (fs j) k → Kept (fs j) (gs j) k
  kept_slot j k away s = elim (cases_eq j d) [
    | inr other ↦ kept_same (t.others j other) s
    | inl here ↦ subst (λ n. Kept (fs n) (gs n) k) (sym here) (t.on k (λ at. away here at) (subst (λ n. IsSlot (fs n) k) here s))
  ]

  -- a slot is the one that changes, or was there
  pub back_slot : (j k : ℕ) → IsSlot (gs j) k → ((j ≡ d) × (k ≡ o)) ⊎ Old fs gs d o j k
  back_slot j k s = elim (cases_eq j d) [
    | inr other ↦
        let was = subst (λ f. IsSlot f k) (t.others j other) s in
        inr (record { slot = was; kept = kept_same (t.others j other) was; away = λ here at. other here })
    | inl here ↦ elim (cases_eq k o) [
      | inl at ↦ inl (here, at)
      | inr away ↦
          let was : IsSlot (fs j) k = subst (λ n. IsSlot (fs n) k) (sym here) (t.back k away (subst (λ n. IsSlot (gs n) k) here s)) in
          inr (record { slot = was; kept = kept_slot j k (λ e at. away at) was; away = λ e at. away at })
    ]
  ]

module _ {fs gs : ℕ → Object} {d o : ℕ} {x : List ℕ} {a b : ℕ} (l : Relinks fs gs d o x a b) where
  t : Turns fs gs d o
  t = l.turns

  at_case : (j k : ℕ) → ((j ≡ d) × (k ≡ o)) ⊎ (j ≡ d → k ≡ o → ⊥)
  at_case j k = elim (cases_eq j d) [
    | inr other ↦ inr (λ here at. other here)
    | inl here ↦ elim (cases_eq k o) [ inl at ↦ inl (here, at) | inr away ↦ inr (λ e at. away at) ]
  ]

  pub names_on : (j k c : ℕ) → Names fs j k c → (c ≡ b) ⊎ Names gs j k c
  names_on j k c n = elim (at_case j k) [
    | inl at ↦ let m = to_there (λ j k. Names fs j k c) at.0 at.1 n in inl (sym m.child ∙ (l.before m.slot).0)
    | inr away ↦ let kept = kept_slot t j k away n.slot in inr (record { slot = kept.slot; child = kept.inode ∙ n.child })
  ]

  pub names_back : (j k c : ℕ) → Names gs j k c → ((j ≡ d) × (k ≡ o) × (c ≡ a) × (a ≢ 1)) ⊎ (Names fs j k c × (j ≡ d → k ≡ o → ⊥))
  names_back j k c n = elim (back_slot t j k n.slot) [
    | inl at ↦
        let m = to_there (λ j k. Names gs j k c) at.0 at.1 n in
        let now = l.after m.slot in
        inl (at.0, at.1, sym m.child ∙ now.0.child, now.1)
    | inr old ↦ inr (record { slot = old.slot; child = sym old.kept.inode ∙ n.child }, old.away)
  ]

  -- the slot, where it names something
  pub new_slot : a ≢ 1 → Names gs d o a
  new_slot some = let s = l.here some in record { slot = s; child = (l.after s).0.child }

  pub old_slot : b ≢ 1 → Names fs d o b
  old_slot some = let s = l.there some in record { slot = s; child = (l.before s).0 }

  module _ (f : AreTrees fs a) where
    live_on : (c : ℕ) → (fs c).kind ≢ 0 → (gs c).kind ≢ 0
    live_on c live z = live (sym (kind-same t c) ∙ z)

    live_back : (c : ℕ) → (gs c).kind ≢ 0 → (fs c).kind ≢ 0
    live_back c live z = live (kind-same t c ∙ z)

    pub entries_after : AreEntries gs
    entries_after j k s = elim (back_slot t j k s) [
      | inl at ↦
          let now = (l.after (to_there (λ j k. IsSlot (gs j) k) at.0 at.1 s)).0 in
          from_there (λ j k. IsEntry gs (gs j) k) at.0 at.1 (record {
            live = λ z. live_on a f.alive (ap (λ n. (gs n).kind) (sym now.child) ∙ z);
            length = now.length;
            name = ap is_name now.name ∙ now.is_name;
            padding = now.padding;
          })
      | inr old ↦
          let was = f.entries j k old.slot in
          let kept = old.kept in
          record {
            live = λ z. live_on (slot_inode (fs j) k) was.live (ap (λ n. (gs n).kind) (sym kept.inode) ∙ z);
            length = omega (arith, kept.length, was.length);
            name = ap is_name kept.name ∙ was.name;
            padding = λ m le lt. kept.bytes m lt ∙ was.padding m (omega (arith, le, kept.length)) lt;
          }
    ]

    -- the name of the slot that changes is another's in no case
    clash : (j k m : ℕ) → j ≡ d → k ≡ o → IsSlot (gs j) k → Old fs gs d o j m → slot_name (gs j) k ≢ slot_name (gs j) m
    clash j k m here at s old same =
        let now = (l.after (to_there (λ j k. IsSlot (gs j) k) here at s)).0 in
        let named : slot_name (gs j) k ≡ x = from_there (λ j k. slot_name (gs j) k ≡ x) here at now.name in
        l.fresh m (λ e. old.away here e) (subst (λ n. IsSlot (fs n) m) here old.slot) (ap (λ n. slot_name (fs n) m) (sym here) ∙ sym old.kept.name ∙ sym same ∙ named)

    pub apart_after : AreNamesApart gs
    apart_after j k m s u same = elim (back_slot t j k s) [
      | inl at ↦ elim (back_slot t j m u) [
        | inl too ↦ at.1 ∙ sym too.1
        | inr old ↦ absurd (clash j k m at.0 at.1 s old same)
      ]
      | inr old ↦ elim (back_slot t j m u) [
        | inl at ↦ absurd (clash j m k at.0 at.1 u old (sym same))
        | inr old' ↦ f.apart j k m old.slot old'.slot (sym old.kept.name ∙ same ∙ old'.kept.name)
      ]
    ]

    top_after : IsTop gs 1
    top_after j k n = elim (names_back j k 1 n) [ inl new ↦ new.3 (sym new.2) | inr old ↦ f.top j k old.0 ]

    -- b is named by the slot that changes alone
    b_there : (j k : ℕ) → Names fs j k b → (j ≡ d) × (k ≡ o)
    b_there j k n =
        let some : b ≢ 1 = λ is. f.top j k (subst (λ c. Names fs j k c) is n) in
        Rattle.ct_state.proofs.Forests.named_once f j k d o b n (old_slot some)

    free_after : IsTop gs b
    free_after j k n = elim (names_back j k b n) [
      | inl new ↦ f.free d o (subst (λ c. Names fs d o c) new.2 (old_slot (λ is. new.3 (sym new.2 ∙ is))))
      | inr old ↦ let at = b_there j k old.0 in old.1 at.0 at.1
    ]

    alive_after : (gs b).kind ≢ 0
    alive_after = elim (cases_eq b 1) [
      | inl none ↦ live_on b (λ z. omega (arith, z, ap (λ n. (fs n).kind) none, f.root))
      | inr some ↦ let s = old_slot some in live_on b (λ z. (f.entries d o s.slot).live (ap (λ n. (fs n).kind) s.child ∙ z))
    ]

    others_after : (c : ℕ) → (gs c).kind ≢ 0 → c ≢ 1 → c ≢ b → IsNamedOnce gs c
    others_after c live below other = elim (cases_eq c a) [
      | inl new ↦ record {
        dir = d;
        slot = o;
        is = subst (λ n. Names gs d o n) (sym new) (new_slot (λ is. below (new ∙ is)));
        only = λ j k n. elim (names_back j k c n) [
          | inl at ↦ (at.0, at.1)
          | inr old ↦ absurd (f.free j k (subst (λ n. Names fs j k n) new old.0))
        ];
      }
      | inr old ↦
          let once = f.others c (live_back c live) below old in
          record {
            dir = once.dir;
            slot = once.slot;
            is = elim (names_on once.dir once.slot c once.is) [ inl is ↦ absurd (other is) | inr n ↦ n ];
            only = λ j k n. elim (names_back j k c n) [ inl new ↦ absurd (old new.2) | inr was ↦ once.only j k was.0 ];
          }
    ]

    go : (j k c : ℕ) → Names gs j k c → IsUnder gs 1 j ⊎ IsUnder gs b j → IsUnder gs 1 c ⊎ IsUnder gs b c
    unfolding Up
    go j k c n (inl up) = inl (slot_name (gs j) k ∷ up.0, (j, record { offset = k; slot = n.slot; name = refl }, n.child, up.1))
    go j k c n (inr up) = inr (slot_name (gs j) k ∷ up.0, (j, record { offset = k; slot = n.slot; name = refl }, n.child, up.1))

    carried : (q : ℕ) → IsUnder gs 1 q ⊎ IsUnder gs b q → (xs : List (List ℕ)) (c : ℕ) → Up fs q xs c → IsUnder gs 1 c ⊎ IsUnder gs b c
    unfolding Up
    carried q base [] c is = subst (λ n. IsUnder gs 1 n ⊎ IsUnder gs b n) (sym is) base
    carried q base (y ∷ ys) c up =
        let above = carried q base ys up.0 up.3 in
        elim (names_on up.0 up.1.offset c (record { slot = up.1.slot; child = up.2 })) [
          | inl is ↦ inr ([], is)
          | inr n ↦ go up.0 up.1.offset c n above
        ]

    module _ (rs : List (List ℕ)) (way : Up fs 1 rs d) where
      reached_after : (c : ℕ) → (gs c).kind ≢ 0 → IsUnder gs 1 c ⊎ IsUnder gs b c
      unfolding Up
      reached_after c live =
          let at_root : IsUnder gs 1 1 ⊎ IsUnder gs b 1 = inl ([], refl) in
          elim (f.reached c (live_back c live)) [
            | inl up ↦ carried 1 at_root up.0 c up.1
            | inr up ↦ elim (cases_eq a 1) [
              | inl none ↦ carried 1 at_root up.0 c (subst (λ n. Up fs n up.0 c) none up.1)
              | inr some ↦ carried a (go d o a (new_slot some) (carried 1 at_root rs d way)) up.0 c up.1
            ]
          ]

      pub trees_after : AreTrees gs b
      trees_after = record {
        entries = entries_after;
        apart = apart_after;
        root = kind-same t 1 ∙ f.root;
        alive = alive_after;
        top = top_after;
        free = free_after;
        others = others_after;
        reached = reached_after;
      }
