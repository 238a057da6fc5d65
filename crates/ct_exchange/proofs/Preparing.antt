-- What is known of an exchange before anything is stored: the tree's refusal, the plan, and that the ranges lie apart.
use Rattle.std.proofs.Common.{◌≡◌, ◌⊎◌, ℕ, ◌+◌, ◌%◌, ◌≤◌, Bool, true, false, List, [], ◌∷◌, length, Some, None, refl, sym, ap, subst, ◌∙◌, inl, inr, arith}
use Rattle.std.specs.Prelude.{nat_le, nat_lt, not, ◌==◌, ◌&&◌, if◌then◌else◌}
use Rattle.std.specs.Str.{bytes_eq}
use Rattle.std.proofs.lemmas.Bool.{and_parts, cases_Bool, cases_eq, cond-false, cond-true, eq-eqb, eqb-true, leb-true, ne_eqb}
use Rattle.std.proofs.lemmas.Slice.Eq.{bytes_eq-Decides}
use Rattle.ct_base.specs.declared.inode.Inode.{Inode}
use Rattle.ct_base.specs.Exchange.{Apart}
use Rattle.ct_base.specs.Inode.{inode, IsLive}
use Rattle.ct_base.specs.Plan.{Plan, exchange_plan, no_plan}
use Rattle.ct_base.specs.Rules.{Owns, placed as placed_rule, slots, names as names_rule, named, reached}
use Rattle.ct_base.specs.View.{view, inode_count}
use Rattle.ct_base.specs.Wants.{missing}
use Rattle.ct_plan.proofs.Plans.{few_exchange_missing}
use Rattle.ct_plan.specs.Few.{few_exchange_wants}
use Rattle.ct_state.proofs.Forests.{trees_of}
use Rattle.ct_state.proofs.Renames.{leads_same}
use Rattle.ct_state.proofs.Resolve.{leads_once}
use Rattle.ct_tree.proofs.Again.{names_differ}
use Rattle.ct_tree.proofs.Steps.{first_none, not_refused}
use Rattle.ct_tree.specs.Checks.{above, are_ranges, at, bad_range, first_of, names, overlap, refuse_if}
use Rattle.ct_tree.specs.Content.{bytes_in}
use Rattle.ct_tree.specs.Lands.{files}
use Rattle.ct_tree.specs.Need.{IsAt}
use Rattle.ct_tree.specs.Step.{exchange, exchange_limit, refusal}
use Rattle.ct_tree.specs.Tree.{Tree}
use Rattle.ct_tree.specs.declared.call.Refusal.{Refusal}
use Rattle.ct_tree.specs.declared.call.Refusal.TheVariants.{BadRange, Overlap, TooLong}
use Rattle.ct_call.specs.Answers.{HasOnlyPlan, LacksInode}
use Rattle.ct_call.specs.Calls.{StandsFor}
use Rattle.ct_commit.specs.Rest.{IsAtRest}
use Rattle.ct_call.specs.Plans.{IsGrowth, Plans, level_of}
use Rattle.ct_call.specs.declared.plan.CallPlan.{CallPlan}
use Rattle.ct_call.specs.declared.plan.Growth.TheVariants.{Stays}
use Rattle.ct_find.proofs.Both.{both_there}
use Rattle.ct_find.proofs.Living.{size_is}
use Rattle.ct_find.proofs.Rooted.{root_kind}
use Rattle.ct_find.specs.Files.{IsFileAt}
use Rattle.ct_exchange.specs.Numbers.{are_whole, number_checks}
use Rattle.ct_exchange.specs.Ranges.{CanExchange, wants_of}

-- the numbers that pass are those of whole pages within both sizes
pub record AreWhole (size off other_size other_off len : ℕ) : Type 0 where
  pub start : off % 4096 ≡ 0
  pub other_start : other_off % 4096 ≡ 0
  pub whole : len % 4096 ≡ 0
  pub fits : off + len ≤ size
  pub other_fits : other_off + len ≤ other_size

unrefused : (b : Bool) (r : Refusal) → refuse_if (not b) r ≡ None → b ≡ true
unrefused true r is = refl
unrefused false r is = absurd (cc)

whole_by : (size off other_size other_off len : ℕ) → are_whole size off other_size other_off len ≡ true → AreWhole size off other_size other_off len
whole_by size off other_size other_off len is =
    let e = and_parts (((off % 4096 == 0) && (other_off % 4096 == 0)) && (len % 4096 == 0) && nat_le (off + len) size) (nat_le (other_off + len) other_size) is in
    let d = and_parts (((off % 4096 == 0) && (other_off % 4096 == 0)) && (len % 4096 == 0)) (nat_le (off + len) size) e.0 in
    let c = and_parts ((off % 4096 == 0) && (other_off % 4096 == 0)) (len % 4096 == 0) d.0 in
    let b = and_parts (off % 4096 == 0) (other_off % 4096 == 0) c.0 in
    record {
      start = eqb-true (off % 4096) 0 b.0;
      other_start = eqb-true (other_off % 4096) 0 b.1;
      whole = eqb-true (len % 4096) 0 c.1;
      fits = leb-true (off + len) size d.1;
      other_fits = leb-true (other_off + len) other_size e.1;
    }

-- ranges of one path that pass lie apart
apart_by : (off other_off len : ℕ) → (nat_lt off (other_off + len) && nat_lt other_off (off + len)) ≡ false → Apart off other_off len
apart_by off other_off len is = elim (Rattle.std.proofs.lemmas.Bool.cases_lt off (other_off + len)) [
  | inr past ↦ inr past
  | inl lt ↦ elim (Rattle.std.proofs.lemmas.Bool.cases_lt other_off (off + len)) [
    | inr past ↦ inl past
    | inl lt' ↦ absurd (Rattle.std.proofs.lemmas.Bool.false≢true (sym is ∙ Rattle.std.proofs.lemmas.Bool.and_from _ _ (Rattle.std.proofs.lemmas.Bool.lt-ltb off (other_off + len) lt) (Rattle.std.proofs.lemmas.Bool.lt-ltb other_off (off + len) lt')))
  ]
]

same_apart : (same : Bool) (off other_off len : ℕ) → same ≡ true → refuse_if (same && nat_lt off (other_off + len) && nat_lt other_off (off + len)) Overlap ≡ None → Apart off other_off len
same_apart true off other_off len is passes = apart_by off other_off len (not_refused (nat_lt off (other_off + len) && nat_lt other_off (off + len)) Overlap passes)
same_apart false off other_off len is passes = absurd (cc)

module _ {w : List ℕ} (rest : IsAtRest w) (path other : List ℕ) (i j : ℕ) (first : IsFileAt w path i (inode (view w) i)) (second : IsFileAt w other j (inode (view w) j)) (off other_off len : ℕ) where
  abbrev f : Inode
  f = inode (view w) i

  abbrev g : Inode
  g = inode (view w) j

  -- the checks of the tree are those of the numbers
  pub refusal_by_numbers : (t : Tree) → StandsFor w t → refusal t (exchange path off other other_off len) ≡ first_of (number_checks path f.size off other g.size other_off len)
  refusal_by_numbers t st =
      let one = first.node t st in
      let two = second.node t st in
      let size : length one.0 ≡ f.size = sym one.2.size ∙ size_is rest first.live first.is in
      let other_size : length two.0 ≡ g.size = sym two.2.size ∙ size_is rest second.live second.is in
      both_there path other t (bad_range t path off other other_off len ∷ overlap path off other other_off len ∷ above len exchange_limit TooLong ∷ []) first.valid second.valid one.1 two.1
      ∙ ap (λ r. first_of (refuse_if (not (are_ranges (bytes_in r) off (bytes_in (at t other)) other_off len)) BadRange ∷ overlap path off other other_off len ∷ above len exchange_limit TooLong ∷ [])) one.1
      ∙ ap (λ r. first_of (refuse_if (not (are_ranges one.0 off (bytes_in r) other_off len)) BadRange ∷ overlap path off other other_off len ∷ above len exchange_limit TooLong ∷ [])) two.1
      ∙ ap (λ k. first_of (refuse_if (not (are_whole k off (length two.0) other_off len)) BadRange ∷ overlap path off other other_off len ∷ above len exchange_limit TooLong ∷ [])) size
      ∙ ap (λ k. first_of (refuse_if (not (are_whole f.size off k other_off len)) BadRange ∷ overlap path off other other_off len ∷ above len exchange_limit TooLong ∷ [])) other_size

  pub by_sizes : (one two : Inode) → one ≡ f → two ≡ g → first_of (number_checks path one.size off other two.size other_off len) ≡ first_of (number_checks path f.size off other g.size other_off len)
  by_sizes one two is is' =
      ap (λ (x : Inode). first_of (number_checks path x.size off other two.size other_off len)) is ∙ ap (λ (x : Inode). first_of (number_checks path f.size off other x.size other_off len)) is'

  -- one file has one path
  same_path : i ≡ j → path ≡ other
  same_path same = elim (cases_Bool (bytes_eq path other)) [
    | inl is ↦ (bytes_eq-Decides path other).0 is
    | inr differ ↦
        let s = rest.sound in
        let trees = trees_of (s slots) (s names_rule) (s named) (s reached) (root_kind rest) in
        let leads_other = subst (λ (k : ℕ). IsAt w other k) (sym same) second.leads in
        absurd (names_differ path other first.valid second.valid (λ e. Rattle.std.proofs.lemmas.Bool.false≢true (sym differ ∙ (bytes_eq-Decides path other).1 e)) (leads_same trees i (names path) (names other) first.leads leads_other))
  ]

  owner : (k : ℕ) → IsFileAt w path k (inode (view w) k) ⊎ IsFileAt w other k (inode (view w) k) → 1 ≤ (inode (view w) k).size → Owns (view w) (inode_count w) k
  owner k found some =
      let live : IsLive (view w) (inode_count w) k = elim found [ inl a ↦ a.live | inr a ↦ a.live ] in
      record { live = live; level = elim (rest.sound placed_rule k live).place [ inl none ↦ absurd (omega (arith, none.size, some)) | inr room ↦ room.part.level ] }

  module _ (passes : first_of (number_checks path f.size off other g.size other_off len) ≡ None) where
    numbers : AreWhole f.size off g.size other_off len
    numbers =
        let one = first_none (refuse_if (not (are_whole f.size off g.size other_off len)) BadRange) (overlap path off other other_off len ∷ above len exchange_limit TooLong ∷ []) passes in
        whole_by f.size off g.size other_off len (unrefused (are_whole f.size off g.size other_off len) BadRange one.0)

    no_overlap : overlap path off other other_off len ≡ None
    no_overlap =
        let one = first_none (refuse_if (not (are_whole f.size off g.size other_off len)) BadRange) (overlap path off other other_off len ∷ above len exchange_limit TooLong ∷ []) passes in
        (first_none (overlap path off other other_off len) (above len exchange_limit TooLong ∷ []) one.1).0

    short : len ≤ exchange_limit
    short =
        let one = first_none (refuse_if (not (are_whole f.size off g.size other_off len)) BadRange) (overlap path off other other_off len ∷ above len exchange_limit TooLong ∷ []) passes in
        let two = first_none (overlap path off other other_off len) (above len exchange_limit TooLong ∷ []) one.1 in
        leb-true len exchange_limit (unrefused (nat_le len exchange_limit) TooLong (first_none (above len exchange_limit TooLong) [] two.1).0)

    -- ranges of at least a byte may change places
    pub may_exchange : 1 ≤ len → CanExchange w i off j other_off len
    may_exchange some =
        let n = numbers in
        record {
          first = owner i (inl first) (omega (arith, n.fits, some));
          second = owner j (inr second) (omega (arith, n.other_fits, some));
          file = first.kind;
          other_file = second.kind;
          some = some;
          start = n.start;
          other_start = n.other_start;
          whole = n.whole;
          fits = n.fits;
          other_fits = n.other_fits;
          apart = λ same. same_apart (bytes_eq path other) off other_off len ((bytes_eq-Decides path other).1 (same_path same)) no_overlap;
          few = short;
        }

    -- ---- the plan

    abbrev pub plan_is : Plan
    plan_is = if len == 0 then no_plan else exchange_plan f off g other_off len

    stays : plan_is.growth ≡ None
    stays = by (len == 0)
      where
        by : (b : Bool) → (if b then no_plan else exchange_plan f off g other_off len).growth ≡ None
        by true = refl
        by false = refl

    pub only_plan : HasOnlyPlan w (exchange path off other other_off len) plan_is
    only_plan = record {
      has = (i, j, first.leads, second.leads, refl);
      only = λ p has.
          let one = leads_once (files w) (rest.sound names_rule) 1 has.0 i (names path) has.2 first.leads in
          let two = leads_once (files w) (rest.sound names_rule) 1 has.1 j (names other) has.3 second.leads in
          has.4
          ∙ ap (λ (k : ℕ). if len == 0 then no_plan else exchange_plan (inode (view w) k) off (inode (view w) has.1) other_off len) one
          ∙ ap (λ (k : ℕ). if len == 0 then no_plan else exchange_plan f off (inode (view w) k) other_off len) two;
      object = λ level goes. (let both : None ≡ Some level = sym stays ∙ goes in absurd (cc));
    }

    pub plans : (made : CallPlan) → made.growth ≡ Stays → made.wants ≡ wants_of w (record { first = i; off = off; second = j; other_off = other_off; len = len }) → Plans w plan_is made
    plans made goes wants = record {
      growth = stays ∙ sym (ap level_of goes);
      part = subst (IsGrowth w) (sym goes) tt;
      need = λ opens. ap (missing w) wants ∙ elim (cases_eq len 0) [
        | inl none ↦
            ap (missing w) (cond-true (len == 0) [] (few_exchange_wants f off g other_off len) (eq-eqb len 0 none))
            ∙ sym (ap (λ (p : Plan). missing w p.wants) (cond-true (len == 0) no_plan (exchange_plan f off g other_off len) (eq-eqb len 0 none)))
        | inr some ↦
            ap (missing w) (cond-false (len == 0) [] (few_exchange_wants f off g other_off len) (ne_eqb len 0 some))
            ∙ sym (few_exchange_missing w f off g other_off len (omega (arith, some, numbers.whole)))
            ∙ sym (ap (λ (p : Plan). missing w p.wants) (cond-false (len == 0) no_plan (exchange_plan f off g other_off len) (ne_eqb len 0 some)))
      ];
    }

pub makes_none : (w path other : List ℕ) (off other_off len : ℕ) → ¬ LacksInode w (exchange path off other other_off len)
makes_none w path other off other_off len lacks = lacks.0
