-- Whether a file grows, and the plan of a write then.
use Rattle.std.proofs.Common.{◌≡◌, ◌≢◌, ℕ, ◌+◌, ◌^◌, ◌<◌, ◌≤◌, List, [], ◌++◌, Some, None, Option, refl, sym, ap, subst, ◌∙◌, inl, inr, arith}
use Rattle.std.specs.Prelude.{◌==◌, ◌||◌, nat_lt}
use Rattle.std.proofs.lemmas.Bool.{cases_Bool, cases_lt, cond-true, cond-false, or_cases, or_parts, eq-eqb, eqb-true, eqb-false, le-ltb, lt-ltb, ltb-true, ltb-false, ne_eqb}
use Rattle.std.proofs.lemmas.List.{append-nil}
use Rattle.ct_base.specs.declared.inode.Inode.{Inode}
use Rattle.ct_base.specs.Inode.{Partition, part, part_bytes}
use Rattle.ct_base.specs.Plan.{Plan, cut_wants, give_up_wants, grown, growth_wants, grows_to, level_for, next_part, no_plan, plan_of, truncate_plan, write_plan, write_wants}
use Rattle.ct_base.specs.Rules.{HasRoom, IsPlaced}
use Rattle.ct_base.specs.View.{view, inode_count}
use Rattle.ct_base.specs.Wants.{Want, missing}
use Rattle.ct_plan.specs.Few.{IsAligned, few_cut_wants, few_truncate_plan, few_write_plan, few_write_wants}
use Rattle.ct_plan.proofs.Plans.{few_truncate_missing, few_write_missing}
use Rattle.ct_call.proofs.Enlarged.{level_fits, part_bytes-le}
use Rattle.ct_call.specs.Plans.{IsGrowth, Plans, free_of, level_of}
use Rattle.ct_call.specs.declared.plan.CallPlan.{CallPlan}
use Rattle.ct_call.specs.declared.plan.Growth.TheVariants.{Stays, To}

-- An object grows to a level to hold so many bytes.
pub record GrowsTo (f : Inode) (end level : ℕ) : Type 0 where
  pub high : level ≤ 9
  pub holds : end ≤ part_bytes level
  pub more : f.level ≢ 15 → f.level < level

pub grows_at : (f : Inode) (end level : ℕ) → end ≤ 2 ^ 39 → grows_to f end ≡ Some level → GrowsTo f end level
grows_at f end level le goes = elim (cases_Bool ((f.level == 15) || nat_lt (part_bytes f.level) end)) [
  | inr u ↦ let both : None ≡ Some level = sym (cond-false ((f.level == 15) || nat_lt (part_bytes f.level) end) (Some (level_for end)) None u) ∙ goes in absurd (cc)
  | inl t ↦
      let both : Some (level_for end) ≡ Some level = sym (cond-true _ _ _ t) ∙ goes in
      let is : level_for end ≡ level = cc in
      let fits = level_fits end le in
      let holds : end ≤ part_bytes level = subst (λ k. end ≤ part_bytes k) is fits.0 in
      record {
        high = omega (arith, is, fits.1);
        holds = holds;
        more = λ has. elim (cases_lt f.level level) [
          | inl lt ↦ lt
          | inr ge ↦
              let less = part_bytes-le level f.level ge in
              elim (or_cases (f.level == 15) (nat_lt (part_bytes f.level) end) t) [
                | inl lacks ↦ absurd (has (eqb-true f.level 15 lacks))
                | inr lt ↦ let past = ltb-true (part_bytes f.level) end lt in absurd (omega (arith, less, past, holds))
              ]
        ];
      }
]

-- and one that stays holds them
pub stays_at : (f : Inode) (end : ℕ) → IsPlaced f → grows_to f end ≡ None → HasRoom f × (end ≤ part_bytes f.level)
stays_at f end placed stays = elim (cases_Bool ((f.level == 15) || nat_lt (part_bytes f.level) end)) [
  | inl t ↦ let both : Some (level_for end) ≡ None = sym (cond-true _ _ _ t) ∙ stays in absurd (cc)
  | inr u ↦
      let parts = or_parts (f.level == 15) (nat_lt (part_bytes f.level) end) u in
      elim placed.place [
        | inl none ↦ absurd (eqb-false f.level 15 parts.0 none.level)
        | inr room ↦ (room, ltb-false (part_bytes f.level) end parts.1)
      ]
]

pub placed_aligned : (f : Inode) → IsPlaced f → IsAligned f
placed_aligned f placed = elim placed.place [
  | inl none ↦ inl (omega (arith, none.level))
  | inr room ↦ inr (room.part.level, room.part.aligned)
]

-- the growth of a plan that counts it first
pub grown-growth : (w : List ℕ) (f : Inode) (o : Option ℕ) (more : Partition → List Want) → (grown (view w) (inode_count w) f o more).growth ≡ o
grown-growth w f None more = refl
grown-growth w f (Some level) more = refl

-- ---- the plan of a write of at least one byte

module _ (w : List ℕ) (f : Inode) (off len : ℕ) (some : len ≢ 0) where
  pub plan_some : write_plan (view w) (inode_count w) f off len ≡ grown (view w) (inode_count w) f (grows_to f (off + len)) (write_wants f off len)
  plan_some = cond-false _ _ _ (ne_eqb len 0 some)

  few_some : few_write_plan (view w) (inode_count w) f off len ≡ grown (view w) (inode_count w) f (grows_to f (off + len)) (few_write_wants f off len)
  few_some = cond-false _ _ _ (ne_eqb len 0 some)

  pub plan-growth : (write_plan (view w) (inode_count w) f off len).growth ≡ grows_to f (off + len)
  plan-growth = ap (λ (p : Plan). p.growth) plan_some ∙ grown-growth w f (grows_to f (off + len)) (write_wants f off len)

  module _ (placed : IsPlaced f) (fits : off + len ≤ 2 ^ 39) (made : CallPlan) where
    few_need : {wants : List Want} (o : Option ℕ) → grows_to f (off + len) ≡ o → made.wants ≡ wants → (grown (view w) (inode_count w) f o (few_write_wants f off len)).wants ≡ wants
        → missing w made.wants ≡ missing w (write_plan (view w) (inode_count w) f off len).wants
    few_need o goes made_is is =
        ap (missing w) (made_is ∙ sym is ∙ ap (λ g. (grown (view w) (inode_count w) f g (few_write_wants f off len)).wants) (sym goes) ∙ sym (ap (λ (p : Plan). p.wants) few_some))
        ∙ sym (few_write_missing w (view w) (inode_count w) f off len (placed_aligned f placed) fits)

    pub stays_plan : grows_to f (off + len) ≡ None → made.growth ≡ Stays → made.wants ≡ few_write_wants f off len (part f) → Plans w (write_plan (view w) (inode_count w) f off len) made
    stays_plan goes is wants = record {
      growth = plan-growth ∙ goes ∙ sym (ap level_of is);
      part = subst (IsGrowth w) (sym is) tt;
      need = λ opens. few_need None goes wants refl;
    }

    pub grows_plan : {grown : List Want} (level : ℕ) → grows_to f (off + len) ≡ Some level → free_of w level ≢ [] → made.growth ≡ To level → grown ≡ growth_wants f (next_part (view w) (inode_count w) level)
        → made.wants ≡ grown ++ few_write_wants f off len (next_part (view w) (inode_count w) level) → Plans w (write_plan (view w) (inode_count w) f off len) made
    grows_plan level goes free is asked wants = record {
      growth = plan-growth ∙ goes ∙ sym (ap level_of is);
      part = subst (IsGrowth w) (sym is) free;
      need = λ opens. few_need (Some level) goes (wants ∙ ap (λ ms. ms ++ few_write_wants f off len (next_part (view w) (inode_count w) level)) asked) refl;
    }

-- ---- the plan of a truncation

module _ (b : ℕ → ℕ) (count : ℕ) (f : Inode) (len : ℕ) where
  pub longer_is : f.size < len → truncate_plan b count f len ≡ grown b count f (grows_to f len) (λ new. [])
  longer_is more = cond-true _ _ _ (lt-ltb f.size len more)

  pub same_is : len ≡ f.size → truncate_plan b count f len ≡ no_plan
  same_is same = cond-false _ _ _ (le-ltb f.size len (omega (arith, same))) ∙ cond-true _ _ _ (eq-eqb len f.size same)

  pub none_is : len < f.size → len ≡ 0 → truncate_plan b count f len ≡ plan_of (give_up_wants f)
  none_is less none = cond-false _ _ _ (le-ltb f.size len (omega (arith, less))) ∙ cond-false _ _ _ (ne_eqb len f.size (λ same. omega (arith, same, less))) ∙ cond-true _ _ _ (eq-eqb len 0 none)

  pub less_is : len < f.size → len ≢ 0 → truncate_plan b count f len ≡ plan_of (cut_wants f len)
  less_is less some = cond-false _ _ _ (le-ltb f.size len (omega (arith, less))) ∙ cond-false _ _ _ (ne_eqb len f.size (λ same. omega (arith, same, less))) ∙ cond-false _ _ _ (ne_eqb len 0 some)

  few_less : len < f.size → len ≢ 0 → few_truncate_plan b count f len ≡ plan_of (few_cut_wants f len)
  few_less less some = cond-false _ _ _ (le-ltb f.size len (omega (arith, less))) ∙ cond-false _ _ _ (ne_eqb len f.size (λ same. omega (arith, same, less))) ∙ cond-false _ _ _ (ne_eqb len 0 some)

  -- a file with bytes has a partition
  pub room_some : IsPlaced f → len < f.size → HasRoom f
  room_some placed less = elim placed.place [ inl none ↦ absurd (omega (arith, none.size, less)) | inr room ↦ room ]

  pub cut_need : (img : List ℕ) → IsPlaced f → len < f.size → len ≢ 0 → missing img (few_cut_wants f len) ≡ missing img (truncate_plan b count f len).wants
  cut_need img placed less some =
      let room = room_some placed less in
      ap (λ (p : Plan). missing img p.wants) (sym (few_less less some)) ∙ sym (few_truncate_missing img b count f len (λ shorter. let fits = room.size in omega (arith, shorter, fits)))

-- a plan that stays, by its wants
pub staying_plan : (w : List ℕ) (q : Plan) (made : CallPlan) → q.growth ≡ None → made.growth ≡ Stays → missing w made.wants ≡ missing w q.wants → Plans w q made
staying_plan w q made none is need = record { growth = none ∙ sym (ap level_of is); part = subst (IsGrowth w) (sym is) tt; need = λ opens. need }

-- the plan of a file that grows and asks for nothing else
pub longer_grows : (w : List ℕ) (f : Inode) (len level : ℕ) (made : CallPlan) → grows_to f len ≡ Some level → free_of w level ≢ [] → made.growth ≡ To level → made.wants ≡ growth_wants f (next_part (view w) (inode_count w) level)
    → Plans w (grown (view w) (inode_count w) f (grows_to f len) (λ new. [])) made
longer_grows w f len level made goes free is wants = record {
  growth = grown-growth w f (grows_to f len) (λ new. []) ∙ goes ∙ sym (ap level_of is);
  part = subst (IsGrowth w) (sym is) free;
  need = λ opens. ap (missing w) (wants ∙ sym (append-nil (growth_wants f (next_part (view w) (inode_count w) level)))) ∙ ap (λ g. missing w (grown (view w) (inode_count w) f g (λ new. [])).wants) (sym goes);
}
