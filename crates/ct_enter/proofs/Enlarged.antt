-- Whether a directory grows for a new slot, and what the plan wants then.
use Rattle.std.proofs.Common.{◌≡◌, ◌≢◌, ℕ, ◌+◌, ◌*◌, ◌%◌, ◌^◌, ◌<◌, ◌≤◌, List, [], ◌∷◌, ◌++◌, Some, None, sym, ap, subst, ◌∙◌, ◌⊎◌, inl, inr, arith}
use Rattle.std.specs.Prelude.{◌==◌, ◌||◌, nat_lt}
use Rattle.std.proofs.lemmas.Bool.{cases_Bool, cases_lt, cond-true, cond-false, or_cases, or_parts, eqb-true, eqb-false, ltb-true, ltb-false}
use Rattle.ct_base.specs.declared.inode.Inode.{Inode}
use Rattle.ct_base.specs.Inode.{Partition, part, part_bytes}
use Rattle.ct_base.specs.Plan.{counted, grown, growth_wants, grows_to, level_for, next_part, page_want}
use Rattle.ct_base.specs.Rules.{HasNone, HasRoom}
use Rattle.std.specs.Prelude.{map}
use Rattle.ct_grow.proofs.Accounted.{counted_off, counted_same}
use Rattle.ct_base.specs.View.{view, inode_count}
use Rattle.ct_enter.specs.Plans.{CanPlan, entry_wants, plan_for, slot_growth}
use Rattle.ct_call.proofs.Enlarged.{level_fits, part_bytes-le, part_high}

-- A multiple of 256 at most at one length, after which a slot does not fit, stands there.
at_end : (level offset : ℕ) → offset % 256 ≡ 0 → offset ≤ part_bytes level → part_bytes level < offset + 256 → offset ≡ part_bytes level
at_end level offset aligned le lt = omega (arith, aligned, le, lt)

-- A directory that grows: to a level that holds the slot, and the slot is the first past what it has.
pub record GrowsFor (f : Inode) (offset level : ℕ) : Type 0 where
  pub high : level ≤ 9
  pub holds : offset + 256 ≤ part_bytes level
  pub past : f.level ≢ 15 → offset ≡ part_bytes f.level
  pub first : f.level ≡ 15 → offset ≡ 0
  pub room : f.level ≢ 15 → HasRoom f
  pub more : f.level ≢ 15 → f.level < level

module _ {img : List ℕ} {f : Inode} {offset : ℕ} (c : CanPlan img f offset) where
  room_or : HasNone f ⊎ HasRoom f
  room_or = c.placed.place

  room_of : f.level ≢ 15 → HasRoom f
  room_of has = elim room_or [ inl none ↦ absurd (has none.level) | inr room ↦ room ]

  none_of : f.level ≡ 15 → HasNone f
  none_of lacks = elim room_or [ inl none ↦ none | inr room ↦ absurd (omega (arith, lacks, room.part.level)) ]

  -- a slot in a directory that stays lies in its partition
  pub stays_in : slot_growth f offset ≡ None → HasRoom f × (offset + 256 ≤ part_bytes f.level)
  stays_in stay = elim (cases_Bool (nat_lt f.size (offset + 256))) [
    | inl past ↦
        let stays : grows_to f (offset + 256) ≡ None = sym (cond-true _ _ _ past) ∙ stay in
        elim (cases_Bool ((f.level == 15) || nat_lt (part_bytes f.level) (offset + 256))) [
          | inl t ↦ let both : Some (level_for (offset + 256)) ≡ None = sym (cond-true _ _ _ t) ∙ stays in absurd (cc)
          | inr u ↦
              let parts = or_parts (f.level == 15) (nat_lt (part_bytes f.level) (offset + 256)) u in
              (room_of (eqb-false f.level 15 parts.0), ltb-false (part_bytes f.level) (offset + 256) parts.1)
        ]
    | inr inside ↦
        let end : offset + 256 ≤ f.size = ltb-false f.size (offset + 256) inside in
        elim room_or [
          | inl none ↦ absurd (omega (arith, end, none.size))
          | inr room ↦ (room, omega (arith, end, room.size))
        ]
  ]

  pub grows_for : (level : ℕ) → slot_growth f offset ≡ Some level → GrowsFor f offset level
  grows_for level some = elim (cases_Bool (nat_lt f.size (offset + 256))) [
    | inr inside ↦ let both : None ≡ Some level = sym (cond-false (nat_lt f.size (offset + 256)) (grows_to f (offset + 256)) None inside) ∙ some in absurd (cc)
    | inl past ↦
        let goes : grows_to f (offset + 256) ≡ Some level = sym (cond-true _ _ _ past) ∙ some in
        elim (cases_Bool ((f.level == 15) || nat_lt (part_bytes f.level) (offset + 256))) [
          | inr u ↦ let both : None ≡ Some level = sym (cond-false ((f.level == 15) || nat_lt (part_bytes f.level) (offset + 256)) (Some (level_for (offset + 256))) None u) ∙ goes in absurd (cc)
          | inl t ↦
              let both : Some (level_for (offset + 256)) ≡ Some level = sym (cond-true _ _ _ t) ∙ goes in
              let is : level_for (offset + 256) ≡ level = cc in
              let fits = level_fits (offset + 256) c.fits in
              let holds : offset + 256 ≤ part_bytes level = subst (λ k. offset + 256 ≤ part_bytes k) is fits.0 in
              let full : f.level ≢ 15 → part_bytes f.level < offset + 256 = λ has. elim (or_cases (f.level == 15) (nat_lt (part_bytes f.level) (offset + 256)) t) [
                | inl lacks ↦ absurd (has (eqb-true f.level 15 lacks))
                | inr lt ↦ ltb-true (part_bytes f.level) (offset + 256) lt
              ] in
              record {
                high = omega (arith, is, fits.1);
                holds = holds;
                past = λ has. at_end f.level offset c.aligned (omega (arith, c.within, (room_of has).size)) (full has);
                first = λ lacks. omega (arith, c.within, (none_of lacks).size);
                room = room_of;
                more = λ has. elim (cases_lt f.level level) [
                  | inl lt ↦ lt
                  | inr ge ↦ absurd (omega (arith, part_bytes-le level f.level ge, full has, holds))
                ];
              }
        ]
  ]

pub wants_here : (img : List ℕ) (f : Inode) (offset number : ℕ) → slot_growth f offset ≡ None → (plan_for img f offset number).wants ≡ entry_wants (f.base + offset) number
wants_here img f offset number none =
    ap (λ g. (grown (view img) (inode_count img) f g (λ new. counted f new (page_want (new.base + offset)) ∷ page_want (64 * number) ∷ [])).wants) none
    ∙ ap (λ w. w ∷ page_want (64 * number) ∷ []) (counted_same f (page_want (f.base + offset)))

pub wants_grown : (img : List ℕ) (f : Inode) (offset number level : ℕ) → slot_growth f offset ≡ Some level
    → (plan_for img f offset number).wants
    ≡ growth_wants f (next_part (view img) (inode_count img) level) ++ (map (counted f (next_part (view img) (inode_count img) level)) (page_want ((next_part (view img) (inode_count img) level).base + offset) ∷ []) ++ page_want (64 * number) ∷ [])
wants_grown img f offset number level some =
    ap (λ g. (grown (view img) (inode_count img) f g (λ new. counted f new (page_want (new.base + offset)) ∷ page_want (64 * number) ∷ [])).wants) some

-- the slot lies past what growth brings
pub counted_past : {f : Inode} {offset level : ℕ} → GrowsFor f offset level → (p : Partition) → counted f p (page_want (p.base + offset)) ≡ page_want (p.base + offset)
counted_past {f} {offset} g p = counted_off f p (page_want (p.base + offset)) (λ has. inr (omega (arith, g.past has)))

pub slot_high : {img : List ℕ} {f : Inode} {offset : ℕ} → CanPlan img f offset → slot_growth f offset ≡ None → f.base + offset < 2 ^ 48
slot_high {img} {f} {offset} c stay = let room = stays_in c stay in omega (arith, room.1, part_high (part f) room.0.part)
