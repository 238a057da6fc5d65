-- Room for a new entry: what its plan asks for, and what there is once the room is made.
use Rattle.std.proofs.Common.{◌≡◌, ◌≢◌, ◌⊎◌, ℕ, ◌+◌, ◌*◌, ◌/◌, ◌%◌, ◌^◌, ◌<◌, ◌≤◌, false, List, [], ◌∷◌, ◌++◌, Option, Some, None, refl, sym, ap, ◌∙◌, subst, inl, inr, arith}
use Rattle.std.specs.Prelude.{All, map}
use Rattle.std.proofs.lemmas.Bool.{cases_eq, false_from_ne_true}
use Rattle.std.proofs.lemmas.List.Elements.{All-cons, All-nil}
use Rattle.ct_base.specs.declared.inode.Inode.{Inode}
use Rattle.ct_base.specs.Inode.{IsNumber, IsPart, Partition, inode, live_parts, part_bytes}
use Rattle.ct_base.specs.Objects.{Object, object}
use Rattle.ct_base.specs.Plan.{counted, first_free_number, growth_wants, next_part, page_want}
use Rattle.ct_base.specs.Slots.{IsSlot, free_slot, slot_name}
use Rattle.ct_base.specs.View.{view, inode_count}
use Rattle.ct_base.specs.Walk.{page_at}
use Rattle.ct_base.specs.Wants.{Want, is_wanted, missing}
use Rattle.ct_dir.proofs.Held.{part_bounds}
use Rattle.ct_grow.proofs.Accounted.{counted_here, counted_off, whole_low, whole_new}
use Rattle.ct_grow.specs.Follows.{Follows}
use Rattle.ct_state.proofs.Bytes.{objects-in}
use Rattle.ct_walk.specs.Has.{HasAll}
use Rattle.ct_call.proofs.Chosen.{first_free, head_is}
use Rattle.ct_enter.proofs.Enlarged.{counted_past, grows_for, stays_in, wants_grown, wants_here}
use Rattle.ct_enter.proofs.Numbers.{free_is}
use Rattle.ct_enter.proofs.Offered.{next_unused}
use Rattle.ct_enter.proofs.Places.{can_plan}
use Rattle.ct_enter.proofs.Planned.{plan-growth}
use Rattle.ct_call.proofs.Roomed.{may_enlarge}
use Rattle.ct_call.proofs.Spaced.{open_part}
use Rattle.ct_enter.proofs.Wanted.{at_address, two_cases}
use Rattle.ct_enter.specs.Entry.{IsFreeInode, IsSpot}
use Rattle.ct_enter.specs.Makes.{IsFreshName}
use Rattle.ct_commit.specs.Rest.{IsAtRest}
use Rattle.ct_call.specs.Plans.{Asks, IsOpen, Plans, free_of, grown_wants, level_of, part_then}
use Rattle.ct_enter.specs.Plans.{CanPlan, IsEntryPlan, entry_wants, plan_for, slot_growth}
use Rattle.ct_call.specs.Rooms.{MakesRoom}
use Rattle.ct_find.specs.Spots.{IsNextSlot}
use Rattle.ct_call.specs.declared.plan.CallPlan.{CallPlan}

-- a page before the slot's, and above the inodes, is not wanted
unwanted : (base offset number v length : ℕ) → base % 4096 ≡ 0 → 10 * 2 ^ 39 ≤ base → length % 4096 ≡ 0 → offset ≡ length → v < length → number ≤ 1048576
    → is_wanted (page_want (base + offset) ∷ page_want (64 * number) ∷ []) 4 ((base + v) / 4096) ≡ false
unwanted base offset number v length aligned low whole is less few = false_from_ne_true _ (λ on. elim (two_cases 4 ((base + v) / 4096) (base + offset) (64 * number) on) [
  | inl slot ↦ let at = at_address 4 ((base + v) / 4096) (base + offset) slot in omega (arith, at.0, at.1, aligned, whole, is, less)
  | inr object ↦ let at = at_address 4 ((base + v) / 4096) (64 * number) object in omega (arith, at.0, at.1, low, few)
])

-- ---- the directory by its number

pub here_next : {w : List ℕ} {dir offset : ℕ} {f : Inode} → IsNextSlot w dir f offset → IsNextSlot w dir (inode (view w) dir) offset
here_next {w} {dir} {offset} s = subst (λ g. IsNextSlot w dir g offset) (sym s.is) s

pub here_plan : {w : List ℕ} {dir offset number : ℕ} {f : Inode} {plan : CallPlan} → IsNextSlot w dir f offset → IsEntryPlan w f offset number plan → IsEntryPlan w (inode (view w) dir) offset number plan
here_plan {w} {offset = offset} {number = number} {plan = plan} s is = subst (λ g. IsEntryPlan w g offset number plan) (sym s.is) is

pub number_few : {w : List ℕ} {number : ℕ} → IsAtRest w → first_free_number (view w) (inode_count w) ≡ Some number → number ≤ 1048576
number_few {w} {number} rest first = omega (arith, (free_is (view w) (inode_count w) number first).0.to, rest.head.inodes.1)

-- ---- the plan

module _ {w : List ℕ} {f : Inode} {offset : ℕ} (can : CanPlan w f offset) (number : ℕ) where
  -- the plan by its definition asks for the same
  same_wants : (o : Option ℕ) → slot_growth f offset ≡ o → grown_wants w f o ++ entry_wants ((part_then w f o).base + offset) number ≡ (plan_for w f offset number).wants
  same_wants None goes = sym (wants_here w f offset number goes)
  same_wants (Some level) goes =
      let q = next_part (view w) (inode_count w) level in
      ap (λ v. growth_wants f q ++ (v ∷ page_want (64 * number) ∷ [])) (sym (counted_past (grows_for can level goes) q)) ∙ sym (wants_grown w f offset number level goes)

  pub plans : {plan : CallPlan} → IsEntryPlan w f offset number plan → Plans w (plan_for w f offset number) plan
  plans {plan} is = record {
    growth = plan-growth w f offset number ∙ sym is.growth;
    part = is.part;
    need = λ opens. ap (missing w) (is.wants opens ∙ ap (λ (ms : List Want). grown_wants w f (level_of plan.growth) ++ ms) (is.rest opens) ∙ same_wants (level_of plan.growth) (sym is.growth));
  }

module _ {w : List ℕ} {dir offset number : ℕ} (rest : IsAtRest w) (slot : IsNextSlot w dir (inode (view w) dir) offset) (few : number ≤ 1048576) where
  abbrev f : Inode
  f = inode (view w) dir

  can : CanPlan w f offset
  can = can_plan rest slot

  module _ (o : Option ℕ) (goes : slot_growth f offset ≡ o) (some : (level : ℕ) → o ≡ Some level → free_of w level ≢ []) where
    abbrev q : Partition
    q = part_then w f o

    abbrev more : List Want
    more = entry_wants (q.base + offset) number

    -- the slot lies in the partition that the directory has then
    pub slot_in : IsPart (part_then w f o) × (offset + 256 ≤ part_bytes (part_then w f o).level)
    slot_in = at o goes some
      where
        at : (o : Option ℕ) → slot_growth f offset ≡ o → ((level : ℕ) → o ≡ Some level → free_of w level ≢ []) → IsPart (part_then w f o) × (offset + 256 ≤ part_bytes (part_then w f o).level)
        at None goes some = let s = stays_in can goes in (s.0.part, s.1)
        at (Some level) goes some =
            let head = head_is (free_of w level) (some level refl) in
            let first = first_free (live_parts (view w) (inode_count w)) level (next_part (view w) (inode_count w) level) head.0 head.1 in
            let grows = grows_for can level goes in
            (first.part grows.high, subst (λ l. offset + 256 ≤ part_bytes l) (sym first.level) grows.holds)

    bounds : (q.base % 4096 ≡ 0) × (q.base + part_bytes q.level ≤ 2 ^ 48) × (part_bytes q.level ≤ 2 ^ 39)
    bounds = part_bounds q.level q.base slot_in.0.level slot_in.0.aligned slot_in.0.high

    counted_rest : map (counted f q) more ≡ more
    counted_rest = at o goes slot_in
      where
        at : (o : Option ℕ) → slot_growth f offset ≡ o → IsPart (part_then w f o) × (offset + 256 ≤ part_bytes (part_then w f o).level)
            → map (counted f (part_then w f o)) (entry_wants ((part_then w f o).base + offset) number) ≡ entry_wants ((part_then w f o).base + offset) number
        at None goes is = counted_here f (entry_wants (f.base + offset) number)
        at (Some level) goes is =
            let p = next_part (view w) (inode_count w) level in
            ap (λ v. v ∷ counted f p (page_want (64 * number)) ∷ []) (counted_past (grows_for can level goes) p)
            ∙ ap (λ v. page_want (p.base + offset) ∷ v ∷ []) (counted_off f p (page_want (64 * number)) (λ has. inl (omega (arith, few, is.0.low))))

    follows : (level : ℕ) → o ≡ Some level → All (Follows f (next_part (view w) (inode_count w) level)) more
    follows level is =
        let p = next_part (view w) (inode_count w) level in
        let head = head_is (free_of w level) (some level is) in
        let first = first_free (live_parts (view w) (inode_count w)) level p head.0 head.1 in
        let grows = grows_for can level (goes ∙ is) in
        let wider : (f.level ≡ 15) ⊎ (f.level < level) = elim (cases_eq f.level 15) [ inl none ↦ inl none | inr has ↦ inr (grows.more has) ] in
        let enlarges = may_enlarge rest slot.live first grows.high wider in
        let bytes : part_bytes p.level ≡ part_bytes level = ap part_bytes first.level in
        let slot_at = page_want (p.base + offset) in
        let inode_at = page_want (64 * number) in
        let new_slot : Follows f p slot_at = λ has _. whole_new (enlarges has) slot_at refl (omega arith) (omega (arith, grows.holds, bytes)) in
        let low_inode : Follows f p inode_at = λ has _. whole_low (enlarges has) inode_at (omega (arith, few)) in
        subst (λ (x : Option ℕ). All (Follows f p) (entry_wants ((part_then w f x).base + offset) number)) (sym is)
        (All-cons (Follows f p) slot_at (inode_at ∷ []) new_slot (All-cons (Follows f p) inode_at [] low_inode (All-nil (Follows f p))))

    past : (level v : ℕ) → o ≡ Some level → f.level ≤ 9 → v < part_bytes f.level → is_wanted more 4 (((next_part (view w) (inode_count w) level).base + v) / 4096) ≡ false
    past level v is owned lt =
        let p = next_part (view w) (inode_count w) level in
        let grows = grows_for can level (goes ∙ is) in
        let same : q ≡ p = ap (part_then w f) is in
        let at = slot_in in
        let end : offset ≡ part_bytes f.level = grows.past (λ z. omega (arith, z, owned)) in
        subst (λ (b : Partition). is_wanted (entry_wants (b.base + offset) number) 4 ((p.base + v) / 4096) ≡ false) (sym same)
        (unwanted p.base offset number v (part_bytes f.level) (subst (λ (b : Partition). b.base % 4096 ≡ 0) same bounds.0) (subst (λ (b : Partition). 10 * 2 ^ 39 ≤ b.base) same at.0.low) (omega arith) end lt few)

    asks_of : Asks w dir (inode (view w) dir) o (grown_wants w (inode (view w) dir) o ++ entry_wants ((part_then w (inode (view w) dir) o).base + offset) number) (entry_wants ((part_then w (inode (view w) dir) o).base + offset) number)
    asks_of = record {
      live = slot.live;
      grows = λ level is. let g = grows_for can level (goes ∙ is) in (g.high, elim (cases_eq f.level 15) [ inl none ↦ inl none | inr has ↦ inr (g.more has) ]);
      counts = ap (λ (ws : List Want). missing w (grown_wants w f o ++ ws)) (sym counted_rest);
      follows = follows;
      staging = λ k lt. false_from_ne_true _ (λ is. elim (two_cases 1 (2 + k) (q.base + offset) (64 * number) is) [
        | inl at_slot ↦ let at = at_address 1 (2 + k) (q.base + offset) at_slot in omega (arith, at.0, at.1, slot_in.0.low, lt)
        | inr at_inode ↦ let at = at_address 1 (2 + k) (64 * number) at_inode in omega (arith, at.0, at.1, few, lt)
      ]);
      pages = λ n low is. elim (two_cases 4 n (q.base + offset) (64 * number) is) [
        | inl at_slot ↦
            let at = at_address 4 n (q.base + offset) at_slot in
            (slot.kind, slot_in.0, record { from = omega (arith, at.0, at.1, bounds.0); to = omega (arith, at.0, at.1, slot_in.1) })
        | inr at_inode ↦ let at = at_address 4 n (64 * number) at_inode in absurd (omega (arith, at.0, at.1, low, few))
      ];
      past = past;
    }

  module _ {plan : CallPlan} (is : IsEntryPlan w (inode (view w) dir) offset number plan) (opens : IsOpen plan.growth) where
    has_free : (level : ℕ) → level_of plan.growth ≡ Some level → free_of w level ≢ []
    has_free = open_part w plan.growth opens is.part

    pub asks : Asks w dir (inode (view w) dir) (level_of plan.growth) plan.wants plan.rest
    asks =
        let o = level_of plan.growth in
        subst (λ (ws : List Want). Asks w dir (inode (view w) dir) o ws plan.rest) (sym (is.wants opens))
        (subst (λ (ms : List Want). Asks w dir (inode (view w) dir) o (grown_wants w (inode (view w) dir) o ++ ms) ms) (sym (is.rest opens)) (asks_of o (sym is.growth) has_free))

    -- ---- once the room is made

    module _ {new : List ℕ} (r : MakesRoom w new dir (level_of plan.growth) plan.rest) where
      in_part : IsPart (part_then w (inode (view w) dir) (level_of plan.growth)) × (offset + 256 ≤ part_bytes (part_then w (inode (view w) dir) (level_of plan.growth)).level)
      in_part = slot_in (level_of plan.growth) (sym is.growth) has_free

      all : HasAll new (entry_wants ((part_then w (inode (view w) dir) (level_of plan.growth)).base + offset) number)
      all = subst (HasAll new) (is.rest opens) r.there

      same_object : (i : ℕ) → IsNumber (inode_count w) i → object (view new) i ≡ object (view w) i
      same_object i number =
          sym (objects-in (view new) (inode_count new) i (record { from = number.from; to = omega (arith, number.to, r.counted) }))
          ∙ ap (λ (fs : ℕ → Object). fs i) r.files
          ∙ objects-in (view w) (inode_count w) i number

      next : IsNextSlot new dir (inode (view new) dir) offset
      next =
          let same = same_object dir slot.live.number in
          let kind : (inode (view new) dir).kind ≡ f.kind = ap (λ (o : Object). o.kind) same in
          record {
            live = record { number = record { from = slot.live.number.from; to = omega (arith, slot.live.number.to, r.counted) }; used = λ z. slot.live.used (sym kind ∙ z) };
            is = refl;
            kind = kind ∙ slot.kind;
            aligned = slot.aligned;
            within = omega (arith, ap (λ (o : Object). o.size) same, slot.within);
            first = slot.first ∙ ap (λ (fs : ℕ → Object). free_slot (fs dir)) (sym r.files);
          }

      pub spot_there : (name : List ℕ) → IsFreshName w dir name → IsSpot new dir (inode (view new) dir) offset name
      spot_there name fresh = record {
        is = refl;
        kind = next.kind;
        owns = record { live = next.live; level = (subst IsPart (sym r.part) in_part.0).level };
        aligned = slot.aligned;
        low = next.within;
        fits = subst (λ (b : Partition). offset + 256 ≤ part_bytes b.level) (sym r.part) in_part.1;
        unused = next_unused r.rest.sound next;
        lawful = fresh.lawful;
        fresh = subst (λ (fs : ℕ → Object). (k : ℕ) → IsSlot (fs dir) k → slot_name (fs dir) k ≢ name) (sym r.files) fresh.fresh;
        there = subst (λ (b : Partition). page_at new 4 ((b.base + offset) / 4096) ≢ 0) (sym r.part)
            (all.0 ((part_then w (inode (view w) dir) (level_of plan.growth)).base + offset) (omega arith) (omega arith));
      }

      pub inode_there : first_free_number (view w) (inode_count w) ≡ Some number → IsFreeInode new number
      inode_there first =
          let free = free_is (view w) (inode_count w) number first in
          record {
            counted = record { from = free.0.from; to = omega (arith, free.0.to, r.counted) };
            free = ap (λ (o : Object). o.kind) (same_object number free.0) ∙ free.1;
            there = all.1.0 (64 * number) (omega arith) (omega arith);
          }
