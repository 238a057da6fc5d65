-- Depth after depth is made.
use Rattle.std.proofs.Common.{◌≡◌, ◌≢◌, ℕ, zero, suc, ◌+◌, ◌-◌, ◌*◌, ◌/◌, ◌^◌, ◌<◌, ◌≤◌, Bool, true, max, List, [], ◌∷◌, ◌++◌, length, get_or, take, refl, sym, ap, subst, ◌∙◌, inl, inr, arith}
use Rattle.std.specs.Prelude.{Option, ◌&&◌, ◌||◌, ◌==◌, nat_le, nat_lt}
use Rattle.std.proofs.lemmas.Bool.{cases_Bool, cases_eq, cases_lt, and_from, and_left, and_parts, le-leb, lt-ltb, leb-true, ltb-true, eq-eqb, eqb-true, both_ways}
use Rattle.std.proofs.Math.Bool.{or-false}
use Rattle.std.proofs.Math.Seq.{take-suc}
use Rattle.std.proofs.lemmas.List.{take_all}
use Rattle.std.proofs.Math.Nat.{pow-suc, div-lt_iff_lt-mul}
use Rattle.ct_base.specs.Walk.{page_at, AreTables}
use Rattle.ct_base.specs.Wants.{Want, count_below, is_on_path, is_wanted, missing_at, missing}
use Rattle.ct_image.proofs.Steps.{page_at-root}
use Rattle.ct_image.proofs.MissingLess.{count_below-le, count_below-none}
use Rattle.ct_frames.specs.Free.{FreePages}
use Rattle.ct_frames.specs.Agrees.{Agrees}
use Rattle.ct_pm.specs.Images.{History}
use Rattle.ct_pm.specs.Device.{LeavesOnly, MakesOnly, NothingPending, SameOff}
use Rattle.ct_pm.proofs.OneWord.{Replays}
use Rattle.ct_pm.proofs.Told.{and_then, weaker}
use Rattle.ct_pm.proofs.Made.{makes_then, makes_weaker}
use Rattle.ct_walk.specs.Growth.{IsTaken, Grown, MayGrow, Extends, IsDone}
use Rattle.ct_walk.specs.Depths.{without_lowest, IsOnTaken, HaveTables}
use Rattle.ct_walk.specs.Has.{Has, HasAll, IsInRange, AreInRange}
use Rattle.ct_walk.proofs.Cells.{count_below-still, bytes_at, path_at, path_high, bytes_all, bytes_pos, is_wanted-push}
use Rattle.ct_walk.proofs.Grows.{extends_none, extends_then, done_none, done_then, grown_both}
use Rattle.ct_walk.proofs.Lowest.{dropped_less}
use Rattle.ct_walk.proofs.Wiped.{Wiped, grown_wiped, cells_same, missing_wiped}

-- ---- a depth: pages are filled, and linked

pub wiped : (old image : List ℕ) (f : FreePages) (n : ℕ) → AreTables old → Agrees old f → ((q : ℕ) → IsTaken f (without_lowest n f) q → 34 ≤ q) → SameOff (IsOnTaken f (without_lowest n f)) image old → Wiped old image f (without_lowest n f)
wiped old image f n tables agrees low same = record { tables = tables; fresh = λ q t. agrees.free q t.was; low = low; same = same }

pub extends_cleared : (old mid : List ℕ) (f : FreePages) (n : ℕ) {told then : Option History} (wants : List Want) → AreTables old → Agrees old f → ((q : ℕ) → IsTaken f (without_lowest n f) q → 34 ≤ q) → SameOff (IsOnTaken f (without_lowest n f)) mid old
    → (NothingPending told → LeavesOnly told then (λ image. SameOff (IsOnTaken f (without_lowest n f)) image old)) → MakesOnly (λ at put. IsOnTaken f (without_lowest n f) at) told then
    → Extends wants old mid told then f (without_lowest n f)
extends_cleared old mid f n wants tables agrees low same images made = record {
  grown = grown_wiped (wiped old mid f n tables agrees low same) wants;
  images = λ settled. weaker (λ image. Grown old image wants f (without_lowest n f)) (λ image alike. grown_wiped (wiped old image f n tables agrees low alike) wants) (images settled);
  made = makes_weaker (λ at put. MayGrow old wants f (without_lowest n f) at) (λ at put t. inl t) made;
  left = λ q c. dropped_less 0 n q f.free (omega arith) c;
}

-- an entry that is 0 on the way was so before
may_wiped : {old mid : List ℕ} {before after : FreePages} {wants : List Want} (u : Wiped old mid before after) (w : ℕ) → MayGrow mid wants before after w → MayGrow old wants before after w
may_wiped u w (inl t) = inl t
may_wiped {old} {mid} u w (inr gap) =
    let few = gap.few in
    let small = gap.small in
    let cell = cells_same u gap.depth gap.number (omega arith) in
    inr (record {
      depth = gap.depth;
      number = gap.number;
      index = gap.index;
      few = gap.few;
      small = gap.small;
      there = λ none. gap.there (cell ∙ none);
      wanted = gap.wanted;
      is = gap.is ∙ ap (λ t. t * 512 + gap.index) cell;
      none = sym (u.same.others w (λ t. u.fresh (w / 512) t gap.depth gap.number (omega arith) (omega (arith, gap.is, cell)))) ∙ gap.none;
    })

pub extends_made : {old mid new : List ℕ} {before after : FreePages} {told then now : Option History} {wants : List Want} → Wiped old mid before after → Extends wants old mid told then before after → (NothingPending told → NothingPending then)
    → Extends wants mid new then now before after → Extends wants old new told now before after
extends_made {old} {mid} {new} {before} {after} {told} {then} {now} {wants} u p settled q = record {
  grown = grown_both p.grown q.grown;
  images = λ quiet. and_then (p.images quiet) (weaker (λ image. Grown old image wants before after) (λ image g. grown_both p.grown g) (q.images (settled quiet)));
  made = makes_then p.made (makes_weaker (λ at put. MayGrow old wants before after at) (λ at put m. may_wiped u at m) q.made);
  left = p.left;
}

pub done_made : {old mid new : List ℕ} {before after : FreePages} {told then now : Option History} {wants : List Want} → Wiped old mid before after → (NothingPending told → NothingPending then)
    → IsDone wants mid new then now before after → IsDone wants old new told now before after
done_made {wants = wants} u settled d = record { agrees = d.agrees; taken = omega (arith, d.taken, missing_wiped u wants); settled = λ s. d.settled (settled s) }

pub tables_wiped : {old mid : List ℕ} {before after : FreePages} (wants : List Want) (e : ℕ) → e ≤ 4 → Wiped old mid before after → HaveTables old wants e → HaveTables mid wants e
tables_wiped wants e le u above x lt wanted none = above x lt wanted (sym (cells_same u (e - 1) (x / 512) (omega arith)) ∙ none)

-- ---- depth after depth

-- where none is missing at a depth, each wanted cell is there
pub none_missing : (img : List ℕ) (wants : List Want) (d : ℕ) → missing_at img wants d ≡ 0 → (x : ℕ) → x < 512 ^ d → is_wanted wants d x ≡ true → page_at img d x ≢ 0
unfolding missing_at count_below
none_missing img wants d none x lt wanted absent =
    both_ways _ (count_below-still (λ y. is_wanted wants d y && (page_at img d y == 0)) 0 (512 ^ d) none x (omega arith) lt) (and_from _ _ wanted (eq-eqb _ 0 absent))

-- and none is missing later
pub still_none : (old new : List ℕ) (wants : List Want) (d : ℕ) → d ≤ 4 → ((e y : ℕ) → e ≤ 4 → page_at old e y ≢ 0 → page_at new e y ≡ page_at old e y) → missing_at old wants d ≡ 0 → missing_at new wants d ≡ 0
unfolding missing_at
still_none old new wants d le kept none =
    let fewer = count_below-le (λ y. is_wanted wants d y && (page_at new d y == 0)) (λ y. is_wanted wants d y && (page_at old d y == 0)) (512 ^ d) (λ y lt both.
    let p : (is_wanted wants d y ≡ true) × ((page_at new d y == 0) ≡ true) = and_parts _ _ both in
    elim (cases_eq (page_at old d y) 0) [
      | inl was ↦ and_from _ _ p.0 (eq-eqb _ 0 was)
      | inr there ↦ absurd (there (sym (kept d y le there) ∙ eqb-true _ 0 p.1))
    ]) in
    omega (arith, fewer, none)

path_up : (d x : ℕ) (want : Want) → d ≤ 3 → is_on_path (suc d) x want ≡ true → is_on_path d (x / 512) want ≡ true
path_up d x want le on =
    let s = bytes_at (suc d) in
    let wide : bytes_at d ≡ 512 * s =
    let less : 4 - d ≡ suc (4 - suc d) = omega arith in
    omega (arith, ap (λ k. 512 ^ k) less ∙ pow-suc 512 (4 - suc d)) in
    let p : (nat_le (suc d + want.height) 4 ≡ true) × ((nat_le (x * s + 1) (want.at + want.len) && nat_lt want.at ((x + 1) * s)) ≡ true) = and_parts _ _ on in
    let q : (nat_le (x * s + 1) (want.at + want.len) ≡ true) × (nat_lt want.at ((x + 1) * s) ≡ true) = and_parts _ _ p.1 in
    let low : x / 512 * 512 ≤ x = omega arith in
    let high : x + 1 ≤ (x / 512 + 1) * 512 = omega arith in
    let start : x / 512 * bytes_at d ≡ x / 512 * 512 * s = ap (λ k. x / 512 * k) wide ∙ omega arith in
    let end : (x / 512 + 1) * bytes_at d ≡ (x / 512 + 1) * 512 * s = ap (λ k. (x / 512 + 1) * k) wide ∙ omega arith in
    and_from _ _ (le-leb (d + want.height) 4 (omega (arith, leb-true (suc d + want.height) 4 p.0)))
    (and_from _ _
    (le-leb (x / 512 * bytes_at d + 1) (want.at + want.len) (omega (arith, start, mul-le (x / 512 * 512) x s low, leb-true (x * s + 1) (want.at + want.len) q.0)))
    (lt-ltb want.at ((x / 512 + 1) * bytes_at d) (omega (arith, end, mul-le (x + 1) ((x / 512 + 1) * 512) s high, ltb-true want.at ((x + 1) * s) q.1))))
  where
    mul-le : (a b c : ℕ) → a ≤ b → a * c ≤ b * c
    mul-le a b c le = let sum : b ≡ a + (b - a) = omega arith in omega (arith, ap (λ k. k * c) sum)

-- the table of a wanted cell is wanted
wanted_up : (wants : List Want) (d x : ℕ) → d ≤ 3 → is_wanted wants (suc d) x ≡ true → is_wanted wants d (x / 512) ≡ true
wanted_up [] d x le wanted = cc
wanted_up (want ∷ wants) d x le wanted =
    elim (cases_Bool (is_on_path (suc d) x want)) [
      | inl on ↦ rw (path_up d x want le on) refl
      | inr off ↦
          let more = wanted_up wants d x le (rw off at wanted) in
          elim (cases_Bool (is_on_path d (x / 512) want)) [ inl t ↦ rw t refl | inr t ↦ rw (t, more) refl ]
    ]

-- a want has what it asks for where its cells are there
has_one : (img : List ℕ) (want : Want) → IsInRange want → ((e x : ℕ) → x < 512 ^ e → is_on_path e x want ≡ true → page_at img e x ≢ 0) → Has img want
has_one img want range there v from to none =
    let e = 4 - want.height in
    let few = range.0 in
    let back : 4 - e ≡ want.height = omega arith in
    let cell : v / bytes_at e < 512 ^ e = (div-lt_iff_lt-mul (bytes_pos e)).1 (omega (arith, bytes_all e (omega arith), range.2, to)) in
    there e (v / bytes_at e) cell (path_at want range.1 e v (omega arith) from to) (ap (λ k. page_at img e (v / (4096 * 512 ^ k))) back ∙ none)

or_left : (a b : Bool) → a ≡ true → (a || b) ≡ true
or_left a b t = rw t refl

or_right : (a b : Bool) → b ≡ true → (a || b) ≡ true
or_right a b t = elim (cases_Bool a) [ inl u ↦ rw u refl | inr u ↦ rw (u, t) refl ]

has_all : (img : List ℕ) (wants more : List Want) → ((e x : ℕ) → is_wanted wants e x ≡ true → is_wanted more e x ≡ true) → AreInRange wants → ((e x : ℕ) → x < 512 ^ e → is_wanted more e x ≡ true → page_at img e x ≢ 0) → HasAll img wants
has_all img [] more among range there = tt
has_all img (want ∷ wants) more among range there = (
  has_one img want range.0 (λ e x lt on. there e x lt (among e x (or_left _ _ on))),
  has_all img wants more (λ e x wanted. among e x (or_right _ _ wanted)) range.1 there,
)

-- what the wants reach so far, and that they are in range
pub record Reaches (wants : List Want) (depth : ℕ) : Type 0 where
  pub most : depth ≤ 4
  pub covers : (e x : ℕ) → is_wanted wants e x ≡ true → e ≤ depth
  pub range : AreInRange wants

pub reaches_none : Reaches [] 0
reaches_none = record { most = omega arith; covers = λ e x wanted. cc; range = tt }

in_range-push : (wants : List Want) (want : Want) → AreInRange wants → IsInRange want → AreInRange (wants ++ want ∷ [])
in_range-push [] want all one = (one, tt)
in_range-push (first ∷ wants) want all one = (all.0, in_range-push wants want all.1 one)

pub reaches_more : (wants : List Want) (i depth height : ℕ) (want : Want) → Reaches (take i wants) depth → i < length wants → want ≡ get_or wants i want → height ≡ want.height → IsInRange want → Reaches (take (i + 1) wants) (max depth (4 - height))
reaches_more wants i depth height want so_far lt is same range =
    let next : i + 1 ≡ suc i = omega arith in
    let more : take (i + 1) wants ≡ take i wants ++ want ∷ [] = ap (λ (k : ℕ). take k wants) next ∙ take-suc wants i want lt ∙ ap (λ (w : Want). take i wants ++ w ∷ []) (sym is) in
    subst (λ (l : List Want). Reaches l (max depth (4 - height))) (sym more) (record {
      most = let most = so_far.most in omega arith;
      covers = λ e x wanted. elim (cases_Bool (is_on_path e x want)) [
        | inl on ↦ let high = path_high want range.1 e x on in omega (arith, high, same)
        | inr off ↦ let was = so_far.covers e x (sym (or-false _) ∙ ap (λ b. is_wanted (take i wants) e x || b) (sym off) ∙ sym (is_wanted-push (take i wants) want e x) ∙ wanted) in omega arith
      ];
      range = in_range-push (take i wants) want so_far.range range;
    })

pub reaches_all : (wants : List Want) (i depth : ℕ) → Reaches (take i wants) depth → length wants ≤ i → Reaches wants depth
reaches_all wants i depth so_far end = subst (λ (l : List Want). Reaches l depth) (take_all i wants end) so_far

-- The depths before one are made.
pub record Deepening (old now : List ℕ) (told then : Option History) (before after : FreePages) (faults later : ℕ) (wants : List Want) (d : ℕ) : Type 0 where
  pub extends : Extends wants old now told then before after
  pub done : IsDone wants old now told then before after
  pub none : (e : ℕ) → 1 ≤ e → e < d → missing_at now wants e ≡ 0
  pub calm : faults ≤ later

pub deepening_start : (old : List ℕ) (told : Option History) (frames : FreePages) (faults : ℕ) (wants : List Want) → AreTables old → Agrees old frames → Replays told old → Deepening old old told told frames frames faults faults wants 1
deepening_start old told frames faults wants tables agrees replays = record {
  extends = extends_none wants old told frames tables replays;
  done = done_none wants old told frames agrees;
  none = λ e from to. absurd (omega arith);
  calm = omega arith;
}

pub deepening_above : {old now : List ℕ} {told then : Option History} {before after : FreePages} {faults later : ℕ} {wants : List Want} {d : ℕ} → Deepening old now told then before after faults later wants d → 1 ≤ d → d ≤ 4 → HaveTables now wants d
deepening_above {now = now} {wants = wants} {d = zero} deep from to x lt wanted = absurd (omega arith)
deepening_above {now = now} {wants = wants} {d = suc zero} deep from to x lt wanted =
    let first : x / 512 ≡ 0 = omega arith in
    λ none. omega (arith, sym (page_at-root now) ∙ ap (page_at now 0) (sym first) ∙ none)
deepening_above {now = now} {wants = wants} {d = suc (suc d)} deep from to x lt wanted =
    let back : suc (suc d) - 1 ≡ suc d = omega arith in
    let there = none_missing now wants (suc d) (deep.none (suc d) (omega arith) (omega arith)) (x / 512) (omega (arith, pow-suc 512 (suc d))) (wanted_up wants (suc d) x (omega arith) wanted) in
    λ none. there (sym (ap (λ k. page_at now k (x / 512)) back) ∙ none)

missing_part : (img : List ℕ) (wants : List Want) (d : ℕ) → 1 ≤ d → d ≤ 4 → missing_at img wants d ≤ missing img wants
unfolding missing
missing_part img wants zero from to = absurd (omega arith)
missing_part img wants (suc zero) from to = omega arith
missing_part img wants (suc (suc zero)) from to = omega arith
missing_part img wants (suc (suc (suc zero))) from to = omega arith
missing_part img wants (suc (suc (suc (suc zero)))) from to = omega arith
missing_part img wants (suc (suc (suc (suc (suc d))))) from to = absurd (omega arith)

pub deepening_room : {old now : List ℕ} {told then : Option History} {before after : FreePages} {faults later : ℕ} {wants : List Want} {d : ℕ} → Deepening old now told then before after faults later wants d → 1 ≤ d → d ≤ 4
    → missing old wants ≤ length before.free → missing_at now wants d ≤ length after.free
deepening_room {now = now} {wants = wants} {d = d} deep from to room = omega (arith, deep.done.taken, missing_part now wants d from to, room)

pub deepening_step : {old now new : List ℕ} {told then last : Option History} {before after left : FreePages} {faults later more : ℕ} {wants : List Want} {d : ℕ} → AreTables old → Deepening old now told then before after faults later wants d → d ≤ 4
    → missing_at new wants d ≡ 0 → Extends wants now new then last after left → IsDone wants now new then last after left → later ≤ more → Deepening old new told last before left faults more wants (d + 1)
deepening_step {now = now} {new = new} {wants = wants} {d = d} tables deep le none extends done calm = record {
  extends = extends_then tables deep.extends deep.done.settled extends;
  done = done_then deep.done done;
  none = λ e from to. elim (cases_eq e d) [
    | inl here ↦ ap (missing_at new wants) here ∙ none
    | inr other ↦ still_none now new wants e (omega arith) extends.grown.walks (deep.none e from (omega (arith, other)))
  ];
  calm = omega (arith, deep.calm, calm);
}

-- what lies deeper than the wants reach is not missing
deeper_none : (img : List ℕ) (wants : List Want) (d : ℕ) → ((x : ℕ) → is_wanted wants d x ≡ true → ⊥) → missing_at img wants d ≡ 0
unfolding missing_at
deeper_none img wants d not = count_below-none _ (512 ^ d) (λ x lt. elim (cases_Bool (is_wanted wants d x)) [
  | inl wanted ↦ absurd (not x wanted)
  | inr off ↦ and_left _ _ off
])

-- all depths are made that the wants reach
module _ {old now : List ℕ} {told then : Option History} {before after : FreePages} {faults later : ℕ} {wants : List Want} {d : ℕ} (deep : Deepening old now told then before after faults later wants d) (reach : ℕ)
    (covers : (e x : ℕ) → is_wanted wants e x ≡ true → e ≤ reach) (end : reach < d) where
  none_at : (e : ℕ) → 1 ≤ e → missing_at now wants e ≡ 0
  none_at e from = elim (cases_lt e d) [
    | inl before_end ↦ deep.none e from before_end
    | inr past ↦ deeper_none now wants e (λ x wanted. omega (arith, covers e x wanted, end))
  ]

  all_none : missing now wants ≡ 0
  unfolding missing
  all_none = omega (arith, none_at 1 (omega arith), none_at 2 (omega arith), none_at 3 (omega arith), none_at 4 (omega arith))

  pub deepening_taken : length after.free + missing old wants ≡ length before.free
  deepening_taken = omega (arith, deep.done.taken, all_none)

  there_at : (e x : ℕ) → x < 512 ^ e → is_wanted wants e x ≡ true → page_at now e x ≢ 0
  there_at zero x lt wanted = let first : x ≡ 0 = omega arith in λ none. omega (arith, sym (page_at-root now) ∙ ap (page_at now 0) (sym first) ∙ none)
  there_at (suc e) x lt wanted = none_missing now wants (suc e) (none_at (suc e) (omega arith)) x lt wanted

  pub deepening_there : AreInRange wants → HasAll now wants
  deepening_there range = has_all now wants wants (λ e x wanted. wanted) range there_at
