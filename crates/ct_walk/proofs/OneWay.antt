-- The cells on the way to one address.
use Rattle.std.proofs.Common.{◌≡◌, ◌≢◌, ℕ, zero, suc, ◌+◌, ◌-◌, ◌*◌, ◌/◌, ◌%◌, ◌^◌, ◌<◌, ◌≤◌, true, false, List, length, refl, sym, ap, subst, ◌∙◌, inl, inr, arith}
use Rattle.std.specs.Prelude.{◌&&◌, ◌||◌, nat_le, nat_lt}
use Rattle.std.proofs.Math.Nat.{div-div-eq-div-mul, div-add-mod, mod-lt, div-eq_of_lt-le, div-lt_iff_lt-mul, one-le-pow, pow-suc}
use Rattle.std.proofs.lemmas.Bool.{cases_Bool, cases_lt, and_from, and_parts, le-leb, lt-ltb, leb-true, ltb-true}
use Rattle.std.proofs.Math.Bool.{or-false}
use Rattle.std.proofs.lemmas.Nat.{pow-add}
use Rattle.ct_base.specs.Walk.{page_at, next}
use Rattle.ct_base.specs.Wants.{Want, is_on_path, is_wanted, missing}
use Rattle.ct_image.proofs.Steps.{next-zero, page_at-next}
use Rattle.ct_image.proofs.MissingLess.{missing_some, missing_none}
use Rattle.ct_walk.specs.Has.{Has, at_one}
use Rattle.ct_walk.specs.Pages.{on_way}
use Rattle.std.specs.Prelude.{Option, Result, Ok, Err, OnOk}
use Rattle.ct_pm.specs.Device.{NothingPending}
use Rattle.ct_base.specs.View.{view, is_seen}
use Rattle.ct_base.specs.Walk.{AreTables}
use Rattle.ct_image.proofs.Seen.{seen-bounds}
use Rattle.ct_frames.specs.Free.{FreePages}
use Rattle.ct_frames.specs.Agrees.{Agrees}
use Rattle.ct_pm.specs.Images.{History}
use Rattle.ct_pm.proofs.OneWord.{Replays}
use Rattle.ct_walk.specs.Growth.{Covers, Extends, Grown, IsDone}
use Rattle.ct_walk.proofs.Entries.{page_at-start}
use Rattle.ct_walk.proofs.Grows.{extends_none, extends_then, done_none, done_then}

span_is : (v k : ℕ) → v / (4096 * 512 ^ k) ≡ v / 4096 / 512 ^ k
span_is v k = sym (div-div-eq-div-mul v 4096 (512 ^ k))

span_pos : (k : ℕ) → 0 < 4096 * 512 ^ k
span_pos k = omega (arith, one-le-pow k 512 (omega arith))

-- the cells on the way are on the path of the want
on_path : (h v d : ℕ) → d + h ≤ 4 → is_on_path d (v / 4096 / 512 ^ (4 - d)) (record { height = h; at = v; len = 1 }) ≡ true
on_path h v d le =
    let s = 4096 * 512 ^ (4 - d) in
    let x = v / 4096 / 512 ^ (4 - d) in
    let is : v / s ≡ x = span_is v (4 - d) in
    let whole = div-add-mod v s in
    let small = mod-lt v (span_pos (4 - d)) in
    let prod : s * (v / s) ≡ x * s = ap (λ k. s * k) is ∙ omega arith in
    and_from _ _ (le-leb (d + h) 4 le) (and_from _ _ (le-leb (x * s + 1) (v + 1) (omega (arith, whole, prod))) (lt-ltb v ((x + 1) * s) (omega (arith, whole, prod, small))))

-- and no others
pub path_is : (h v d x : ℕ) → is_on_path d x (record { height = h; at = v; len = 1 }) ≡ true → (d + h ≤ 4) × (x ≡ v / 4096 / 512 ^ (4 - d))
path_is h v d x on =
    let s = 4096 * 512 ^ (4 - d) in
    let p : (nat_le (d + h) 4 ≡ true) × ((nat_le (x * s + 1) (v + 1) && nat_lt v ((x + 1) * s)) ≡ true) = and_parts _ _ on in
    let q : (nat_le (x * s + 1) (v + 1) ≡ true) × (nat_lt v ((x + 1) * s) ≡ true) = and_parts _ _ p.1 in
    (leb-true (d + h) 4 p.0, sym (div-eq_of_lt-le s (omega (arith, leb-true (x * s + 1) (v + 1) q.0)) (ltb-true v ((x + 1) * s) q.1)) ∙ span_is v (4 - d))

pub covers_one : (h v : ℕ) → h ≤ 4 → Covers (at_one h v) (v / 4096) (4 - h)
covers_one h v le d from to = ap (λ b. b || false) (on_path h v d (omega arith))

-- a table on the way is there where the page below is
way_up : (img : List ℕ) (n d : ℕ) → d ≤ 3 → on_way img n (suc d) ≢ 0 → on_way img n d ≢ 0
way_up img n d le there none =
    let width : 512 ^ (4 - suc d) * 512 ≡ 512 ^ (4 - d) = sym (pow-suc 512 (4 - suc d)) ∙ ap (λ k. 512 ^ k) (omega arith) in
    let up : n / 512 ^ (4 - suc d) / 512 ≡ n / 512 ^ (4 - d) = div-div-eq-div-mul n (512 ^ (4 - suc d)) 512 ∙ ap (λ w. n / w) width in
    there (page_at-next img d (n / 512 ^ (4 - suc d)) ∙ ap (λ t. next img t (n / 512 ^ (4 - suc d) % 512)) (ap (page_at img d) up ∙ none) ∙ next-zero img _)

pub way_all : (img : List ℕ) (n e d : ℕ) → d ≤ e → e ≤ 4 → on_way img n e ≢ 0 → on_way img n d ≢ 0
way_all img n zero d le le' there = let z : d ≡ 0 = omega arith in subst (λ (k : ℕ). on_way img n k ≢ 0) (sym z) there
way_all img n (suc e) d le le' there =
    elim (cases_lt e d) [
      | inl last ↦ let z : d ≡ suc e = omega arith in subst (λ (k : ℕ). on_way img n k ≢ 0) (sym z) there
      | inr more ↦ way_all img n e d more (omega arith) (way_up img n e (omega arith) there)
    ]

-- nothing is missing once the last is there
pub one_none : (img : List ℕ) (h v : ℕ) → h ≤ 4 → on_way img (v / 4096) (4 - h) ≢ 0 → missing img (at_one h v) ≡ 0
one_none img h v le there =
    missing_none img (at_one h v) (λ d x from to wanted.
    let on : is_on_path d x (record { height = h; at = v; len = 1 }) ≡ true = sym (or-false _) ∙ wanted in
    let is = path_is h v d x on in
    λ none. way_all img (v / 4096) (4 - h) d (omega (arith, is.0)) (omega arith) there (ap (page_at img d) (sym is.1) ∙ none))

-- something is missing where one is absent
pub one_some : (img : List ℕ) (wants : List Want) (n end d : ℕ) → Covers wants n end → suc d ≤ end → end ≤ 4 → n < 2 ^ 36 → on_way img n (suc d) ≡ 0 → 0 < missing img wants
one_some img wants n end d covers le le' low none =
    let sum : suc d + (4 - suc d) ≡ 4 = omega arith in
    let whole : 512 ^ suc d * 512 ^ (4 - suc d) ≡ 68719476736 = sym (pow-add 512 (suc d) (4 - suc d)) ∙ ap (λ k. 512 ^ k) sum in
    let range : n / 512 ^ (4 - suc d) < 512 ^ suc d = (div-lt_iff_lt-mul (one-le-pow (4 - suc d) 512 (omega arith))).1 (omega (arith, whole)) in
    missing_some img wants (suc d) (n / 512 ^ (4 - suc d)) (omega arith) (omega arith) range (covers (suc d) (omega arith) le) none

pub has_one : (img : List ℕ) (h v : ℕ) → h ≤ 4 → on_way img (v / 4096) (4 - h) ≢ 0 → Has img (record { height = h; at = v; len = 1 })
has_one img h v le there a from to none =
    let is : a ≡ v = omega arith in
    let back : 4 - (4 - h) ≡ h = omega arith in
    there (ap (λ k. page_at img (4 - h) (v / 4096 / 512 ^ k)) back ∙ sym (ap (page_at img (4 - h)) (ap (λ k. k / (4096 * 512 ^ h)) is ∙ span_is v h)) ∙ none)

-- The way to virtual page n, of which depths 1 to end are asked for, is there up to depth d.
pub record Going (old now : List ℕ) (told then : Option History) (before after : FreePages) (faults later n end d : ℕ) : Type 0 where
  pub extends : (wants : List Want) → Covers wants n end → Extends wants old now told then before after
  pub done : (wants : List Want) → Covers wants n end → IsDone wants old now told then before after
  pub there : on_way now n d ≢ 0
  pub tables : AreTables now
  pub agrees : Agrees now after
  pub calm : faults ≤ later

pub going_start : (old : List ℕ) (told : Option History) (frames : FreePages) (faults n end : ℕ) → AreTables old → Agrees old frames → Replays told old → n < 2 ^ 36 → Going old old told told frames frames faults faults n end 0
going_start old told frames faults n end tables agrees replays low = record {
  extends = λ wants covers. extends_none wants old told frames tables replays;
  done = λ wants covers. done_none wants old told frames agrees;
  there = λ none. omega (arith, page_at-start old 0 n refl low, none);
  tables = tables;
  agrees = agrees;
  calm = omega arith;
}

-- the next cell on the way is wanted
pub wanted_next : (wants : List Want) (n end d : ℕ) → Covers wants n end → d < end → end ≤ 4 → is_wanted wants (d + 1) (n / 512 ^ (3 - d)) ≡ true
wanted_next wants n end d covers lt le =
    let less : 3 - d ≡ 4 - (d + 1) = omega arith in
    ap (λ k. is_wanted wants (d + 1) (n / 512 ^ k)) less ∙ covers (d + 1) (omega arith) (omega arith)

pub going_step : {old now new : List ℕ} {told then last : Option History} {before after left : FreePages} {faults later more n end d : ℕ} → AreTables old → Going old now told then before after faults later n end d → d < end → end ≤ 4
    → on_way new n (d + 1) ≢ 0 → ((wants : List Want) → is_wanted wants (d + 1) (n / 512 ^ (3 - d)) ≡ true → Extends wants now new then last after left)
    → ((wants : List Want) → is_wanted wants (d + 1) (n / 512 ^ (3 - d)) ≡ true → IsDone wants now new then last after left) → later ≤ more
    → Covers (at_one (4 - end) (n * 4096)) n end → Going old new told last before left faults more n end (d + 1)
going_step {n = n} {end = end} {d = d} start going lt le there extends done calm own =
    let one = at_one (4 - end) (n * 4096) in
    let some = wanted_next one n end d own lt le in
    record {
      extends = λ wants covers. extends_then start (going.extends wants covers) (going.done wants covers).settled (extends wants (wanted_next wants n end d covers lt le));
      done = λ wants covers. done_then (going.done wants covers) (done wants (wanted_next wants n end d covers lt le));
      there = there;
      tables = (extends one some).grown.tables;
      agrees = (done one some).agrees;
      calm = omega (arith, going.calm, calm);
    }

-- a page is left for the next cell where it is absent
pub going_room : {old now : List ℕ} {told then : Option History} {before after : FreePages} {faults later n end d : ℕ} (wants : List Want) → Going old now told then before after faults later n end d → Covers wants n end
    → d < end → end ≤ 4 → n < 2 ^ 36 → missing old wants ≤ length before.free → on_way now n (d + 1) ≡ 0 → 0 < length after.free
going_room {now = now} {n = n} {end = end} {d = d} wants going covers lt le low room none =
    let step : d + 1 ≡ suc d = omega arith in
    let some = one_some now wants n end d covers (omega arith) le low (ap (on_way now n) (sym step) ∙ none) in
    omega (arith, (going.done wants covers).taken, some, room)

-- any address of a page covers its way
pub covers_page : (n end : ℕ) → end ≤ 4 → Covers (at_one (4 - end) (n * 4096)) n end
covers_page n end le d from to =
    let page : n * 4096 / 4096 ≡ n = omega arith in
    let back : 4 - (4 - end) ≡ end = omega arith in
    ap (λ k. is_wanted (at_one (4 - end) (n * 4096)) d (k / 512 ^ (4 - d))) (sym page) ∙ covers_one (4 - end) (n * 4096) (omega arith) d from (omega arith)

pub covers_at : (wants : List Want) (a b end : ℕ) → a ≡ b → Covers wants (b / 4096) end → Covers wants (a / 4096) end
covers_at wants a b end is covers = subst (λ (k : ℕ). Covers wants (k / 4096) end) (sym is) covers

-- ---- as the function states it

module _ (old new : List ℕ) (told now : Option History) (before after : FreePages) (h v : ℕ) (le : h ≤ 4) where
  pub there_result : {T E : Type 0} (r : Result T E) → OnOk r (on_way new (v / 4096) (4 - h) ≢ 0) → OnOk r (Has new (record { height = h; at = v; len = 1 }))
  there_result (Ok x) there = has_one new h v le there
  there_result (Err e) there = tt

  pub taken_result : {T E : Type 0} (r : Result T E) → OnOk r (on_way new (v / 4096) (4 - h) ≢ 0) → OnOk r ((wants : List Want) → Covers wants (v / 4096) (4 - h) → IsDone wants old new told now before after)
      → OnOk r (length after.free + missing old (at_one h v) ≡ length before.free)
  taken_result (Ok x) there done = omega (arith, (done (at_one h v) (covers_one h v le)).taken, one_none new h v le there)
  taken_result (Err e) there done = tt

  pub agrees_result : {T E : Type 0} (r : Result T E) → OnOk r ((wants : List Want) → Covers wants (v / 4096) (4 - h) → IsDone wants old new told now before after) → OnOk r (Agrees new after)
  agrees_result (Ok x) done = (done (at_one h v) (covers_one h v le)).agrees
  agrees_result (Err e) done = tt

  pub settled_result : {T E : Type 0} (r : Result T E) → OnOk r ((wants : List Want) → Covers wants (v / 4096) (4 - h) → IsDone wants old new told now before after)
      → OnOk r (NothingPending told → NothingPending now)
  settled_result (Ok x) done = (done (at_one h v) (covers_one h v le)).settled
  settled_result (Err e) done = tt

-- ---- what growing says of what is looked at

pub grown_view : {old new : List ℕ} {wants : List Want} {before after : FreePages} → Grown old new wants before after → (v : ℕ) → view new v ≡ view old v
unfolding view
grown_view g v = elim (cases_Bool (is_seen v)) [
  | inl seen ↦ rw seen (g.bytes v (seen-bounds v seen).0)
  | inr not ↦ rw not refl
]
