-- Cells that have no page, and those that are wanted, run by run.
use Rattle.std.proofs.Common.{◌≡◌, ℕ, zero, suc, ◌+◌, ◌-◌, ◌*◌, ◌/◌, ◌^◌, ◌<◌, ◌≤◌, Bool, true, false, max, List, [], ◌∷◌, ◌++◌, refl, sym, ap, subst, ◌∙◌, ◌⊎◌, inl, inr, arith}
use Rattle.std.specs.Prelude.{◌&&◌, ◌||◌, ◌==◌, nat_le, nat_lt, ◌↔◌}
use Rattle.std.proofs.Math.Nat.{div-add-mod, mod-lt, div-eq_of_lt-le, div-lt_iff_lt-mul, one-le-pow}
use Rattle.std.proofs.lemmas.Nat.{pow-add}
use Rattle.std.proofs.lemmas.Bool.{cases_eq, cases_lt, cases_Bool, and_from, and_parts, and_left, or_from, le-leb, lt-ltb, leb-true, ltb-true, eq-eqb, ne_eqb, eqb-true, both_ways}
use Rattle.ct_base.specs.Walk.{page_at}
use Rattle.ct_base.specs.Wants.{Want, is_on_path, is_wanted, count_below, missing_at}
use Rattle.ct_walk.specs.declared.wants.Run.{Run}
use Rattle.ct_walk.specs.Has.{Has}
use Rattle.ct_walk.specs.Runs.{IsNearest, absent_below}

-- ---- counting

-- where none of the numbers from a to b passes
pub count_below-skip : (p : ℕ → Bool) (a b : ℕ) → a ≤ b → ((x : ℕ) → a ≤ x → x < b → p x ≡ false) → count_below p b ≡ count_below p a
unfolding count_below
count_below-skip p a zero le none = let z : 0 ≡ a = omega arith in ap (count_below p) z
count_below-skip p a (suc b) le none =
    elim (cases_lt a (suc b)) [
      | inl lt ↦ let rest = count_below-skip p a b (omega arith) (λ x from to. none x from (omega arith)) in rw (none b (omega arith) (omega arith)) (omega (arith, rest))
      | inr ge ↦ let same : suc b ≡ a = omega arith in subst (λ (k : ℕ). count_below p (suc b) ≡ count_below p k) same refl
    ]

-- where two tests agree from a to b, they count as many there
pub count_below-run : (p q : ℕ → Bool) (a b : ℕ) → a ≤ b → ((x : ℕ) → a ≤ x → x < b → q x ≡ p x) → count_below q b + count_below p a ≡ count_below p b + count_below q a
unfolding count_below
count_below-run p q a zero le same = let z : a ≡ 0 = omega arith in subst (λ (k : ℕ). count_below q 0 + count_below p k ≡ count_below p 0 + count_below q k) (sym z) refl
count_below-run p q a (suc b) le same =
    elim (cases_lt a (suc b)) [
      | inl lt ↦
          let rest = count_below-run p q a b (omega arith) (λ x from to. same x from (omega arith)) in
          let here = same b (omega arith) (omega arith) in
          elim (cases_Bool (p b)) [
            | inl t ↦ rw (here ∙ t, t) (omega (arith, rest))
            | inr f ↦ rw (here ∙ f, f) (omega (arith, rest))
          ]
      | inr ge ↦ let same_end : suc b ≡ a = omega arith in subst (λ (k : ℕ). count_below q (suc b) + count_below p k ≡ count_below p (suc b) + count_below q k) same_end (omega arith)
    ]

-- all of them pass
pub count_below-all : (p : ℕ → Bool) (a b : ℕ) → a ≤ b → ((x : ℕ) → a ≤ x → x < b → p x ≡ true) → count_below p b + a ≡ count_below p a + b
unfolding count_below
count_below-all p a zero le all = let z : a ≡ 0 = omega arith in subst (λ (k : ℕ). count_below p 0 + k ≡ count_below p k + 0) (sym z) refl
count_below-all p a (suc b) le all =
    elim (cases_lt a (suc b)) [
      | inl lt ↦ let rest = count_below-all p a b (omega arith) (λ x from to. all x from (omega arith)) in rw (all b (omega arith) (omega arith)) (omega (arith, rest))
      | inr ge ↦ let same : suc b ≡ a = omega arith in subst (λ (k : ℕ). count_below p (suc b) + k ≡ count_below p k + suc b) same (omega arith)
    ]

count_below-more : (p : ℕ → Bool) (a b : ℕ) → a ≤ b → count_below p a ≤ count_below p b
unfolding count_below
count_below-more p a zero le = let z : a ≡ 0 = omega arith in subst (λ (k : ℕ). count_below p k ≤ count_below p 0) (sym z) (omega arith)
count_below-more p a (suc b) le =
    elim (cases_lt a (suc b)) [
      | inl lt ↦ omega (arith, count_below-more p a b (omega arith))
      | inr ge ↦ let same : suc b ≡ a = omega arith in subst (λ (k : ℕ). count_below p k ≤ count_below p (suc b)) same (omega arith)
    ]

-- none passes where the counts are the same
pub count_below-still : (p : ℕ → Bool) (a b : ℕ) → count_below p b ≡ count_below p a → (x : ℕ) → a ≤ x → x < b → p x ≡ false
unfolding count_below
count_below-still p a zero same x from to = absurd (omega arith)
count_below-still p a (suc b) same x from to =
    let more = count_below-more p a b (omega arith) in
    elim (cases_Bool (p b)) [
      | inl t ↦ let counted : 1 + count_below p b ≡ count_below p a = rw t at same in absurd (omega (arith, counted, more))
      | inr f ↦
          let counted : 0 + count_below p b ≡ count_below p a = rw f at same in
          elim (cases_eq x b) [
            | inl here ↦ ap p here ∙ f
            | inr away ↦ count_below-still p a b (omega (arith, counted)) x from (omega (arith, away))
          ]
    ]

-- ---- the cells of a want

-- the bytes of the range of a cell
abbrev pub bytes_at : ℕ → ℕ
bytes_at d = 4096 * 512 ^ (4 - d)

pub bytes_pos : (d : ℕ) → 0 < bytes_at d
bytes_pos d = omega (arith, one-le-pow (4 - d) 512 (omega arith))

pub bytes_all : (d : ℕ) → d ≤ 4 → 512 ^ d * bytes_at d ≡ 281474976710656
bytes_all d le =
    let sum : d + (4 - d) ≡ 4 = omega arith in
    let whole : 512 ^ d * 512 ^ (4 - d) ≡ 68719476736 = sym (pow-add 512 d (4 - d)) ∙ ap (λ k. 512 ^ k) sum in
    omega (arith, whole)

module _ (want : Want) (some : 1 ≤ want.len) where
  pub path_high : (d x : ℕ) → is_on_path d x want ≡ true → d + want.height ≤ 4
  path_high d x on = let p : (nat_le (d + want.height) 4 ≡ true) × ((nat_le (x * bytes_at d + 1) (want.at + want.len) && nat_lt want.at ((x + 1) * bytes_at d)) ≡ true) = and_parts _ _ on in leb-true (d + want.height) 4 p.0

  -- the cells of an address of the want are on its path
  pub path_at : (d v : ℕ) → d + want.height ≤ 4 → want.at ≤ v → v < want.at + want.len → is_on_path d (v / bytes_at d) want ≡ true
  path_at d v le from to =
      let s = bytes_at d in
      let whole = div-add-mod v s in
      let small = mod-lt v (bytes_pos d) in
      let prod : s * (v / s) ≡ v / s * s = omega arith in
      and_from _ _ (le-leb (d + want.height) 4 le)
      (and_from _ _ (le-leb (v / s * s + 1) (want.at + want.len) (omega (arith, whole, prod))) (lt-ltb want.at ((v / s + 1) * s) (omega (arith, whole, prod, small))))

  -- and each cell on its path is that of one of its addresses
  pub address_of : (d x : ℕ) → is_on_path d x want ≡ true → (v : ℕ) × (want.at ≤ v) × (v < want.at + want.len) × (v / bytes_at d ≡ x)
  address_of d x on =
      let s = bytes_at d in
      let p : (nat_le (d + want.height) 4 ≡ true) × ((nat_le (x * s + 1) (want.at + want.len) && nat_lt want.at ((x + 1) * s)) ≡ true) = and_parts _ _ on in
      let q : (nat_le (x * s + 1) (want.at + want.len) ≡ true) × (nat_lt want.at ((x + 1) * s) ≡ true) = and_parts _ _ p.1 in
      let high = leb-true (x * s + 1) (want.at + want.len) q.0 in
      let low = ltb-true want.at ((x + 1) * s) q.1 in
      let pos = bytes_pos d in
      let next : (x + 1) * s ≡ x * s + s = omega arith in
      let v = max want.at (x * s) in
      (v, omega arith, omega (arith, high, some), div-eq_of_lt-le s (omega arith) (omega (arith, low, next, pos)))

-- powers of 512 fit
pub pow_few : (k : ℕ) → k ≤ 4 → (1 ≤ 512 ^ k) × (512 ^ k ≤ 68719476736)
pow_few zero h = (omega arith, omega arith)
pow_few (suc zero) h = (omega arith, omega arith)
pow_few (suc (suc zero)) h = (omega arith, omega arith)
pow_few (suc (suc (suc zero))) h = (omega arith, omega arith)
pow_few (suc (suc (suc (suc zero)))) h = (omega arith, omega arith)
pow_few (suc (suc (suc (suc (suc k))))) h = absurd (omega arith)

-- the last cell of a want is one of the depth
pub cells_within : (last d : ℕ) → d ≤ 4 → last < 281474976710656 → last / bytes_at d + 1 ≤ 512 ^ d
cells_within last d le lt =
    let below : last / bytes_at d < 512 ^ d = (div-lt_iff_lt-mul (bytes_pos d)).1 (omega (arith, bytes_all d le)) in
    omega (arith, below)

-- ---- the first run of wanted cells

pub is_wanted-push : (wants : List Want) (want : Want) (d x : ℕ) → is_wanted (wants ++ want ∷ []) d x ≡ (is_wanted wants d x || is_on_path d x want)
is_wanted-push [] want d x = elim (cases_Bool (is_on_path d x want)) [ inl t ↦ rw t refl | inr f ↦ rw f refl ]
is_wanted-push (first ∷ wants) want d x = elim (cases_Bool (is_on_path d x first)) [
  | inl t ↦ rw t refl
  | inr f ↦ rw f (is_wanted-push wants want d x)
]

or_left : (a b : Bool) → a ≡ true → (a || b) ≡ true
or_left a b t = rw t refl

or_right : (a b : Bool) → b ≡ true → (a || b) ≡ true
or_right a b t = elim (cases_Bool a) [ inl u ↦ rw u refl | inr u ↦ rw (u, t) refl ]

pub nearest_none : (d from : ℕ) → from ≤ 512 ^ d → IsNearest [] d from (record { first = 512 ^ d; past = 512 ^ d })
nearest_none d from le = record { low = le; order = omega arith; high = omega arith; ends = λ e. refl; before = λ x f t. refl; inside = λ x f t. absurd (omega arith) }

-- what the cells of a want say
pub record AreCells (want : Want) (d : ℕ) (cells : Run) : Type 0 where
  pub exact : (x : ℕ) → is_on_path d x want ≡ true ↔ ((cells.first ≤ x) × (x < cells.past))
  pub within : cells.past ≤ 512 ^ d
  pub order : cells.first ≤ cells.past
  pub some : 0 < cells.past → cells.first < cells.past

not_on : {want : Want} {d : ℕ} {cells : Run} (x : ℕ) → AreCells want d cells → (cells.first ≤ x → cells.past ≤ x) → is_on_path d x want ≡ false
not_on {want} {d} {cells} x are out = elim (cases_Bool (is_on_path d x want)) [
  | inl t ↦ let both = (are.exact x).0 t in absurd (omega (arith, out both.0, both.1))
  | inr f ↦ f
]

pub nearest_kept : {wants : List Want} {want : Want} {d from : ℕ} {run cells : Run} → AreCells want d cells → (cells.past ≤ from) ⊎ (run.first ≤ max cells.first from) → IsNearest wants d from run → IsNearest (wants ++ want ∷ []) d from run
nearest_kept {wants} {want} {d} {from} {run} {cells} are apart near = record {
  low = near.low;
  order = near.order;
  high = near.high;
  ends = near.ends;
  before = λ x f t. is_wanted-push wants want d x ∙ or_from _ _ (near.before x f t) (not_on x are (λ low. elim apart [ inl past ↦ omega arith | inr later ↦ absurd (omega arith) ]));
  inside = λ x f t. is_wanted-push wants want d x ∙ or_left _ _ (near.inside x f t);
}

pub nearest_taken : {wants : List Want} {want : Want} {d from : ℕ} {run cells : Run} → AreCells want d cells → from < cells.past → max cells.first from < run.first → IsNearest wants d from run
    → IsNearest (wants ++ want ∷ []) d from (record { first = max cells.first from; past = cells.past })
nearest_taken {wants} {want} {d} {from} {run} {cells} are some nearer near =
    let order = are.some (omega arith) in
    record {
      low = omega arith;
      order = omega (arith, order);
      high = are.within;
      ends = λ e. absurd (omega (arith, order, e));
      before = λ x f t. is_wanted-push wants want d x ∙ or_from _ _ (near.before x f (omega arith)) (not_on x are (λ low. absurd (omega arith)));
      inside = λ x f t. is_wanted-push wants want d x ∙ or_right _ _ ((are.exact x).1 (omega arith, t));
    }

-- ---- the missing ones

abbrev pub missing_below : List ℕ → List Want → ℕ → ℕ → ℕ
missing_below img wants d n = count_below (λ x. is_wanted wants d x && (page_at img d x == 0)) n

-- the missing cells before the run are counted
pub record Counted (img : List ℕ) (wants : List Want) (d total : ℕ) (run : Run) : Type 0 where
  pub order : run.first ≤ run.past
  pub high : run.past ≤ 512 ^ d
  pub ends : run.first ≡ run.past → run.first ≡ 512 ^ d
  pub inside : (x : ℕ) → run.first ≤ x → x < run.past → is_wanted wants d x ≡ true
  pub counted : total ≡ missing_below img wants d run.first
  pub most : total ≤ run.first

skipped : (img : List ℕ) (wants : List Want) (d from : ℕ) (run : Run) → IsNearest wants d from run → missing_below img wants d run.first ≡ missing_below img wants d from
skipped img wants d from run near =
    count_below-skip (λ x. is_wanted wants d x && (page_at img d x == 0)) from run.first near.low (λ x f t. and_left _ _ (near.before x f t))

counted-none : (img : List ℕ) (wants : List Want) (d : ℕ) → missing_below img wants d 0 ≡ 0
unfolding count_below
counted-none img wants d = refl

pub counted_start : (img : List ℕ) (wants : List Want) (d : ℕ) (run : Run) → IsNearest wants d 0 run → Counted img wants d 0 run
counted_start img wants d run near = record {
  order = near.order;
  high = near.high;
  ends = near.ends;
  inside = near.inside;
  counted = sym (skipped img wants d 0 run near ∙ counted-none img wants d);
  most = omega arith;
}

pub counted_step : {img : List ℕ} {wants : List Want} {d total : ℕ} {run next : Run} (absent : ℕ) → Counted img wants d total run → absent + absent_below img d run.first ≡ absent_below img d run.past → absent + run.first ≤ run.past
    → IsNearest wants d run.past next → Counted img wants d (total + absent) next
counted_step {img} {wants} {d} {total} {run} {next} absent so_far absents most near =
    let run_is = count_below-run (λ x. page_at img d x == 0) (λ x. is_wanted wants d x && (page_at img d x == 0)) run.first run.past so_far.order
    (λ x f t. ap (λ b. b && (page_at img d x == 0)) (so_far.inside x f t)) in
    let skip = skipped img wants d run.past next near in
    record {
      order = near.order;
      high = near.high;
      ends = near.ends;
      inside = near.inside;
      counted = omega (arith, so_far.counted, run_is, absents, skip);
      most = omega (arith, so_far.most, most, near.low);
    }

pub counted_end : {img : List ℕ} {wants : List Want} {d total : ℕ} {run : Run} → Counted img wants d total run → run.past ≤ run.first → (total ≡ missing_at img wants d) × (total ≤ 512 ^ d)
unfolding missing_at
counted_end {img} {wants} {d} {total} {run} so_far done =
    let order = so_far.order in
    let at = so_far.ends (omega arith) in
    (so_far.counted ∙ ap (missing_below img wants d) at, omega (arith, so_far.most, at))

-- ---- whether a want is met

-- no cell of the want is absent exactly where each of its addresses has what it asks for
pub has_is : (img : List ℕ) (want : Want) (cells : Run) (absent : ℕ) → want.height ≤ 4 → 1 ≤ want.len → AreCells want (4 - want.height) cells
    → absent + absent_below img (4 - want.height) cells.first ≡ absent_below img (4 - want.height) cells.past → (absent ≡ 0) ↔ Has img want
has_is img want cells absent height some are count =
    let d = 4 - want.height in
    let back : 4 - d ≡ want.height = omega arith in
    let bytes : bytes_at d ≡ 4096 * 512 ^ want.height = ap (λ k. 4096 * 512 ^ k) back in (
      λ none v from to gone.
          let x = v / bytes_at d in
          let on = (are.exact x).0 (path_at want some d v (omega arith) from to) in
          let here = count_below-still (λ y. page_at img d y == 0) cells.first cells.past (omega (arith, count, none)) x on.0 on.1 in
          both_ways _ here (eq-eqb _ 0 (ap (λ k. page_at img d (v / k)) bytes ∙ gone)),
      λ has.
          let still = count_below-skip (λ y. page_at img d y == 0) cells.first cells.past are.order (λ x f t.
          let a = address_of want some d x ((are.exact x).1 (f, t)) in
          ne_eqb _ 0 (λ gone. has a.0 a.1 a.2 (ap (λ k. page_at img d (a.0 / k)) (sym bytes) ∙ ap (page_at img d) a.3 ∙ gone))) in
          omega (arith, count, still),
    )

-- as the function states it, which reads the height of the want
pub has_flag : (img : List ℕ) (want : Want) (h absent : ℕ) (cells : Run) → h ≡ want.height → want.height ≤ 4 → 1 ≤ want.len → AreCells want (4 - h) cells
    → absent + absent_below img (4 - h) cells.first ≡ absent_below img (4 - h) cells.past → ((absent == 0) ≡ true) ↔ Has img want
has_flag img want h absent cells is height some are count =
    let it = has_is img want cells absent height some (subst (λ (k : ℕ). AreCells want (4 - k) cells) is are)
    (subst (λ (k : ℕ). absent + absent_below img (4 - k) cells.first ≡ absent_below img (4 - k) cells.past) is count) in
    (λ t. it.0 (eqb-true absent 0 t), λ has. eq-eqb absent 0 (it.1 has))
