-- The cells on the path of a want, against ranges of whole cells, and where two such ranges change places.
use Rattle.std.proofs.Common.{◌≡◌, ℕ, ◌+◌, ◌-◌, ◌*◌, ◌^◌, ◌<◌, ◌≤◌, Bool, true, false, List, [], ◌∷◌, map, refl, sym, ap, ◌∙◌, ◌⊎◌, inl, inr, arith}
use Rattle.std.specs.Prelude.{All, nat_le, nat_lt, ◌&&◌, ◌||◌}
use Rattle.std.proofs.Math.Nat.{lt_of_mul-lt-mul_right, mul-le-mul_right, one-le-pow}
use Rattle.std.proofs.lemmas.Bool.{cases_lt, and_from, and_parts, le-leb, leb-true, lt-ltb, ltb-true, false_from_ne_true}
use Rattle.std.proofs.lemmas.List.Elements.{All-head, All-tail}
use Rattle.ct_base.specs.Exchange.{partner, Apart}
use Rattle.ct_base.specs.Wants.{Want, is_on_path, is_wanted}
use Rattle.ct_image.proofs.Partner.{partner-first, partner-second, partner-other, partner-twice}

-- the length of the range of a cell of a depth
abbrev pub reach : ℕ → ℕ
reach d = 4096 * 512 ^ (4 - d)

-- Cell (d, x) lies on the path of a want.
pub record OnPath (d x : ℕ) (want : Want) : Type 0 where
  pub deep : d + want.height ≤ 4
  pub from : x * reach d < want.at + want.len
  pub to : want.at < (x + 1) * reach d

pub on_is : {d x : ℕ} {want : Want} → is_on_path d x want ≡ true → OnPath d x want
on_is {d} {x} {want} on =
    let p = and_parts (nat_le (d + want.height) 4) (nat_le (x * reach d + 1) (want.at + want.len) && nat_lt want.at ((x + 1) * reach d)) on in
    let q = and_parts (nat_le (x * reach d + 1) (want.at + want.len)) (nat_lt want.at ((x + 1) * reach d)) p.1 in
    record {
      deep = leb-true (d + want.height) 4 p.0;
      from = let le = leb-true (x * reach d + 1) (want.at + want.len) q.0 in omega (arith, le);
      to = ltb-true want.at ((x + 1) * reach d) q.1;
    }

pub is_on : {d x : ℕ} {want : Want} → OnPath d x want → is_on_path d x want ≡ true
is_on {d} {x} {want} on =
    and_from (nat_le (d + want.height) 4) (nat_le (x * reach d + 1) (want.at + want.len) && nat_lt want.at ((x + 1) * reach d)) (le-leb (d + want.height) 4 on.deep)
    (and_from (nat_le (x * reach d + 1) (want.at + want.len)) (nat_lt want.at ((x + 1) * reach d)) (le-leb (x * reach d + 1) (want.at + want.len) (omega (arith, on.from))) (lt-ltb want.at ((x + 1) * reach d) on.to))

pub same_test : (b c : Bool) → (b ≡ true → c ≡ true) → (c ≡ true → b ≡ true) → b ≡ c
same_test true c to back = sym (to refl)
same_test false c to back = sym (false_from_ne_true c (λ is. Rattle.std.proofs.lemmas.Bool.false≢true (back is)))

-- as many wants ask for one cell as wants made of them for another
pub is_wanted-map : (g : Want → Want) (P : Want → Type 0) (d x y : ℕ) → ((w : Want) → P w → is_on_path d x w ≡ is_on_path d y (g w)) → (ws : List Want) → All P ws → is_wanted ws d x ≡ is_wanted (map g ws) d y
is_wanted-map g P d x y each [] all = refl
is_wanted-map g P d x y each (w ∷ ws) all =
    ap (λ b. b || is_wanted ws d x) (each w (All-head P w ws all)) ∙ ap (λ b. is_on_path d y (g w) || b) (is_wanted-map g P d x y each ws (All-tail P w ws all))

pub is_wanted-none : (P : Want → Type 0) (d x : ℕ) → ((w : Want) → P w → is_on_path d x w ≡ false) → (ws : List Want) → All P ws → is_wanted ws d x ≡ false
is_wanted-none P d x each [] all = refl
is_wanted-none P d x each (w ∷ ws) all =
    ap (λ b. b || is_wanted ws d x) (each w (All-head P w ws all)) ∙ is_wanted-none P d x each ws (All-tail P w ws all)

-- Two ranges of len bytes, of n whole cells of a depth each, that do not meet: from byte v and cell a on, and from w and b on.
pub record Twins (d v w len a b n : ℕ) : Type 0 where
  pub first : v ≡ a * reach d
  pub second : w ≡ b * reach d
  pub whole : len ≡ n * reach d
  pub apart : Apart a b n

pub turned : {d v w len a b n : ℕ} → Twins d v w len a b n → Twins d w v len b a n
turned t = record { first = t.second; second = t.first; whole = t.whole; apart = elim t.apart [ inl before ↦ inr before | inr after ↦ inl after ] }

-- the want lies in the range from v on
pub record Within (v len : ℕ) (want : Want) : Type 0 where
  pub from : v ≤ want.at
  pub to : want.at + want.len ≤ v + len

-- the want does not meet it
abbrev pub Beside : ℕ → ℕ → Want → Type 0
Beside v len want = (want.at + want.len ≤ v) ⊎ (v + len ≤ want.at)

module _ {d v w len a b n : ℕ} (t : Twins d v w len a b n) where
  pub path_within : {x : ℕ} {want : Want} → OnPath d x want → Within v len want → (a ≤ x) × (x < a + n)
  path_within {x} {want} on inside =
      let low = lt_of_mul-lt-mul_right (reach d) {m = a} {n = x + 1} (omega (arith, on.to, inside.from, t.first)) in
      (omega (arith, low), lt_of_mul-lt-mul_right (reach d) {m = x} {n = a + n} (omega (arith, on.from, inside.to, t.first, t.whole)))

  pub path_beside : {x : ℕ} {want : Want} → OnPath d x want → Beside v len want → a ≤ x → x < a + n → ⊥
  path_beside {x} {want} on (inl before) low high = omega (arith, on.from, before, t.first, mul-le-mul_right {m = a} {n = x} (reach d) low)
  path_beside {x} {want} on (inr after) low high = omega (arith, on.to, after, t.first, t.whole, mul-le-mul_right {m = x + 1} {n = a + n} (reach d) (omega arith))

  -- where the cells of the range begin
  pub cell_within : {x : ℕ} → a ≤ x → x < a + n → (v ≤ x * reach d) × (x * reach d < v + len)
  cell_within {x} low high = (
    omega (arith, t.first, mul-le-mul_right {m = a} {n = x} (reach d) low),
    omega (arith, t.first, t.whole, mul-le-mul_right {m = x + 1} {n = a + n} (reach d) (omega arith), one-le-pow (4 - d) 512 (omega arith)),
  )

  pub within_cell : {x : ℕ} → v ≤ x * reach d → x * reach d < v + len → (a ≤ x) × (x < a + n)
  within_cell {x} low high =
      let some : 0 < reach d = omega (arith, one-le-pow (4 - d) 512 (omega arith)) in
      let first = lt_of_mul-lt-mul_right (reach d) {m = a} {n = x + 1} (omega (arith, low, t.first, some)) in
      (omega (arith, first), lt_of_mul-lt-mul_right (reach d) {m = x} {n = a + n} (omega (arith, high, t.first, t.whole)))

  -- a want and a cell in the one range, and the same in the other
  shifted : {x y : ℕ} {want other : Want} → OnPath d x want → Within v len want → a ≤ x → y ≡ x - a + b → other.height ≡ want.height → other.len ≡ want.len → other.at ≡ want.at - v + w → OnPath d y other
  shifted {x} {y} {want} {other} on inside low cell height same at =
      let sum : y * reach d + a * reach d ≡ x * reach d + b * reach d = ap (λ k. k * reach d + a * reach d) cell ∙ (let k = x - a in let is : x ≡ k + a = omega (arith, low) in omega (arith, ap (λ m. m * reach d) is)) in
      record {
        deep = omega (arith, on.deep, height);
        from = omega (arith, on.from, sum, t.first, t.second, same, at, inside.from);
        to = omega (arith, on.to, sum, t.first, t.second, at, inside.from);
      }

module _ {d v w len a b n : ℕ} (t : Twins d v w len a b n) where
  -- a want that stays
  pub path_stays : (x : ℕ) (want : Want) → Beside v len want → Beside w len want → is_on_path d x want ≡ is_on_path d (partner a b n x) want
  path_stays x want one two = same_test (is_on_path d x want) (is_on_path d (partner a b n x) want)
      (λ on. ap (λ k. is_on_path d k want) (still x (on_is on)) ∙ on)
      (λ on. ap (λ k. is_on_path d k want) (sym (partner-twice a b n x t.apart) ∙ still (partner a b n x) (on_is on)) ∙ on)
    where
      still : (x : ℕ) → OnPath d x want → partner a b n x ≡ x
      still x on = partner-other a b n x (record {
        first = λ low. elim (cases_lt x (a + n)) [ inl high ↦ absurd (path_beside t on one low high) | inr past ↦ past ];
        second = λ low. elim (cases_lt x (b + n)) [ inl high ↦ absurd (path_beside (turned t) on two low high) | inr past ↦ past ];
      })

  -- a want that goes from the one range to the other
  pub path_moves : (x : ℕ) (want other : Want) → Within v len want → other.height ≡ want.height → other.len ≡ want.len → other.at ≡ want.at - v + w → is_on_path d x want ≡ is_on_path d (partner a b n x) other
  path_moves x want other inside height same at = same_test (is_on_path d x want) (is_on_path d (partner a b n x) other)
      (λ is.
      let on : OnPath d x want = on_is is in
      let lies = path_within t on inside in
      is_on (shifted t on inside lies.0 (partner-first a b n x lies.0 lies.1) height same at))
      (λ is.
      let y = partner a b n x in
      let on : OnPath d y other = on_is is in
      let there : Within w len other = record { from = omega (arith, at, inside.from); to = omega (arith, at, same, inside.from, inside.to) } in
      let lies = path_within (turned t) on there in
      let back : x ≡ y - b + a = sym (partner-twice a b n x t.apart) ∙ partner-second a b n y (λ low. elim t.apart [ inl before ↦ omega (arith, before, lies.0) | inr after ↦ absurd (omega (arith, after, lies.1, low)) ]) lies.0 lies.1 in
      is_on (shifted (turned t) on there lies.0 back (sym height) (sym same) (omega (arith, at, inside.from))))
