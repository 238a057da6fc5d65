-- Index steps.
use Rattle.std.proofs.Common.{◌≡◌, ◌≢◌, ℕ, zero, suc, ◌+◌, ◌*◌, ◌/◌, ◌%◌, ◌^◌, ◌<◌, ◌≤◌, true, List, refl, ap, ◌∙◌, inl, inr, arith}
use Rattle.std.proofs.lemmas.Bool.{cases_Bool, cases_eq, eqb-true, leb-true, ltb-true, and_parts, and_from, le-leb, lt-ltb, cond-true}
use Rattle.std.proofs.Math.Nat.{zero-div}
use Rattle.std.specs.Prelude.{◌==◌, nat_le, nat_lt, ◌&&◌}
use Rattle.ct_base.specs.Walk.{word, page_count, named_page, next, page_at, index, walk, byte_in}

pub named_page-zero : (pages : ℕ) → named_page pages 0 ≡ 0
unfolding named_page
named_page-zero pages = refl

-- an entry of the right form names its page
pub named_page-made : (pages page : ℕ) → 34 ≤ page → page < pages → named_page pages (page * 4096 + 1) ≡ page
unfolding named_page
named_page-made pages page low high =
    let q : (page * 4096 + 1) / 4096 ≡ page = omega arith in
    let r : (page * 4096 + 1) % 4096 ≡ 1 = omega arith in
    rw (r, q) (cond-true _ _ _ (and_from _ _ (le-leb 34 page low) (lt-ltb page pages high)))

pub named_page-bounds : (pages entry : ℕ) → named_page pages entry ≢ 0 → (34 ≤ named_page pages entry) × (named_page pages entry < pages) × (entry ≡ named_page pages entry * 4096 + 1)
unfolding named_page
named_page-bounds pages entry ne =
    elim (cases_Bool ((entry % 4096 == 1) && (nat_le 34 (entry / 4096) && nat_lt (entry / 4096) pages))) [
      | inl t ↦
          let p : ((entry % 4096 == 1) ≡ true) × ((nat_le 34 (entry / 4096) && nat_lt (entry / 4096) pages) ≡ true) = and_parts _ _ t in
          let q = and_parts _ _ p.1 in
          rw t (leb-true _ _ q.0, ltb-true _ _ q.1, omega (arith, eqb-true _ _ p.0))
      | inr f ↦ absurd (ne (rw f refl))
    ]

pub next-zero : (img : List ℕ) (i : ℕ) → next img 0 i ≡ 0
unfolding next
next-zero img i = refl

pub next-at : (img : List ℕ) (table i : ℕ) → table ≢ 0 → next img table i ≡ named_page (page_count img) (word img (table * 512 + i))
unfolding next
next-at img zero i ne = absurd (ne refl)
next-at img (suc table) i ne = refl

pub next-bounds : (img : List ℕ) (table i : ℕ) → next img table i ≢ 0 → (34 ≤ next img table i) × (next img table i < page_count img)
unfolding next
next-bounds img zero i ne = absurd (ne refl)
next-bounds img (suc table) i ne = let b = named_page-bounds _ _ ne in (b.0, b.1)

-- equal words give equal steps
pub next-same : (f g : List ℕ) (table i : ℕ) → page_count g ≡ page_count f → (table ≢ 0 → word g (table * 512 + i) ≡ word f (table * 512 + i)) → next g table i ≡ next f table i
unfolding next
next-same f g zero i n same = refl
next-same f g (suc table) i n same = rw (n, same (omega arith)) refl

pub page_at-root : (img : List ℕ) → page_at img 0 0 ≡ 33
unfolding page_at
page_at-root img = refl

pub page_at-same_root : (f g : List ℕ) (x : ℕ) → page_at g 0 x ≡ page_at f 0 x
unfolding page_at
page_at-same_root f g zero = refl
page_at-same_root f g (suc x) = refl

pub page_at-next : (img : List ℕ) (d x : ℕ) → page_at img (suc d) x ≡ next img (page_at img d (x / 512)) (x % 512)
unfolding page_at
page_at-next img d x = refl

-- the same by the cell of the table and the number of the entry
pub page_at-entry : (img : List ℕ) (d x i : ℕ) → i < 512 → page_at img (suc d) (x * 512 + i) ≡ next img (page_at img d x) i
page_at-entry img d x i lt =
    let q : (x * 512 + i) / 512 ≡ x = omega arith in
    let r : (x * 512 + i) % 512 ≡ i = omega arith in
    page_at-next img d (x * 512 + i) ∙ rw (q, r) refl

-- a page that is reached is the root, or lies below the page count
pub page_at-low : (img : List ℕ) (d x : ℕ) → page_at img d x ≢ 0 → 33 ≤ page_at img d x
unfolding page_at
page_at-low img zero zero ne = omega arith
page_at-low img zero (suc x) ne = absurd (ne refl)
page_at-low img (suc d) x ne = omega (arith, next-bounds _ _ _ ne)

pub page_at-high : (img : List ℕ) (d x : ℕ) → 34 ≤ page_count img → page_at img d x < page_count img
unfolding page_at
page_at-high img zero zero some = omega arith
page_at-high img zero (suc x) some = omega arith
page_at-high img (suc d) x some =
    elim (cases_eq (next img (page_at img d (x / 512)) (x % 512)) 0) [
      | inl none ↦ omega (arith, none)
      | inr ne ↦ (next-bounds _ _ _ ne).1
    ]

-- the walk at an address is the page of the cell of its virtual page
pub walk-cell : (img : List ℕ) (v : ℕ) → v < 2 ^ 48 → walk img v ≡ page_at img 4 (v / 4096)
walk-cell img v lt =
    let n = v / 4096 in
    let i1 : index 1 v ≡ n % 512 = omega arith in
    let i2 : index 2 v ≡ n / 512 % 512 = omega arith in
    let i3 : index 3 v ≡ n / 512 / 512 % 512 = omega arith in
    let i4 : index 4 v ≡ n / 512 / 512 / 512 % 512 = omega arith in
    let top : n / 512 / 512 / 512 / 512 ≡ 0 = omega arith in
    rw (page_at-next img 3 n, page_at-next img 2 (n / 512), page_at-next img 1 (n / 512 / 512), page_at-next img 0 (n / 512 / 512 / 512), top, page_at-root img, i1, i2, i3, i4) refl

pub byte_in-same : (f g : List ℕ) (page o : ℕ) → (page ≢ 0 → word g (page * 512 + o / 8) ≡ word f (page * 512 + o / 8)) → byte_in g page o ≡ byte_in f page o
byte_in-same f g zero o same = refl
byte_in-same f g (suc page) o same = ap (λ k. k / 256 ^ (o % 8) % 256) (same (omega arith))

pub byte_in-zeros : (f : List ℕ) (page o : ℕ) → word f (page * 512 + o / 8) ≡ 0 → byte_in f page o ≡ 0
byte_in-zeros f zero o none = refl
byte_in-zeros f (suc page) o none = ap (λ k. k / 256 ^ (o % 8) % 256) none ∙ ap (λ k. k % 256) (zero-div (256 ^ (o % 8)))
