-- Subtrees.
use Rattle.std.proofs.Common.{◌≡◌, ◌≢◌, ℕ, zero, suc, ◌+◌, ◌-◌, ◌*◌, ◌/◌, ◌%◌, ◌^◌, ◌<◌, ◌≤◌, List, length, refl, sym, ap, ◌∙◌, ◌⊎◌, inl, inr, arith}
use Rattle.std.proofs.Math.Nat.{pow-suc, one-le-pow, div-add-mod, mod-lt, div-lt_iff_lt-mul}
use Rattle.std.proofs.lemmas.Nat.{same_from_place}
use Rattle.ct_base.specs.Walk.{word, page_count, next, page_at, below, IsUnder, IsSubtree, AreTables}
use Rattle.ct_image.proofs.Steps.{next-zero, next-bounds, next-same, page_at-next}

pub below-start : (img : List ℕ) (table : ℕ) → below img table 0 0 ≡ table
unfolding below
below-start img table = refl

pub below-next : (img : List ℕ) (table m y : ℕ) → below img table (suc m) y ≡ next img (below img table m (y / 512)) (y % 512)
unfolding below
below-next img table m y = refl

pub below-past : (img : List ℕ) (table y : ℕ) → below img table 0 (suc y) ≡ 0
unfolding below
below-past img table y = refl

-- the cells are what lies below the root
pub page_at-below : (img : List ℕ) (d x : ℕ) → page_at img d x ≡ below img 33 d x
unfolding page_at below
page_at-below img zero zero = refl
page_at-below img zero (suc x) = refl
page_at-below img (suc d) x = ap (λ t. next img t (x % 512)) (page_at-below img d (x / 512))

-- no range past the last has a page
pub below-range : (img : List ℕ) (table m y : ℕ) → below img table m y ≢ 0 → y < 512 ^ m
unfolding below
below-range img table zero zero ne = omega arith
below-range img table zero (suc y) ne = absurd (ne refl)
below-range img table (suc m) y ne =
    let up = below-range img table m (y / 512) (λ none. ne (ap (λ t. next img t (y % 512)) none ∙ next-zero img (y % 512))) in
    omega (arith, up, pow-suc 512 m)

-- the first index step first: what is m steps below entry i
pub below-child : (img : List ℕ) (table i m y : ℕ) → i < 512 → y < 512 ^ m → below img table (suc m) (i * 512 ^ m + y) ≡ below img (next img table i) m y
unfolding below
below-child img table i zero zero lt small =
    let q : (i * 1 + 0) / 512 ≡ 0 = omega arith in
    let r : (i * 1 + 0) % 512 ≡ i = omega arith in
    ap (λ k. next img (below img table 0 k) ((i * 1 + 0) % 512)) q ∙ ap (next img table) r
below-child img table i zero (suc y) lt small = absurd (omega arith)
below-child img table i (suc m) y lt small =
    let width = pow-suc 512 m in
    let q : (i * 512 ^ suc m + y) / 512 ≡ i * 512 ^ m + y / 512 = omega (arith, width, ap (λ k. i * k) width) in
    let r : (i * 512 ^ suc m + y) % 512 ≡ y % 512 = omega (arith, width, ap (λ k. i * k) width) in
    ap (λ k. next img (below img table (suc m) k) ((i * 512 ^ suc m + y) % 512)) q
    ∙ ap (λ t. next img t ((i * 512 ^ suc m + y) % 512)) (below-child img table i m (y / 512) lt (omega (arith, width)))
    ∙ ap (next img (below img (next img table i) m (y / 512))) r

-- what is below entry i is below the table
pub under_child : (img : List ℕ) (table i k page : ℕ) → i < 512 → IsUnder img (next img table i) k page → IsUnder img table (suc k) page
under_child img table i k page lt u =
    let small = below-range img (next img table i) u.steps u.number (λ none. u.there (sym u.is ∙ none)) in
    record {
      steps = suc u.steps;
      number = i * 512 ^ u.steps + u.number;
      few = omega (arith, u.few);
      is = below-child img table i u.steps u.number lt small ∙ u.is;
      there = u.there;
    }

pub under_self : (img : List ℕ) (table k : ℕ) → table ≢ 0 → IsUnder img table k table
under_self img table k ne = record { steps = 0; number = 0; few = omega arith; is = below-start img table; there = ne }

-- what is below a table is the table, or lies below one of its entries
pub under_cases : (img : List ℕ) (table k page : ℕ) → IsUnder img table (suc k) page → (page ≡ table) ⊎ ((i : ℕ) × (i < 512) × IsUnder img (next img table i) k page)
unfolding below
under_cases img table k page u = go u.steps u.number u.few u.is u.there
  where
    go : (m y : ℕ) → m ≤ suc k → below img table m y ≡ page → page ≢ 0 → (page ≡ table) ⊎ ((i : ℕ) × (i < 512) × IsUnder img (next img table i) k page)
    go zero zero le is there = inl (sym is)
    go zero (suc y) le is there = absurd (there (sym is))
    go (suc m) y le is there =
        let range = below-range img table (suc m) y (λ none. there (sym is ∙ none)) in
        let pos : 0 < 512 ^ m = one-le-pow m 512 (omega arith) in
        let i = y / 512 ^ m in
        let rest = y % 512 ^ m in
        let whole : i * 512 ^ m + rest ≡ y = omega (arith, div-add-mod y (512 ^ m)) in
        let small : rest < 512 ^ m = mod-lt y pos in
        let first : i < 512 = (div-lt_iff_lt-mul pos).1 (omega (arith, range, pow-suc 512 m)) in
        inr (
          i,
          first,
          record {
            steps = m;
            number = rest;
            few = omega arith;
            is = sym (below-child img table i m rest first small) ∙ ap (below img table (suc m)) whole ∙ is;
            there = there;
          },
        )

-- the subtree of an entry
pub subtree_child : (img : List ℕ) (table k i : ℕ) → IsSubtree img table (suc k) → i < 512 → next img table i ≢ 0 → IsSubtree img (next img table i) k
subtree_child img table k i sub lt ne =
    let bounds = next-bounds img table i ne in
    record {
      low = bounds.0;
      high = bounds.1;
      fits = sub.fits;
      entries = λ m y j less small there none.
          let range = below-range img (next img table i) m y there in
          let is = below-child img table i m y lt range in
          ap (λ t. word img (t * 512 + j)) (sym is)
          ∙ sub.entries (suc m) (i * 512 ^ m + y) j (omega arith) small (λ z. there (sym is ∙ z)) (ap (λ t. next img t j) is ∙ none);
      once = λ m y n z le le' there same.
          let range = below-range img (next img table i) m y there in
          let range' = below-range img (next img table i) n z (λ none. there (same ∙ none)) in
          let is = below-child img table i m y lt range in
          let is' = below-child img table i n z lt range' in
          let both = sub.once (suc m) (i * 512 ^ m + y) (suc n) (i * 512 ^ n + z) (omega arith) (omega arith) (λ none. there (sym is ∙ none)) (is ∙ same ∙ sym is') in
          let steps : m ≡ n = omega (arith, both.0) in
          (steps, omega (arith, both.1, ap (λ k. i * 512 ^ k) steps));
    }

-- two entries have nothing in common, and the table itself is below none
pub children_apart : (img : List ℕ) (table k i j page : ℕ) → IsSubtree img table (suc k) → i < 512 → j < 512 → IsUnder img (next img table i) k page → IsUnder img (next img table j) k page → i ≡ j
children_apart img table k i j page sub lt lt' u v =
    let range = below-range img (next img table i) u.steps u.number (λ none. u.there (sym u.is ∙ none)) in
    let range' = below-range img (next img table j) v.steps v.number (λ none. v.there (sym v.is ∙ none)) in
    let is = below-child img table i u.steps u.number lt range ∙ u.is in
    let is' = below-child img table j v.steps v.number lt' range' ∙ v.is in
    let both = sub.once (suc u.steps) (i * 512 ^ u.steps + u.number) (suc v.steps) (j * 512 ^ v.steps + v.number) (omega (arith, u.few)) (omega (arith, v.few))
    (λ none. u.there (sym is ∙ none)) (is ∙ sym is') in
    let steps : u.steps ≡ v.steps = omega (arith, both.0) in
    same_place i j (512 ^ u.steps) u.number v.number range (omega (arith, range', ap (λ k. 512 ^ k) steps)) (omega (arith, both.1, ap (λ k. j * 512 ^ k) steps))
  where
    same_place : (i j w a b : ℕ) → a < w → b < w → i * w + a ≡ j * w + b → i ≡ j
    same_place i j w a b p q e = (same_from_place i a j b w p q e).0

pub self_apart : (img : List ℕ) (table k i : ℕ) → IsSubtree img table (suc k) → i < 512 → IsUnder img (next img table i) k table → ⊥
self_apart img table k i sub lt u =
    let range = below-range img (next img table i) u.steps u.number (λ none. u.there (sym u.is ∙ none)) in
    let is = below-child img table i u.steps u.number lt range ∙ u.is in
    let both = sub.once 0 0 (suc u.steps) (i * 512 ^ u.steps + u.number) (omega arith) (omega (arith, u.few)) (λ none. u.there (sym (below-start img table) ∙ none)) (below-start img table ∙ sym is) in
    omega (arith, both.0)

-- nothing lies below no page
pub under_none : (img : List ℕ) (k page : ℕ) → IsUnder img 0 k page → ⊥
under_none img k page u = u.there (sym u.is ∙ below_none img u.steps u.number)
  where
    below_none : (img : List ℕ) (m y : ℕ) → below img 0 m y ≡ 0
    below_none img zero zero = below-start img 0
    below_none img zero (suc y) = below-past img 0 y
    below_none img (suc m) y = below-next img 0 m y ∙ ap (λ t. next img t (y % 512)) (below_none img m (y / 512)) ∙ next-zero img (y % 512)

-- what lies below a cell is below its page
pub page_at-sub : (img : List ℕ) (d x m y : ℕ) → y < 512 ^ m → page_at img (m + d) (x * 512 ^ m + y) ≡ below img (page_at img d x) m y
page_at-sub img d x zero zero lt =
    let same : x * 1 + 0 ≡ x = omega arith in
    let depth : 0 + d ≡ d = omega arith in
    ap (λ k. page_at img k (x * 1 + 0)) depth ∙ ap (page_at img d) same ∙ sym (below-start img (page_at img d x))
page_at-sub img d x zero (suc y) lt = absurd (omega arith)
page_at-sub img d x (suc m) y lt =
    let width = pow-suc 512 m in
    let q : (x * 512 ^ suc m + y) / 512 ≡ x * 512 ^ m + y / 512 = omega (arith, width, ap (λ k. x * k) width) in
    let r : (x * 512 ^ suc m + y) % 512 ≡ y % 512 = omega (arith, width, ap (λ k. x * k) width) in
    let depth : suc m + d ≡ suc (m + d) = omega arith in
    ap (λ k. page_at img k (x * 512 ^ suc m + y)) depth ∙ page_at-next img (m + d) (x * 512 ^ suc m + y)
    ∙ ap (λ k. next img (page_at img (m + d) k) ((x * 512 ^ suc m + y) % 512)) q
    ∙ ap (λ t. next img t ((x * 512 ^ suc m + y) % 512)) (page_at-sub img d x m (y / 512) (omega (arith, width)))
    ∙ ap (next img (below img (page_at img d x) m (y / 512))) r ∙ sym (below-next img (page_at img d x) m y)

-- what lies below a cell other than the root is well formed
pub subtree_at : (img : List ℕ) (d x : ℕ) → AreTables img → d ≤ 4 → 1 ≤ d → page_at img d x ≢ 0 → IsSubtree img (page_at img d x) (4 - d)
subtree_at img (zero) x tables le pos there = absurd (omega arith)
subtree_at img (suc e) x tables le pos there =
    let d = suc e in
    let t = page_at img d x in
    let bounds = next-bounds img (page_at img e (x / 512)) (x % 512) (λ none. there (page_at-next img e x ∙ none)) in
    let named = page_at-next img e x in
    record {
      low = omega (arith, named, bounds.0);
      high = omega (arith, named, bounds.1);
      fits = tables.there;
      entries = λ m y i less lt here none.
          let at = page_at-sub img d x m y (below-range img t m y here) in
          ap (λ k. word img (k * 512 + i)) (sym at)
          ∙ tables.entries (m + d) (x * 512 ^ m + y) i (omega arith) lt (λ z. here (sym at ∙ z)) (ap (λ k. next img k i) at ∙ none);
      once = λ m y n z lm ln here same.
          let range = below-range img t m y here in
          let range' = below-range img t n z (λ none. here (same ∙ none)) in
          let at = page_at-sub img d x m y range in
          let at' = page_at-sub img d x n z range' in
          let both = tables.once (m + d) (x * 512 ^ m + y) (n + d) (x * 512 ^ n + z) (omega arith) (omega arith) (λ none. here (sym at ∙ none)) (at ∙ same ∙ sym at') in
          let steps : m ≡ n = omega (arith, both.0) in
          (steps, omega (arith, both.1, ap (λ k. x * 512 ^ k) steps));
    }

pub below-low : (f : List ℕ) (t m y : ℕ) → 34 ≤ t → below f t m y ≢ 0 → 34 ≤ below f t m y
unfolding below
below-low f t zero zero low ne = low
below-low f t zero (suc y) low ne = absurd (ne refl)
below-low f t (suc m) y low ne = (next-bounds f (below f t m (y / 512)) (y % 512) ne).0

-- images that agree off the root table have the same subtrees
pub below-same : (f g : List ℕ) (t m y : ℕ) → page_count g ≡ page_count f → 34 ≤ t → ((w : ℕ) → w / 512 ≢ 33 → word g w ≡ word f w) → below g t m y ≡ below f t m y
below-same f g t zero zero n low same = below-start g t ∙ sym (below-start f t)
below-same f g t zero (suc y) n low same = below-past g t y ∙ sym (below-past f t y)
below-same f g t (suc m) y n low same =
    let q = below f t m (y / 512) in
    below-next g t m y ∙ ap (λ k. next g k (y % 512)) (below-same f g t m (y / 512) n low same)
    ∙ next-same f g q (y % 512) n (λ ne. same _ (λ is. omega (arith, is, below-low f t m (y / 512) low ne))) ∙ sym (below-next f t m y)

pub subtree_same : (f g : List ℕ) (t k : ℕ) → page_count g ≡ page_count f → length g ≡ length f → ((w : ℕ) → w / 512 ≢ 33 → word g w ≡ word f w) → IsSubtree f t k → IsSubtree g t k
subtree_same f g t k n size same sub =
    record {
      low = sub.low;
      high = omega (arith, sub.high, n);
      fits = omega (arith, sub.fits, n, size);
      entries = λ m y i less lt ne none.
          let is = below-same f g t m y n sub.low same in
          let there : below f t m y ≢ 0 = λ z. ne (is ∙ z) in
          let low = below-low f t m y sub.low there in
          let word_same = same (below f t m y * 512 + i) (λ e. omega (arith, e, low, lt)) in
          ap (λ q. word g (q * 512 + i)) is ∙ word_same
          ∙ sub.entries m y i less lt there (sym (next-same f g (below f t m y) i n (λ _. word_same)) ∙ ap (λ q. next g q i) (sym is) ∙ none);
      once = λ m y n' z lm ln ne is.
          let at = below-same f g t m y n sub.low same in
          let at' = below-same f g t n' z n sub.low same in
          sub.once m y n' z lm ln (λ none. ne (at ∙ none)) (sym at ∙ is ∙ at');
    }
