-- Two entries of tables of one level change places: the cells below them change places, and every other cell keeps its page.
use Rattle.std.proofs.Common.{◌==◌, if◌then◌else◌, length, ◌≡◌, ◌≢◌, ℕ, zero, suc, ◌+◌, ◌*◌, ◌/◌, ◌%◌, ◌^◌, ◌<◌, ◌≤◌, List, refl, sym, ap, ◌∙◌, inl, inr, arith}
use Rattle.std.proofs.Math.Nat.{pow-suc, pow-succ', one-le-pow, div-div-eq-div-mul}
use Rattle.std.proofs.Math.Arith.{mod-mul}
use Rattle.std.proofs.lemmas.Bool.{cases_eq, eq-eqb, ne_eqb}
use Rattle.ct_base.specs.Walk.{word, page_count, named_page, next, page_at, IsFresh, ReachesOnce, AreTables}
use Rattle.ct_image.proofs.Steps.{next-at, next-same, page_at-same_root, page_at-next, page_at-entry, page_at-low}

-- swaps two numbers
abbrev pub swapped : ℕ → ℕ → ℕ → ℕ
swapped a b y = if y == a then b else (if y == b then a else y)

-- where a cell goes when cells (d + 1, a) and (d + 1, b) change places
unfoldable pub moved : ℕ → ℕ → ℕ → ℕ → ℕ → ℕ
moved d a b zero y = y
moved d a b (suc e) y = if e == d then swapped a b y else moved d a b e (y / 512) * 512 + y % 512

-- Entry i of the table of cell (d, x) and entry j of the table of cell (d, z) change places.
pub record Swaps (old new : List ℕ) (d x i z j : ℕ) : Type 0 where
  pub tables : AreTables old
  pub depth : d ≤ 3
  pub index_i : i < 512
  pub index_j : j < 512
  pub table_x : page_at old d x ≢ 0
  pub table_z : page_at old d z ≢ 0
  pub first : word new (page_at old d x * 512 + i) ≡ word old (page_at old d z * 512 + j)
  pub second : word new (page_at old d z * 512 + j) ≡ word old (page_at old d x * 512 + i)
  pub others : (w : ℕ) → w ≢ page_at old d x * 512 + i → w ≢ page_at old d z * 512 + j → word new w ≡ word old w
  pub size : length new ≡ length old

pub swapped-first : (a b : ℕ) → swapped a b a ≡ b
swapped-first a b = rw (eq-eqb a a refl) refl

pub swapped-second : (a b : ℕ) → swapped a b b ≡ a
swapped-second a b =
    elim (cases_eq b a) [
      | inl same ↦ rw (eq-eqb b a same) same
      | inr other ↦ rw (ne_eqb b a other, eq-eqb b b refl) refl
    ]

pub swapped-other : (a b y : ℕ) → y ≢ a → y ≢ b → swapped a b y ≡ y
swapped-other a b y p q = rw (ne_eqb y a p, ne_eqb y b q) refl

pub moved-zero : (d a b y : ℕ) → moved d a b 0 y ≡ y
unfolding moved
moved-zero d a b y = refl

pub moved-here : (d a b e y : ℕ) → e ≡ d → moved d a b (suc e) y ≡ swapped a b y
unfolding moved
moved-here d a b e y here = rw (eq-eqb e d here) refl

pub moved-next : (d a b e y : ℕ) → e ≢ d → moved d a b (suc e) y ≡ moved d a b e (y / 512) * 512 + y % 512
unfolding moved
moved-next d a b e y ne = rw (ne_eqb e d ne) refl

-- cells above the entries stay
pub moved-above : (d a b e y : ℕ) → e ≤ d → moved d a b e y ≡ y
moved-above d a b zero y le = moved-zero d a b y
moved-above d a b (suc e) y le =
    moved-next d a b e y (omega arith) ∙ ap (λ k. k * 512 + y % 512) (moved-above d a b e (y / 512) (omega arith)) ∙ omega arith

module _ {old new : List ℕ} {d x i z j : ℕ} (s : Swaps old new d x i z j) where
  pub same_count : page_count new ≡ page_count old
  same_count = s.others 2 (omega (arith, page_at-low old d x s.table_x)) (omega (arith, page_at-low old d z s.table_z))

  next_first : next new (page_at old d x) i ≡ next old (page_at old d z) j
  next_first =
      next-at new _ i s.table_x ∙ ap (λ k. named_page (page_count new) k) s.first
      ∙ ap (λ k. named_page k (word old (page_at old d z * 512 + j))) same_count ∙ sym (next-at old _ j s.table_z)

  next_second : next new (page_at old d z) j ≡ next old (page_at old d x) i
  next_second =
      next-at new _ j s.table_z ∙ ap (λ k. named_page (page_count new) k) s.second
      ∙ ap (λ k. named_page k (word old (page_at old d x * 512 + i))) same_count ∙ sym (next-at old _ i s.table_x)

  -- at the level below the entries, where the tables with the entries are as they were
  swap_level : ((k : ℕ) → page_at new d k ≡ page_at old d k) → (y : ℕ) → page_at new (suc d) y ≡ page_at old (suc d) (swapped (x * 512 + i) (z * 512 + j) y)
  swap_level stay y =
      let a = x * 512 + i in
      let b = z * 512 + j in
      let r = y % 512 in
      let q = page_at old d (y / 512) in
      elim (cases_eq y a) [
        | inl first ↦
            ap (λ k. page_at new (suc d) k) first ∙ page_at-entry new d x i s.index_i ∙ ap (λ k. next new k i) (stay x) ∙ next_first
            ∙ sym (ap (λ k. page_at old (suc d) k) (ap (λ k. swapped a b k) first ∙ swapped-first a b) ∙ page_at-entry old d z j s.index_j)
        | inr not_first ↦ elim (cases_eq y b) [
          | inl second ↦
              ap (λ k. page_at new (suc d) k) second ∙ page_at-entry new d z j s.index_j ∙ ap (λ k. next new k j) (stay z) ∙ next_second
              ∙ sym (ap (λ k. page_at old (suc d) k) (ap (λ k. swapped a b k) second ∙ swapped-second a b) ∙ page_at-entry old d x i s.index_i)
          | inr not_second ↦
              let same : next new q r ≡ next old q r = next-same old new q r same_count (λ ne. s.others _
              (λ is. not_first (omega (arith, s.index_i, is, (s.tables.once d (y / 512) d x (omega (arith, s.depth)) (omega (arith, s.depth)) ne (omega (arith, s.index_i, is))).1)))
              (λ is. not_second (omega (arith, s.index_j, is, (s.tables.once d (y / 512) d z (omega (arith, s.depth)) (omega (arith, s.depth)) ne (omega (arith, s.index_j, is))).1)))) in
              page_at-next new d y ∙ ap (λ k. next new k r) (stay (y / 512)) ∙ same
              ∙ sym (ap (λ k. page_at old (suc d) k) (swapped-other a b y not_first not_second) ∙ page_at-next old d y)
        ]
      ]

  -- what a cell has is what the cell had that changed places with it
  pub swap_at : (e y : ℕ) → e ≤ 4 → page_at new e y ≡ page_at old e (moved d (x * 512 + i) (z * 512 + j) e y)
  swap_at zero y le = page_at-same_root old new y ∙ ap (λ k. page_at old 0 k) (sym (moved-zero _ _ _ y))
  swap_at (suc e) y le =
      let a = x * 512 + i in
      let b = z * 512 + j in
      let t = page_at old d x in
      let u = page_at old d z in
      let r = y % 512 in
      let m = moved d a b e (y / 512) in
      let q = page_at old e m in
      let ih = swap_at e (y / 512) (omega arith) in
      elim (cases_eq e d) [
        | inl here ↦
            let stay : (k : ℕ) → page_at new d k ≡ page_at old d k = λ k.
            ap (λ n. page_at new n k) (sym here) ∙ swap_at e k (omega arith) ∙ ap (λ n. page_at old e n) (moved-above d a b e k (omega (arith, here))) ∙ ap (λ n. page_at old n k) here in
            ap (λ n. page_at new (suc n) y) here ∙ swap_level stay y
            ∙ ap (λ n. page_at old (suc n) (swapped a b y)) (sym here) ∙ ap (λ n. page_at old (suc e) n) (sym (moved-here d a b e y here))
        | inr other ↦
            let same : next new q r ≡ next old q r = next-same old new q r same_count (λ ne. s.others _
            (λ is. other (s.tables.once e m d x (omega arith) (omega (arith, s.depth)) ne (omega (arith, s.index_i, is))).0)
            (λ is. other (s.tables.once e m d z (omega arith) (omega (arith, s.depth)) ne (omega (arith, s.index_j, is))).0)) in
            page_at-next new e y ∙ ap (λ k. next new k r) ih ∙ same
            ∙ sym (ap (λ k. page_at old (suc e) k) (moved-next d a b e y other) ∙ page_at-entry old e m r (omega arith))
      ]

swapped-twice : (a b y : ℕ) → swapped a b (swapped a b y) ≡ y
swapped-twice a b y =
    elim (cases_eq y a) [
      | inl first ↦ ap (λ k. swapped a b (swapped a b k)) first ∙ ap (swapped a b) (swapped-first a b) ∙ swapped-second a b ∙ sym first
      | inr not_first ↦ elim (cases_eq y b) [
        | inl second ↦ ap (λ k. swapped a b (swapped a b k)) second ∙ ap (swapped a b) (swapped-second a b) ∙ swapped-first a b ∙ sym second
        | inr not_second ↦ ap (swapped a b) (swapped-other a b y not_first not_second) ∙ swapped-other a b y not_first not_second
      ]
    ]

-- the move is its own inverse
pub moved-twice : (d a b e y : ℕ) → moved d a b e (moved d a b e y) ≡ y
moved-twice d a b zero y = moved-zero d a b _ ∙ moved-zero d a b y
moved-twice d a b (suc e) y =
    let m = moved d a b e (y / 512) in
    elim (cases_eq e d) [
      | inl here ↦ moved-here d a b e _ here ∙ ap (swapped a b) (moved-here d a b e y here) ∙ swapped-twice a b y
      | inr other ↦
          let q : (m * 512 + y % 512) / 512 ≡ m = omega arith in
          let r : (m * 512 + y % 512) % 512 ≡ y % 512 = omega arith in
          ap (moved d a b (suc e)) (moved-next d a b e y other) ∙ moved-next d a b e (m * 512 + y % 512) other
          ∙ ap (λ k. moved d a b e k * 512 + (m * 512 + y % 512) % 512) q ∙ ap (λ k. moved d a b e m * 512 + k) r
          ∙ ap (λ k. k * 512 + y % 512) (moved-twice d a b e (y / 512)) ∙ omega arith
    ]

whole_digits : (s t y : ℕ) → s ≡ t → s ≡ t * 1 + y % 1
whole_digits s t y e = omega arith

-- m levels below the entries
pub moved-below : (d a b m y : ℕ) → moved d a b (suc (m + d)) y ≡ swapped a b (y / 512 ^ m) * 512 ^ m + y % 512 ^ m
moved-below d a b zero y =
    let q : y ≡ y / 1 = omega arith in
    moved-here d a b (0 + d) y (omega arith) ∙ whole_digits (swapped a b y) (swapped a b (y / 1)) y (ap (swapped a b) q)
moved-below d a b (suc m) y =
    let e : suc m + d ≡ suc (m + d) = omega arith in
    let ih = moved-below d a b m (y / 512) in
    let width : 512 ^ suc m ≡ 512 ^ m * 512 = pow-suc 512 m in
    let digits : y % (512 ^ m * 512) ≡ (y / 512 % 512 ^ m) * 512 + y % 512 = mod-mul y (one-le-pow m 512 (omega arith)) (omega arith) in
    let rest : y / 512 / 512 ^ m ≡ y / 512 ^ suc m = div-div-eq-div-mul y 512 (512 ^ m) ∙ ap (λ k. y / k) (sym (pow-succ' 512 m)) in
    let top = swapped a b (y / 512 ^ suc m) in
    ap (λ k. moved d a b (suc k) y) e ∙ moved-next d a b (suc (m + d)) y (omega arith) ∙ ap (λ k. k * 512 + y % 512) ih
    ∙ ap (λ k. (swapped a b k * 512 ^ m + y / 512 % 512 ^ m) * 512 + y % 512) rest
    ∙ regrouped top (512 ^ m) (y / 512 % 512 ^ m) (y % 512)
    ∙ ap (λ k. top * (512 ^ m * 512) + k) (sym digits) ∙ ap (λ k. top * k + y % k) (sym width)
  where
    regrouped : (s w h r : ℕ) → (s * w + h) * 512 + r ≡ s * (w * 512) + (h * 512 + r)
    regrouped s w h r = omega arith

module _ {old new : List ℕ} {d x i z j : ℕ} (s : Swaps old new d x i z j) where
  -- a page that no cell had has none now
  pub fresh_stays : (p : ℕ) → IsFresh old p → IsFresh new p
  fresh_stays p fresh e y le is = fresh e _ le (sym (swap_at s e y le) ∙ is)

  once_new : ReachesOnce new
  once_new e y f t le lf ne is =
      let a = x * 512 + i in
      let b = z * 512 + j in
      let cell = s.tables.once e (moved d a b e y) f (moved d a b f t) le lf (λ none. ne (swap_at s e y le ∙ none)) (sym (swap_at s e y le) ∙ is ∙ swap_at s f t lf) in
      (cell.0, sym (moved-twice d a b e y) ∙ ap (moved d a b e) (cell.1 ∙ ap (λ k. moved d a b k t) (sym cell.0)) ∙ moved-twice d a b e t)

  entries_new : (e y k : ℕ) → e ≤ 3 → k < 512 → page_at new e y ≢ 0 → next new (page_at new e y) k ≡ 0 → word new (page_at new e y * 512 + k) ≡ 0
  entries_new e y k le lt ne none =
      let m = moved d (x * 512 + i) (z * 512 + j) e y in
      let q = page_at old e m in
      let t = page_at old d x in
      let u = page_at old d z in
      let moves = swap_at s e y (omega arith) in
      let none' : next new q k ≡ 0 = ap (λ n. next new n k) (sym moves) ∙ none in
      let there : q ≢ 0 = λ is. ne (moves ∙ is) in
      let goal : word new (q * 512 + k) ≡ 0 =
      elim (cases_eq (q * 512 + k) (t * 512 + i)) [
        | inl first ↦
            let is : q ≡ t = omega (arith, s.index_i, first) in
            let at : k ≡ i = omega (arith, is, first) in
            ap (word new) first ∙ s.first
            ∙ s.tables.entries d z j s.depth s.index_j s.table_z (sym (next_first s) ∙ ap (λ n. next new n i) (sym is) ∙ ap (next new q) (sym at) ∙ none')
        | inr not_first ↦ elim (cases_eq (q * 512 + k) (u * 512 + j)) [
          | inl second ↦
              let is : q ≡ u = omega (arith, s.index_j, second) in
              let at : k ≡ j = omega (arith, is, second) in
              ap (word new) second ∙ s.second
              ∙ s.tables.entries d x i s.depth s.index_i s.table_x (sym (next_second s) ∙ ap (λ n. next new n j) (sym is) ∙ ap (next new q) (sym at) ∙ none')
          | inr not_second ↦
              let same = s.others _ not_first not_second in
              same ∙ s.tables.entries e m k le lt there (sym (next-same old new q k (same_count s) (λ _. same)) ∙ none')
        ]
      ] in
      ap (λ n. word new (n * 512 + k)) moves ∙ goal

  pub tables_new : AreTables new
  tables_new =
      record { some = omega (arith, same_count s, s.tables.some); there = omega (arith, same_count s, s.size, s.tables.there); entries = entries_new; once = once_new }
