-- What an entry says.
use Rattle.std.proofs.Common.{◌≡◌, ◌≢◌, ℕ, zero, suc, subst, ◌+◌, ◌-◌, ◌*◌, ◌/◌, ◌%◌, ◌^◌, ◌<◌, ◌≤◌, List, length, Some, None, refl, sym, ap, ◌∙◌, arith}
use Rattle.ct_base.specs.Walk.{word, page_count, named_page, next, page_at, AreTables}
use Rattle.ct_image.proofs.Steps.{next-at, next-zero, page_at-root, named_page-bounds, named_page-zero, next-bounds, page_at-high, page_at-entry, page_at-next}
use Rattle.std.proofs.Math.Nat.{pow-suc, div-div-eq-div-mul}
use Rattle.ct_walk.specs.Pages.{some_page, AreEntries, IsTable, IsSomeTable}

pub some_page-there : (page : ℕ) → page ≢ 0 → some_page page ≡ Some page
some_page-there zero ne = absurd (ne refl)
some_page-there (suc page) ne = refl

-- the tables of an image that is well formed have their entries
pub entries_stand : {img : List ℕ} → AreTables img → AreEntries img
entries_stand tables = record { some = omega (arith, tables.some, tables.there); there = tables.there; entries = tables.entries }

-- a page that is reached is on the device
pub page_there : (img : List ℕ) (d x : ℕ) → AreEntries img → page_at img d x ≢ 0 → page_at img d x * 512 + 512 ≤ length img
unfolding page_at
page_there img zero zero a ne = a.some
page_there img zero (suc x) a ne = absurd (ne refl)
page_there img (suc d) x a ne = omega (arith, next-bounds _ _ _ ne, a.there)

-- an entry of a table is on the device
pub entry_there : (img : List ℕ) (page i : ℕ) → AreEntries img → IsSomeTable img page → i < 512 → page * 512 + i < length img
entry_there img page i tables at lt =
    omega (arith, page_there img at.depth at.table.cell tables (λ none. at.table.there (sym at.table.is ∙ none)), at.table.is)

-- an entry of 0 names no page
pub entry_none : (img : List ℕ) (page i : ℕ) → IsSomeTable img page → word img (page * 512 + i) ≡ 0 → next img page i ≡ 0
entry_none img page i at none =
    next-at img page i at.table.there ∙ ap (named_page (page_count img)) none ∙ named_page-zero (page_count img)

-- and any other names one
pub entry_some : (img : List ℕ) (page i : ℕ) → AreEntries img → IsSomeTable img page → i < 512 → word img (page * 512 + i) ≢ 0
    → (next img page i ≢ 0) × (next img page i ≡ word img (page * 512 + i) / 4096)
entry_some img page i tables at lt ne =
    let entry = word img (page * 512 + i) in
    let P : ℕ → Type 0 = λ p. p ≢ 0 → next img p i ≡ 0 → word img (p * 512 + i) ≡ 0 in
    let named : next img page i ≢ 0 = λ none. ne (subst P at.table.is (tables.entries at.depth at.table.cell i at.low lt) at.table.there none) in
    let is = next-at img page i at.table.there in
    let bounds = named_page-bounds (page_count img) entry (λ none. named (is ∙ none)) in
    (named, omega (arith, is, bounds.2))

-- what a page of a call says
pub some_page-is : (q n : ℕ) → Some q ≡ some_page n → (n ≡ q) × (n ≢ 0)
some_page-is q zero e = cc
some_page-is q (suc n) e = let same : suc n ≡ q = cc in (same, omega arith)

pub some_page-none : (n : ℕ) → None ≡ some_page n → n ≡ 0
some_page-none zero e = refl
some_page-none (suc n) e = cc

-- what an entry of a table names is a table one level down
pub child_table : (img : List ℕ) (d page i q : ℕ) → IsTable img d page → i < 512 → Some q ≡ some_page (next img page i) → IsTable img (suc d) q
child_table img d page i q table lt e =
    let is = some_page-is q (next img page i) e in
    record { cell = table.cell * 512 + i; is = page_at-entry img d table.cell i lt ∙ ap (λ p. next img p i) table.is ∙ is.0; there = λ none. is.1 (is.0 ∙ none) }

pub root_table : (img : List ℕ) → IsTable img 0 33
root_table img = record { cell = 0; is = page_at-root img; there = omega arith }

-- a walk that ends early
pub ended : (img : List ℕ) (table i : ℕ) → table ≡ 0 → next img table i ≡ 0
ended img table i none = ap (λ t. next img t i) none ∙ next-zero img i

-- a word of a page that is reached is on the device
pub word_there : (img : List ℕ) (d page o : ℕ) → AreTables img → IsTable img d page → o < 512 → page * 512 + o < length img
word_there img d page o tables at lt =
    omega (arith, page_at-high img d at.cell tables.some, at.is, tables.there)

pub byte_pow : (k : ℕ) → k < 8 → 256 ^ k < 2 ^ 64
byte_pow zero h = omega arith
byte_pow (suc zero) h = omega arith
byte_pow (suc (suc zero)) h = omega arith
byte_pow (suc (suc (suc zero))) h = omega arith
byte_pow (suc (suc (suc (suc zero)))) h = omega arith
byte_pow (suc (suc (suc (suc (suc zero))))) h = omega arith
byte_pow (suc (suc (suc (suc (suc (suc zero)))))) h = omega arith
byte_pow (suc (suc (suc (suc (suc (suc (suc zero))))))) h = omega arith
byte_pow (suc (suc (suc (suc (suc (suc (suc (suc k)))))))) h = absurd (omega arith)

-- one index step further on the way to virtual page p
pub page_at-way : (img : List ℕ) (d e p : ℕ) → d ≤ 4 → d ≡ suc e → page_at img d (p / 512 ^ (4 - d)) ≡ next img (page_at img e (p / 512 ^ (4 - e))) (p / 512 ^ (4 - d) % 512)
page_at-way img d e p le is =
    let width : 512 ^ (4 - d) * 512 ≡ 512 ^ (4 - e) = sym (pow-suc 512 (4 - d)) ∙ ap (λ k. 512 ^ k) (omega arith) in
    let up : p / 512 ^ (4 - d) / 512 ≡ p / 512 ^ (4 - e) = div-div-eq-div-mul p (512 ^ (4 - d)) 512 ∙ ap (λ w. p / w) width in
    ap (λ k. page_at img k (p / 512 ^ (4 - d))) is ∙ page_at-next img e (p / 512 ^ (4 - d)) ∙ ap (λ x. next img (page_at img e x) (p / 512 ^ (4 - d) % 512)) up

pub page_at-start : (img : List ℕ) (d p : ℕ) → d ≡ 0 → p < 2 ^ 36 → page_at img d (p / 512 ^ (4 - d)) ≡ 33
page_at-start img d p is low =
    let none : p / 68719476736 ≡ 0 = omega arith in
    ap (λ k. page_at img k (p / 512 ^ (4 - k))) is ∙ ap (page_at img 0) none ∙ page_at-root img
