-- The tables of the image of an empty tree, and its free pages.
use Rattle.std.proofs.Common.{◌≡◌, ◌≢◌, ◌∙◌, ℕ, zero, suc, ◌+◌, ◌-◌, ◌*◌, ◌<◌, ◌≤◌, List, length, get_or, refl, sym, ap, subst, inl, inr, Option, arith}
use Rattle.std.specs.Prelude.{Contains}
use Rattle.std.proofs.lemmas.Bool.{cases_eq, cases_lt, eq-eqb}
use Rattle.ct_base.specs.Walk.{word, page_at, next, AreTables, IsReached}
use Rattle.ct_base.specs.Format.{IsFormatted, format_words}
use Rattle.ct_base.specs.Free.{AreFree, IsFreePage, IsInUse, IsRising}
use Rattle.ct_frames.specs.Free.{FreePages, rising, without}
use Rattle.ct_frames.specs.Agrees.{Agrees}
use Rattle.ct_pm.specs.Device.{NothingPending}
use Rattle.ct_pm.specs.Images.{History}
use Rattle.ct_state.proofs.FormatCells.{known, made, once, entries, value-zero}
use Rattle.ct_state.proofs.FormatLands.{format_lands}
use Rattle.ct_state.proofs.FormatSound.{format_sound}
use Rattle.ct_state.proofs.Settle.{settled_idle}
use Rattle.ct_tree.specs.Lands.{Lands, files}
use Rattle.ct_tree.specs.Stands.{Stands}
use Rattle.ct_tree.specs.Tree.{Dir, none}
use Rattle.ct_call.specs.Calls.{StandsFor}
use Rattle.ct_format.specs.Made.{IsNew}
use Rattle.ct_commit.specs.Rest.{IsMounted}

-- the pages from lo on, n of them
pub in_rising : (n lo q : ℕ) → lo ≤ q → q < lo + n → Contains (rising n lo) q
in_rising zero lo q low high = absurd (omega arith)
in_rising (suc n) lo q low high = elim (cases_eq lo q) [
  | inl here ↦ (0, omega arith, here)
  | inr away ↦ let rest = in_rising n (suc lo) q (omega (arith, away)) (omega arith) in (suc rest.0, omega (arith, rest.1), rest.2)
]

bounds_at : (n lo q k : ℕ) → k < length (rising n lo) → get_or (rising n lo) k q ≡ q → (lo ≤ q) × (q < lo + n)
bounds_at zero lo q k lt is = absurd (omega arith)
bounds_at (suc n) lo q zero lt is = (omega (arith, is), omega (arith, is))
bounds_at (suc n) lo q (suc k) lt is = let rest = bounds_at n (suc lo) q k (omega arith) is in (omega (arith, rest.0), omega (arith, rest.1))

rising_bounds : (n lo q : ℕ) → Contains (rising n lo) q → (lo ≤ q) × (q < lo + n)
rising_bounds n lo q c = bounds_at n lo q c.0 c.1 c.2

pub length-rising : (n lo : ℕ) → length (rising n lo) ≡ n
length-rising zero lo = refl
length-rising (suc n) lo = ap suc (length-rising n (suc lo))

are_rising : (n lo : ℕ) → IsRising (rising n lo)
are_rising zero lo = tt
are_rising (suc n) lo = (λ q c. omega (arith, (rising_bounds n (suc lo) q c).0), are_rising n (suc lo))

module _ {img : List ℕ} {pages n : ℕ} (f : IsFormatted img pages n) (many : 256 ≤ pages) where
  pub fresh_tables : pages * 512 ≤ length img → AreTables img
  fresh_tables fits = record {
    some = omega (arith, f.count);
    there = omega (arith, f.count);
    entries = entries f many;
    once = once f many;
  }

  -- no other page is reached
  low_page : (d x : ℕ) → d ≤ 4 → page_at img d x ≢ 0 → page_at img d x < 42
  low_page d x le ne = elim (known f many d x le ne) [ inl k ↦ omega (arith, k.0) | inr k ↦ omega (arith, k.0) ]

  -- the tables and pages on the way to the inodes
  at34 : page_at img 1 0 ≡ 34
  unfolding page_at
  at34 = made f many 33 0 34 (omega arith) (omega arith) (omega arith) (f.words 16896 (omega arith) (omega arith))

  at35 : page_at img 2 0 ≡ 35
  unfolding page_at
  at35 = ap (λ t. next img t 0) at34 ∙ made f many 34 0 35 (omega arith) (omega arith) (omega arith) (f.words 17408 (omega arith) (omega arith))

  at36 : page_at img 3 0 ≡ 36
  unfolding page_at
  at36 = ap (λ t. next img t 0) at35 ∙ made f many 35 0 36 (omega arith) (omega arith) (omega arith) (f.words 17920 (omega arith) (omega arith))

  at37 : page_at img 4 0 ≡ 37
  unfolding page_at
  at37 = ap (λ t. next img t 0) at36 ∙ made f many 36 0 37 (omega arith) (omega arith) (omega arith) (f.words 18432 (omega arith) (omega arith))

  -- and to the headers
  at38 : page_at img 1 1 ≡ 38
  unfolding page_at
  at38 = made f many 33 1 38 (omega arith) (omega arith) (omega arith) (f.words 16897 (omega arith) (omega arith))

  at39 : page_at img 2 640 ≡ 39
  unfolding page_at
  at39 = ap (λ t. next img t 128) at38 ∙ made f many 38 128 39 (omega arith) (omega arith) (omega arith) (f.words 19584 (omega arith) (omega arith))

  at40 : page_at img 3 327680 ≡ 40
  unfolding page_at
  at40 = ap (λ t. next img t 0) at39 ∙ made f many 39 0 40 (omega arith) (omega arith) (omega arith) (f.words 19968 (omega arith) (omega arith))

  at41 : page_at img 4 167772160 ≡ 41
  unfolding page_at
  at41 = ap (λ t. next img t 0) at40 ∙ made f many 40 0 41 (omega arith) (omega arith) (omega arith) (f.words 20480 (omega arith) (omega arith))

  in_use_at : (k : ℕ) → k < 8 → IsInUse img (34 + k)
  in_use_at zero lt = record { depth = 1; number = 0; from = omega arith; to = omega arith; seen = refl; is = at34 }
  in_use_at (suc zero) lt = record { depth = 2; number = 0; from = omega arith; to = omega arith; seen = refl; is = at35 }
  in_use_at (suc (suc zero)) lt = record { depth = 3; number = 0; from = omega arith; to = omega arith; seen = refl; is = at36 }
  in_use_at (suc (suc (suc zero))) lt = record { depth = 4; number = 0; from = omega arith; to = omega arith; seen = refl; is = at37 }
  in_use_at (suc (suc (suc (suc zero)))) lt = record { depth = 1; number = 1; from = omega arith; to = omega arith; seen = refl; is = at38 }
  in_use_at (suc (suc (suc (suc (suc zero))))) lt = record { depth = 2; number = 640; from = omega arith; to = omega arith; seen = refl; is = at39 }
  in_use_at (suc (suc (suc (suc (suc (suc zero)))))) lt = record { depth = 3; number = 327680; from = omega arith; to = omega arith; seen = refl; is = at40 }
  in_use_at (suc (suc (suc (suc (suc (suc (suc zero))))))) lt = record { depth = 4; number = 167772160; from = omega arith; to = omega arith; seen = refl; is = at41 }
  in_use_at (suc (suc (suc (suc (suc (suc (suc (suc k)))))))) lt = absurd (omega arith)

  -- pages 34 to 41 are in use
  in_use : (q : ℕ) → 34 ≤ q → q < 42 → IsInUse img q
  in_use q low high = let u = in_use_at (q - 34) (omega arith) in record { depth = u.depth; number = u.number; from = u.from; to = u.to; seen = u.seen; is = u.is ∙ omega arith }

  reached : (q : ℕ) → IsInUse img q → IsReached img q
  reached q u = record { depth = u.depth; number = u.number; few = u.to; is = u.is }

  -- and all others are free
  pub fresh_agrees : Agrees img (record { pages = pages; free = rising (pages - 42) 42 })
  fresh_agrees = record {
    pages = sym f.count;
    free = λ q c d x le is. let b = rising_bounds (pages - 42) 42 q c in omega (arith, b.0, is, low_page d x le (λ z. omega (arith, z, is, b.0)));
    all = λ q low high. elim (cases_lt q 42) [
      | inl taken ↦ inr (reached q (in_use q low taken))
      | inr free ↦ inl (in_rising (pages - 42) 42 q free (omega (arith, f.count)))
    ];
  }

  is_free : (q : ℕ) → Contains (rising (pages - 42) 42) q → IsFreePage img q
  is_free q c =
      let b = rising_bounds (pages - 42) 42 q c in
      record {
        from = omega (arith, b.0);
        to = omega (arith, b.0, b.1, f.count);
        free = λ u. omega (arith, b.0, u.is, low_page u.depth u.number u.to (λ z. omega (arith, z, u.is, b.0)));
      }

  is_listed : (q : ℕ) → IsFreePage img q → Contains (rising (pages - 42) 42) q
  is_listed q free = elim (cases_lt q 42) [
    | inl taken ↦ absurd (free.free (in_use q free.from taken))
    | inr high ↦ in_rising (pages - 42) 42 q high (omega (arith, free.to, f.count))
  ]

  pub fresh_free : AreFree img (rising (pages - 42) 42)
  fresh_free = record { rising = are_rising (pages - 42) 42; exact = λ q. (is_free q, is_listed q) }

-- the first of the free pages is taken
without_first : (n lo : ℕ) → 0 < n → without lo (rising n lo) ≡ rising (n - 1) (lo + 1)
without_first zero lo some = absurd (omega arith)
without_first (suc n) lo some =
    let less : suc n - 1 ≡ n = omega arith in
    let next : suc lo ≡ lo + 1 = omega arith in
    rw (eq-eqb lo lo refl) (ap (rising n) next ∙ ap (λ m. rising m (lo + 1)) (sym less))

pub first_there : (frames : FreePages) (pages page p : ℕ) → page < pages → frames ≡ record { pages = pages; free = rising (pages - page) page } → p ≡ page → Contains frames.free p
first_there frames pages page p lt is at =
    subst (λ (f : FreePages). Contains f.free p) (sym is) (subst (λ q. Contains (rising (pages - page) page) q) (sym at) (in_rising (pages - page) page page (omega arith) (omega arith)))

pub first_taken : (frames new : FreePages) (pages page p : ℕ) → page < pages → frames ≡ record { pages = pages; free = rising (pages - page) page } → p ≡ page →
    new ≡ record { pages = frames.pages; free = without p frames.free } → new ≡ record { pages = pages; free = rising (pages - (page + 1)) (page + 1) }
first_taken frames new pages page p lt is at marked =
    let rest : pages - page - 1 ≡ pages - (page + 1) = omega arith in
    marked ∙ ap (λ (f : FreePages). record { pages = f.pages; free = without p f.free }) is
    ∙ ap (λ l. record { pages = pages; free = l }) (ap (λ q. without q (rising (pages - page) page)) at ∙ without_first (pages - page) page (omega arith) ∙ ap (λ m. rising m (page + 1)) rest)

module _ {img : List ℕ} {pages n : ℕ} (f : IsFormatted img pages n) where
  -- staging is empty
  fresh_unstaged : (k : ℕ) → k < 8 → word img (33 * 512 + 2 + k) ≡ 0
  fresh_unstaged k lt = f.words (33 * 512 + 2 + k) (omega arith) (omega arith) ∙ value-zero format_words (33 * 512 + 2 + k) (λ key. grind arith)

  -- it lands on the tree for which it stands
  fresh_stands : Lands img (Dir none) → StandsFor img (Dir none)
  fresh_stands lands = record { tree = tt; stands = subst (λ x. Stands (files x) 1 (Dir none)) (settled_idle img (f.long, f.short) fresh_unstaged) lands.stands }

-- what was made just now
pub is_new : {img : List ℕ} {frames : FreePages} {pages n : ℕ} → IsFormatted img pages n → 256 ≤ pages → pages ≤ 262144 → length img ≡ 512 * pages → 2 ≤ n → n ≤ 1048576 →
    frames ≡ record { pages = pages; free = rising (pages - 42) 42 } → IsNew img frames pages n
is_new {img = img} {frames = frames} {pages = pages} {n = n} f many few size two most is =
    let lands = format_lands f many (omega (arith, size)) (omega (arith, size)) two most in
    subst (λ free. IsNew img free pages n) (sym is) (record {
      formatted = f;
      lands = lands;
      stands = fresh_stands f lands;
      sound = format_sound f many two most;
      tables = fresh_tables f many (omega (arith, size));
      agrees = fresh_agrees f many;
      free = fresh_free f many;
      many = omega (arith, length-rising (pages - 42) 42);
    })

-- a file system that was made just now is as a mounted one is between its calls
pub new_mounted : {img : List ℕ} {frames : FreePages} {pages n : ℕ} {told : Option History} → IsNew img frames pages n → NothingPending told → IsMounted img told frames
new_mounted new settled = record {
  rest = record { head = new.lands.head; sound = new.sound; shut = (new.formatted.long, new.formatted.short); tables = new.tables };
  unstaged = fresh_unstaged new.formatted;
  settled = settled;
  agrees = new.agrees;
}
