-- The free pages of a mounted file system, by its frames and by its cells.
use Rattle.std.proofs.Common.{◌≡◌, ◌≢◌, ℕ, zero, suc, ◌+◌, ◌-◌, ◌*◌, ◌/◌, ◌%◌, ◌^◌, ◌<◌, ◌≤◌, true, List, [], ◌∷◌, length, refl, sym, ap, subst, ◌∙◌, ◌⊎◌, inl, inr, arith}
use Rattle.std.specs.Prelude.{Contains, nat_lt}
use Rattle.std.proofs.lemmas.Bool.{cases_lt, lt-ltb, le-leb, and_from, or_left, or_right}
use Rattle.std.proofs.lemmas.Nat.{div-mul-add}
use Rattle.std.proofs.Math.Nat.{div-add-mod, mod-lt, one-le-pow}
use Rattle.ct_base.specs.Free.{IsRising, IsInUse, AreFree, HasFreePages}
use Rattle.ct_base.specs.Rules.{IsSeen}
use Rattle.ct_base.specs.View.{is_seen}
use Rattle.ct_base.specs.Walk.{word, page_at, page_count, next, named_page}
use Rattle.ct_frames.specs.Agrees.{Agrees}
use Rattle.ct_frames.specs.Free.{FreePages}
use Rattle.ct_image.proofs.Below.{page_at-below, below-range}
use Rattle.ct_image.proofs.Steps.{named_page-zero, next-at, page_at-root, page_at-entry}
use Rattle.ct_walk.proofs.OneWay.{way_all}

in_tail : (x q : ℕ) (xs : List ℕ) → Contains xs q → Contains (x ∷ xs) q
in_tail x q xs c = (suc c.0, omega (arith, c.1), c.2)

in_list : (x q : ℕ) (xs : List ℕ) → Contains (x ∷ xs) q → (x ≡ q) ⊎ Contains xs q
in_list x q xs (zero, lt, e) = inl e
in_list x q xs (suc k, lt, e) = inr (k, omega arith, e)

in_none : (q : ℕ) → Contains [] q → ⊥
in_none q (k, lt, e) = omega (arith, lt)

-- rising lists of the same numbers are as long
pub rising_same : (xs ys : List ℕ) → IsRising xs → IsRising ys → ((q : ℕ) → Contains xs q → Contains ys q) → ((q : ℕ) → Contains ys q → Contains xs q) → length xs ≡ length ys
rising_same [] [] r s to from = refl
rising_same [] (y ∷ ys) r s to from = absurd (in_none y (from y (0, omega arith, refl)))
rising_same (x ∷ xs) [] r s to from = absurd (in_none x (to x (0, omega arith, refl)))
rising_same (x ∷ xs) (y ∷ ys) r s to from =
    let least : x ≤ y = elim (in_list x y xs (from y (0, omega arith, refl))) [ inl e ↦ omega (arith, e) | inr c ↦ omega (arith, r.0 y c) ] in
    let most : y ≤ x = elim (in_list y x ys (to x (0, omega arith, refl))) [ inl e ↦ omega (arith, e) | inr c ↦ omega (arith, s.0 x c) ] in
    ap suc (rising_same xs ys r.1 s.1
    (λ q c. elim (in_list y q ys (to q (in_tail x q xs c))) [ inl e ↦ absurd (omega (arith, e, least, most, r.0 q c)) | inr d ↦ d ])
    (λ q c. elim (in_list x q xs (from q (in_tail y q ys c))) [ inl e ↦ absurd (omega (arith, e, least, most, s.0 q c)) | inr d ↦ d ]))

seen_from : (v : ℕ) → v < 2 ^ 48 → (v < 2 ^ 40) ⊎ (10 * 2 ^ 39 ≤ v) → is_seen v ≡ true
seen_from v high (inl low) = or_left _ _ (lt-ltb v (2 ^ 40) low)
seen_from v high (inr up) = or_right (nat_lt v (2 ^ 40)) _ (and_from _ _ (le-leb (10 * 2 ^ 39) v up) (lt-ltb v (2 ^ 48) high))

root_low : (img : List ℕ) (x : ℕ) → page_at img 0 x ≤ 33
unfolding page_at
root_low img zero = omega arith
root_low img (suc x) = omega arith

module _ (img : List ℕ) (none : (k : ℕ) → k < 8 → word img (33 * 512 + 2 + k) ≡ 0) where
  unset : (s : ℕ) → 2 ≤ s → s < 10 → page_at img 1 s ≡ 0
  unset s low high =
      ap (page_at img 1) (let e : s ≡ 0 * 512 + s = omega arith in e) ∙ page_at-entry img 0 0 s (omega arith) ∙ ap (λ t. next img t s) (page_at-root img) ∙ next-at img 33 s (omega arith)
      ∙ ap (named_page (page_count img)) (ap (word img) (let e : 33 * 512 + s ≡ 33 * 512 + 2 + (s - 2) = omega arith in e) ∙ none (s - 2) (omega arith)) ∙ named_page-zero (page_count img)

  -- with staging empty, a cell that is there is looked at
  cell_seen : (d x : ℕ) → 1 ≤ d → d ≤ 4 → page_at img d x ≢ 0 → IsSeen d x
  cell_seen d x from to there =
      let w = 512 ^ (4 - d) in
      let some : 0 < w = one-le-pow (4 - d) 512 (omega arith) in
      let n = x * w in
      let own : n / w ≡ x = ap (λ k. k / w) (let e : n ≡ n + 0 = omega arith in e) ∙ div-mul-add x w 0 some in
      let s = n / 512 ^ 3 in
      let top : page_at img 1 s ≢ 0 = way_all img n d 1 from to (subst (λ y. page_at img d y ≢ 0) (sym own) there) in
      let few : s < 512 = below-range img 33 1 s (λ z. top (page_at-below img 1 s ∙ z)) in
      let whole = div-add-mod n (512 ^ 3) in
      let small : n % 512 ^ 3 < 512 ^ 3 = mod-lt n (omega arith) in
      let at : x * (4096 * w) ≡ n * 4096 = omega arith in
      seen_from (x * (4096 * w)) (omega (arith, at, whole, small, few)) (elim (cases_lt s 2) [
        | inl low ↦ inl (omega (arith, at, whole, small, low))
        | inr two ↦ elim (cases_lt s 10) [ inl high ↦ absurd (top (unset s two high)) | inr ten ↦ inr (omega (arith, at, whole, ten)) ]
      ])

  -- a page that no list of free ones has is in use
  in_use : (page : ℕ) → 34 ≤ page → (d x : ℕ) → d ≤ 4 → page_at img d x ≡ page → IsInUse img page
  in_use page low zero x to is = absurd (omega (arith, root_low img x, is, low))
  in_use page low (suc d) x to is = record {
    depth = suc d;
    number = x;
    from = omega arith;
    to = to;
    seen = cell_seen (suc d) x (omega arith) to (λ z. omega (arith, z, is, low));
    is = is;
  }

  module _ {frames : FreePages} (agrees : Agrees img frames) (rising : IsRising frames.free) (bounds : (q : ℕ) → Contains frames.free q → (34 ≤ q) × (q < frames.pages)) where
    are_free : AreFree img frames.free
    are_free = record {
      rising = rising;
      exact = λ q. (
        λ c. record {
          from = (bounds q c).0;
          to = omega (arith, (bounds q c).1, agrees.pages);
          free = λ used. agrees.free q c used.depth used.number used.to used.is;
        },
        λ free. elim (agrees.all q free.from free.to) [
          | inl c ↦ c
          | inr reached ↦ absurd (free.free (in_use q free.from reached.depth reached.number reached.few reached.is))
        ],
      );
    }

    pub has_free : HasFreePages img (length frames.free)
    has_free = record { pages = frames.free; are = are_free; many = refl }

    -- and no other number is that of the free pages
    pub free_once : (count : ℕ) → HasFreePages img count → count ≡ length frames.free
    free_once count has = sym has.many ∙ rising_same has.pages frames.free has.are.rising rising
        (λ q c. (are_free.exact q).1 ((has.are.exact q).0 c))
        (λ q c. (has.are.exact q).1 ((are_free.exact q).0 c))
