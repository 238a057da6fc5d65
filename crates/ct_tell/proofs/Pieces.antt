-- Pieces of a file, one after another.
use Rattle.std.proofs.Common.{◌≡◌, ◌∙◌, ℕ, ◌+◌, ◌-◌, ◌≤◌, List, [], ◌∷◌, ◌++◌, length, length-drop, length-take, take, drop, Option, Some, None, refl, sym, ap, subst, inl, inr, arith}
use Rattle.std.specs.Prelude.{min}
use Rattle.std.specs.Io.KnownBytes.{Appends}
use Rattle.std.proofs.Math.Nat.{min-eq_left, min-eq_right, min-le_right}
use Rattle.std.proofs.lemmas.List.{drop-drop, drop_all, take-take, take_all}
use Rattle.std.proofs.Math.Seq.{take-append_seam}
use Rattle.std.proofs.lemmas.Bool.{cases_lt, le-leb}
use Rattle.ct_base.proofs.Grows.{appends_more}
use Rattle.ct_look.specs.Content.{IsRead}
use Rattle.ct_script.proofs.Puts.{appends_nil}
use Rattle.ct_tree.specs.Checks.{above, at, bad_path, first_of, no_file}
use Rattle.ct_tree.specs.Content.{range}
use Rattle.ct_tree.specs.Step.{locate, read, read_limit, refusal}
use Rattle.ct_tree.specs.Tree.{Tree}
use Rattle.ct_tree.specs.declared.call.Refusal.{Refusal}
use Rattle.ct_tree.specs.declared.call.Refusal.TheVariants.{TooLong}

-- what was read stands at the front of the buffer
pub front_is : (bytes old new : List ℕ) (count : ℕ) → IsRead bytes old new count → take count new ≡ bytes
front_is bytes old new count r =
    ap (take count) r.1 ∙ ap (λ n. take n (bytes ++ drop count old)) r.0 ∙ take-append_seam bytes (drop count old)

above_none : (n limit : ℕ) (r : Refusal) → n ≤ limit → above n limit r ≡ None
above_none n limit r le = rw (le-leb n limit le) refl

-- a file may be read that may be looked up
both_none : (bad file : Option Refusal) (rest : List (Option Refusal)) → first_of (bad ∷ file ∷ []) ≡ None → first_of rest ≡ None → first_of (bad ∷ file ∷ rest) ≡ None
both_none None None rest here more = more
both_none None (Some r) rest here more = absurd (cc)
both_none (Some r) file rest here more = absurd (cc)

pub read_allowed : (t : Tree) (path : List ℕ) (off len : ℕ) → refusal t (locate path) ≡ None → len ≤ read_limit → refusal t (read path off len) ≡ None
read_allowed t path off len file short =
    both_none (bad_path path) (no_file (at t path)) (above len read_limit TooLong ∷ []) file (ap (λ q. first_of (q ∷ [])) (above_none len read_limit TooLong short))

-- so the read is not refused
pub never_refused : (check : Option Refusal) (r : Refusal) → check ≡ None → check ≡ Some r → ⊥
never_refused check r none look = let two : None ≡ Some r = sym none ∙ look in cc

-- the first piece begins where nothing is written
pub range_none : (bytes : List ℕ) (from : ℕ) (old : Option (List ℕ)) → Appends old old (range bytes from (from - from))
range_none bytes from old = let none : from - from ≡ 0 = omega arith in subst (λ n. Appends old old (take n (drop from bytes))) (sym none) (appends_nil old)

module _ (bytes : List ℕ) (from at len : ℕ) (order : from ≤ at) where
  on : drop (at - from) (drop from bytes) ≡ drop at bytes
  on = let sum : from + (at - from) ≡ at = omega (arith, order) in drop-drop (at - from) from bytes ∙ ap (λ k. drop k bytes) sum

  -- a piece more
  pub range_more : (old mid new : Option (List ℕ)) → Appends old mid (range bytes from (at - from)) → Appends mid new (range bytes at len) → Appends old new (range bytes from (at + len - from))
  range_more old mid new before put =
      let sum : at - from + len ≡ at + len - from = omega (arith, order) in
      subst (λ k. Appends old new (take k (drop from bytes))) sum (appends_more old mid new (at - from) len (drop from bytes) before (subst (λ t. Appends mid new (take len t)) (sym on) put))

  shorter : (k : ℕ) → (n : ℕ) × (n ≤ len) × (take k (range bytes at len) ≡ take n (drop at bytes))
  shorter k = elim (cases_lt k len) [
    | inl less ↦ (k, omega (arith, less), take-take k len (drop at bytes) (omega (arith, less)))
    | inr past ↦
        let short : length (range bytes at len) ≤ k = let e = length-take len (drop at bytes) in omega (arith, past, e) in
        (len, omega arith, take_all k (range bytes at len) short)
  ]

  -- or a part of one
  pub range_torn : (to : ℕ) (old mid new : Option (List ℕ)) → at + len ≤ to → Appends old mid (range bytes from (at - from)) → (k : ℕ) × Appends mid new (take k (range bytes at len)) → (m : ℕ) × Appends old new (take m (range bytes from (to - from)))
  range_torn to old mid new within before part =
      let s = shorter part.0 in
      let tail : Appends mid new (take s.0 (drop (at - from) (drop from bytes))) = subst (λ t. Appends mid new t) (s.2 ∙ ap (take s.0) (sym on)) part.1 in
      let all = appends_more old mid new (at - from) s.0 (drop from bytes) before tail in
      let less : at - from + s.0 ≤ to - from = omega (arith, order, within, s.1) in
      (at - from + s.0, subst (λ t. Appends old new t) (sym (take-take (at - from + s.0) (to - from) (drop from bytes) less)) all)

of_none : (k : ℕ) → take {A = ℕ} k [] ≡ []
of_none k = take_all {A = ℕ} k [] (omega arith)

-- what is asked of a file, within its size
pub range_within : (bytes : List ℕ) (off len size : ℕ) → size ≡ length bytes → range bytes (min off size) (min off size + min len (size - min off size) - min off size) ≡ range bytes off len
range_within bytes off len size is = elim (cases_lt off size) [
  | inl inside ↦
      let from : min off size ≡ off = min-eq_left (omega (arith, inside)) in
      let all : off + min len (size - off) - off ≡ min len (size - off) = omega arith in
      ap (λ k. range bytes k (k + min len (size - k) - k)) from ∙ ap (λ k. take k (drop off bytes)) all ∙ cut (min len (size - off)) (length-drop off bytes) refl
  | inr past ↦
      let from : min off size ≡ size = min-eq_right (omega (arith, past)) in
      let none : drop size bytes ≡ [] = drop_all size bytes (omega (arith, is)) in
      let off_none : drop off bytes ≡ [] = drop_all off bytes (omega (arith, is, past)) in
      ap (λ k. range bytes k (k + min len (size - k) - k)) from ∙ ap (take (size + min len (size - size) - size)) none ∙ of_none (size + min len (size - size) - size) ∙ sym (ap (take len) off_none ∙ of_none len)
]
  where
    cut : (k : ℕ) → length (drop off bytes) ≡ length bytes - off → min len (size - off) ≡ k → take k (drop off bytes) ≡ take len (drop off bytes)
    cut k long is_k = elim (cases_lt len (size - off)) [
      | inl less ↦ let e : k ≡ len = sym is_k ∙ min-eq_left (omega (arith, less)) in ap (λ n. take n (drop off bytes)) e
      | inr more ↦
          let e : k ≡ size - off = sym is_k ∙ min-eq_right (omega (arith, more)) in
          take_all k (drop off bytes) (omega (arith, e, long, is)) ∙ sym (take_all len (drop off bytes) (omega (arith, more, long, is)))
    ]

pub content_is : (bytes : List ℕ) (off len size from more : ℕ) → size ≡ length bytes → from ≡ min off size → more ≡ min len (size - from) → range bytes from (from + more - from) ≡ range bytes off len
content_is bytes off len size from more is begins many =
    ap (λ k. range bytes k (k + more - k)) begins
    ∙ ap (λ k. range bytes (min off size) (min off size + k - min off size)) (many ∙ ap (λ k. min len (size - k)) begins)
    ∙ range_within bytes off len size is

pub content_long : (bytes : List ℕ) (off len size from more : ℕ) → size ≡ length bytes → from ≡ min off size → more ≡ min len (size - from) → from + more ≤ length bytes
content_long bytes off len size from more is begins many =
    let low = min-le_right off size in
    let high = min-le_right len (size - from) in
    omega (arith, is, begins, many, low, high)
