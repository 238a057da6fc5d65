-- What an exchange leaves, in one file and in two.
use Rattle.std.proofs.Common.{◌≡◌, ◌∙◌, ℕ, ◌+◌, ◌≤◌, List, [], ◌∷◌, ◌++◌, length, drop, refl, sym, ap, subst, arith, None, Option, Ok, Bool, true, false}
use Rattle.std.specs.Borrow.{Bor}
use Rattle.std.specs.Str.{bytes_eq}
use Rattle.std.proofs.lemmas.Slice.Eq.{bytes_eq-Decides}
use Rattle.ct_base.specs.Path.{texts}
use Rattle.std.specs.Prelude.{IsOkAnd, not, nat_le, ◌&&◌, if◌then◌else◌}
use Rattle.std.proofs.lemmas.Bool.Decides.{nat_tests}
use Rattle.std.proofs.lemmas.List.{length-take, length-drop, length-append}
use Rattle.ct_tree.specs.Tree.{Tree, File}
use Rattle.ct_tree.specs.Checks.{first_of, refuse_if, names, at, bad_path, no_node, is_dir, are_ranges, overlap, above}
use Rattle.ct_tree.specs.Content.{bytes_in, range, resized, written}
use Rattle.ct_tree.specs.Ordered.{IsTree}
use Rattle.ct_tree.specs.Resolve.{resolve, put, IsDir, IsBelowRoot}
use Rattle.ct_tree.specs.Step.{exchange, refusal, with_bytes, exchanged, exchange_limit}
use Rattle.ct_tree.specs.declared.call.Refusal.{Refusal}
use Rattle.ct_tree.specs.declared.call.Refusal.TheVariants.{BadRange, TooLong}
use Rattle.ct_tree.proofs.Again.{resolve_put, put_put, other_stays, names_differ}
use Rattle.ct_tree.proofs.Ordered.{resized_length}
use Rattle.ct_tree.proofs.Paths.{file_below_root}

pub pass : (c : Option Refusal) (cs : List (Option Refusal)) → c ≡ None → first_of (c ∷ cs) ≡ first_of cs
pass c cs h = ap (λ o. first_of (o ∷ cs)) h

both_true : (a b : Bool) → (a && b) ≡ true → (a ≡ true) × (b ≡ true)
both_true true b h = (refl, h)
both_true false b h = absurd (cc)

passed : (b : Bool) (r : Refusal) → refuse_if (not b) r ≡ None → b ≡ true
passed true r h = refl
passed false r h = absurd (cc)

-- ranges that pass the check end within their files
pub within_both : (one : List ℕ) (off : ℕ) (two : List ℕ) (other_off len : ℕ) (r : Refusal) → refuse_if (not (are_ranges one off two other_off len)) r ≡ None →
    (off + len ≤ length one) × (other_off + len ≤ length two)
within_both one off two other_off len r h =
    let all = passed (are_ranges one off two other_off len) r h in
    let last = both_true _ (nat_le (other_off + len) (length two)) all in
    let before = both_true _ (nat_le (off + len) (length one)) last.0 in
    (below (off + len) (length one) before.1, below (other_off + len) (length two) last.1)
  where
    below : (m n : ℕ) → nat_le m n ≡ true → m ≤ n
    below m n e = grind (arith, nat_tests)

-- what is written within a file leaves its length
pub written_within : (old : List ℕ) (off : ℕ) (bytes : List ℕ) → off + length bytes ≤ length old → length (written old off bytes) ≡ length old
written_within old off [] h = refl
written_within old off (x ∷ bytes) h =
    let a = length-append (resized off old ++ (x ∷ bytes)) (drop (off + length {A = ℕ} (x ∷ bytes)) old) in
    let b = length-append (resized off old) (x ∷ bytes) in
    let c = resized_length off old in
    let d = length-drop (off + length {A = ℕ} (x ∷ bytes)) old in
    omega (arith, a, b, c, d, h)

pub range_length : (bytes : List ℕ) (off len : ℕ) → length (range bytes off len) ≤ len
range_length bytes off len = let a = length-take len (drop off bytes) in omega (arith, a)

-- what a comparison of paths tells
pub same_path : (path other : List ℕ) → true ≡ bytes_eq path other → path ≡ other
same_path path other h = (bytes_eq-Decides path other).0 (sym h)

pub other_path : (path other : List ℕ) → false ≡ bytes_eq path other → path ≡ other → ⊥
other_path path other h e = let no : false ≡ true = h ∙ (bytes_eq-Decides path other).1 e in cc

module _ (t : Tree) (path other : List ℕ) (off other_off len : ℕ) (one two w : List ℕ) (a : at t path ≡ Ok (File one)) (b : at t other ≡ Ok (File two)) where
  pub exchange_passes : bad_path path ≡ None → bad_path other ≡ None → refuse_if (not (are_ranges one off two other_off len)) BadRange ≡ None → overlap path off other other_off len ≡ None →
      above len exchange_limit TooLong ≡ None → refusal t (exchange path off other other_off len) ≡ None
  exchange_passes p q ranges apart short =
      pass _ _ p ∙ pass _ _ q ∙ pass _ _ (ap no_node a) ∙ pass _ _ (ap no_node b) ∙ pass _ _ (ap is_dir a) ∙ pass _ _ (ap is_dir b)
      ∙ pass _ _ (ap (λ r. refuse_if (not (are_ranges (bytes_in r) off (bytes_in (at t other)) other_off len)) BadRange) a ∙ ap (λ r. refuse_if (not (are_ranges one off (bytes_in r) other_off len)) BadRange) b ∙ ranges)
      ∙ pass _ _ apart ∙ pass _ _ short

  module _ (is : w ≡ written one off (range two other_off len)) where
    first : with_bytes t path off (range (bytes_in (at t other)) other_off len) ≡ put t (names path) (File w)
    first =
        ap (λ r. put t (names path) (File (written (bytes_in r) off (range (bytes_in (at t other)) other_off len)))) a
        ∙ ap (λ r. put t (names path) (File (written one off (range (bytes_in r) other_off len)))) b ∙ ap (λ d. put t (names path) (File d)) (sym is)

    second : (v had : List ℕ) → resolve (put t (names path) (File w)) (names other) ≡ Ok (File had) → v ≡ written had other_off (range one off len) →
        put (put t (names path) (File w)) (names other) (File v) ≡ exchanged t path off other other_off len
    second v had there made =
        let t' = put t (names path) (File w) in
        sym (
        ap (λ u. put u (names other) (File (written (bytes_in (resolve u (names other))) other_off (range (bytes_in (at t path)) off len)))) first
        ∙ ap (λ r. put t' (names other) (File (written (bytes_in r) other_off (range (bytes_in (at t path)) off len)))) there
        ∙ ap (λ r. put t' (names other) (File (written had other_off (range (bytes_in r) off len)))) a
        ∙ ap (λ d. put t' (names other) (File d)) (sym made)
        )

    -- in one file
    pub exchanged_within : (v : List ℕ) → path ≡ other → v ≡ written w other_off (range one off len) → put t (names path) (File v) ≡ exchanged t path off other other_off len
    exchanged_within v e made =
        sym (put_put t (names path) (File w) (File v)) ∙ ap (λ q. put (put t (names path) (File w)) (names q) (File v)) e
        ∙ second v w (subst (λ q. resolve (put t (names path) (File w)) (names q) ≡ Ok (File w)) e (resolve_put t (names path) (File w))) made

    module _ (tree : IsTree t) (p : bad_path path ≡ None) (q : bad_path other ≡ None) where
      pub second_apart : (path ≡ other → ⊥) → resolve (put t (names path) (File w)) (names other) ≡ Ok (File two)
      second_apart ne = other_stays (names path) (names other) t w one two tree (names_differ path other p q ne) a b

      -- in two
      pub exchanged_apart : (path ≡ other → ⊥) → (v : List ℕ) → v ≡ written two other_off (range one off len) →
          put (put t (names path) (File w)) (names other) (File v) ≡ exchanged t path off other other_off len
      exchanged_apart ne v made = second v two (second_apart ne) made

      -- in one file, or in two
      there_by : (same : Bool) → same ≡ bytes_eq path other → resolve (put t (names path) (File w)) (names other) ≡ Ok (File (if same then w else two))
      there_by true e =
          let one_path : path ≡ other = same_path path other e in
          subst (λ o. resolve (put t (names path) (File w)) (names o) ≡ Ok (File w)) one_path (resolve_put t (names path) (File w))
      there_by false e = second_apart (other_path path other e)

      pub second_there : resolve (put t (names path) (File w)) (names other) ≡ Ok (File (if bytes_eq path other then w else two))
      second_there = there_by (bytes_eq path other) refl

      pub exchanged_both : (v : List ℕ) → v ≡ written (if bytes_eq path other then w else two) other_off (range one off len) →
          put (put t (names path) (File w)) (names other) (File v) ≡ exchanged t path off other other_off len
      exchanged_both v made = second v (if bytes_eq path other then w else two) second_there made

-- what a path leads to, by the names that were read from it
pub at_is : (t u : Tree) (path : List ℕ) (items lent : List (Bor (List ℕ))) (n : Tree) (bytes : List ℕ) → t ≡ u → names path ≡ texts items → lent ≡ items → resolve t (texts lent) ≡ Ok n → n ≡ File bytes →
    at u path ≡ Ok (File bytes)
at_is t u path items lent n bytes is same value found file =
    ap (λ k. resolve k (names path)) (sym is) ∙ ap (resolve t) (same ∙ ap texts (sym value)) ∙ found ∙ ap Ok file

pub still_below : (t u : Tree) (ns : List (List ℕ)) (bytes more : List ℕ) → IsDir t → resolve t ns ≡ Ok (File bytes) → resolve u ns ≡ Ok (File more) → IsBelowRoot u ns
still_below t u [] bytes more dir h k = absurd (file_below_root t [] bytes dir h)
still_below t u (x ∷ xs) bytes more dir h k = subst (λ r. IsOkAnd r (λ n. Unit {0})) (sym k) tt
