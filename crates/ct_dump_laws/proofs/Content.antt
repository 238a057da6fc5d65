-- A file that is lengthened with zeros, and gets its bytes page by page.
use Rattle.std.proofs.Common.{◌≡◌, ◌∙◌, ℕ, ◌+◌, ◌-◌, ◌≤◌, true, List, [], ◌∷◌, ◌++◌, length, take, drop, refl, sym, ap, append_assoc, append-nil, arith}
use Rattle.std.specs.Prelude.{◌==◌, replicate}
use Rattle.std.proofs.Math.Seq.{take-add, take-nil, drop-append-add}
use Rattle.std.proofs.lemmas.Bool.Decides.{nat_tests}
use Rattle.std.proofs.lemmas.List.{length-append, length-drop, length-take, take-append-le, take_all, drop-replicate, replicate-append-replicate}
use Rattle.ct_base.specs.declared.layout.TheConstants.{PAGE_BYTES}
use Rattle.ct_tree.specs.Content.{range, resized, written}
use Rattle.ct_dump.specs.Dumped.{are_zeros}
use Rattle.ct_dump_laws.proofs.Words.{both}

-- the bytes so far, and zeros in the place of the others
abbrev pub filled : List ℕ → ℕ → List ℕ
filled bytes off = take off bytes ++ replicate (length bytes - off) 0

pub filled_none : (bytes : List ℕ) → resized (length bytes) [] ≡ filled bytes 0
filled_none bytes = ap (λ t. t ++ replicate (length bytes - 0) 0) (take-nil (length bytes))

no_zeros : (n : ℕ) → n ≡ 0 → replicate {A = ℕ} n 0 ≡ []
no_zeros n h = ap (λ k. replicate k 0) h

pub filled_all : (bytes : List ℕ) (off : ℕ) → length bytes ≤ off → filled bytes off ≡ bytes
filled_all bytes off h =
    ap (λ t. t ++ replicate (length bytes - off) 0) (take_all off bytes h) ∙ ap (λ t. bytes ++ t) (no_zeros (length bytes - off) (omega (arith, h))) ∙ append-nil bytes

pub filled_empty : (bytes : List ℕ) → length bytes ≡ 0 → [] ≡ filled bytes 0
filled_empty bytes h = sym (no_zeros (length bytes - 0) (omega (arith, h)))

zeros_are : (xs : List ℕ) → are_zeros xs ≡ true → xs ≡ replicate (length xs) 0
zeros_are [] h = refl
zeros_are (x ∷ xs) h =
    let b = both (x == 0) (are_zeros xs) h in
    let first : x ≡ 0 = grind (arith, nat_tests) in
    ap (λ y. y ∷ xs) first ∙ ap (λ ys. 0 ∷ ys) (zeros_are xs b.1)

page_length : (bytes : List ℕ) (off : ℕ) → length (range bytes off PAGE_BYTES) + (length bytes - (off + PAGE_BYTES)) ≡ length bytes - off
page_length bytes off = omega (arith, length-take PAGE_BYTES (drop off bytes), length-drop off bytes)

-- a page of zeros is there already
pub filled_zeros : (bytes : List ℕ) (off : ℕ) → are_zeros (range bytes off PAGE_BYTES) ≡ true → filled bytes (off + PAGE_BYTES) ≡ filled bytes off
filled_zeros bytes off h =
    let page = range bytes off PAGE_BYTES in
    let left = length bytes - (off + PAGE_BYTES) in
    ap (λ t. t ++ replicate left 0) (take-add off PAGE_BYTES bytes ∙ ap (λ p. take off bytes ++ p) (zeros_are page h)) ∙ append_assoc (take off bytes) (replicate (length page) 0) (replicate left 0)
    ∙ ap (λ t. take off bytes ++ t) (replicate-append-replicate (length page) left 0 ∙ ap (λ n. replicate n 0) (page_length bytes off))

written_some : (old : List ℕ) (off : ℕ) (page : List ℕ) → 1 ≤ length page → written old off page ≡ (resized off old ++ page) ++ drop (off + length page) old
written_some old off [] h = absurd (omega (arith, h))
written_some old off (b ∷ page) h = refl

pub inside : (bytes : List ℕ) (off : ℕ) → 1 ≤ length (range bytes off PAGE_BYTES) → off ≤ length bytes
inside bytes off h = omega (arith, h, length-take PAGE_BYTES (drop off bytes), length-drop off bytes)

pub fits : (bytes : List ℕ) (off : ℕ) → 1 ≤ length (range bytes off PAGE_BYTES) → off + length (range bytes off PAGE_BYTES) ≤ length bytes
fits bytes off h = omega (arith, h, length-take PAGE_BYTES (drop off bytes), length-drop off bytes)

-- any other is written
pub filled_written : (bytes : List ℕ) (off : ℕ) → 1 ≤ length (range bytes off PAGE_BYTES) → written (filled bytes off) off (range bytes off PAGE_BYTES) ≡ filled bytes (off + PAGE_BYTES)
filled_written bytes off h =
    written_some (filled bytes off) off page h ∙ ap (λ t. (t ++ page) ++ drop (off + length page) (filled bytes off)) front
    ∙ ap (λ t. (take off bytes ++ page) ++ t) after ∙ ap (λ t. t ++ replicate left 0) (sym (take-add off PAGE_BYTES bytes))
  where
    page : List ℕ
    page = range bytes off PAGE_BYTES

    left : ℕ
    left = length bytes - (off + PAGE_BYTES)

    start : length (take off bytes) ≡ off
    start = omega (arith, inside bytes off h, length-take off bytes)

    front : resized off (filled bytes off) ≡ take off bytes
    front =
        ap (λ t. t ++ replicate (off - length (filled bytes off)) 0) (take-append-le off (take off bytes) (replicate (length bytes - off) 0) (omega (arith, start)) ∙ take_all off (take off bytes) (omega (arith, start)))
        ∙ ap (λ t. take off bytes ++ t) (no_zeros (off - length (filled bytes off)) (omega (arith, start, length-append (take off bytes) (replicate (length bytes - off) 0)))) ∙ append-nil (take off bytes)

    after : drop (off + length (range bytes off PAGE_BYTES)) (filled bytes off) ≡ replicate (length bytes - (off + PAGE_BYTES)) 0
    after =
        ap (λ n. drop (n + length page) (filled bytes off)) (sym start) ∙ drop-append-add (take off bytes) (replicate (length bytes - off) 0) (length page)
        ∙ drop-replicate (length page) (length bytes - off) 0 ∙ ap (λ n. replicate n 0) (omega (arith, page_length bytes off))
