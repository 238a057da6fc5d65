-- The calls of a dump that give a new file its bytes.
use Rattle.std.proofs.Common.{◌≡◌, ◌∙◌, ℕ, zero, suc, ◌+◌, ◌*◌, ◌≤◌, Bool, true, false, List, [], ◌∷◌, ◌++◌, length, take, drop, refl, sym, ap, subst, arith, None, if◌then◌else◌}
use Rattle.std.specs.Prelude.{◌==◌, nat_lt, not}
use Rattle.std.proofs.lemmas.Bool.Decides.{nat_tests}
use Rattle.std.proofs.lemmas.List.{length-take}
use Rattle.ct_base.specs.declared.layout.TheConstants.{PAGE_BYTES}
use Rattle.ct_tree.specs.Checks.{above, at, bad_path, first_of, names, no_file, refuse_if}
use Rattle.ct_tree.specs.Content.{bytes_in, range, resized, written}
use Rattle.ct_tree.specs.Resolve.{put}
use Rattle.ct_tree.specs.Step.{file_limit}
use Rattle.ct_tree.specs.Tree.{Tree, File}
use Rattle.ct_tree.specs.declared.call.Refusal.{Refusal}
use Rattle.ct_tree.specs.declared.call.Refusal.TheVariants.{TooBig}
use Rattle.ct_tree.proofs.Again.{put_put, resolve_put}
use Rattle.ct_tree.proofs.Exchanges.{pass}
use Rattle.ct_dump.specs.Dumped.{are_zeros, page_count, page_text, pages_text, size_text, truncate_line, write_line}
use Rattle.ct_dump_laws.specs.Dumpable.{are_bytes}
use Rattle.ct_dump_laws.proofs.Calls.{IsText, reads_truncate, reads_write}
use Rattle.ct_dump_laws.proofs.Content.{filled, filled_all, filled_empty, filled_none, filled_written, filled_zeros, fits}
use Rattle.ct_dump_laws.proofs.Builds.{Builds, builds_both, builds_call, builds_none}
use Rattle.ct_dump_laws.proofs.Words.{both, and_true, at_most}

within : (n limit : ℕ) (r : Refusal) → n ≤ limit → above n limit r ≡ None
within n limit r h = ap (λ b. refuse_if (not b) r) (at_most n limit h)

all_take : (n : ℕ) (xs : List ℕ) → are_bytes xs ≡ true → are_bytes (take n xs) ≡ true
all_take zero xs h = refl
all_take (suc n) [] h = refl
all_take (suc n) (x ∷ xs) h = let b = both (nat_lt x 256) (are_bytes xs) h in and_true (nat_lt x 256) (are_bytes (take n xs)) b.0 (all_take n xs b.1)

all_drop : (n : ℕ) (xs : List ℕ) → are_bytes xs ≡ true → are_bytes (drop n xs) ≡ true
all_drop zero xs h = h
all_drop (suc n) [] h = refl
all_drop (suc n) (x ∷ xs) h = all_drop n xs (both (nat_lt x 256) (are_bytes xs) h).1

some_page : (page : List ℕ) → are_zeros page ≡ false → 1 ≤ length page
some_page [] h = absurd (cc)
some_page (b ∷ page) h = omega arith

module _ (c : ℕ) (t : Tree) (path : List ℕ) (text : IsText path) (good : bad_path path ≡ None) where
  -- the tree with a file at the path
  abbrev with : List ℕ → Tree
  with file = put t (names path) (File file)

  file_passes : (file : List ℕ) (n : ℕ) → n ≤ file_limit
      → first_of (bad_path path ∷ no_file (at (with file) path) ∷ above n file_limit TooBig ∷ []) ≡ None
  file_passes file n h =
      pass (bad_path path) (no_file (at (with file) path) ∷ above n file_limit TooBig ∷ []) good
      ∙ pass (no_file (at (with file) path)) (above n file_limit TooBig ∷ []) (ap no_file (resolve_put t (names path) (File file)))
      ∙ pass (above n file_limit TooBig) [] (within n file_limit TooBig h)

  truncate_builds : (file : List ℕ) (size : ℕ) → size ≤ file_limit → Builds c (with file) (truncate_line path size) (with (resized size file))
  truncate_builds file size h =
      let u = with file in
      let there = resolve_put t (names path) (File file) in
      subst (Builds c u (truncate_line path size)) (ap (λ r. put u (names path) (File (resized size (bytes_in r)))) there ∙ put_put t (names path) (File file) (File (resized size file)))
      (builds_call (reads_truncate path text size (omega (arith, h))) (record { passes = file_passes file size h; done = refl; room = λ made. absurd made }))

  write_builds : (file : List ℕ) (off : ℕ) (bytes : List ℕ) → off + length bytes ≤ file_limit → are_bytes bytes ≡ true → 1 ≤ length bytes → length bytes ≤ PAGE_BYTES
      → Builds c (with file) (write_line path off bytes) (with (written file off bytes))
  write_builds file off bytes h all some few =
      let u = with file in
      let there = resolve_put t (names path) (File file) in
      subst (Builds c u (write_line path off bytes)) (ap (λ r. put u (names path) (File (written (bytes_in r) off bytes))) there ∙ put_put t (names path) (File file) (File (written file off bytes)))
      (builds_call (reads_write path text off bytes (omega (arith, h)) all some few) (record { passes = file_passes file (off + length bytes) h; done = refl; room = λ made. absurd made }))

  module _ (bytes : List ℕ) (few : length bytes ≤ file_limit) (all : are_bytes bytes ≡ true) where
    size_builds : Builds c (with []) (size_text path (length bytes)) (with (filled bytes 0))
    size_builds = by (length bytes == 0) refl
      where
        by : (b : Bool) → (length bytes == 0) ≡ b → Builds c (with []) (if b then [] else truncate_line path (length bytes)) (with (filled bytes 0))
        by true e =
            let no_bytes : length bytes ≡ 0 = grind (arith, nat_tests) in
            subst (λ f. Builds c (with []) [] (with f)) (filled_empty bytes no_bytes) (builds_none c (with []))
        by false e = subst (λ f. Builds c (with []) (truncate_line path (length bytes)) (with f)) (filled_none bytes) (truncate_builds [] (length bytes) few)

    page_builds : (off : ℕ) → Builds c (with (filled bytes off)) (page_text path off (range bytes off PAGE_BYTES)) (with (filled bytes (off + PAGE_BYTES)))
    page_builds off = by (are_zeros (range bytes off PAGE_BYTES)) refl
      where
        by : (b : Bool) → are_zeros (range bytes off PAGE_BYTES) ≡ b
            → Builds c (with (filled bytes off)) (if b then [] else write_line path off (range bytes off PAGE_BYTES)) (with (filled bytes (off + PAGE_BYTES)))
        by true e = subst (λ f. Builds c (with (filled bytes off)) [] (with f)) (sym (filled_zeros bytes off e)) (builds_none c (with (filled bytes off)))
        by false e =
            let some = some_page (range bytes off PAGE_BYTES) e in
            subst (λ f. Builds c (with (filled bytes off)) (write_line path off (range bytes off PAGE_BYTES)) (with f)) (filled_written bytes off some)
            (write_builds (filled bytes off) off (range bytes off PAGE_BYTES) (omega (arith, few, fits bytes off some)) (all_take PAGE_BYTES (drop off bytes) (all_drop off bytes all)) some (omega (arith, length-take PAGE_BYTES (drop off bytes))))

    pages_build : (count off : ℕ) → Builds c (with (filled bytes off)) (pages_text path bytes count off) (with (filled bytes (off + count * PAGE_BYTES)))
    pages_build zero off =
        let here : off ≡ off + 0 * PAGE_BYTES = omega arith in
        subst (λ n. Builds c (with (filled bytes off)) [] (with (filled bytes n))) here (builds_none c (with (filled bytes off)))
    pages_build (suc count) off =
        let there : off + PAGE_BYTES + count * PAGE_BYTES ≡ off + suc count * PAGE_BYTES = omega arith in
        subst (λ n. Builds c (with (filled bytes off)) (pages_text path bytes (suc count) off) (with (filled bytes n))) there
        (builds_both (page_builds off) (pages_build count (off + PAGE_BYTES)))

    -- a file that is there and empty gets its size and its bytes
    pub content_builds : Builds c (with []) (size_text path (length bytes) ++ pages_text path bytes (page_count (length bytes)) 0) (with bytes)
    content_builds =
        let last = page_count (length bytes) in
        subst (λ f. Builds c (with []) (size_text path (length bytes) ++ pages_text path bytes last 0) (with f)) (filled_all bytes (0 + last * PAGE_BYTES) (omega arith))
        (builds_both size_builds (pages_build last 0))
