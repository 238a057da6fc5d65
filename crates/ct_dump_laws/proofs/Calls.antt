-- The lines of a dump, read as calls.
use Rattle.std.proofs.Common.{◌≡◌, ◌∙◌, ℕ, ◌^◌, ◌<◌, ◌≤◌, true, List, [], ◌∷◌, ◌++◌, length, refl, ap, subst, append_assoc, arith, Some}
use Rattle.std.specs.Prelude.{codes}
use Rattle.std.specs.Fmt.{decimal}
use Rattle.std.specs.Option.{option_map}
use Rattle.std.proofs.lemmas.List.{length-append}
use Rattle.hex.specs.Hex.{encode_lower}
use Rattle.ct_base.specs.declared.layout.TheConstants.{PAGE_BYTES, PATH_BYTES}
use Rattle.ct_tree.specs.Runs.{call}
use Rattle.ct_tree.specs.Step.{create, mkdir, truncate, write}
use Rattle.ct_script.specs.Grammar.{path_of, number_of, bytes_of, of_two, of_three}
use Rattle.ct_script.specs.Texts.{escaped, line_of}
use Rattle.ct_dump.specs.Dumped.{create_line, mkdir_line, truncate_line, write_line, head, number_text}
use Rattle.ct_dump_laws.specs.Dumpable.{are_bytes}
use Rattle.ct_dump_laws.proofs.Words.{are_above, above_join, above_less, above_more, Reads, reads_line, last_word, word_then}
use Rattle.ct_dump_laws.proofs.Numerals.{decimal_read, decimal_above, decimal_length, hex_above, hex_length, hex_read, path_read, escaped_above, escaped_length}

-- a path that a call takes
pub record IsText (path : List ℕ) : Type 0 where
  pub some : 1 ≤ length path
  pub short : length path ≤ PATH_BYTES
  pub bytes : are_bytes path ≡ true

above_31 : (word : List ℕ) → are_above 32 word ≡ true → are_above 31 word ≡ true
above_31 word h = above_less 31 32 word (omega arith) h

-- two words with a space between them
spaced : (word rest : List ℕ) → are_above 32 word ≡ true → are_above 31 rest ≡ true → are_above 31 (word ++ 32 ∷ rest) ≡ true
spaced word rest a b = above_join 31 word (32 ∷ rest) (above_31 word a) (above_more 31 32 rest (omega arith) b)

module _ (path : List ℕ) (is : IsText path) where
  read : path_of (escaped path) ≡ Some path
  read = path_read path is.bytes is.some

  pub reads_create : Reads (create_line path) (call (create path) ∷ [])
  reads_create =
      let a = escaped_above path in
      reads_line (codes "create" ++ 32 ∷ escaped path) (codes "create" ∷ escaped path ∷ []) (create path)
      (spaced (codes "create") (escaped path) refl (above_31 (escaped path) a)) (omega arith) (omega (arith, escaped_length path, is.short))
      (word_then (codes "create") (escaped path) (escaped path ∷ []) refl (last_word (escaped path) a)) (ap (option_map create) read)

  pub reads_mkdir : Reads (mkdir_line path) (call (mkdir path) ∷ [])
  reads_mkdir =
      let a = escaped_above path in
      reads_line (codes "mkdir" ++ 32 ∷ escaped path) (codes "mkdir" ∷ escaped path ∷ []) (mkdir path)
      (spaced (codes "mkdir") (escaped path) refl (above_31 (escaped path) a)) (omega arith) (omega (arith, escaped_length path, is.short))
      (word_then (codes "mkdir") (escaped path) (escaped path ∷ []) refl (last_word (escaped path) a)) (ap (option_map mkdir) read)

  pub reads_truncate : (size : ℕ) → size < 2 ^ 64 → Reads (truncate_line path size) (call (truncate path size) ∷ [])
  reads_truncate size h =
      let a = escaped_above path in
      let b = decimal_above size h in
      let words = escaped path ++ 32 ∷ decimal size in
      subst (λ t. Reads t (call (truncate path size) ∷ [])) (append_assoc (head (codes "truncate ") path) (number_text size) (10 ∷ []))
      (reads_line (codes "truncate" ++ 32 ∷ words) (codes "truncate" ∷ escaped path ∷ decimal size ∷ []) (truncate path size)
      (spaced (codes "truncate") words refl (spaced (escaped path) (decimal size) a (above_31 (decimal size) b))) (omega arith)
      (omega (arith, escaped_length path, is.short, decimal_length size h, length-append (escaped path) (32 ∷ decimal size)))
      (word_then (codes "truncate") words (escaped path ∷ decimal size ∷ []) refl (word_then (escaped path) (decimal size) (decimal size ∷ []) a (last_word (decimal size) b)))
      (ap (λ p. of_two truncate p (number_of (decimal size))) read ∙ ap (of_two truncate (Some path)) (decimal_read size h)))

  pub reads_write : (off : ℕ) (bytes : List ℕ) → off < 2 ^ 64 → are_bytes bytes ≡ true → 1 ≤ length bytes → length bytes ≤ PAGE_BYTES → Reads (write_line path off bytes) (call (write path off bytes) ∷ [])
  reads_write off bytes h all some few =
      let a = escaped_above path in
      let b = decimal_above off h in
      let d = hex_above bytes all in
      let digits = encode_lower bytes in
      let last = decimal off ++ 32 ∷ digits in
      let words = escaped path ++ 32 ∷ last in
      subst (λ t. Reads t (call (write path off bytes) ∷ [])) same
      (reads_line (codes "write" ++ 32 ∷ words) (codes "write" ∷ escaped path ∷ decimal off ∷ digits ∷ []) (write path off bytes)
      (spaced (codes "write") words refl (spaced (escaped path) last a (spaced (decimal off) digits b (above_31 digits d)))) (omega arith)
      (omega (arith, escaped_length path, is.short, decimal_length off h, hex_length bytes, few, length-append (escaped path) (32 ∷ last), length-append (decimal off) (32 ∷ digits)))
      (word_then (codes "write") words (escaped path ∷ decimal off ∷ digits ∷ []) refl
      (word_then (escaped path) last (decimal off ∷ digits ∷ []) a (word_then (decimal off) digits (digits ∷ []) b (last_word digits d))))
      (ap (λ p. of_three write p (number_of (decimal off)) (bytes_of digits)) read ∙ ap (λ n. of_three write (Some path) n (bytes_of digits)) (decimal_read off h)
      ∙ ap (of_three write (Some path) (Some off)) (hex_read bytes all some)))
    where
      same : line_of (codes "write" ++ 32 ∷ (escaped path ++ 32 ∷ (decimal off ++ 32 ∷ encode_lower bytes))) ≡ write_line path off bytes
      same = simp append_assoc
