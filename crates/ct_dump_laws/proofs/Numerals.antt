-- Numbers, bytes and paths as words, read again.
use Rattle.std.proofs.Common.{◌≡◌, ◌≢◌, ◌∙◌, ℕ, ◌+◌, ◌-◌, ◌*◌, ◌/◌, ◌%◌, ◌^◌, ◌<◌, ◌≤◌, zero, suc, Bool, true, false, List, [], ◌∷◌, ◌++◌, length, get_or, refl, sym, ap, arith, Some, None, inl, inr, if◌then◌else◌}
use Rattle.std.specs.Prelude.{◌==◌, ◌&&◌, nat_lt, not, slice_index}
use Rattle.std.specs.Char.{is_ascii_digit}
use Rattle.std.specs.Fmt.{decimal, digit_glyph}
use Rattle.std.specs.List.{list_all}
use Rattle.std.proofs.lemmas.Bool.{cases_eq}
use Rattle.std.proofs.lemmas.Bool.Decides.{nat_tests}
use Rattle.std.proofs.lemmas.Fmt.{decimal_by_steps, decimal_digit, decimal_nonempty, first_decimal, length-decimal-le}
use Rattle.std.proofs.lemmas.List.{length-append}
use Rattle.std.proofs.lemmas.List.Folds.{list_all-append}
use Rattle.hex.specs.Hex.{encode_lower, encode_with, lower_digits, decode_of, hex_digit_value, IsBytes}
use Rattle.hex.proofs.HexLemmas.{length-encode_with, decode_of-encode_lower, IsDigits-lower_digits}
use Rattle.percent_encoding.specs.Percent.{percent_decode, percent_encode_byte}
use Rattle.percent_encoding.proofs.PercentLemmas.{percent_decode-nil, percent_decode-percent_encode_byte, percent_decode_not_percent}
use Rattle.ct_script.specs.Grammar.{path_of, is_number, value_from, value_below, number_below, number_of, if_ok, bytes_of}
use Rattle.ct_script.specs.Texts.{escaped, escaped_byte, is_escaped}
use Rattle.ct_script.proofs.Puts.{escape_length}
use Rattle.ct_dump_laws.specs.Dumpable.{are_bytes}
use Rattle.ct_dump_laws.proofs.Words.{both, and_true, are_above, above_join, above_more}

pub byte_below : (x : ℕ) → nat_lt x 256 ≡ true → x < 256
byte_below x h = grind (arith, nat_tests)

is_bytes : (xs : List ℕ) → are_bytes xs ≡ true → IsBytes xs
is_bytes [] h i = omega arith
is_bytes (x ∷ xs) h zero = byte_below x (both (nat_lt x 256) (are_bytes xs) h).0
is_bytes (x ∷ xs) h (suc i) = is_bytes xs (both (nat_lt x 256) (are_bytes xs) h).1 i

-- ---- numbers

value_push : (m : ℕ) (xs : List ℕ) (c : ℕ) → value_from m (xs ++ c ∷ []) ≡ 10 * value_from m xs + (c - 48)
value_push m [] c = refl
value_push m (x ∷ xs) c = value_push (10 * m + (x - 48)) xs c

digit : (d : ℕ) → d < 10 → is_ascii_digit (48 + d) ≡ true
digit d h = grind (arith, nat_tests)

-- the digits of a number, and their value
record Digits (n : ℕ) (ds : List ℕ) : Type 0 where
  all : list_all is_ascii_digit ds ≡ true
  value : value_from 0 ds ≡ n

digits_one : (n : ℕ) → n < 10 → Digits n ((48 + n) ∷ [])
digits_one n h = record { all = ap (λ b. b && true) (digit n h); value = omega arith }

digits_more : (n : ℕ) (ds : List ℕ) → 10 ≤ n → Digits (n / 10) ds → Digits n (ds ++ (48 + n % 10) ∷ [])
digits_more n ds h d = record {
  all =
      list_all-append is_ascii_digit ds ((48 + n % 10) ∷ [])
      ∙ and_true (list_all is_ascii_digit ds) (list_all is_ascii_digit ((48 + n % 10) ∷ [])) d.all (ap (λ b. b && true) (digit (n % 10) (omega arith)));
  value = omega (arith, value_push 0 ds (48 + n % 10), d.value);
}

decimal_digits : (n : ℕ) → n < 2 ^ 64 → Digits n (decimal n)
decimal_digits n h = decimal_by_steps Digits digits_one digits_more n h

are_number : (ds : List ℕ) → list_all is_ascii_digit ds ≡ true → 0 < length ds → (1 < length ds → get_or ds 0 0 ≢ 48) → is_number ds ≡ true
are_number [] all some first = absurd (omega (arith, some))
are_number (d ∷ []) all some first = (both (is_ascii_digit d) true all).0
are_number (d ∷ e ∷ ds) all some first = and_true (not (d == 48)) (list_all is_ascii_digit (d ∷ e ∷ ds)) (other d (first (omega arith))) all
  where
    other : (d : ℕ) → d ≢ 48 → not (d == 48) ≡ true
    other d h = grind (arith, nat_tests)

decimal_number : (n : ℕ) → n < 2 ^ 64 → is_number (decimal n) ≡ true
decimal_number n h = are_number (decimal n) (decimal_digits n h).all (decimal_nonempty n h) (λ long. elim (cases_eq n 0) [
  | inl is ↦ let one : length (decimal n) ≡ 1 = ap (λ k. length (decimal k)) is ∙ ap length (decimal_digit 0 (omega arith)) in absurd (omega (arith, one, long))
  | inr not_zero ↦ λ is. omega (arith, is, first_decimal n (omega (arith, not_zero)) h)
])

below_is : (limit : ℕ) (word : List ℕ) (n : ℕ) → is_number word ≡ true → value_from 0 word ≡ n → n < limit → number_below limit word ≡ Some n
below_is limit word n a is h =
    ap (λ b. if b then value_below limit word else None) a ∙ ap (λ v. if nat_lt v limit then Some v else None) is ∙ ap (λ b. if b then Some n else None) (within n limit h)
  where
    within : (n limit : ℕ) → n < limit → nat_lt n limit ≡ true
    within n limit h = grind (arith, nat_tests)

-- the digits of a number are read as the number
pub decimal_read : (n : ℕ) → n < 2 ^ 64 → number_of (decimal n) ≡ Some n
decimal_read n h = below_is (2 ^ 64) (decimal n) n (decimal_number n h) (decimal_digits n h).value h

pub decimal_above : (n : ℕ) → n < 2 ^ 64 → are_above 32 (decimal n) ≡ true
decimal_above n h = above (decimal n) (decimal_digits n h).all
  where
    one : (d : ℕ) → is_ascii_digit d ≡ true → 32 < d
    one d h = grind (arith, nat_tests)

    above : (ds : List ℕ) → list_all is_ascii_digit ds ≡ true → are_above 32 ds ≡ true
    above [] a = refl
    above (d ∷ ds) a = let b = both (is_ascii_digit d) (list_all is_ascii_digit ds) a in above_more 32 d ds (one d b.0) (above ds b.1)

pub decimal_length : (n : ℕ) → n < 2 ^ 64 → length (decimal n) ≤ 20
decimal_length n h = length-decimal-le 20 n (omega arith) (omega arith) h

-- ---- bytes

digit_above : (c v : ℕ) → hex_digit_value c ≡ Some v → 32 < c
digit_above c v h = grind (arith, nat_tests)

pub hex_above : (bytes : List ℕ) → are_bytes bytes ≡ true → are_above 32 (encode_lower bytes) ≡ true
unfolding encode_with
hex_above [] h = refl
hex_above (b ∷ bytes) h =
    let p = both (nat_lt b 256) (are_bytes bytes) h in
    let small = byte_below b p.0 in
    let high : b / 16 < 16 = omega arith in
    let low : b % 16 < 16 = omega arith in
    above_more 32 (slice_index lower_digits (b / 16)) (slice_index lower_digits (b % 16) ∷ encode_lower bytes) (digit_above _ (b / 16) (IsDigits-lower_digits (b / 16) high))
    (above_more 32 (slice_index lower_digits (b % 16)) (encode_lower bytes) (digit_above _ (b % 16) (IsDigits-lower_digits (b % 16) low)) (hex_above bytes p.1))

pub hex_length : (bytes : List ℕ) → length (encode_lower bytes) ≡ 2 * length bytes
hex_length bytes = length-encode_with lower_digits bytes

some_bytes : (digits : List ℕ) → 1 ≤ length digits → bytes_of digits ≡ if_ok (decode_of digits)
some_bytes [] h = absurd (omega (arith, h))
some_bytes (d ∷ digits) h = refl

pub hex_read : (bytes : List ℕ) → are_bytes bytes ≡ true → 1 ≤ length bytes → bytes_of (encode_lower bytes) ≡ Some bytes
hex_read bytes h some = some_bytes (encode_lower bytes) (omega (arith, hex_length bytes, some)) ∙ ap if_ok (decode_of-encode_lower bytes (is_bytes bytes h))

-- ---- paths

not_percent : (x : ℕ) → is_escaped x ≡ false → x ≢ 37
not_percent x h is = absurd (let no : is_escaped x ≡ true = ap is_escaped is in let bad : true ≡ false = sym no ∙ h in cc)

decoded_byte : (x : ℕ) (rest : List ℕ) → x < 256 → percent_decode (escaped_byte x ++ rest) ≡ x ∷ percent_decode rest
decoded_byte x rest h = at (is_escaped x) refl
  where
    at : (b : Bool) → is_escaped x ≡ b → percent_decode ((if b then percent_encode_byte x else x ∷ []) ++ rest) ≡ x ∷ percent_decode rest
    at true e = percent_decode-percent_encode_byte x rest h
    at false e = percent_decode_not_percent x rest (not_percent x e)

decoded : (xs : List ℕ) → are_bytes xs ≡ true → percent_decode (escaped xs) ≡ xs
decoded [] h = percent_decode-nil
decoded (x ∷ xs) h =
    let b = both (nat_lt x 256) (are_bytes xs) h in
    decoded_byte x (escaped xs) (byte_below x b.0) ∙ ap (λ ys. x ∷ ys) (decoded xs b.1)

byte_length : (x : ℕ) → (1 ≤ length (escaped_byte x)) × (length (escaped_byte x) ≤ 3)
byte_length x = at (is_escaped x)
  where
    at : (b : Bool) → (1 ≤ length (if b then percent_encode_byte x else x ∷ [])) × (length (if b then percent_encode_byte x else x ∷ []) ≤ 3)
    at true = let three = escape_length x in (omega (arith, three), omega (arith, three))
    at false = (omega arith, omega arith)

pub escaped_length : (xs : List ℕ) → (length xs ≤ length (escaped xs)) × (length (escaped xs) ≤ 3 * length xs)
escaped_length [] = (omega arith, omega arith)
escaped_length (x ∷ xs) =
    let one = byte_length x in
    let more = escaped_length xs in
    let sum = length-append (escaped_byte x) (escaped xs) in
    (omega (arith, one, more, sum), omega (arith, one, more, sum))

some_path : (word : List ℕ) → 1 ≤ length word → path_of word ≡ Some (percent_decode word)
some_path [] h = absurd (omega (arith, h))
some_path (b ∷ word) h = refl

pub path_read : (path : List ℕ) → are_bytes path ≡ true → 1 ≤ length path → path_of (escaped path) ≡ Some path
path_read path h some = some_path (escaped path) (omega (arith, escaped_length path, some)) ∙ ap Some (decoded path h)

glyph_above : (d : ℕ) → d < 16 → 32 < digit_glyph true d
glyph_above d h = grind (arith, nat_tests)

escape_above : (x : ℕ) → are_above 32 (percent_encode_byte x) ≡ true
unfolding percent_encode_byte
escape_above x =
    above_more 32 37 (digit_glyph true (x / 16 % 16) ∷ digit_glyph true (x % 16) ∷ []) (omega arith)
    (above_more 32 (digit_glyph true (x / 16 % 16)) (digit_glyph true (x % 16) ∷ []) (glyph_above (x / 16 % 16) (omega arith))
    (above_more 32 (digit_glyph true (x % 16)) [] (glyph_above (x % 16) (omega arith)) refl))

kept_above : (x : ℕ) → is_escaped x ≡ false → 32 < x
kept_above x h = grind (arith, nat_tests)

pub escaped_above : (xs : List ℕ) → are_above 32 (escaped xs) ≡ true
escaped_above [] = refl
escaped_above (x ∷ xs) = above_join 32 (escaped_byte x) (escaped xs) (at (is_escaped x) refl) (escaped_above xs)
  where
    at : (b : Bool) → is_escaped x ≡ b → are_above 32 (if b then percent_encode_byte x else x ∷ []) ≡ true
    at true e = escape_above x
    at false e = above_more 32 x [] (kept_above x e) refl
