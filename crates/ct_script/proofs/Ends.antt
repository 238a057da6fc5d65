-- How many bytes 10 the texts of replies have.
use Rattle.std.proofs.Common.{◌≡◌, ◌≢◌, ◌∙◌, ℕ, zero, suc, ◌+◌, List, [], ◌∷◌, ◌++◌, length, get_or, refl, sym, ap, arith, Bool, true, false, if◌then◌else◌}
use Rattle.std.specs.Prelude.{◌==◌, ◌/◌, ◌%◌, nat_lt, codes, count_by, cond}
use Rattle.std.specs.List.{flat_map}
use Rattle.std.specs.Fmt.{digit_glyph, digits_onto, digits, decimal}
use Rattle.std.proofs.lemmas.Bool.{ne_eqb}
use Rattle.std.proofs.lemmas.List.Sums.{sum_by-append}
use Rattle.hex.specs.Hex.{encode_with, encode_lower, lower_digits}
use Rattle.percent_encoding.specs.Percent.{percent_encode_byte}
use Rattle.ct_tree.specs.declared.call.Refusal.{Refusal}
use Rattle.ct_tree.specs.declared.call.Refusal.TheVariants.{BadPath, NotFound, NotDir, IsDir, Exists, NotEmpty, IntoSelf, IsRoot, TooBig, BadRange, Overlap, TooLong, NoInode, NoPartition, NoPages}
use Rattle.ct_tree.specs.declared.call.Reply.{Reply}
use Rattle.ct_tree.specs.declared.call.Reply.TheVariants.{Done, Data, File, Dir, Names, At, Refused, BadLine}
use Rattle.ct_script.specs.Texts.{data_text, is_escaped, escaped_byte, escaped, name_text, refusal_text, reply_text, reply_line, text}

-- how many bytes of a text end a line
abbrev pub ends : List ℕ → ℕ
ends xs = count_by (λ b. b == 10) xs

ends-append : (xs ys : List ℕ) → ends (xs ++ ys) ≡ ends xs + ends ys
ends-append xs ys = sum_by-append (λ x. cond (x == 10) 1 0) xs ys

none_more : (x : ℕ) (xs : List ℕ) → x ≢ 10 → ends xs ≡ 0 → ends (x ∷ xs) ≡ 0
none_more x xs other none = rw (ne_eqb x 10 other) none

none_both : (xs ys : List ℕ) → ends xs ≡ 0 → ends ys ≡ 0 → ends (xs ++ ys) ≡ 0
none_both xs ys a b = omega (arith, ends-append xs ys, a, b)

glyph_other : (u : Bool) (d : ℕ) → digit_glyph u d ≢ 10
glyph_other u d = at u (nat_lt d 10)
  where
    at : (u b : Bool) → (if b then 48 + d else (if u then 55 + d else 87 + d)) ≢ 10
    at u true = λ e. omega arith
    at true false = λ e. omega arith
    at false false = λ e. omega arith

digits_none : (k n : ℕ) (acc : List ℕ) → ends acc ≡ 0 → ends (digits_onto k 10 false n acc) ≡ 0
digits_none zero n acc none = none
digits_none (suc k) n acc none = at (n / 10 == 0) (digits_none k (n / 10) (digit_glyph false (n % 10) ∷ acc) (none_more (digit_glyph false (n % 10)) acc (glyph_other false (n % 10)) none))
  where
    at : (b : Bool) → ends (digits_onto k 10 false (n / 10) (digit_glyph false (n % 10) ∷ acc)) ≡ 0
        → ends (if b then digit_glyph false (n % 10) ∷ acc else digits_onto k 10 false (n / 10) (digit_glyph false (n % 10) ∷ acc)) ≡ 0
    at true more = none_more (digit_glyph false (n % 10)) acc (glyph_other false (n % 10)) none
    at false more = more

decimal_none : (n : ℕ) → ends (decimal n) ≡ 0
unfolding digits
decimal_none n = digits_none 64 n [] refl

-- an element of a text without line ends ends none
element_other : (xs : List ℕ) (i : ℕ) → ends xs ≡ 0 → get_or xs i 0 ≢ 10
element_other [] i none = λ e. omega arith
element_other (x ∷ xs) zero none = λ e. (let one : ends (x ∷ []) ≡ 1 = ap (λ z. ends (z ∷ [])) e in let more = sum_by-append (λ z. cond (z == 10) 1 0) (x ∷ []) xs in absurd (omega (arith, one, more, none)))
element_other (x ∷ xs) (suc i) none = element_other xs i (let more = sum_by-append (λ z. cond (z == 10) 1 0) (x ∷ []) xs in omega (arith, more, none))

hex_none : (t bytes : List ℕ) → ends t ≡ 0 → ends (encode_with t bytes) ≡ 0
unfolding encode_with
hex_none t [] none = refl
hex_none t (b ∷ bytes) none =
    none_more (get_or t (b / 16) 0) (get_or t (b % 16) 0 ∷ encode_with t bytes) (element_other t (b / 16) none) (none_more (get_or t (b % 16) 0) (encode_with t bytes) (element_other t (b % 16) none) (hex_none t bytes none))

data_none : (bytes : List ℕ) → ends (data_text bytes) ≡ 0
data_none [] = refl
data_none (b ∷ bytes) = none_both (codes "data ") (encode_lower (b ∷ bytes)) refl (hex_none lower_digits (b ∷ bytes) refl)

percent_none : (b : ℕ) → ends (percent_encode_byte b) ≡ 0
unfolding percent_encode_byte
percent_none b =
    none_more 37 (digit_glyph true (b / 16 % 16) ∷ digit_glyph true (b % 16) ∷ []) (λ e. omega arith) (none_more (digit_glyph true (b / 16 % 16)) (digit_glyph true (b % 16) ∷ []) (glyph_other true (b / 16 % 16)) (none_more (digit_glyph true (b % 16)) [] (glyph_other true (b % 16)) refl))

escaped_none : (b : ℕ) → ends (escaped_byte b) ≡ 0
escaped_none b = at (is_escaped b) refl
  where
    at : (e : Bool) → is_escaped b ≡ e → ends (if e then percent_encode_byte b else b ∷ []) ≡ 0
    at true is = percent_none b
    at false is = none_more b [] (λ ten. (let no : true ≡ false = sym (ap is_escaped ten) ∙ is in cc)) refl

flat_none : {A : Type 0} (f : A → List ℕ) → ((x : A) → ends (f x) ≡ 0) → (xs : List A) → ends (flat_map f xs) ≡ 0
flat_none f none [] = refl
flat_none f none (x ∷ xs) = none_both (f x) (flat_map f xs) (none x) (flat_none f none xs)

name_none : (name : List ℕ) → ends (name_text name) ≡ 0
name_none name = none_more 32 (escaped name) (λ e. omega arith) (flat_none escaped_byte escaped_none name)

refusal_none : (r : Refusal) → ends (refusal_text r) ≡ 0
refusal_none BadPath = refl
refusal_none NotFound = refl
refusal_none NotDir = refl
refusal_none IsDir = refl
refusal_none Exists = refl
refusal_none NotEmpty = refl
refusal_none IntoSelf = refl
refusal_none IsRoot = refl
refusal_none TooBig = refl
refusal_none BadRange = refl
refusal_none Overlap = refl
refusal_none TooLong = refl
refusal_none NoInode = refl
refusal_none (NoPartition level) = refl
refusal_none (NoPages free need) = refl

reply_none : (r : Reply) → ends (reply_text r) ≡ 0
reply_none Done = refl
reply_none (Data bytes) = data_none bytes
reply_none (File size) = none_both (codes "file ") (decimal size) refl (decimal_none size)
reply_none (Dir count) = none_both (codes "dir ") (decimal count) refl (decimal_none count)
reply_none (Names names) = none_both (codes "names") (flat_map name_text names) refl (flat_none name_text name_none names)
reply_none (At base level) =
    none_both (codes "at " ++ decimal base) (32 ∷ decimal level) (none_both (codes "at ") (decimal base) refl (decimal_none base)) (none_more 32 (decimal level) (λ e. omega arith) (decimal_none level))
reply_none (Refused r) = refusal_none r
reply_none BadLine = refl

pub line_end : (r : Reply) → ends (reply_line r) ≡ 1
line_end r = omega (arith, ends-append (reply_text r) (10 ∷ []), reply_none r)

pub lines_end : (rs : List Reply) → ends (text rs) ≡ length rs
lines_end [] = refl
lines_end (r ∷ rs) = omega (arith, ends-append (reply_line r) (text rs), line_end r, lines_end rs)
