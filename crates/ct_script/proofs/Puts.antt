-- Texts that are put one after another, and a fault in the middle of one.
use Rattle.std.proofs.Common.{◌≡◌, ◌∙◌, ℕ, ◌+◌, ◌≤◌, List, [], ◌∷◌, ◌++◌, length, take, drop, refl, sym, ap, subst, append_assoc, append-nil, arith, Some, None, Option, Bool, true, false, Bor, Ok, Err, Result}
use Rattle.std.specs.Prelude.{nat_le}
use Rattle.std.specs.List.{flat_map}
use Rattle.std.specs.Io.KnownBytes.{Appends}
use Rattle.std.proofs.Math.Seq.{take-append-add}
use Rattle.std.proofs.lemmas.Bool.Decides.{nat_tests}
use Rattle.std.proofs.lemmas.List.{take-append-le, take_all, take-append-drop}
use Rattle.std.specs.Prelude.{codes, ◌/◌, ◌%◌, slice_index}
use Rattle.hex.specs.Hex.{encode_with, encode_lower, lower_digits}
use Rattle.percent_encoding.specs.Percent.{percent_encode_byte}
use Rattle.ct_base.specs.Bytes.{PutAppends}
use Rattle.ct_base.specs.Causes.{Rose, HasCause}
use Rattle.ct_script.specs.Texts.{line_of, data_text, escaped, escaped_byte}

pub appends_nil : (a : Option (List ℕ)) → Appends a a []
appends_nil None = tt
appends_nil (Some x) = sym (append-nil x)

pub appends_then : (a b d : Option (List ℕ)) (p q : List ℕ) → Appends a b p → Appends b d q → Appends a d (p ++ q)
appends_then None b d p q u v = tt
appends_then (Some x) None d p q u v = absurd u
appends_then (Some x) (Some y) None p q u v = absurd v
appends_then (Some x) (Some y) (Some z) p q u v = v ∙ ap (λ w. w ++ q) u ∙ append_assoc x p q

-- a prefix of a text is a prefix of what begins with it
front : (k : ℕ) (q rest : List ℕ) → (m : ℕ) × (take k q ≡ take m (q ++ rest))
front k q rest = at (nat_le k (length q)) refl
  where
    at : (b : Bool) → nat_le k (length q) ≡ b → (m : ℕ) × (take k q ≡ take m (q ++ rest))
    at true e = let fits : k ≤ length q = grind (arith, nat_tests) in (k, sym (take-append-le k q rest fits))
    at false e =
        let over : length q ≤ k = grind (arith, nat_tests) in
        (length q, take_all k q over ∙ sym (take_all (length q) q (omega arith)) ∙ sym (take-append-le (length q) q rest (omega arith)))

-- a fault in a text that follows others, with more to come
pub fault_after : (a b d : Option (List ℕ)) (p q rest : List ℕ) → Appends a b p → (k : ℕ) × Appends b d (take k q) → (m : ℕ) × Appends a d (take m (p ++ (q ++ rest)))
fault_after a b d p q rest u v =
    let f = front v.0 q rest in
    (length p + f.0, subst (Appends a d) (sym (take-append-add p (q ++ rest) f.0)) (appends_then a b d p (take f.0 (q ++ rest)) u (subst (Appends b d) f.1 v.1)))

-- a count that rose later rose
pub rose_after : (a b c : ℕ) → a ≤ b → Rose b c → Rose a c
rose_after a b c h r = omega (arith, h, r)

-- the cause of a fault in the last of two writes is one of both
pub cause_after : {T E : Type 0} (r : Result T E) (a b c : ℕ) → a ≤ b → HasCause b c r → HasCause a c r
cause_after (Ok x) a b c h cause = let later = cause.later in record { later = omega (arith, h, later); failed = tt }
cause_after (Err e) a b c h cause = let later = cause.later in record { later = omega (arith, h, later); failed = rose_after a b c h cause.failed }

pub whole_at : (parts : List (Bor (List ℕ))) (i : ℕ) (x : Bor (List ℕ)) → take (i + 1) parts ≡ take i parts ++ x ∷ [] →
    flat_map (λ part. part.now) parts ≡ flat_map (λ part. part.now) (take i parts) ++ (x.now ++ flat_map (λ part. part.now) (drop (i + 1) parts))
whole_at parts i x is =
    ap (flat_map (λ part. part.now)) (sym (take-append-drop (i + 1) parts) ∙ ap (λ ps. ps ++ drop (i + 1) parts) is)
    ∙ flat_append (take i parts ++ x ∷ []) (drop (i + 1) parts) ∙ ap (λ t. t ++ flat_map (λ part. part.now) (drop (i + 1) parts)) (flat_append (take i parts) (x ∷ []) ∙ ap (λ t. flat_map (λ part. part.now) (take i parts) ++ t) (append-nil x.now))
    ∙ append_assoc (flat_map (λ part. part.now) (take i parts)) x.now (flat_map (λ part. part.now) (drop (i + 1) parts))
  where
    flat_append : (ps qs : List (Bor (List ℕ))) → flat_map (λ part. part.now) (ps ++ qs) ≡ flat_map (λ part. part.now) ps ++ flat_map (λ part. part.now) qs
    flat_append [] qs = refl
    flat_append (p ∷ ps) qs = ap (λ t. p.now ++ t) (flat_append ps qs) ∙ sym (append_assoc p.now (flat_map (λ part. part.now) ps) (flat_map (λ part. part.now) qs))

-- a fault in the first of two texts
pub fault_first : (a d : Option (List ℕ)) (q rest : List ℕ) → (k : ℕ) × Appends a d (take k q) → (m : ℕ) × Appends a d (take m (q ++ rest))
fault_first a d q rest v = let f = front v.0 q rest in (f.0, subst (Appends a d) f.1 v.1)

-- digits of nothing, and of bytes that follow others
pub digits_nil : encode_lower [] ≡ []
unfolding encode_with
digits_nil = refl

pub digits_append : (xs ys : List ℕ) → encode_lower (xs ++ ys) ≡ encode_lower xs ++ encode_lower ys
unfolding encode_with
digits_append [] ys = refl
digits_append (x ∷ xs) ys = ap (λ t. slice_index lower_digits (x / 16) ∷ slice_index lower_digits (x % 16) ∷ t) (digits_append xs ys)

-- the line of bytes that were read, where there are some
pub data_line : (bytes : List ℕ) → 1 ≤ length bytes → line_of (data_text bytes) ≡ codes "data " ++ (encode_lower bytes ++ 10 ∷ [])
data_line [] h = absurd (omega (arith, h))
data_line (b ∷ bytes) h = append_assoc (codes "data ") (encode_lower (b ∷ bytes)) (10 ∷ [])

-- an escape has three bytes
pub escape_length : (b : ℕ) → length (percent_encode_byte b) ≡ 3
unfolding percent_encode_byte
escape_length b = omega arith

pub escaped_push : (xs : List ℕ) (b : ℕ) → escaped (xs ++ b ∷ []) ≡ escaped xs ++ escaped_byte b
escaped_push [] b = append-nil (escaped_byte b)
escaped_push (x ∷ xs) b = ap (λ t. escaped_byte x ++ t) (escaped_push xs b) ∙ sym (append_assoc (escaped_byte x) (escaped xs) (escaped_byte b))

-- a text that follows one that was written whole
pub put_second : {T E : Type 0} (r : Result T E) (a b d : Option (List ℕ)) (p q : List ℕ) → Appends a b p → PutAppends b d r q → PutAppends a d r (p ++ q)
put_second (Ok x) a b d p q u v = appends_then a b d p q u v
put_second (Err e) a b d p q u v = (length p + v.0, subst (Appends a d) (sym (take-append-add p q v.0)) (appends_then a b d p (take v.0 q) u v.1))
