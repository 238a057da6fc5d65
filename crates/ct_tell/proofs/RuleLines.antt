-- The lines of rules, one after another.
use Rattle.std.proofs.Common.{◌≡◌, ◌∙◌, ℕ, zero, suc, ◌+◌, ◌-◌, ◌<◌, List, [], ◌++◌, take, Option, refl, sym, ap, subst, append_assoc, append-nil, arith}
use Rattle.std.specs.Io.KnownBytes.{Appends}
use Rattle.ct_script.proofs.Puts.{appends_nil, appends_then, fault_after}
use Rattle.ct_tell.specs.Rules.{all_rules, rule_line, rule_lines}

-- some, and those that follow
lines_then : (from n m : ℕ) → rule_lines from (n + m) ≡ rule_lines from n ++ rule_lines (from + n) m
unfolding rule_lines
lines_then from zero m = ap (λ k. rule_lines from k) (omega arith) ∙ ap (λ k. rule_lines k m) (omega arith)
lines_then from (suc n) m =
    let one : suc n + m ≡ suc (n + m) = omega arith in
    let on : from + 1 + n ≡ from + suc n = omega arith in
    ap (rule_lines from) one ∙ ap (λ t. rule_line from ++ t) (lines_then (from + 1) n m ∙ ap (λ k. rule_lines (from + 1) n ++ rule_lines k m) on)
    ∙ sym (append_assoc (rule_line from) (rule_lines (from + 1) n) (rule_lines (from + suc n) m))

one_line : (from : ℕ) → rule_lines from 1 ≡ rule_line from
unfolding rule_lines
one_line from = append-nil (rule_line from)

first_line : (from n : ℕ) → rule_lines from (suc n) ≡ rule_line from ++ rule_lines (from + 1) n
unfolding rule_lines
first_line from n = refl

no_line : (from : ℕ) → rule_lines from 0 ≡ []
unfolding rule_lines
no_line from = refl

pub lines_none : (old : Option (List ℕ)) → Appends old old (rule_lines 0 0)
lines_none old = subst (Appends old old) (sym (no_line 0)) (appends_nil old)

-- one more was written
pub lines_more : (old mid new : Option (List ℕ)) (n : ℕ) → Appends old mid (rule_lines 0 n) → Appends mid new (rule_line n) → Appends old new (rule_lines 0 (n + 1))
lines_more old mid new n before put =
    subst (Appends old new) (sym (lines_then 0 n 1 ∙ ap (λ t. rule_lines 0 n ++ t) (ap (λ k. rule_lines k 1) (omega arith) ∙ one_line n)))
    (appends_then old mid new (rule_lines 0 n) (rule_line n) before put)

-- or a part of it
pub lines_torn : (old mid new : Option (List ℕ)) (n : ℕ) → n < 21 → Appends old mid (rule_lines 0 n) → (k : ℕ) × Appends mid new (take k (rule_line n)) → (m : ℕ) × Appends old new (take m all_rules)
lines_torn old mid new n less before put =
    let more : ℕ = 20 - n in
    let all : 21 ≡ n + suc more = omega (arith, less) in
    let split : all_rules ≡ rule_lines 0 n ++ (rule_line n ++ rule_lines (n + 1) more) =
    ap (rule_lines 0) all ∙ lines_then 0 n (suc more) ∙ ap (λ t. rule_lines 0 n ++ t) (ap (λ k. rule_lines k (suc more)) (omega arith) ∙ first_line n more) in
    subst (λ t. (m : ℕ) × Appends old new (take m t)) (sym split) (fault_after old mid new (rule_lines 0 n) (rule_line n) (rule_lines (n + 1) more) before put)
