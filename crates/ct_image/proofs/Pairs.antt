-- Pairs in a list of words, and the words once they are applied.
use Rattle.std.proofs.Common.{◌≡◌, ◌≢◌, ◌⊎◌, ℕ, ◌+◌, ◌*◌, ◌<◌, ◌≤◌, zero, suc, List, [], ◌∷◌, length, set, refl, sym, ◌∙◌, ap, ap₂, subst, inl, inr, arith}
use Rattle.std.specs.Prelude.{slice_index}
use Rattle.std.proofs.lemmas.Bool.{cases_lt, cases_eq}
use Rattle.std.proofs.lemmas.List.{get_or-set_same, get_or-set_other, get_or_past, ext_get_or}
use Rattle.std.proofs.Math.ListN.{length-set}
use Rattle.ct_base.specs.Settled.{Pair, with_pairs, pairs_at, IsTarget, HaveTargets}
use Rattle.ct_base.specs.Settled.{Named, Gives}

pub length-with_pairs : (pairs : List Pair) (words : List ℕ) → length (with_pairs pairs words) ≡ length words
length-with_pairs [] words = refl
length-with_pairs (pair ∷ pairs) words = length-set (with_pairs pairs words) pair.word pair.value ∙ length-with_pairs pairs words

pub is_named : (pairs : List Pair) (word : ℕ) → Named pairs word ⊎ (Named pairs word → ⊥)
is_named [] word = inr (λ none. none)
is_named (pair ∷ pairs) word = elim (cases_eq word pair.word) [
  | inl is ↦ inl (inl is)
  | inr ne ↦ elim (is_named pairs word) [
    | inl named ↦ inl (inr named)
    | inr off ↦ inr (λ named. elim named [ inl is ↦ ne is | inr later ↦ off later ])
  ]
]

-- where the pairs do not name a word, it stays
pub with_pairs_off : (pairs : List Pair) (words : List ℕ) (word : ℕ) → (Named pairs word → ⊥) → slice_index (with_pairs pairs words) word ≡ slice_index words word
with_pairs_off [] words word off = refl
with_pairs_off (pair ∷ pairs) words word off =
    get_or-set_other (with_pairs pairs words) pair.word word pair.value 0 (λ is. off (inl is)) ∙ with_pairs_off pairs words word (λ named. off (inr named))

set_alike : (a b : List ℕ) (at value word : ℕ) → length a ≡ length b → (word ≢ at → slice_index a word ≡ slice_index b word) → slice_index (set a at value) word ≡ slice_index (set b at value) word
set_alike a b at value word size same = elim (cases_eq word at) [
  | inl is ↦ elim (cases_lt word (length a)) [
    | inl within ↦
        subst (λ (w : ℕ). slice_index (set a at value) w ≡ slice_index (set b at value) w) (sym is)
        (get_or-set_same a at value 0 (omega arith) ∙ sym (get_or-set_same b at value 0 (omega arith)))
    | inr past ↦
        get_or_past (set a at value) word 0 (omega (arith, length-set a at value)) ∙ sym (get_or_past (set b at value) word 0 (omega (arith, length-set b at value)))
  ]
  | inr ne ↦ get_or-set_other a at word value 0 ne ∙ same ne ∙ sym (get_or-set_other b at word value 0 ne)
]

-- lists that agree where no pair names the word agree after the pairs
pub with_pairs_alike : (pairs : List Pair) (a b : List ℕ) (word : ℕ) → length a ≡ length b → ((Named pairs word → ⊥) → slice_index a word ≡ slice_index b word)
    → slice_index (with_pairs pairs a) word ≡ slice_index (with_pairs pairs b) word
with_pairs_alike [] a b word size same = same (λ none. none)
with_pairs_alike (pair ∷ pairs) a b word size same =
    set_alike (with_pairs pairs a) (with_pairs pairs b) pair.word pair.value word (length-with_pairs pairs a ∙ size ∙ sym (length-with_pairs pairs b))
    (λ ne. with_pairs_alike pairs a b word size (λ off. same (λ named. elim named [ inl is ↦ ne is | inr later ↦ off later ])))

-- applying once more changes nothing
pub with_pairs_twice : (pairs : List Pair) (words : List ℕ) → with_pairs pairs (with_pairs pairs words) ≡ with_pairs pairs words
with_pairs_twice pairs words =
    ext_get_or 0 _ _ (length-with_pairs pairs (with_pairs pairs words)) (λ word within.
    with_pairs_alike pairs (with_pairs pairs words) words word (length-with_pairs pairs words) (λ off. with_pairs_off pairs words word off))

-- pairs that stand in the same words are the same
pub pairs_at_alike : (from n : ℕ) (a b : List ℕ) → ((word : ℕ) → from ≤ word → word < from + 2 * n → slice_index a word ≡ slice_index b word) → pairs_at from n a ≡ pairs_at from n b
pairs_at_alike from zero a b same = refl
pairs_at_alike from (suc n) a b same =
    ap₂ (λ (p : Pair) (ps : List Pair). p ∷ ps)
    (ap₂ (λ (w v : ℕ). record { word = w; value = v }) (same (from + 2 * n) (omega arith) (omega arith)) (same (from + 2 * n + 1) (omega arith) (omega arith)))
    (pairs_at_alike from n a b (λ word low high. same word low (omega arith)))

-- what a pair names is one of the words where the pairs stand
pub named_at : (from n : ℕ) (words : List ℕ) (word : ℕ) → Named (pairs_at from n words) word → (k : ℕ) × (k < n) × (word ≡ slice_index words (from + 2 * k))
named_at from zero words word none = absurd none
named_at from (suc n) words word (inl is) = (n, omega arith, is)
named_at from (suc n) words word (inr later) = let at = named_at from n words word later in (at.0, omega (arith, at.1), at.2)

pub named_target : (from n : ℕ) (words : List ℕ) (word : ℕ) → HaveTargets from n words → Named (pairs_at from n words) word → IsTarget words word
named_target from n words word targets named = let at = named_at from n words word named in subst (IsTarget words) (sym at.2) (targets at.0 at.1)

-- the newest of the pairs decides, where it names the word
pub newest_names : (from n left : ℕ) (words : List ℕ) (word : ℕ) → left ≡ suc n → slice_index words (from + 2 * n) ≡ word → word < length words
    → slice_index (with_pairs (pairs_at from left words) words) word ≡ slice_index words (from + 2 * n + 1)
newest_names from n left words word is names within =
    let pairs = pairs_at from n words in
    ap (λ (l : ℕ). slice_index (with_pairs (pairs_at from l words) words) word) is
    ∙ subst (λ (w : ℕ). slice_index (set (with_pairs pairs words) (slice_index words (from + 2 * n)) (slice_index words (from + 2 * n + 1))) w ≡ slice_index words (from + 2 * n + 1)) names
    (get_or-set_same (with_pairs pairs words) (slice_index words (from + 2 * n)) (slice_index words (from + 2 * n + 1)) 0 (omega (arith, length-with_pairs pairs words)))

pub newest_other : (from n left : ℕ) (words : List ℕ) (word : ℕ) → left ≡ suc n → slice_index words (from + 2 * n) ≢ word
    → slice_index (with_pairs (pairs_at from left words) words) word ≡ slice_index (with_pairs (pairs_at from n words) words) word
newest_other from n left words word is ne =
    ap (λ (l : ℕ). slice_index (with_pairs (pairs_at from l words) words) word) is
    ∙ get_or-set_other (with_pairs (pairs_at from n words) words) (slice_index words (from + 2 * n)) word (slice_index words (from + 2 * n + 1)) 0 (λ e. ne (sym e))

-- a pair among the n names its word
pub named_here : (from n i : ℕ) (words : List ℕ) → i < n → Named (pairs_at from n words) (slice_index words (from + 2 * i))
named_here from zero i words within = absurd (omega arith)
named_here from (suc n) i words within = elim (cases_eq i n) [
  | inl is ↦ inl (ap (λ (k : ℕ). slice_index words (from + 2 * k)) is)
  | inr ne ↦ inr (named_here from n i words (omega arith))
]

pub gives_here : (from n i : ℕ) (words : List ℕ) → i < n → Gives (pairs_at from n words) (slice_index words (from + 2 * i)) (slice_index words (from + 2 * i + 1))
gives_here from zero i words within = absurd (omega arith)
gives_here from (suc n) i words within = elim (cases_eq i n) [
  | inl is ↦ inl (ap (λ (k : ℕ). slice_index words (from + 2 * k)) is, ap (λ (k : ℕ). slice_index words (from + 2 * k + 1)) is)
  | inr ne ↦ inr (gives_here from n i words (omega arith))
]

pub named_more : (from n i : ℕ) (words : List ℕ) (word : ℕ) → i ≤ n → Named (pairs_at from i words) word → Named (pairs_at from n words) word
named_more from n i words word within named =
    let at = named_at from i words word named in
    subst (Named (pairs_at from n words)) (sym at.2) (named_here from n at.0 words (omega (arith, at.1)))
