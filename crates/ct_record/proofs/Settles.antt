-- What an image settles to.
use Rattle.std.proofs.Common.{◌≡◌, ◌⊎◌, ℕ, ◌≤◌, zero, suc, List, [], length, refl, sym, ◌∙◌, ap₂, subst, inl, inr, arith}
use Rattle.std.specs.Prelude.{slice_index}
use Rattle.ct_pm.specs.Device.{SameOff}
use Rattle.ct_base.specs.Settled.{Pair, with_pairs, pairs_behind, open_pairs, cleared, settled, IsTarget, HaveTargets, IsShut, IsRecord}
use Rattle.ct_record.specs.Record.{InRecord, SettlesTo, Stand, IsStaging}
use Rattle.ct_base.specs.Settled.{Named}
use Rattle.ct_image.proofs.Pairs.{length-with_pairs, with_pairs_off, with_pairs_alike, pairs_at_alike, named_target}

pub same_refl : {Moved : ℕ → Type 0} (a : List ℕ) → SameOff Moved a a
same_refl a = record { size = refl; others = λ word off. refl }

pub same_sym : {Moved : ℕ → Type 0} {a b : List ℕ} → SameOff Moved a b → SameOff Moved b a
same_sym same = record { size = sym same.size; others = λ word off. sym (same.others word off) }

pub same_then : {Moved : ℕ → Type 0} {a b c : List ℕ} → SameOff Moved a b → SameOff Moved b c → SameOff Moved a c
same_then one two = record { size = one.size ∙ two.size; others = λ word off. one.others word off ∙ two.others word off }

pub same_wider : {Moved More : ℕ → Type 0} {a b : List ℕ} → ((word : ℕ) → Moved word → More word) → SameOff Moved a b → SameOff More a b
same_wider within same = record { size = same.size; others = λ word off. same.others word (λ moved. off (within word moved)) }

-- an open record
behind_alike : (long short : ℕ) (a b : List ℕ) → long ≤ 8184 → short ≤ 3 → ((word : ℕ) → InRecord word → slice_index a word ≡ slice_index b word) → pairs_behind long short a ≡ pairs_behind long short b
behind_alike zero short a b few small same = pairs_at_alike 520 short a b (λ word low high. same word (omega arith, omega arith))
behind_alike (suc n) short a b few small same = pairs_at_alike 528 (suc n) a b (λ word low high. same word (omega arith, omega arith))

pub open_alike : (a b : List ℕ) → IsRecord b → ((word : ℕ) → InRecord word → slice_index a word ≡ slice_index b word) → open_pairs a ≡ open_pairs b
open_alike a b is same =
    ap₂ (λ (l s : ℕ). pairs_behind l s a) (same 512 (omega arith, omega arith)) (same 527 (omega arith, omega arith))
    ∙ behind_alike (slice_index b 512) (slice_index b 527) a b is.long is.short same

pub open_shut : (words : List ℕ) → IsShut words → open_pairs words ≡ []
open_shut words shut = ap₂ (λ (l s : ℕ). pairs_behind l s words) shut.0 shut.1

behind_target : (long short : ℕ) (words : List ℕ) (word : ℕ) → HaveTargets 528 long words → HaveTargets 520 short words → Named (pairs_behind long short words) word → IsTarget words word
behind_target zero short words word longs shorts named = named_target 520 short words word shorts named
behind_target (suc n) short words word longs shorts named = named_target 528 (suc n) words word longs named

pub open_target : (words : List ℕ) (word : ℕ) → IsRecord words → Named (open_pairs words) word → IsTarget words word
open_target words word is named = behind_target (slice_index words 512) (slice_index words 527) words word is.long_targets is.short_targets named

-- pairs leave what they do not name
pub pairs_same : (pairs : List Pair) (words : List ℕ) → SameOff (Named pairs) (with_pairs pairs words) words
pairs_same pairs words = record { size = length-with_pairs pairs words; others = λ word off. with_pairs_off pairs words word off }

pub applied_alike : (pairs : List Pair) (a b : List ℕ) → SameOff (λ word. InRecord word ⊎ Named pairs word) a b → SameOff InRecord (with_pairs pairs a) (with_pairs pairs b)
applied_alike pairs a b same = record {
  size = length-with_pairs pairs a ∙ same.size ∙ sym (length-with_pairs pairs b);
  others = λ word off. with_pairs_alike pairs a b word same.size (λ unnamed. same.others word (λ is. elim is [ inl inside ↦ off inside | inr named ↦ unnamed named ]));
}

pub length-settled : (words : List ℕ) → length (settled words) ≡ length words
unfolding settled
length-settled words = length-with_pairs cleared (with_pairs (open_pairs words) words) ∙ length-with_pairs (open_pairs words) words

-- an image settles as its applied pairs do
pub settles_by : (image words : List ℕ) → SameOff InRecord (with_pairs (open_pairs image) image) (with_pairs (open_pairs words) words) → SettlesTo words image
unfolding settled
settles_by image words same = record {
  size = length-with_pairs cleared (with_pairs (open_pairs image) image) ∙ same.size ∙ sym (length-with_pairs cleared (with_pairs (open_pairs words) words));
  others = λ word off.
      with_pairs_alike cleared (with_pairs (open_pairs image) image) (with_pairs (open_pairs words) words) word same.size (λ unclear. same.others word off);
}

-- both closed
pub settles_shut : (image words : List ℕ) → IsShut image → IsShut words → SameOff InRecord image words → SettlesTo words image
settles_shut image words shut_image shut_words same =
    settles_by image words (subst (λ (ps : List Pair). SameOff InRecord (with_pairs ps image) (with_pairs (open_pairs words) words)) (sym (open_shut image shut_image))
    (subst (λ (ps : List Pair). SameOff InRecord image (with_pairs ps words)) (sym (open_shut words shut_words)) same))

-- the same record open in both
pub settles_open : (image words : List ℕ) → open_pairs image ≡ open_pairs words → SameOff (λ word. InRecord word ⊎ Named (open_pairs words) word) image words → SettlesTo words image
settles_open image words is same =
    settles_by image words (subst (λ (ps : List Pair). SameOff InRecord (with_pairs ps image) (with_pairs (open_pairs words) words)) (sym is) (applied_alike (open_pairs words) image words same))

-- open in the image, applied in the words
pub settles_applied : (image words : List ℕ) (pairs : List Pair) → open_pairs image ≡ pairs → IsShut (with_pairs pairs words) → SameOff (λ word. InRecord word ⊎ Named pairs word) image words → SettlesTo (with_pairs pairs words) image
settles_applied image words pairs is shut same =
    settles_by image (with_pairs pairs words)
    (subst (λ (ps : List Pair). SameOff InRecord (with_pairs ps image) (with_pairs (open_pairs (with_pairs pairs words)) (with_pairs pairs words))) (sym is)
    (subst (λ (ps : List Pair). SameOff InRecord (with_pairs pairs image) (with_pairs ps (with_pairs pairs words))) (sym (open_shut (with_pairs pairs words) shut)) (applied_alike pairs image words same)))

-- closed in the image, open and applied in the words
pub settles_stands : (image words : List ℕ) → IsShut image → Stand words → SameOff InRecord image words → SettlesTo words image
settles_stands image words shut stand same =
    settles_by image words (subst (λ (ps : List Pair). SameOff InRecord (with_pairs ps image) (with_pairs (open_pairs words) words)) (sym (open_shut image shut))
    (subst (SameOff InRecord image) (sym stand) same))

-- while a record is applied, what it has named may have moved
pub settles_moved : (image words : List ℕ) → IsRecord words → SameOff (Named (open_pairs words)) image words → SettlesTo words image
settles_moved image words is same =
    settles_open image words
    (open_alike image words is (λ word inside. same.others word (λ named. let target = open_target words word is named in omega (arith, inside.1, target.0))))
    (same_wider (λ word named. inr named) same)

-- what is cleared is a gate or a staging slot
pub cleared_in : (word : ℕ) → Named cleared word → InRecord word ⊎ IsStaging word
unfolding cleared
cleared_in word named = elim named [
  | inl e ↦ inl (omega arith, omega arith)
  | inr n1 ↦ elim n1 [
    | inl e ↦ inl (omega arith, omega arith)
    | inr n2 ↦ elim n2 [
      | inl e ↦ inr (omega arith, omega arith)
      | inr n3 ↦ elim n3 [
        | inl e ↦ inr (omega arith, omega arith)
        | inr n4 ↦ elim n4 [
          | inl e ↦ inr (omega arith, omega arith)
          | inr n5 ↦ elim n5 [
            | inl e ↦ inr (omega arith, omega arith)
            | inr n6 ↦ elim n6 [
              | inl e ↦ inr (omega arith, omega arith)
              | inr n7 ↦ elim n7 [
                | inl e ↦ inr (omega arith, omega arith)
                | inr n8 ↦ elim n8 [ inl e ↦ inr (omega arith, omega arith) | inr n9 ↦ elim n9 [ inl e ↦ inr (omega arith, omega arith) | inr none ↦ absurd none ] ]
              ]
            ]
          ]
        ]
      ]
    ]
  ]
]

cleared_off : (word : ℕ) → 16896 ≤ word → (IsStaging word → ⊥) → Named cleared word → ⊥
cleared_off word from off named = elim (cleared_in word named) [ inl inside ↦ omega (arith, inside.1) | inr staging ↦ off staging ]

-- off the staging slots the settled image is the one with its pairs applied
pub settled_reads : (words : List ℕ) (word : ℕ) → 16896 ≤ word → (IsStaging word → ⊥) → slice_index (settled words) word ≡ slice_index (with_pairs (open_pairs words) words) word
unfolding settled
settled_reads words word from off = with_pairs_off cleared (with_pairs (open_pairs words) words) word (cleared_off word from off)

pub as_settled : (words new : List ℕ) → SameOff InRecord new (with_pairs (open_pairs words) words) → (word : ℕ) → 16896 ≤ word → (IsStaging word → ⊥) → slice_index new word ≡ slice_index (settled words) word
as_settled words new same word from off = same.others word (λ inside. omega (arith, inside.1)) ∙ sym (settled_reads words word from off)

pub as_settled_shut : (words : List ℕ) → IsShut words → (word : ℕ) → 16896 ≤ word → (IsStaging word → ⊥) → slice_index words word ≡ slice_index (settled words) word
as_settled_shut words shut word from off =
    as_settled words words (subst (λ (ps : List Pair). SameOff InRecord words (with_pairs ps words)) (sym (open_shut words shut)) (same_refl words)) word from off
