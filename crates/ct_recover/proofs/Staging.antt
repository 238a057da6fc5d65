-- What clearing the staging slots leaves.
use Rattle.std.proofs.Common.{◌≡◌, ◌⊎◌, ℕ, ◌+◌, ◌-◌, replicate, ◌<◌, ◌≤◌, List, [], ◌∷◌, length, set, refl, sym, ◌∙◌, ap, subst, inl, inr, arith}
use Rattle.std.specs.Prelude.{slice_index}
use Rattle.std.proofs.lemmas.Bool.{cases_lt, cases_eq}
use Rattle.std.proofs.lemmas.List.{get_or-set_same, get_or-set_other, get_or-replicate, length-replicate}
use Rattle.ct_pm.specs.Device.{SameOff, IsIn, IsValueOf, Puts}
use Rattle.ct_base.specs.Settled.{Pair, with_pairs, open_pairs, cleared, settled, Named, IsShut}
use Rattle.ct_record.specs.Record.{InRecord, SettlesTo, IsStaging}
use Rattle.ct_image.proofs.Pairs.{length-with_pairs, with_pairs_alike, with_pairs_off}
use Rattle.ct_record.proofs.Settles.{cleared_in, length-settled, open_shut}

pub staging_named : (word : ℕ) → IsStaging word → Named cleared word
unfolding cleared
staging_named word is = inr (inr (elim (cases_eq word 16898) [
  | inl e ↦ inl e
  | inr a ↦ inr (elim (cases_eq word 16899) [
    | inl e ↦ inl e
    | inr b ↦ inr (elim (cases_eq word 16900) [
      | inl e ↦ inl e
      | inr c ↦ inr (elim (cases_eq word 16901) [
        | inl e ↦ inl e
        | inr d ↦ inr (elim (cases_eq word 16902) [ inl e ↦ inl e | inr f ↦ inr (elim (cases_eq word 16903) [ inl e ↦ inl e | inr g ↦ inr (elim (cases_eq word 16904) [ inl e ↦ inl e | inr h ↦ inr (inl (omega (arith, is.0, is.1))) ]) ]) ])
      ])
    ])
  ])
]))

-- pairs that all set 0
abbrev AllZero : List Pair → Type 0
AllZero [] = Unit {0}
AllZero (pair ∷ pairs) = (pair.value ≡ 0) × AllZero pairs

zero_named : (pairs : List Pair) (words : List ℕ) (word : ℕ) → AllZero pairs → word < length words → Named pairs word → slice_index (with_pairs pairs words) word ≡ 0
zero_named [] words word zero within named = absurd named
zero_named (pair ∷ pairs) words word zero within named = elim (cases_eq word pair.word) [
  | inl is ↦
      subst (λ (w : ℕ). slice_index (set (with_pairs pairs words) w pair.value) word ≡ 0) is
      (get_or-set_same (with_pairs pairs words) word pair.value 0 (omega (arith, length-with_pairs pairs words)) ∙ zero.0)
  | inr ne ↦
      get_or-set_other (with_pairs pairs words) pair.word word pair.value 0 ne
      ∙ zero_named pairs words word zero.1 within (elim named [ inl is ↦ absurd (ne is) | inr later ↦ later ])
]

all_zero : AllZero cleared
unfolding cleared
all_zero = (refl, (refl, (refl, (refl, (refl, (refl, (refl, (refl, (refl, (refl, tt))))))))))

-- the staging slots of a settled image are 0
pub settled_staging : (words : List ℕ) (word : ℕ) → IsStaging word → word < length words → slice_index (settled words) word ≡ 0
unfolding settled
settled_staging words word is within =
    zero_named cleared (with_pairs (open_pairs words) words) word all_zero (omega (arith, length-with_pairs (open_pairs words) words)) (staging_named word is)

-- no gate is one of them
pub shut_staged : (words image : List ℕ) → IsShut words → SameOff (IsIn 16898 8) image words → IsShut image
shut_staged words image shut same =
    (same.others 512 (λ is. omega (arith, is.0)) ∙ shut.0, same.others 527 (λ is. omega (arith, is.0)) ∙ shut.1)

-- they do not count
pub settles_staged : (words image : List ℕ) → IsShut words → SameOff (IsIn 16898 8) image words → SettlesTo words image
unfolding settled
settles_staged words image shut same =
    let shut_image : IsShut image = shut_staged words image shut same in
    let both : (word : ℕ) → slice_index (with_pairs cleared image) word ≡ slice_index (with_pairs cleared words) word =
    λ word. with_pairs_alike cleared image words word same.size (λ off. same.others word (λ is. off (staging_named word (is.0, omega (arith, is.1))))) in
    subst (λ (ps : List Pair). SameOff InRecord (with_pairs cleared (with_pairs ps image)) (with_pairs cleared (with_pairs (open_pairs words) words))) (sym (open_shut image shut_image))
    (subst (λ (ps : List Pair). SameOff InRecord (with_pairs cleared image) (with_pairs cleared (with_pairs ps words))) (sym (open_shut words shut)) (record {
      size = length-with_pairs cleared image ∙ same.size ∙ sym (length-with_pairs cleared words);
      others = λ word off. both word;
    }))

pub is_in_staging : (word : ℕ) → IsIn 16898 8 word ⊎ (IsIn 16898 8 word → ⊥)
is_in_staging word = elim (cases_lt word 16898) [
  | inl below ↦ inr (λ is. omega (arith, is.0))
  | inr from ↦ elim (cases_lt word 16906) [ inl within ↦ inl (from, within) | inr past ↦ inr (λ is. omega (arith, is.1)) ]
]

settled_off : (words : List ℕ) (word : ℕ) → (InRecord word → ⊥) → (IsStaging word → ⊥) → slice_index (settled words) word ≡ slice_index (with_pairs (open_pairs words) words) word
unfolding settled
settled_off words word outside off = with_pairs_off cleared (with_pairs (open_pairs words) words) word (λ named. elim (cleared_in word named) [ inl inside ↦ outside inside | inr staging ↦ off staging ])

-- the words at the end of a settling
pub settled_done : (words idle done : List ℕ) → 17408 ≤ length words → SameOff InRecord idle (with_pairs (open_pairs words) words) → ((word : ℕ) → IsStaging word → slice_index done word ≡ 0)
    → SameOff (IsIn 16898 8) done idle → SameOff InRecord done (settled words)
settled_done words idle done room replayed zero same = record {
  size = same.size ∙ replayed.size ∙ length-with_pairs (open_pairs words) words ∙ sym (length-settled words);
  others = λ word outside. elim (is_in_staging word) [
    | inl is ↦ zero word (is.0, omega (arith, is.1)) ∙ sym (settled_staging words word (is.0, omega (arith, is.1)) (omega (arith, is.1)))
    | inr off ↦ same.others word off ∙ replayed.others word outside ∙ sym (settled_off words word outside (λ staging. off (staging.0, omega (arith, staging.1))))
  ];
}

-- eight words of 0
pub zero_value : (word value : ℕ) → IsValueOf 16898 (replicate 8 0) word value → IsStaging word × (value ≡ 0)
zero_value word value is =
    let below : is.0 < 8 = omega (arith, is.1, length-replicate {A = ℕ} 8 0) in
    ((omega (arith, is.2), omega (arith, is.2)), is.3 ∙ get_or-replicate 8 is.0 0 0 below)

pub put_zero : (old new : List ℕ) → Puts 16898 (replicate 8 0) old new → (word : ℕ) → IsStaging word → slice_index new word ≡ 0
put_zero old new puts word is =
    let k = word - 16898 in
    let here : 16898 + k ≡ word = omega (arith, is.0) in
    ap (slice_index new) (sym here) ∙ puts.put k (omega (arith, is.0, is.1, length-replicate {A = ℕ} 8 0)) ∙ get_or-replicate 8 k 0 0 (omega (arith, is.0, is.1))
