-- Work that stores some words alone, one stretch after another.
use Rattle.std.proofs.Common.{◌≡◌, ◌∙◌, ◌⊎◌, ℕ, ◌+◌, ◌-◌, ◌*◌, ◌/◌, ◌<◌, ◌≤◌, zero, suc, List, [], ◌∷◌, length, length-take, length-drop, take, drop, Option, Result, Ok, Err, refl, sym, ap, subst, inl, inr, arith}
use Rattle.std.specs.Prelude.{OnOk, OnErr, slice_index}
use Rattle.std.proofs.lemmas.Bool.{cases_lt}
use Rattle.std.proofs.lemmas.List.{get_or-take}
use Rattle.std.proofs.lemmas.Grind.{get_or_after_one}
use Rattle.ct_pm.specs.Images.{History}
use Rattle.ct_pm.specs.Device.{MakesOnly, QuietOff, SameOff, IsIn, IsValueOf, Puts, MayPut, WrittenBack}
use Rattle.ct_pm.proofs.Made.{makes_then, makes_weaker}
use Rattle.ct_pm.proofs.Quiet.{quiet_here, quiet_then}
use Rattle.ct_format.specs.Formatting.{IsGate, Lays, Laid}

-- whether a word is one of those
abbrev pub Decided : (ℕ → Type 0) → Type 0
Decided Moved = (w : ℕ) → Moved w ⊎ (Moved w → ⊥)

pub in_decided : (first n : ℕ) → Decided (IsIn first n)
in_decided first n w = elim (cases_lt w first) [
  | inl below ↦ inr (λ is. omega (arith, is.0))
  | inr from ↦ elim (cases_lt w (first + n)) [ inl within ↦ inl (from, within) | inr past ↦ inr (λ is. omega (arith, is.1)) ]
]

pub same_wider : {Moved More : ℕ → Type 0} {a b : List ℕ} → ((w : ℕ) → Moved w → More w) → SameOff Moved a b → SameOff More a b
same_wider within same = record { size = same.size; others = λ w off. same.others w (λ moved. off (within w moved)) }

pub same_then : {Moved : ℕ → Type 0} {a b c : List ℕ} → SameOff Moved b a → SameOff Moved c b → SameOff Moved c a
same_then first second = record { size = second.size ∙ first.size; others = λ w off. second.others w off ∙ first.others w off }

pub lays_wider : {Moved More : ℕ → Type 0} {was words : List ℕ} {old new : Option History} → ((w : ℕ) → Moved w → More w) → Lays Moved was words old new → Lays More was words old new
lays_wider {More = More} {old = old} within a = record {
  same = same_wider within a.same;
  quiet = quiet_then More within (quiet_here More old) a.quiet;
  made = makes_weaker (λ at put. More at) (λ at put. within at) a.made;
}

pub laid_narrower : {Moved Less : ℕ → Type 0} {values : ℕ → ℕ} {words : List ℕ} {old new : Option History} → ((w : ℕ) → Less w → Moved w) → Laid Moved values words old new → Laid Less values words old new
laid_narrower within a = record { put = λ w is. a.put w (within w is); back = λ w is. a.back w (within w is); still = a.still }

-- one stretch after another
pub lays_then : {Moved First More : ℕ → Type 0} {was mid words : List ℕ} {old told new : Option History} → ((w : ℕ) → First w → Moved w) → ((w : ℕ) → More w → Moved w) →
    Lays First was mid old told → Lays More mid words told new → Lays Moved was words old new
lays_then {Moved = Moved} {was = was} {old = old} first more a b = record {
  same = same_then (same_wider first a.same) (same_wider more b.same);
  quiet = quiet_then Moved more (quiet_then Moved first (quiet_here Moved old) a.quiet) b.quiet;
  made = makes_then (makes_weaker (λ at put. Moved at) (λ at put. first at) a.made) (makes_weaker (λ at put. Moved at) (λ at put. more at) b.made);
}

-- what was laid stays, and is written back
pub laid_then : {First More : ℕ → Type 0} {values : ℕ → ℕ} {mid words : List ℕ} {old told new : Option History} → Decided More →
    Laid First values mid old told → Lays More mid words told new → Laid More values words told new → Laid (λ w. First w ⊎ More w) values words old new
laid_then {First = First} {More = More} {values = values} {words = words} {new = new} decided a lays b = record {
  put = λ w moved. elim (decided w) [ inl more ↦ b.put w more | inr off ↦ kept w off moved ];
  back = λ w moved. elim (decided w) [ inl more ↦ b.back w more | inr off ↦ back w off moved ];
  still = λ line back. b.still line (a.still line back);
}
  where
    kept : (w : ℕ) → (More w → ⊥) → First w ⊎ More w → slice_index words w ≡ values w
    kept w off (inl is) = lays.same.others w off ∙ a.put w is
    kept w off (inr is) = absurd (off is)

    back : (w : ℕ) → (More w → ⊥) → First w ⊎ More w → WrittenBack new (w / 8)
    back w off (inl is) = b.still (w / 8) (a.back w is)
    back w off (inr is) = absurd (off is)

-- one run of words
module _ (first : ℕ) (values : List ℕ) (was words : List ℕ) (old new : Option History) where
  run_same : {T E : Type 0} (r : Result T E) → OnOk r (Puts first values was words) → OnErr r (MayPut first values was words) → SameOff (IsIn first (length values)) words was
  run_same (Ok done) put may = put.same
  run_same (Err error) put may = may.same

  run_made : MakesOnly (IsValueOf first values) old new → MakesOnly (λ at put. IsIn first (length values) at) old new
  run_made made = makes_weaker (λ at put. IsIn first (length values) at) (λ at put is. (omega (arith, is.1, is.2), omega (arith, is.1, is.2))) made

  pub run_lays : {T E : Type 0} (r : Result T E) → OnOk r (Puts first values was words) → OnErr r (MayPut first values was words) → QuietOff (IsIn first (length values)) old new → MakesOnly (IsValueOf first values) old new →
      Lays (IsIn first (length values)) was words old new
  run_lays r put may quiet made = record { same = run_same r put may; quiet = quiet; made = run_made made }

  pub laid_run : (wanted : ℕ → ℕ) → ((k : ℕ) → k < length values → slice_index values k ≡ wanted (first + k)) → Puts first values was words →
      ((w : ℕ) → IsIn first (length values) w → WrittenBack new (w / 8)) → ((line : ℕ) → WrittenBack old line → WrittenBack new line) → Laid (IsIn first (length values)) wanted words old new
  laid_run wanted are put back still = record {
    put = λ w is.
        let k = w - first in
        let at : first + k ≡ w = omega (arith, is.0) in
        let lt : k < length values = omega (arith, is.0, is.1) in
        ap (slice_index words) (sym at) ∙ put.put k lt ∙ are k lt ∙ ap wanted at;
    back = back;
    still = still;
  }

  run_laid : {T E : Type 0} (wanted : ℕ → ℕ) (r : Result T E) → ((k : ℕ) → k < length values → slice_index values k ≡ wanted (first + k)) → OnOk r (Puts first values was words) →
      OnOk r ((w : ℕ) → IsIn first (length values) w → WrittenBack new (w / 8)) → OnOk r ((line : ℕ) → WrittenBack old line → WrittenBack new line) → OnOk r (Laid (IsIn first (length values)) wanted words old new)
  run_laid wanted (Ok done) are put back still = laid_run wanted are put back still
  run_laid wanted (Err error) are put back still = tt

-- the same of n words
module _ (first n : ℕ) (values : List ℕ) (size : length values ≡ n) (was words : List ℕ) (old new : Option History) where
  pub part_lays : {T E : Type 0} (r : Result T E) → OnOk r (Puts first values was words) → OnErr r (MayPut first values was words) → QuietOff (IsIn first (length values)) old new → MakesOnly (IsValueOf first values) old new →
      Lays (IsIn first n) was words old new
  part_lays r put may quiet made = subst (λ m. Lays (IsIn first m) was words old new) size (run_lays first values was words old new r put may quiet made)

  pub part_laid : {T E : Type 0} (wanted : ℕ → ℕ) (r : Result T E) → ((k : ℕ) → k < length values → slice_index values k ≡ wanted (first + k)) → OnOk r (Puts first values was words) →
      OnOk r ((w : ℕ) → IsIn first (length values) w → WrittenBack new (w / 8)) → OnOk r ((line : ℕ) → WrittenBack old line → WrittenBack new line) → OnOk r (Laid (IsIn first n) wanted words old new)
  part_laid wanted r are put back still = subst (λ m. OnOk r (Laid (IsIn first m) wanted words old new)) size (run_laid first values was words old new wanted r are put back still)

-- a page but for its first word
pub length-cut : (words : List ℕ) → length words ≡ 512 → length (take 511 (drop 1 words)) ≡ 511
length-cut words size = omega (arith, length-take 511 (drop 1 words), length-drop 1 words, size)

pub at_cut : (words : List ℕ) (k : ℕ) → k < 511 → slice_index (take 511 (drop 1 words)) k ≡ slice_index words (1 + k)
at_cut words k lt = get_or-take 511 (drop 1 words) k 0 lt ∙ get_or_after_one words k 0

-- both gates
pub gates_lay : {was mid words : List ℕ} {old told new : Option History} → Lays (IsIn 512 1) was mid old told → Lays (IsIn 527 1) mid words told new → Lays IsGate was words old new
gates_lay a b = lays_then (λ w is. inl (omega (arith, is.0, is.1))) (λ w is. inr (omega (arith, is.0, is.1))) a b

gate_part : (w : ℕ) → IsGate w → IsIn 512 1 w ⊎ IsIn 527 1 w
gate_part w (inl is) = inl (omega (arith, is), omega (arith, is))
gate_part w (inr is) = inr (omega (arith, is), omega (arith, is))

pub gates_laid : {T E : Type 0} {mid words : List ℕ} {old told new : Option History} (r : Result T E) → Laid (IsIn 512 1) (λ w. 0) mid old told → Lays (IsIn 527 1) mid words told new →
    OnOk r (Laid (IsIn 527 1) (λ w. 0) words told new) → OnOk r (Laid IsGate (λ w. 0) words old new)
gates_laid (Ok done) a lays b = laid_narrower gate_part (laid_then (in_decided 527 1) a lays b)
gates_laid (Err error) a lays b = tt

-- one page more of the tables
pub page_lays : {was mid words : List ℕ} {old told new : Option History} {page : ℕ} → 33 ≤ page → Lays (IsIn 16896 (page * 512 - 16896)) was mid old told → Lays (IsIn (page * 512) 512) mid words told new →
    Lays (IsIn 16896 ((page + 1) * 512 - 16896)) was words old new
page_lays low a b = lays_then (λ w is. (omega (arith, is.0), omega (arith, is.1))) (λ w is. (omega (arith, is.0), omega (arith, is.1))) a b

page_part : (page w : ℕ) → IsIn 16896 ((page + 1) * 512 - 16896) w → IsIn 16896 (page * 512 - 16896) w ⊎ IsIn (page * 512) 512 w
page_part page w is = elim (cases_lt w (page * 512)) [ inl below ↦ inl (is.0, omega (arith, is.0, below)) | inr from ↦ inr (from, omega (arith, is.0, is.1)) ]

pub page_laid : {mid words : List ℕ} {old told new : Option History} {values : ℕ → ℕ} (page : ℕ) → Laid (IsIn 16896 (page * 512 - 16896)) values mid old told → Lays (IsIn (page * 512) 512) mid words told new →
    Laid (IsIn (page * 512) 512) values words told new → Laid (IsIn 16896 ((page + 1) * 512 - 16896)) values words old new
page_laid page a lays b = laid_narrower (page_part page) (laid_then (in_decided (page * 512) 512) a lays b)

pub one_gate : (w : ℕ) → IsIn 512 1 w → IsGate w
one_gate w is = inl (omega (arith, is.0, is.1))

pub only_zero : (k : ℕ) → k < 1 → slice_index (0 ∷ []) k ≡ 0
only_zero zero lt = refl
only_zero (suc k) lt = absurd (omega (arith, lt))

-- a whole page
pub laid_page : (first : ℕ) (values : List ℕ) → length values ≡ 512 → (was words : List ℕ) (old new : Option History) (wanted : ℕ → ℕ) → ((k : ℕ) → k < 512 → slice_index values k ≡ wanted (first + k)) → Puts first values was words →
    ((w : ℕ) → IsIn first (length values) w → WrittenBack new (w / 8)) → ((line : ℕ) → WrittenBack old line → WrittenBack new line) → Laid (IsIn first 512) wanted words old new
laid_page first values size was words old new wanted are put back still =
    subst (λ m. Laid (IsIn first m) wanted words old new) size (laid_run first values was words old new wanted (λ k lt. are k (omega (arith, lt, size))) put back still)
