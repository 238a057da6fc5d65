-- A buffer of entries that is filled from its front.
use Rattle.std.proofs.Common.{◌≡◌, ◌≢◌, ◌∙◌, ℕ, ◌+◌, ◌<◌, ◌≤◌, List, Some, length, set, refl, sym, ap, inl, inr, arith}
use Rattle.std.specs.Prelude.{slice_get}
use Rattle.std.specs.Option.{option_map}
use Rattle.std.proofs.Math.ListN.{length-set}
use Rattle.std.proofs.lemmas.Bool.{cases_eq}
use Rattle.std.proofs.lemmas.List.{get_or-set_other, get_or-set_same}
use Rattle.std.proofs.lemmas.Option.{slice_get-get_or, slice_get_cases, slice_get_past}
use Rattle.pm_outbox.specs.declared.ask.Ask.{Ask}
use Rattle.msa.specs.Ships.{Shown, Shows, entry_of}
use Rattle.msa.specs.declared.shipping.Entry.{Entry}

set_same : (xs : List Entry) (i : ℕ) (y : Entry) → i < length xs → slice_get (set xs i y) i ≡ Some y
set_same xs i y within =
    slice_get-get_or (set xs i y) i y (omega (arith, within, length-set xs i y)) ∙ ap (λ (x : Entry). Some x) (get_or-set_same xs i y y within)

set_other : (xs : List Entry) (i j : ℕ) (y : Entry) → j ≢ i → slice_get (set xs i y) j ≡ slice_get xs j
set_other xs i j y away = elim (slice_get_cases xs j).1 [
  | inl there ↦
      slice_get-get_or (set xs i y) j there.0 (omega (arith, there.1, length-set xs i y))
      ∙ ap (λ (x : Entry). Some x) (get_or-set_other xs i j y there.0 away ∙ there.3) ∙ sym there.2
  | inr past ↦ slice_get_past (set xs i y) j (omega (arith, past.0, length-set xs i y)) ∙ sym past.1
]

module _ {asks : List Ask} {place : ℕ} {old : List Entry} where
  pub shown_none : Shown asks place old old 0
  shown_none = record { size = refl; shown = λ k below. absurd (omega (arith, below)); rest = λ k le. refl }

  pub shown_more : (mid : List Entry) (count : ℕ) (ask : Ask) → Shown asks place old mid count → count < length old → slice_get asks (place + count) ≡ Some ask
      → Shown asks place old (set mid count (entry_of ask)) (count + 1)
  shown_more mid count ask before within is = record {
    size = length-set mid count (entry_of ask) ∙ before.size;
    shown = λ k below. elim (cases_eq k count) [
      | inl last ↦
          ap (slice_get (set mid count (entry_of ask))) last ∙ set_same mid count (entry_of ask) (omega (arith, within, before.size))
          ∙ ap (option_map entry_of) (sym is) ∙ ap (λ (n : ℕ). option_map entry_of (slice_get asks (place + n))) (sym last)
      | inr other ↦ set_other mid count k (entry_of ask) other ∙ before.shown k (omega (arith, below, other))
    ];
    rest = λ k le. set_other mid count k (entry_of ask) (λ e. omega (arith, e, le)) ∙ before.rest k (omega (arith, le));
  }

  pub shows_all : (new : List Entry) (count : ℕ) → Shown asks place old new count → count ≤ length old → place + count ≤ length asks → (count < length old → place + count ≡ length asks) → Shows asks place old new count
  shows_all new count s fits within all = record { size = s.size; fits = fits; within = within; shown = s.shown; all = all; rest = s.rest }
