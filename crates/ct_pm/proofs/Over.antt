-- What the steps of a stretch store, given the words that read before each.
use Rattle.std.proofs.Common.{◌≡◌, ℕ, ◌≤◌, List, [], ◌∷◌, ◌++◌, Option, Some, None, length, refl, sym, ◌∙◌, ap, subst, arith, length-append}
use Rattle.std.specs.Prelude.{IfSome}
use Rattle.ct_pm.specs.declared.step.Step.{Step}
use Rattle.ct_pm.specs.declared.step.Step.TheVariants.{Store, Flush, Fence}
use Rattle.ct_pm.specs.Images.{History, after, at, reads, words_after, IsAllowed, WasAllowed}
use Rattle.ct_pm.specs.Device.{with_steps, EachImage, LeavesOnly, StoresOnly, EachStores, MakesOnly, EachStoresOver, StoresOver}
use Rattle.ct_pm.proofs.Steps.{first_all, first-push}
use Rattle.ct_pm.proofs.Allowed.{push, allowed_reads}
use Rattle.ct_pm.proofs.Told.{with_more}

-- the history with these steps more
abbrev pub longer : History → List Step → History
longer past added = record { start = past.start; steps = added ++ past.steps }

pub reads_longer : (past : History) (added : List Step) → reads (longer past added) ≡ words_after (reads past) added
reads_longer past [] = refl
reads_longer past (step ∷ added) = ap (λ (l : List ℕ). after l step) (reads_longer past added)

pub at-push : (k : ℕ) (step : Step) (h : History) → k ≤ length h.steps → at k (push step h) ≡ at k h
at-push k step h le = ap (λ (s : List Step). record { start = h.start; steps = s }) (first-push k step h.steps le)

-- an image of one moment less
was_before : (m : ℕ) (step : Step) (h : History) (image : List ℕ) → WasAllowed m h image → WasAllowed m (push step h) image
was_before m step h image was =
    (was.0, was.1, omega (arith, was.2), subst (λ (x : History). IsAllowed x image) (sym (at-push was.0 step h was.2)) was.3)

-- the words that read before a step are an image that was allowed
was_read : (m : ℕ) (step : Step) (h : History) → m ≤ length h.steps → WasAllowed m (push step h) (reads h)
was_read m step h le =
    let whole : at (length h.steps) (push step h) ≡ h = at-push (length h.steps) step h (omega arith) ∙ ap (λ (s : List Step). record { start = h.start; steps = s }) (first_all h.steps) in
    (length h.steps, le, omega arith, subst (λ (x : History). IsAllowed x (reads h)) (sym whole) (allowed_reads h))

step_weaker : (P Q : ℕ → ℕ → Type 0) (step : Step) → ((word value : ℕ) → P word value → Q word value) → StoresOnly P step → StoresOnly Q step
step_weaker P Q (Store word value) weak p = weak word value p
step_weaker P Q (Flush line) weak p = tt
step_weaker P Q Fence weak p = tt

each_images : (R S : List ℕ → ℕ → ℕ → Type 0) (Q : List ℕ → Type 0) (past : History) (added : List Step) → ((image : List ℕ) (word value : ℕ) → Q image → R image word value → S image word value)
    → ((image : List ℕ) → WasAllowed (length past.steps) (longer past added) image → Q image) → EachStoresOver R past added → EachStoresOver S past added
each_images R S Q past [] strong images each = tt
each_images R S Q past (step ∷ added) strong images each =
    let h = longer past added in
    let now = words_after (reads past) added in
    let later : length past.steps ≤ length h.steps = omega (arith, length-append added past.steps) in
    let is : Q now = subst Q (reads_longer past added) (images (reads h) (was_read (length past.steps) step h later)) in (
      step_weaker (R now) (S now) step (λ word value r. strong now word value is r) each.0,
      each_images R S Q past added strong (λ image was. images image (was_before (length past.steps) step h image was)) each.1,
    )

images_longer : (past : History) (new : Option History) (added : List Step) (Q : List ℕ → Type 0) → new ≡ with_steps added (Some past) → EachImage (Some past) new Q
    → (image : List ℕ) → WasAllowed (length past.steps) (longer past added) image → Q image
images_longer past new added Q is each = subst (λ (n : Option History). EachImage (Some past) n Q) is each

over_each : (R S : List ℕ → ℕ → ℕ → Type 0) (Q : List ℕ → Type 0) (old new : Option History) (added : List Step) → ((image : List ℕ) (word value : ℕ) → Q image → R image word value → S image word value)
    → new ≡ with_steps added old → EachImage old new Q → IfSome old (λ past. EachStoresOver R past added) → IfSome old (λ past. EachStoresOver S past added)
over_each R S Q None new added strong is images each = tt
over_each R S Q (Some past) new added strong is images each = each_images R S Q past added strong (images_longer past new added Q is images) each

-- what holds of each image of a stretch holds of the words that its steps store over
pub over_images : {R : List ℕ → ℕ → ℕ → Type 0} {Q : List ℕ → Type 0} {old new : Option History} (S : List ℕ → ℕ → ℕ → Type 0) → ((image : List ℕ) (word value : ℕ) → Q image → R image word value → S image word value)
    → LeavesOnly old new Q → StoresOver R old new → StoresOver S old new
over_images {R = R} {Q = Q} {old = old} {new = new} S strong images over = record {
  added = over.added;
  goes_on = over.goes_on;
  each = over_each R S Q old new over.added strong over.goes_on images.each over.each;
}

each_made : (P : ℕ → ℕ → Type 0) (past : History) (added : List Step) → EachStores P added → EachStoresOver (λ image. P) past added
each_made P past [] each = tt
each_made P past (step ∷ added) each = (each.0, each_made P past added each.1)

over_made : (P : ℕ → ℕ → Type 0) (old : Option History) (added : List Step) → EachStores P added → IfSome old (λ past. EachStoresOver (λ image. P) past added)
over_made P None added each = tt
over_made P (Some past) added each = each_made P past added each

-- each store of a stretch has P, and each image of it Q: so a store with P is made over words with Q
pub stores_over : {P : ℕ → ℕ → Type 0} {Q : List ℕ → Type 0} {old new : Option History} (R : List ℕ → ℕ → ℕ → Type 0) → ((image : List ℕ) (word value : ℕ) → Q image → P word value → R image word value)
    → LeavesOnly old new Q → MakesOnly P old new → StoresOver R old new
stores_over {P = P} {old = old} R strong images made =
    over_images {R = λ image. P} R strong images (record { added = made.added; goes_on = made.goes_on; each = over_made P old made.added made.each })

each_weaker : (R S : List ℕ → ℕ → ℕ → Type 0) (past : History) (added : List Step) → ((image : List ℕ) (word value : ℕ) → R image word value → S image word value) → EachStoresOver R past added → EachStoresOver S past added
each_weaker R S past [] weak each = tt
each_weaker R S past (step ∷ added) weak each =
    let now = words_after (reads past) added in (
      step_weaker (R now) (S now) step (λ word value r. weak now word value r) each.0,
      each_weaker R S past added weak each.1,
    )

-- no step
pub over_none : (R : List ℕ → ℕ → ℕ → Type 0) (told : Option History) → StoresOver R told told
over_none R None = record { added = []; goes_on = refl; each = tt }
over_none R (Some h) = record { added = []; goes_on = refl; each = tt }

after-append : (start : List ℕ) (more added : List Step) → words_after start (more ++ added) ≡ words_after (words_after start added) more
after-append start [] added = refl
after-append start (step ∷ more) added = ap (λ (l : List ℕ). after l step) (after-append start more added)

each_then : (R : List ℕ → ℕ → ℕ → Type 0) (past : History) (more added : List Step) → EachStoresOver R past added → EachStoresOver R (longer past added) more → EachStoresOver R past (more ++ added)
each_then R past [] added first second = first
each_then R past (step ∷ more) added first second =
    let same : words_after (reads (longer past added)) more ≡ words_after (reads past) (more ++ added) =
    ap (λ (l : List ℕ). words_after l more) (reads_longer past added) ∙ sym (after-append (reads past) more added) in (
      subst (λ (l : List ℕ). StoresOnly (R l) step) same second.0,
      each_then R past more added first second.1,
    )

if_then : (R : List ℕ → ℕ → ℕ → Type 0) (old mid : Option History) (more added : List Step) → mid ≡ with_steps added old → IfSome old (λ past. EachStoresOver R past added) → IfSome mid (λ past. EachStoresOver R past more)
    → IfSome old (λ past. EachStoresOver R past (more ++ added))
if_then R None mid more added is first second = tt
if_then R (Some past) mid more added is first second =
    each_then R past more added first (subst (λ (m : Option History). IfSome m (λ h. EachStoresOver R h more)) is second)

-- one stretch after another
pub over_then : {R : List ℕ → ℕ → ℕ → Type 0} {old mid new : Option History} → StoresOver R old mid → StoresOver R mid new → StoresOver R old new
over_then {R = R} {old = old} {mid = mid} over more = record {
  added = more.added ++ over.added;
  goes_on = more.goes_on ∙ ap (with_steps more.added) over.goes_on ∙ with_more old over.added more.added;
  each = if_then R old mid more.added over.added over.goes_on over.each more.each;
}
