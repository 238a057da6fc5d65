-- What a mount keeps, and how many faults its device had.
use Rattle.std.proofs.Common.{◌≡◌, ◌⊎◌, ℕ, List, Option, Some, None, refl, sym, ap, subst, inl, true≢false, arith}
use Rattle.std.specs.Prelude.{IsSome, IsSomeAnd}
use Rattle.std.proofs.lemmas.Option.{none-some, same_Some}
use Rattle.ct_commit.proofs.States.{shut_crash}
use Rattle.ct_call.proofs.Resting.{rest_lands}
use Rattle.ct_call.specs.Calls.{Holds, Keeps}
use Rattle.ct_call.specs.Mounted.{Volume}
use Rattle.ct_call.specs.Seen.{dev_in, device_in, faults_in, ready_in}
use Rattle.ct_call.specs.declared.mount.State.{State}
use Rattle.ct_call.specs.declared.mount.State.TheVariants.{Ready, Dead}
use Rattle.ct_pm.proofs.OneWord.{Replays}
use Rattle.ct_pm.proofs.Phases.{crash_weaker, phase_here}
use Rattle.ct_pm.specs.Device.{EachNow}
use Rattle.ct_pm.specs.Images.{History}
use Rattle.ct_pm.specs.Phase.{Crash}
use Rattle.ct_record.proofs.Moments.{each_settled}
use Rattle.ct_tree.specs.Lands.{Lands}
use Rattle.ct_tree.specs.Tree.{Tree}
use Rattle.ct_shell.specs.Moments.{Moment, RestsOn, Works, moment, moment_in}

-- what there is, where it has a property
pub some_and : {A : Type 0} {P : A → Type 0} (o : Option A) → IsSomeAnd o P → (x : A) × (o ≡ Some x) × P x
some_and None has = absurd has
some_and (Some x) has = (x, refl, has)

pub held : {D : Type 0} {bound : _} (count : ℕ) (state : Option (State D bound)) (t : Tree) → Keeps count state t → (was : Volume D) × (ready_in state ≡ Some was) × Holds count t (bound.words was.dev) (bound.told was.dev)
held count state t keeps = some_and (ready_in state) keeps

pub keeps_at : {D : Type 0} {bound : _} (count : ℕ) (state : Option (State D bound)) (t : Tree) (was : Volume D) → ready_in state ≡ Some was → Holds count t (bound.words was.dev) (bound.told was.dev) → Keeps count state t
keeps_at {D = D} {bound = bound} count state t was is holds = subst (λ (o : Option (Volume D)). IsSomeAnd o (λ now. Holds count t (bound.words now.dev) (bound.told now.dev))) (sym is) holds

pub ready_faults : {D : Type 0} {bound : _} (state : Option (State D bound)) (was : Volume D) → ready_in state ≡ Some was → faults_in state ≡ bound.faults was.dev
ready_faults None was is = absurd (none-some was is)
ready_faults {D = D} {bound = bound} (Some (Ready mounted)) was is = ap (λ (v : Volume D). bound.faults v.dev) (same_Some mounted was is)
ready_faults (Some (Dead failed)) was is = absurd (none-some was is)

pub device_faults : {D : Type 0} {bound : _} (state : Option (State D bound)) (dev : D) → device_in state ≡ Some dev → faults_in state ≡ bound.faults dev
device_faults None dev is = absurd (none-some dev is)
device_faults {D = D} {bound = bound} (Some (Ready mounted)) dev is = ap bound.faults (same_Some mounted.dev dev is)
device_faults {D = D} {bound = bound} (Some (Dead failed)) dev is = ap bound.faults (same_Some failed.dev dev is)

pub ready_moment : {D : Type 0} {bound : _} (state : Option (State D bound)) (was : Volume D) → ready_in state ≡ Some was → moment_in state ≡ moment (bound.told was.dev) (bound.words was.dev)
ready_moment None was is = absurd (none-some was is)
ready_moment {D = D} {bound = bound} (Some (Ready mounted)) was is = ap (λ (v : Volume D). moment (bound.told v.dev) (bound.words v.dev)) (same_Some mounted was is)
ready_moment (Some (Dead failed)) was is = absurd (none-some was is)

pub device_moment : {D : Type 0} {bound : _} (state : Option (State D bound)) (dev : D) → device_in state ≡ Some dev → moment_in state ≡ moment (bound.told dev) (bound.words dev)
device_moment None dev is = absurd (none-some dev is)
device_moment {D = D} {bound = bound} (Some (Ready mounted)) dev is = ap (λ (d : D). moment (bound.told d) (bound.words d)) (same_Some mounted.dev dev is)
device_moment {D = D} {bound = bound} (Some (Dead failed)) dev is = ap (λ (d : D). moment (bound.told d) (bound.words d)) (same_Some failed.dev dev is)

pub dev_moment : {D : Type 0} {bound : _} (state : Option (State D bound)) (here : IsSome state) → moment (bound.told (dev_in state here)) (bound.words (dev_in state here)) ≡ moment_in state
dev_moment None here = absurd (true≢false (sym here))
dev_moment (Some (Ready mounted)) here = refl
dev_moment (Some (Dead failed)) here = refl

each_wider : (f : Option History) (P Q : List ℕ → Type 0) → ((image : List ℕ) → P image → Q image) → EachNow f P → EachNow f Q
each_wider None P Q wider now = tt
each_wider (Some h) P Q wider now = λ image allowed. wider image (now image allowed)

-- nothing is done over a tree
pub stays : (most c : ℕ) (t : Tree) (here : Moment) → RestsOn c t here → Works most t t here here
stays most c t here rests =
    let Either : List ℕ → Type 0 = λ image. Lands image t ⊎ Lands image t in
    let wider : (image : List ℕ) → Crash (λ image. Lands image t) 0 image → Crash Either most image = λ image crash. crash_weaker Either (λ lands. inl lands) (omega arith) crash in
    phase_here here.told Either (each_wider here.told (Crash (λ image. Lands image t) 0) (Crash Either most) wider rests.images) (wider here.words rests.words)

-- a device that holds a tree rests on it
pub holds_rests : {count : ℕ} {t : Tree} {words : List ℕ} {told : Option History} → Replays told words → Holds count t words told → RestsOn count t (moment told words)
holds_rests {t = t} {words = words} {told = told} replays h =
    let here : Crash (λ image. Lands image t) 0 words = shut_crash words h.rest.shut (rest_lands h.rest h.stands) in
    record { holds = h; replays = replays; images = each_settled told words (Crash (λ image. Lands image t) 0) replays h.lasts here; words = here }

-- and so does a mount that keeps one
pub keeps_rests : {D : Type 0} {bound : _} (count : ℕ) (state : Option (State D bound)) (t : Tree) (replays : (dev : D) → Replays (bound.told dev) (bound.words dev)) → Keeps count state t → RestsOn count t (moment_in state)
keeps_rests count state t replays keeps =
    let h = held count state t keeps in
    subst (RestsOn count t) (sym (ready_moment state h.0 h.1)) (holds_rests (replays h.0.dev) h.2)
