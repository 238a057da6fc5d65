-- A call makes steps: what was asked before it stays asked, and what a medium may hold meanwhile lands before the call or after it.
use Rattle.std.proofs.Common.{◌≡◌, ◌⊎◌, ◌∙◌, ℕ, ◌≤◌, List, ◌++◌, Option, Some, None, Result, length, take, reverse, refl, sym, ap, subst, arith}
use Rattle.std.specs.Prelude.{IsSomeAnd, is_some}
use Rattle.std.proofs.lemmas.Option.{none-some, same_Some}
use Rattle.ct_call.specs.Calls.{StandsFor, after, most_pairs}
use Rattle.ct_call.specs.Mounted.{Volume}
use Rattle.ct_call.specs.Seen.{device_in, ready_in}
use Rattle.ct_call.specs.declared.mount.FsError.{FsError}
use Rattle.ct_call.specs.declared.mount.State.{State}
use Rattle.ct_call.specs.declared.mount.State.TheVariants.{Ready, Dead}
use Rattle.ct_commit.specs.Rest.{IsMounted}
use Rattle.ct_fs.specs.Mounts.{mounts}
use Rattle.ct_fs.specs.declared.system.Fs.{Fs}
use Rattle.ct_pm.specs.Images.{History, WasAllowed}
use Rattle.ct_pm.specs.Phase.{Phase}
use Rattle.ct_pm.specs.declared.step.Step.{Step}
use Rattle.ct_state.proofs.Landing.{sound_stands}
use Rattle.ct_tree.specs.Lands.{Lands}
use Rattle.ct_tree.specs.Step.{Op}
use Rattle.ct_tree.specs.Tree.{Tree}
use Rattle.pm_outbox.proofs.Fronts.{no_fewer, since_allowed}
use Rattle.pm_outbox.specs.Asked.{asked}
use Rattle.pm_outbox.specs.Medium.{MayHold}
use Rattle.pm_outbox.specs.Outbox.{history, words_of}
use Rattle.pm_outbox.specs.contracts.outbox.OutboxPmPm.TheImpl.{ghosts}
use Rattle.pm_outbox.specs.declared.outbox.OutboxPm.{OutboxPm}
use Rattle.msa.specs.Calls.{Calls, ChangesFs}
use Rattle.msa.specs.Mounts.{HasPlace, asks_of, mounted_in}
use Rattle.msa.specs.declared.seat.Seat.{Seat}

-- the device of a mount that is ready
ready_phase : (P : OutboxPm → Type 0) (state : Option (State OutboxPm ghosts)) (now : Volume OutboxPm) → ready_in state ≡ Some now → IsSomeAnd (device_in state) P → P now.dev
ready_phase P None now is has = absurd (none-some now is)
ready_phase P (Some (Ready mounted)) now is has = subst (λ (v : Volume OutboxPm). P v.dev) (same_Some mounted now is) has
ready_phase P (Some (Dead failed)) now is has = absurd (none-some now is)

-- the history goes on
steps_of : {Q : List ℕ → Type 0} {most : ℕ} {words : List ℕ} (was now : OutboxPm) → Phase Q most (Some (history was)) (Some (history now)) words
    → (added : List Step) × (history now ≡ record { start = (history was).start; steps = added ++ (history was).steps })
steps_of was now phase = let g = phase.moments.goes_on in (g.0, same_Some (history now) (record { start = (history was).start; steps = g.0 ++ (history was).steps }) g.1)

-- no more was taken than was asked, after a call too
module _ (op : Op) (was now : Fs OutboxPm ghosts) {result : Result (Unit {0}) FsError} (changes : ChangesFs op was now result)
    (rest : (v : Volume OutboxPm) → mounts was ≡ Some v → IsMounted (words_of v.dev) (Some (history v.dev)) v.frames) (taken : ℕ) (has : HasPlace (Some was) taken) where
  pub placed : HasPlace (Some now) taken
  placed v is = here (mounts was) refl
    where
      here : (o : Option (Volume OutboxPm)) → mounts was ≡ o → taken ≤ length (asks_of v.dev)
      here None none = absurd (none-some v (sym none ∙ ap ready_in (sym (changes.still (ap is_some none))) ∙ is))
      here (Some before) ready =
          let m = rest before ready in
          let s = sound_stands (words_of before.dev) (omega (arith, m.rest.head.inodes.0)) m.rest.sound in
          let d = changes.does before ready s.0 (record { tree = s.1; stands = s.2 }) in
          let g = steps_of before.dev v.dev (ready_phase _ now.state v is d.phase) in
          let more = no_fewer (history before.dev).start (history before.dev).steps g.0 in
          omega (arith, has before ready, more, ap (λ (h : History). length (asked h.start h.steps)) g.1)

-- whatever a medium may hold that has seen all that was asked before a call lands on the tree before it or after it
module _ (op : Op) (was now : Fs OutboxPm ghosts) {result : Result (Unit {0}) FsError} (changes : ChangesFs op was now result) (before later : Volume OutboxPm)
    (ready : mounts was ≡ Some before) (is : mounts now ≡ Some later) (t : Tree) (stands : StandsFor (words_of before.dev) t) where
  lands_fs : (count : ℕ) → length (asks_of before.dev) ≤ count → (image : List ℕ)
      → MayHold (history before.dev).start (reverse (take count (asks_of later.dev))) image → Lands image t ⊎ Lands image (after t op)
  lands_fs count le image held =
      let phase = ready_phase (λ (dev : OutboxPm). Phase (λ (image : List ℕ). Lands image t ⊎ Lands image (after t op)) (most_pairs op) (Some (history before.dev)) (Some (history dev)) (words_of dev)) now.state later is (changes.does before ready t stands).phase in
      let g = steps_of before.dev later.dev phase in
      let seen = subst (λ (h : History). MayHold (history before.dev).start (reverse (take count (asked h.start h.steps))) image) g.1 held in
      let allowed = since_allowed (history before.dev).start (history before.dev).steps g.0 count image le seen in
      (phase.moments.each image (subst (λ (h : History). WasAllowed (length (history before.dev).steps) h image) (sym g.1) allowed)).has

lands_in : (op : Op) (result : Result (Unit {0}) FsError) (was now : Option (Fs OutboxPm ghosts)) → IsSomeAnd was (λ b. IsSomeAnd now (λ a. ChangesFs op b a result)) → (before later : Volume OutboxPm)
    → mounted_in was ≡ Some before → mounted_in now ≡ Some later → (t : Tree) → StandsFor (words_of before.dev) t → (count : ℕ) → length (asks_of before.dev) ≤ count → (image : List ℕ)
    → MayHold (history before.dev).start (reverse (take count (asks_of later.dev))) image → Lands image t ⊎ Lands image (after t op)
lands_in op result None now changes before later ready is t stands = absurd (none-some before ready)
lands_in op result (Some was) None changes before later ready is t stands = absurd (none-some later is)
lands_in op result (Some was) (Some now) changes before later ready is t stands = lands_fs op was now changes before later ready is t stands

pub lands : (op : Op) (was now : Seat) (code : ℕ) → Calls op (Some was) (Some now) code → (before later : Volume OutboxPm)
    → mounted_in was.fs ≡ Some before → mounted_in now.fs ≡ Some later → (t : Tree) → StandsFor (words_of before.dev) t → (count : ℕ) → length (asks_of before.dev) ≤ count → (image : List ℕ)
    → MayHold (history before.dev).start (reverse (take count (asks_of later.dev))) image → Lands image t ⊎ Lands image (after t op)
lands op was now code calls = lands_in op calls.0 was.fs now.fs calls.2.2
