-- What a call leaves of what is remembered.
use Rattle.std.proofs.Common.{◌≡◌, ℕ, List, Option, Some, None, Result, Ok, Err, sym, subst, arith}
use Rattle.std.specs.Prelude.{IfSome, IsSomeAnd, OnOk}
use Rattle.ct_cache.specs.Agrees.{Agrees, IsKnown}
use Rattle.ct_cache.specs.Known.{Known}
use Rattle.ct_call.specs.Calls.{Does, Leaves, StandsFor}
use Rattle.ct_call.specs.Mounted.{Volume}
use Rattle.ct_call.specs.Seen.{ready_in}
use Rattle.ct_call.specs.declared.mount.FsError.{FsError}
use Rattle.ct_call.specs.declared.mount.FsError.TheVariants.{Dead, Refused, Fault}
use Rattle.ct_call.specs.declared.mount.State.{State}
use Rattle.ct_commit.specs.Rest.{IsAtRest}
use Rattle.ct_inode.specs.Live.{AreLiveBelow, KeepsLive}
use Rattle.ct_find.specs.Directories.{KeepsDirectories}
use Rattle.ct_fs.specs.Remembering.{IsRemembered}
use Rattle.ct_fs.specs.declared.remembered.Remembered.{Remembered}
use Rattle.ct_learn.specs.Learning.{IsSo, NamesAreSo, known_by, names_of}
use Rattle.ct_learn.specs.declared.learnt.Learnt.{Learnt}
use Rattle.std.proofs.lemmas.Option.{none-some}
use Rattle.ct_tree.specs.declared.call.Refusal.{Refusal}
use Rattle.ct_state.proofs.Landing.{sound_stands}
use Rattle.ct_tree.specs.Step.{Op}
use Rattle.ct_tree.specs.Tree.{Tree}

some_then : {A : Type 0} (P Q : A → Type 0) (o : Option A) → ((x : A) → P x → Q x) → IsSomeAnd o P → IfSome o Q
some_then P Q None step has = tt
some_then P Q (Some x) step has = step x has

-- names are what they were where each directory is
names_kept : {known : Known} {old new : List ℕ} → KeepsDirectories old new → Agrees known old → Agrees (names_of known) new
names_kept keeps a = record {
  pages = λ p page is. absurd (none-some page is);
  names = λ k found is. let was = a.names k found is in subst (λ f. IsKnown f k.1 found) (sym (keeps k.0 was.kind)) was;
}

module _ {D : Type 0} {bound : _} (was : Volume D) (op : Op) (state : Option (State D bound)) (n : ℕ) where
  -- words at rest stand for a tree, and so the call has its answer
  some_tree : IsAtRest (bound.words was.dev) → (t : Tree) × StandsFor (bound.words was.dev) t
  some_tree rest = let s = sound_stands (bound.words was.dev) (omega (arith, rest.head.inodes.0)) rest.sound in (s.0, record { tree = s.1; stands = s.2 })

  -- a call that leaves each live inode live leaves these
  pub live_after : {T : Type 0} (result : Result T FsError) → IsAtRest (bound.words was.dev) → ((t : Tree) → StandsFor (bound.words was.dev) t → Does was t op state result)
      → OnOk result (IsSomeAnd (ready_in state) (λ now. KeepsLive (bound.words was.dev) (bound.words now.dev))) → AreLiveBelow (bound.words was.dev) n
      → IfSome (ready_in state) (λ now. AreLiveBelow (bound.words now.dev) n)
  live_after (Ok value) rest does keeps live =
      some_then (λ now. KeepsLive (bound.words was.dev) (bound.words now.dev)) (λ now. AreLiveBelow (bound.words now.dev) n) (ready_in state) (λ now on i low high. on i (live i low high)) keeps
  live_after (Err Dead) rest does keeps live = let t = some_tree rest in absurd ((does t.0 t.1).leaves)
  live_after (Err (Refused r)) rest does keeps live =
      let t = some_tree rest in
      subst (λ o. IfSome o (λ now. AreLiveBelow (bound.words now.dev) n)) (sym (does t.0 t.1).leaves) live
  live_after (Err Fault) rest does keeps live =
      let t = some_tree rest in
      subst (λ o. IfSome o (λ now. AreLiveBelow (bound.words now.dev) n)) (sym (does t.0 t.1).leaves.0) tt

  -- a call that is refused leaves all that was so
  pub refused_so : {T : Type 0} (learnt : Learnt) (result : Result T FsError) (r : Refusal) → result ≡ Err (Refused r) → IsAtRest (bound.words was.dev)
      → ((t : Tree) → StandsFor (bound.words was.dev) t → Does was t op state result) → IsSo learnt (bound.words was.dev) → IfSome (ready_in state) (λ now. IsSo learnt (bound.words now.dev))
  refused_so {T} learnt result r is rest does so =
      let t = some_tree rest in
      let leaves : ready_in state ≡ Some was = subst (λ (q : Result T FsError). Leaves was t.0 op state q) is (does t.0 t.1).leaves in
      subst (λ o. IfSome o (λ now. IsSo learnt (bound.words now.dev))) (sym leaves) so

  -- and one that leaves the directories leaves the names
  pub names_after : {T : Type 0} (learnt : Learnt) (result : Result T FsError) → IsSo learnt (bound.words was.dev)
      → OnOk result (IsSomeAnd (ready_in state) (λ now. KeepsDirectories (bound.words was.dev) (bound.words now.dev)))
      → OnOk result (IfSome (ready_in state) (λ now. NamesAreSo learnt (bound.words now.dev)))
  names_after learnt (Ok value) so keeps =
      some_then (λ now. KeepsDirectories (bound.words was.dev) (bound.words now.dev)) (λ now. NamesAreSo learnt (bound.words now.dev)) (ready_in state) (λ now kept. names_kept {known = known_by learnt} kept so) keeps
  names_after learnt (Err e) so keeps = tt

-- what was learnt and where the search begins are what is remembered
pub remembered_so : {D : Type 0} {bound : _} (state : Option (State D bound)) (remembered : Remembered) → IfSome (ready_in state) (λ now. IsSo remembered.learnt (bound.words now.dev))
    → IfSome (ready_in state) (λ now. AreLiveBelow (bound.words now.dev) remembered.free_from) → IfSome (ready_in state) (λ now. IsRemembered (bound.words now.dev) remembered)
remembered_so {D} {bound} state remembered so live = go (ready_in state) so live
  where
    go : (o : Option (Volume D)) → IfSome o (λ now. IsSo remembered.learnt (bound.words now.dev)) → IfSome o (λ now. AreLiveBelow (bound.words now.dev) remembered.free_from)
        → IfSome o (λ now. IsRemembered (bound.words now.dev) remembered)
    go None so live = tt
    go (Some now) so live = record { learnt = so; live = live }

-- below 1 there is no inode
pub none_below : {D : Type 0} {bound : _} (state : Option (State D bound)) → IfSome (ready_in state) (λ now. AreLiveBelow (bound.words now.dev) 1)
none_below {D} {bound} state = go (ready_in state)
  where
    go : (o : Option (Volume D)) → IfSome o (λ now. AreLiveBelow (bound.words now.dev) 1)
    go None = tt
    go (Some now) = λ i low high. absurd (omega (arith, low, high))
