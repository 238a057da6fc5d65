-- Where the objects keep being there, the inodes stay live.
use Rattle.std.proofs.Common.{◌≡◌, ◌≢◌, ℕ, List, sym, ap, ◌∙◌, arith}
use Rattle.ct_base.specs.Inode.{IsNumber, inode}
use Rattle.ct_base.specs.Objects.{Object, objects}
use Rattle.ct_base.specs.View.{view, inode_count}
use Rattle.ct_state.proofs.Bytes.{objects-in}
use Rattle.ct_inode.specs.Live.{KeepsLive}

-- the kind of an object is that of its inode
kind_in : (img : List ℕ) (i : ℕ) → IsNumber (inode_count img) i → (objects (view img) (inode_count img) i).kind ≡ (inode (view img) i).kind
kind_in img i number = ap (λ (f : Object). f.kind) (objects-in (view img) (inode_count img) i number)

-- no object goes
pub live_by : (old new : List ℕ) → inode_count new ≡ inode_count old
    → ((i : ℕ) → IsNumber (inode_count old) i → (objects (view old) (inode_count old) i).kind ≢ 0 → (objects (view new) (inode_count new) i).kind ≢ 0) → KeepsLive old new
live_by old new counted stays i live =
    let number : IsNumber (inode_count new) i = record { from = live.number.from; to = omega (arith, live.number.to, counted) } in
    record {
      number = number;
      used = λ free. stays i live.number (λ none. live.used (sym (kind_in old i live.number) ∙ none)) (kind_in new i number ∙ free);
    }

-- where all objects are the same they stay live
pub live_same : (old new : List ℕ) → inode_count new ≡ inode_count old → objects (view new) (inode_count new) ≡ objects (view old) (inode_count old) → KeepsLive old new
live_same old new counted same = live_by old new counted (λ i number there free. there (sym (ap (λ fs. (fs i).kind) same) ∙ free))
