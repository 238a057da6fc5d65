-- The root of words at rest.
use Rattle.std.proofs.Common.{◌≡◌, ℕ, List, refl, ap, ◌∙◌, arith}
use Rattle.ct_base.specs.Inode.{IsNumber}
use Rattle.ct_base.specs.Objects.{Object}
use Rattle.ct_base.specs.Rules.{inodes}
use Rattle.ct_base.specs.View.{view, inode_count}
use Rattle.ct_state.proofs.Bytes.{objects-in}
use Rattle.ct_tree.specs.Lands.{files}
use Rattle.ct_tree.specs.Stands.{Stands}
use Rattle.ct_tree.specs.Tree.{Tree, File, Dir, Entries}
use Rattle.ct_commit.specs.Rest.{IsAtRest, StandsFor}

pub root_number : {w : List ℕ} → IsAtRest w → IsNumber (inode_count w) 1
root_number rest = record { from = omega arith; to = omega (arith, rest.head.inodes.0) }

pub root_kind : {w : List ℕ} → IsAtRest w → (files w 1).kind ≡ 2
root_kind {w} rest = ap (λ (f : Object). f.kind) (objects-in (view w) (inode_count w) 1 (root_number rest)) ∙ (rest.sound inodes 1 (root_number rest)).root refl

dir_of : (fs : ℕ → Object) (t : Tree) → (fs 1).kind ≡ 2 → Stands fs 1 t → (es : Entries) × (t ≡ Dir es)
dir_of fs (File bytes) dir st = absurd (omega (arith, dir, st.kind))
dir_of fs (Dir es) dir st = (es, refl)

-- its tree is a directory
pub root_entries : {w : List ℕ} → IsAtRest w → (t : Tree) → StandsFor w t → (es : Entries) × (t ≡ Dir es)
root_entries {w} rest t st = dir_of (files w) t (root_kind rest) st.stands
