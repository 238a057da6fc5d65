-- An object that no slot names may be dropped.
use Rattle.std.proofs.Common.{◌≡◌, ◌≢◌, ℕ, sym, subst}
use Rattle.ct_tree.specs.Tree.{Tree, File, Dir, Entries, none, entry}
use Rattle.ct_base.specs.Objects.{Object}
use Rattle.ct_base.specs.Slots.{IsSlot, slot_inode}
use Rattle.ct_tree.specs.Stands.{IsFile, IsDir, Stands, StandIn}

module _ {fs gs : ℕ → Object} {i : ℕ} (others : (j : ℕ) → j ≢ i → gs j ≡ fs j) (unnamed : (j o : ℕ) → IsSlot (fs j) o → slot_inode (fs j) o ≢ i) where
  mutual
    pub stands_dropped : (t : Tree) (c : ℕ) → c ≢ i → Stands fs c t → Stands gs c t
    stands_dropped (File bytes) c other st = subst (λ f. IsFile f bytes) (sym (others c other)) st
    stands_dropped (Dir es) c other st = subst (λ f. IsDir f es × StandIn gs f es) (sym (others c other)) (st.0, in_dropped es c st.1)

    in_dropped : (es : Entries) (c : ℕ) → StandIn fs (fs c) es → StandIn gs (fs c) es
    in_dropped none c st = tt
    in_dropped (entry x node rest) c st = ((st.0.0, stands_dropped node (slot_inode (fs c) st.0.0.offset) (unnamed c st.0.0.offset st.0.0.slot) st.0.1), in_dropped rest c st.1)
