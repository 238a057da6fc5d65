-- The slot of a new entry.
use Rattle.std.proofs.Common.{ℕ, List, sym, subst}
use Rattle.ct_base.specs.declared.inode.Inode.{Inode}
use Rattle.ct_base.specs.Objects.{objects}
use Rattle.ct_base.specs.Rules.{slots, names, named, reached}
use Rattle.ct_base.specs.View.{view, inode_count}
use Rattle.ct_state.proofs.Adds.{Adds}
use Rattle.ct_state.proofs.Entry.{entry_adds}
use Rattle.ct_tree.specs.Lands.{files}
use Rattle.ct_call.specs.Placed.{HasSlot}
use Rattle.ct_enter.proofs.Entering.{Enters, creates}

module _ {old new : List ℕ} {dir : ℕ} {f : Inode} {offset : ℕ} {name : List ℕ} {number kind : ℕ} (e : Enters old new dir f offset name number kind) where
  added : Adds (files old) (objects (view new) (inode_count old)) dir offset number name
  added =
      let c = creates e in
      entry_adds c.makes (record {
        entries = c.sound slots;
        apart = c.sound names;
        named = c.sound named;
        reached = c.sound reached;
        root = c.root;
        unused = c.unused;
        name = c.name;
        few = c.few;
        fresh = c.fresh;
      })

  pub has_slot : HasSlot (files new dir) offset number name
  has_slot = subst (λ k. HasSlot (objects (view new) k dir) offset number name) (sym (creates e).inodes) (record { slot = added.slot; child = added.child; named = added.name })
