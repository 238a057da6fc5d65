-- What a sound image says of an inode that is live: its number, its directory, and what one name leads to.
use Rattle.std.proofs.Common.{◌≡◌, ◌≢◌, ℕ, ◌≤◌, List, Result, Ok, Err, refl, sym, ap, ◌∙◌, subst, inl, inr, arith}
use Rattle.std.specs.Prelude.{IfOk}
use Rattle.ct_base.specs.declared.inode.Inode.{Inode}
use Rattle.ct_base.specs.Walk.{AreTables}
use Rattle.ct_base.specs.View.{view, inode_count}
use Rattle.ct_base.specs.Inode.{inode, IsNumber, IsLive}
use Rattle.ct_base.specs.Objects.{Object, object}
use Rattle.ct_base.specs.Slots.{IsSlot, slot_inode, slot_name}
use Rattle.ct_base.specs.Named.{Named}
use Rattle.ct_base.specs.Rules.{Sound, inodes, placed, slots, names, IsEntry, AreNamesApart}
use Rattle.ct_tree.specs.Lands.{files}
use Rattle.ct_state.proofs.Bytes.{objects-in, objects-cases}
use Rattle.ct_dir.specs.Directory.{IsReadable, IsText, dir_of}
use Rattle.ct_path.specs.declared.fault.PathFault.{PathFault}
use Rattle.ct_path.specs.declared.fault.PathFault.TheVariants.{NotFound, NotDir}
use Rattle.ct_path.specs.Meets.{Meets}

module _ (w : List ℕ) (sound : Sound w) (most : inode_count w ≤ 1048576) where
  -- an object that is there has a number
  numbered : (i : ℕ) → (files w i).kind ≢ 0 → IsNumber (inode_count w) i
  numbered i live = elim (objects-cases (view w) (inode_count w) i) [
    | inl in_count ↦ in_count.0
    | inr out ↦ absurd (live (ap (λ (f : Object). f.kind) out.1))
  ]

  is_object : (i : ℕ) → (files w i).kind ≢ 0 → files w i ≡ object (view w) i
  is_object i live = objects-in (view w) (inode_count w) i (numbered i live)

  pub is_live : (i : ℕ) → (files w i).kind ≢ 0 → IsLive (view w) (inode_count w) i
  is_live i live = record { number = numbered i live; used = λ none. live (ap (λ (f : Object). f.kind) (is_object i live) ∙ none) }

  pub live_if_ok : {T : Type 0} (number : T → ℕ) (r : Result T PathFault) → IfOk r (λ x. (files w (number x)).kind ≢ 0) → IfOk r (λ x. IsLive (view w) (inode_count w) (number x))
  live_if_ok number (Ok x) live = is_live (number x) live
  live_if_ok number (Err fault) live = tt

  pub from_one : (i : ℕ) → (files w i).kind ≢ 0 → 1 ≤ i
  from_one i live = (numbered i live).from

  pub to_most : (i : ℕ) → (files w i).kind ≢ 0 → i ≤ 1048576
  to_most i live = omega (arith, (numbered i live).to)

  pub root_live : 2 ≤ inode_count w → (files w 1).kind ≢ 0
  root_live least none =
      let number : IsNumber (inode_count w) 1 = record { from = omega arith; to = omega arith } in
      let kind : (files w 1).kind ≡ 2 = ap (λ (f : Object). f.kind) (objects-in (view w) (inode_count w) 1 number) ∙ (sound inodes 1 number).root refl in
      absurd (omega arith)

  pub names_apart : AreNamesApart (files w)
  names_apart = sound names

  module _ (i : ℕ) (live : (files w i).kind ≢ 0) (d : Inode) (is : d ≡ inode (view w) i) where
    pub dir_is : dir_of w d ≡ files w i
    dir_is = ap (dir_of w) is ∙ sym (is_object i live)

    pub kind_is : d.kind ≡ (files w i).kind
    kind_is = ap (λ (f : Object). f.kind) dir_is

    text_at : (o : ℕ) → IsSlot (files w i) o → IsText (files w i) o
    text_at o s =
        let e = sound slots i o s in
        record { some = λ none. absurd (omega (arith, from_one _ e.live, none)); length = e.length; name = e.name; padding = e.padding }

    pub readable : AreTables w → d.kind ≡ 2 → IsReadable w d
    readable tables kind = record {
      tables = tables;
      kind = kind;
      placed = subst (λ f. Rattle.ct_base.specs.Rules.IsPlaced f) (sym is) (sound placed i (is_live i live));
      texts = subst (λ (f : Object). (o : ℕ) → IsSlot f o → IsText f o) (sym dir_is) text_at;
    }

    pub meets_file : d.kind ≢ 2 → (x : List ℕ) → Meets (files w) i x (Err NotDir)
    meets_file other x dir = other (kind_is ∙ dir)

    pub meets_none : d.kind ≡ 2 → (x : List ℕ) → (Named (dir_of w d) x → ⊥) → Meets (files w) i x (Err NotFound)
    meets_none dir x off = (sym kind_is ∙ dir, subst (λ f. Named f x → ⊥) dir_is off)

    pub meets_slot : d.kind ≡ 2 → (x : List ℕ) → (o c : ℕ) → IsSlot (dir_of w d) o → slot_name (dir_of w d) o ≡ x → slot_inode (dir_of w d) o ≡ c → Meets (files w) i x (Ok c)
    meets_slot dir x o c slot name child = (
      sym kind_is ∙ dir,
      record { offset = o; slot = subst (λ f. IsSlot f o) dir_is slot; name = ap (λ f. slot_name f o) (sym dir_is) ∙ name },
      ap (λ f. slot_inode f o) (sym dir_is) ∙ child,
    )

    pub next_live : (o c : ℕ) → IsSlot (dir_of w d) o → slot_inode (dir_of w d) o ≡ c → (files w c).kind ≢ 0
    next_live o c slot child =
        let e = sound slots i o (subst (λ f. IsSlot f o) dir_is slot) in
        subst (λ k. (files w k).kind ≢ 0) (ap (λ f. slot_inode f o) (sym dir_is) ∙ child) e.live
