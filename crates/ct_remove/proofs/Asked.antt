-- What sound words say of an entry whose object has no slots.
use Rattle.std.proofs.Common.{◌≡◌, ◌≢◌, ℕ, ◌+◌, ◌*◌, ◌≤◌, ◌⊎◌, List, sym, ap, subst, ◌∙◌, inl, inr, arith}
use Rattle.std.proofs.lemmas.Bool.{cases_lt}
use Rattle.ct_base.specs.Inode.{IsIn, IsLive, inode, part_bytes}
use Rattle.ct_base.specs.Objects.{Object, object}
use Rattle.ct_base.specs.Rules.{HasRoom, Owns, named, part_of, placed, slots}
use Rattle.ct_base.specs.Slots.{IsSlot}
use Rattle.ct_base.specs.View.{view, inode_count}
use Rattle.ct_dir.proofs.Held.{room_there}
use Rattle.ct_path.proofs.Sounds.{is_live}
use Rattle.ct_state.proofs.Bytes.{objects-in}
use Rattle.ct_tree.specs.Lands.{files}
use Rattle.ct_remove.specs.Asked.{IsAsked}

module _ {w : List ℕ} {dir offset number : ℕ} (a : IsAsked w dir offset number) where
  pub few : inode_count w ≤ 1048576
  few = a.rest.head.inodes.1

  pub dir_live : IsLive (view w) (inode_count w) dir
  dir_live = is_live w a.rest.sound few dir (λ z. omega (arith, z, a.leaf.slot.dir))

  pub object_live : IsLive (view w) (inode_count w) number
  object_live = is_live w a.rest.sound few number (λ z. (a.rest.sound slots dir offset a.leaf.slot).live (ap (λ i. (files w i).kind) a.leaf.child ∙ z))

  pub dir_object : files w dir ≡ object (view w) dir
  dir_object = objects-in (view w) (inode_count w) dir dir_live.number

  pub dir_kind : (inode (view w) dir).kind ≡ 2
  dir_kind = ap (λ (f : Object). f.kind) (sym dir_object) ∙ a.leaf.slot.dir

  pub slot_ends : offset + 256 ≤ (inode (view w) dir).size
  slot_ends = omega (arith, a.leaf.slot.below, a.leaf.slot.aligned, ap (λ (f : Object). f.size) dir_object, (a.rest.sound placed dir dir_live).slots dir_kind)

  pub dir_room : HasRoom (inode (view w) dir)
  dir_room = room_there (a.rest.sound placed dir dir_live) (omega (arith, slot_ends))

  pub dir_owns : Owns (view w) (inode_count w) dir
  dir_owns = record { live = dir_live; level = dir_room.part.level }

  pub dir_other : dir ≢ number
  dir_other is = a.leaf.bare offset (subst (λ n. IsSlot (files w n) offset) is a.leaf.slot)

  pub below_root : number ≢ 1
  below_root is = (a.rest.sound named).root dir offset (record { slot = a.leaf.slot; child = a.leaf.child ∙ is })

  -- the object has a partition or none
  pub owns_or : Owns (view w) (inode_count w) number ⊎ ((inode (view w) number).level ≡ 15)
  owns_or = elim (a.rest.sound placed number object_live).place [
    | inl none ↦ inr none.level
    | inr room ↦ inl (record { live = object_live; level = room.part.level })
  ]

  pub not_owns : (inode (view w) number).level ≡ 15 → Owns (view w) (inode_count w) number → ⊥
  not_owns none owns = omega (arith, none, owns.level)

  -- a page of addresses lies in its partition, or does not
  pub inside_or : (q : ℕ) → (Owns (view w) (inode_count w) number × IsIn (part_of (view w) number) (q * 4096)) ⊎ (Owns (view w) (inode_count w) number → IsIn (part_of (view w) number) (q * 4096) → ⊥)
  inside_or q = elim owns_or [
    | inr none ↦ inr (λ owns inside. not_owns none owns)
    | inl owns ↦ elim (cases_lt (q * 4096) (inode (view w) number).base) [
      | inl before ↦ inr (λ o inside. omega (arith, before, inside.from))
      | inr from ↦ elim (cases_lt (q * 4096) ((inode (view w) number).base + part_bytes (inode (view w) number).level)) [
        | inl to ↦ inl (owns, record { from = from; to = to })
        | inr past ↦ inr (λ o inside. omega (arith, past, inside.to))
      ]
    ]
  ]
