-- What a device at rest gives to growth of its root directory, and what it is afterwards.
use Rattle.std.proofs.Common.{◌≡◌, ◌≢◌, ℕ, ◌+◌, ◌^◌, ◌<◌, ◌≤◌, ◌⊎◌, Option, Some, None, List, [], ◌∷◌, refl, sym, ap, subst, ◌∙◌, inl, inr, arith, true≢false}
use Rattle.std.specs.Prelude.{Bool, Contains, IsSomeAnd, IsTrue, ◌↔◌, ◌-◌, true, false}
use Rattle.std.proofs.Math.Bool.{beq, not}
use Rattle.std.proofs.lemmas.Option.{none-some, same_Some}
use Rattle.ct_base.specs.declared.inode.Inode.{Inode}
use Rattle.ct_base.specs.Inode.{IsPart, free_parts, inode, live_parts, part, part_bytes}
use Rattle.ct_base.specs.Plan.{page_want}
use Rattle.ct_base.specs.Rules.{HasRoom, Owns, placed}
use Rattle.ct_base.specs.View.{inode_count, view}
use Rattle.ct_base.specs.Wants.{Want}
use Rattle.ct_dir.proofs.Held.{part_bounds}
use Rattle.ct_frames.specs.Agrees.{Agrees}
use Rattle.ct_frames.specs.Free.{FreePages, rising}
use Rattle.ct_format.proofs.Fresh.{fresh_agrees, new_mounted}
use Rattle.ct_call.proofs.Neutral.{grown_rests, grown_unstaged}
use Rattle.ct_fs.proofs.Ready.{ready_dev}
use Rattle.ct_call.proofs.Rooms.{ready_here}
use Rattle.ct_enter.proofs.Wanted.{entry_owned}
use Rattle.ct_format.specs.Made.{IsNew}
use Rattle.ct_call.specs.Mounted.{AreOwned, Volume}
use Rattle.ct_commit.specs.Rest.{IsAtRest, IsMounted, IsUnstaged}
use Rattle.ct_call.specs.Seen.{device_in, ready_in}
use Rattle.ct_fs.specs.Mounts.{device_of, fs_dev, mounts}
use Rattle.ct_fs.specs.declared.system.Fs.{Fs}
use Rattle.ct_call.specs.declared.mount.State.{State}
use Rattle.ct_call.specs.declared.mount.State.TheVariants.{Ready, Dead}
use Rattle.ct_grow.specs.Grown.{CanGrow}
use Rattle.ct_pm.specs.Device.{NothingPending}
use Rattle.ct_pm.specs.Images.{History}
use Rattle.ct_walk.specs.Growth.{Grown}
use Rattle.growth_stops.specs.Starts.{AreAlike}

-- ---- the device of a mount

device_ready : {D : Type 0} {bound : _} (state : Option (State D bound)) (now : Volume D) → ready_in state ≡ Some now → device_in state ≡ Some now.dev
device_ready None now is = absurd (none-some now is)
device_ready {D = D} (Some (Ready mounted)) now is = ap (λ (v : Volume D). Some v.dev) (same_Some mounted now is)
device_ready (Some (Dead failed)) now is = absurd (none-some now is)

unmounted : {D : Type 0} {bound : _} (fs : Fs D bound) (now : Volume D) (dev : D) → mounts fs ≡ Some now → Some dev ≡ device_of fs → dev ≡ now.dev
unmounted fs now dev is out = same_Some dev now.dev (out ∙ device_ready fs.state now is)

-- ---- growth

module _ {w : List ℕ} (r : IsAtRest w) where
  abbrev root : Inode
  root = inode (view w) 1

  -- a live root directory with a partition owns it
  owns_root : root.kind ≢ 0 → root.level ≤ 9 → Owns (view w) (inode_count w) 1
  owns_root used few = record { live = record { number = record { from = omega arith; to = omega (arith, r.head.inodes.0) }; used = used }; level = few }

  room_of : (i : ℕ) → 1 ≤ i → i ≤ 2 → (inode (view w) i).kind ≢ 0 → (inode (view w) i).level ≢ 15 → HasRoom (inode (view w) i)
  room_of i from to used has = elim (r.sound placed i (record { number = record { from = from; to = omega (arith, to, r.head.inodes.0) }; used = used })).place [
    | inl none ↦ absurd (has none.level)
    | inr room ↦ room
  ]

  root_part : root.kind ≢ 0 → root.level ≢ 15 → IsPart (part root)
  root_part used has = (room_of 1 (omega arith) (omega arith) used has).part

  -- the partition of the root directory, or of the inode after it
  pub own_object : (i : ℕ) → 1 ≤ i → i ≤ 2 → (f : Inode) → f ≡ inode (view w) i → f.kind ≢ 0 → f.level ≢ 15 → IsPart (part f)
  own_object i from to f is used has =
      subst (λ (g : Inode). IsPart (part g)) (sym is) (room_of i from to (subst (λ (g : Inode). g.kind ≢ 0) is used) (subst (λ (g : Inode). g.level ≢ 15) is has)).part

  object_grows : IsUnstaged w → (i : ℕ) → 1 ≤ i → i ≤ 2 → (level : ℕ) → (inode (view w) i).kind ≢ 0 → level ≤ 9 → ((inode (view w) i).level ≡ 15) ⊎ ((inode (view w) i).level < level) → free_parts (live_parts (view w) (inode_count w)) level ≢ [] → CanGrow w i level
  object_grows none i from to level used fits more some = record {
    ready = ready_here r none;
    live = record { number = record { from = from; to = omega (arith, to, r.head.inodes.0) }; used = used };
    fits = fits;
    more = more;
    some = some;
  }

  pub grows : IsUnstaged w → (i : ℕ) → 1 ≤ i → i ≤ 2 → (level : ℕ) (f : Inode) → f ≡ inode (view w) i → f.kind ≢ 0 → level ≤ 9 → (f.level ≡ 15) ⊎ (f.level < level) → free_parts (live_parts (view w) (inode_count w)) level ≢ [] → CanGrow w i level
  grows none i from to level f is used fits more some =
      object_grows none i from to level (subst (λ (g : Inode). g.kind ≢ 0) is used) fits (subst (λ (g : Inode). (g.level ≡ 15) ⊎ (g.level < level)) is more) some

  -- the page at an offset in its partition may be made
  pub root_owned : (offset at : ℕ) (f : Inode) → f ≡ root → f.kind ≢ 0 → f.level ≤ 9 → offset < part_bytes f.level → at ≡ f.base + offset → AreOwned w (page_want at ∷ page_want 64 ∷ [])
  root_owned offset at f is used few inside there =
      let kind : root.kind ≢ 0 = subst (λ (g : Inode). g.kind ≢ 0) is used in
      let level : root.level ≤ 9 = subst (λ (g : Inode). g.level ≤ 9) is few in
      let within : offset < part_bytes root.level = subst (λ (g : Inode). offset < part_bytes g.level) is inside in
      let own = root_part kind (λ none. omega (arith, none, level)) in
      let bounds = part_bounds root.level root.base own.level own.aligned own.high in
      subst (λ n. AreOwned w (page_want n ∷ page_want 64 ∷ [])) (sym (there ∙ ap (λ (g : Inode). g.base + offset) is))
      (entry_owned w 1 offset 1 (owns_root kind level) own.low (omega (arith, bounds.1, within)) bounds.0 within (omega arith))

  -- and its address is one
  pub root_high : (offset : ℕ) (f : Inode) → f ≡ root → f.kind ≢ 0 → f.level ≤ 9 → offset < part_bytes f.level → f.base + offset < 2 ^ 48
  root_high offset f is used few inside =
      let kind : root.kind ≢ 0 = subst (λ (g : Inode). g.kind ≢ 0) is used in
      let level : root.level ≤ 9 = subst (λ (g : Inode). g.level ≤ 9) is few in
      let within : offset < part_bytes root.level = subst (λ (g : Inode). offset < part_bytes g.level) is inside in
      let own = root_part kind (λ none. omega (arith, none, level)) in
      let bounds = part_bounds root.level root.base own.level own.aligned own.high in
      subst (λ (g : Inode). g.base + offset < 2 ^ 48) (sym is) (omega (arith, bounds.1, within))

-- ---- the pages made

pub filled : {w new : List ℕ} {one two : Want} {before after frames : FreePages} {start told : Option History} (at : ℕ) → IsMounted w start frames → one ≡ page_want at → two ≡ page_want 64 → AreOwned w (page_want at ∷ page_want 64 ∷ []) → Grown w new (one ∷ two ∷ []) before after
    → NothingPending told → Agrees new after → IsMounted new told after
filled {w} {new} {one} {two} at m is_one is_two owned grown settled agrees =
    let own = subst (λ (x : Want). AreOwned w (x ∷ two ∷ [])) (sym is_one) (subst (λ (y : Want). AreOwned w (page_want at ∷ y ∷ [])) (sym is_two) owned) in
    record { rest = grown_rests m.rest grown own; unstaged = grown_unstaged m.rest grown own m.unstaged; settled = settled; agrees = agrees }

-- ---- frames

pub agrees_alike : {img : List ℕ} {frames other : FreePages} → Agrees img frames → other.pages ≡ frames.pages → AreAlike other.free frames.free → Agrees img other
agrees_alike agrees pages alike = record {
  pages = pages ∙ agrees.pages;
  free = λ q there. agrees.free q ((alike q).0 there);
  all = λ q low high. elim (agrees.all q low high) [ inl free ↦ inl ((alike q).1 free) | inr reached ↦ inr reached ];
}

-- ---- mounts

pub mounted : {w : List ℕ} {told : Option History} {frames : FreePages} → IsAtRest w → IsUnstaged w → NothingPending told → Agrees w frames → IsMounted w told frames
mounted r none settled agrees = record { rest = r; unstaged = none; settled = settled; agrees = agrees }

-- a new image, with the pages after its own
new_device : {img : List ℕ} {frames other : FreePages} {pages n : ℕ} {told : Option History} (count : ℕ) → IsNew img frames pages n → NothingPending told → count ≡ pages → 256 ≤ count
    → other ≡ record { pages = count; free = rising (count - 42) 42 } → IsMounted img told other
new_device {img} {other = other} {pages = pages} count new settled same many is =
    let here : other ≡ record { pages = pages; free = rising (pages - 42) 42 } = subst (λ (m : ℕ). other ≡ record { pages = m; free = rising (m - 42) 42 }) same is in
    mounted (new_mounted new settled).rest (new_mounted new settled).unstaged settled (subst (Agrees img) (sym here) (fresh_agrees new.formatted (omega (arith, same, many))))

some_and : {A : Type 0} (P : A → Type 0) (o : Option A) → IsSomeAnd o P → (x : A) × (o ≡ Some x) × P x
some_and P None h = absurd h
some_and P (Some x) h = (x, refl, h)

-- the device of a new mount, with the pages after the image's own
pub made_mounted : {D : Type 0} {bound : _} (fs : Fs D bound) (dev : D) (pages n count : ℕ) (other : FreePages) → IsSomeAnd (mounts fs) (λ now. IsNew (bound.words now.dev) now.frames pages n) → NothingPending (bound.told (fs_dev fs))
    → Some dev ≡ device_of fs → count ≡ pages → 256 ≤ count → other ≡ record { pages = count; free = rising (count - 42) 42 } → IsMounted (bound.words dev) (bound.told dev) other
made_mounted {D} {bound = bound} fs dev pages n count other made settled out same many is =
    let m = some_and (λ (now : Volume D). IsNew (bound.words now.dev) now.frames pages n) (mounts fs) made in
    let still = subst (λ (d : D). NothingPending (bound.told d)) (ready_dev fs m.0 m.1) settled in
    subst (λ (d : D). IsMounted (bound.words d) (bound.told d) other) (sym (unmounted fs m.0 dev m.1 out)) (new_device count m.2 still same many is)

equal_tests : (a b : Bool) → not (beq a b) ≡ false → a ≡ b
equal_tests true true is = refl
equal_tests true false is = absurd (true≢false is)
equal_tests false true is = absurd (true≢false is)
equal_tests false false is = refl

-- the same page is free or not
pub same_page : (a b : Bool) (one other : List ℕ) (page q : ℕ) → IsTrue a ↔ Contains one page → IsTrue b ↔ Contains other page → not (beq a b) ≡ false → q ≡ page → Contains one q ↔ Contains other q
same_page a b one other page q first second test at =
    let same = equal_tests a b test in (
      λ here. subst (Contains other) (sym at) (second.0 (subst IsTrue same (first.1 (subst (Contains one) at here)))),
      λ there. subst (Contains one) (sym at) (first.0 (subst IsTrue (sym same) (second.1 (subst (Contains other) at there)))),
    )
