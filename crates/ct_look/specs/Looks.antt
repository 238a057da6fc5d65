-- What the calls that only look answer, by the words and the tree for which they stand.
use Rattle.std.specs.Prelude.{◌≡◌, ℕ, ◌^◌, ◌<◌, ◌≤◌, Bool, true, false, if◌then◌else◌, List, [], ◌∷◌, Option, Some, None, Ok, Err, All, length, map, take}
use Rattle.std.specs.declared.result.Result.{Result}
use Rattle.std.specs.declared.cmp.Ordering.{Ordering}
use Rattle.std.specs.declared.cmp.Ordering.TheVariants.{Less, Equal, Greater}
use Rattle.ct_base.specs.declared.layout.TheConstants.{ROOT_PAGE}
use Rattle.ct_base.specs.Inode.{inode}
use Rattle.ct_base.specs.Path.{name_cmp}
use Rattle.ct_base.specs.Slots.{IsSlot, slot_name}
use Rattle.ct_base.specs.View.{view}
use Rattle.ct_base.specs.Walk.{page_count}
use Rattle.ct_dir.specs.Directory.{IsReadable, dir_of}
use Rattle.ct_tree.specs.Need.{IsAt}
use Rattle.ct_tree.specs.declared.call.Refusal.{Refusal}
use Rattle.ct_tree.specs.declared.call.Reply.{Reply}
use Rattle.ct_tree.specs.declared.call.Reply.TheVariants.{Done, Data, File as FileOf, Dir as DirOf, Names, At, Refused as refused, BadLine}
use Rattle.ct_call.specs.declared.mount.FsError.{FsError}
use Rattle.ct_call.specs.declared.mount.FsError.TheVariants.{Dead, Refused, Fault}
use Rattle.ct_look.specs.declared.seen.Listing.{Listing}
use Rattle.ct_look.specs.declared.seen.Stat.{Stat}
use Rattle.ct_look.specs.declared.seen.Stat.TheVariants.{File, Dir}

-- what stat answers where the tree gives this reply; the tree gives it no other
abbrev pub stat_answer : Reply → Result Stat FsError
stat_answer Done = Err Fault
stat_answer (Data bytes) = Err Fault
stat_answer (FileOf size) = Ok (File size)
stat_answer (DirOf count) = Ok (Dir count)
stat_answer (Names names) = Err Fault
stat_answer (At base level) = Err Fault
stat_answer (refused r) = Err (Refused r)
stat_answer BadLine = Err Fault

abbrev pub is_less : Ordering → Bool
is_less Less = true
is_less Equal = false
is_less Greater = false

-- the name comes later than the other, or there is no other
abbrev pub is_later : Option (List ℕ) → List ℕ → Bool
is_later None x = true
is_later (Some after) x = is_less (name_cmp after x)

-- the first of the names that is later than the other
abbrev pub next_name : Option (List ℕ) → List (List ℕ) → Option (List ℕ)
next_name after [] = None
next_name after (x ∷ xs) = if is_later after x then Some x else next_name after xs

-- a call that only looks is refused exactly where a check of the tree fails, and else its value is as it should be
abbrev pub IsLook : {T : Type 0} → Option Refusal → (T → Type 0) → Result T FsError → Type 0
IsLook check IsRight (Ok value) = (check ≡ None) × IsRight value
IsLook check IsRight (Err Dead) = ⊥
IsLook check IsRight (Err (Refused r)) = check ≡ Some r
IsLook check IsRight (Err Fault) = ⊥

-- the answer of a mount that is ready
abbrev pub answer_of : {T : Type 0} → Result T Refusal → Result T FsError
answer_of (Ok value) = Ok value
answer_of (Err r) = Err (Refused r)

-- the base and the level of the inode to which the path leads
abbrev pub IsPlaceAt : List ℕ → List ℕ → ℕ × ℕ → Type 0
IsPlaceAt img path place =
    (i : ℕ) × IsAt img path i × (place.0 ≡ (inode (view img) i).base) × (place.1 ≡ (inode (view img) i).level)

-- a page of the device, the root table or one that an entry names
pub record IsOnDevice (img : List ℕ) (page : ℕ) : Type 0 where
  pub low : ROOT_PAGE ≤ page
  pub high : page < page_count img
  pub small : page < 2 ^ 52

-- the names are those of the slots whose offsets were put at the front of the buffer, in this order; or they are more than fit
abbrev pub IsListed : List ℕ → List (List ℕ) → List ℕ → List ℕ → Option Listing → Type 0
IsListed img names old new None = length old < length names
IsListed img names old new (Some listing) = names ≡ map (slot_name (dir_of img listing.dir)) (take listing.count new)

-- the names of these slots can be read
pub record AreSlots (img offsets : List ℕ) (listing : Listing) : Type 0 where
  pub readable : IsReadable img listing.dir
  pub slots : All (IsSlot (dir_of img listing.dir)) (take listing.count offsets)
