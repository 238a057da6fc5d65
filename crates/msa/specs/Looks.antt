-- What a look of C's answers.
use Rattle.std.specs.Prelude.{◌≡◌, ◌≢◌, ◌↔◌, ◌⊎◌, ◌-◌, ◌<◌, ◌≤◌, ◌^◌, ℕ, List, [], ◌∷◌, ◌++◌, drop, length, IfOk, IfSome, Option, Result, Some, None, Ok, Err, IsNone, OnErr, true, false}
use Rattle.std.specs.Option.{option_map}
use Rattle.ct_tree.specs.Checks.{at}
use Rattle.ct_tree.specs.Content.{bytes_in, range}
use Rattle.ct_tree.specs.Runs.{MayLieAt}
use Rattle.ct_tree.specs.Step.{list as list_call, listed_in, locate as locate_call, read as read_call, size_at, refusal, stat as stat_call, step}
use Rattle.ct_tree.specs.Tree.{Tree}
use Rattle.ct_call.specs.Calls.{StandsFor}
use Rattle.ct_call.specs.Mounted.{Volume}
use Rattle.ct_call.specs.declared.mount.FsError.{FsError}
use Rattle.ct_call.specs.declared.mount.FsError.TheVariants.{Dead, Fault}
use Rattle.ct_base.specs.Walk.{byte}
use Rattle.ct_base.specs.declared.layout.TheConstants.{ADDRESS_END}
use Rattle.ct_call.specs.Seen.{device_in}
use Rattle.ct_look.specs.Content.{IsRead}
use Rattle.ct_look.specs.Holes.{IsMappedAt, IsNextData}
use Rattle.ct_look.specs.Looks.{IsLook, IsPlaceAt, next_name, stat_answer}
use Rattle.ct_look.specs.declared.seen.Stat.{Stat}
use Rattle.ct_look.specs.declared.seen.Stat.TheVariants.{File, Dir}
use Rattle.pm_outbox.specs.Outbox.{words_of}
use Rattle.pm_outbox.specs.declared.outbox.OutboxPm.{OutboxPm}
use Rattle.msa.specs.Codes.{code_of}
use Rattle.msa.specs.Mounts.{state_of}
use Rattle.msa.specs.Seats.{mount_in}
use Rattle.msa.specs.declared.codes.TheConstants.{CLOSED, MISUSE}
use Rattle.msa.specs.declared.looks.Told.{Told}
use Rattle.msa.specs.declared.seat.Seat.{Seat}

-- the read of the file system: its answer, and the buffer before and after it
pub record Reads (path : List ℕ) (off len : ℕ) (seat : Seat) (old new : List ℕ) (result : Result ℕ FsError) : Type 0 where
  pub dead : IsNone (mount_in seat) ↔ (result ≡ Err Dead)
  pub faultless : result ≢ Err Fault
  pub answer : (before : Volume OutboxPm) → mount_in seat ≡ Some before → (t : Tree) → StandsFor (words_of before.dev) t
      → IsLook (refusal t (read_call path off len)) (IsRead (range (bytes_in (at t path)) off len) old new) result
  pub kept : OnErr result (new ≡ old)

-- a number that is told: the answer, or what it was
abbrev pub tells : {T : Type 0} → T → T → Result T FsError → Type 0
tells old new (Ok value) = new ≡ value
tells old new (Err e) = new ≡ old

-- The handle stays. It had nothing in it and nothing is told, or its look was made: its code is the answer, and the number is told.
abbrev pub LooksAt : {T : Type 0} → (Seat → Result T FsError → Type 0) → (Result T FsError → Type 0) → Type 0 → Option Seat → Option Seat → ℕ → Type 0
LooksAt look told still None now code = (now ≡ None) × (code ≡ CLOSED) × still
LooksAt {T = T} look told still (Some was) now code = (now ≡ Some was) × ((result : Result T FsError) × ((code ≡ code_of result) × look was result × told result))

-- what is told of a file or a directory
abbrev pub told_of : Stat → Told
told_of (File size) = record { is_directory = false; size = size }
told_of (Dir count) = record { is_directory = true; size = count }

pub record Stats (path : List ℕ) (seat : Seat) (result : Result Stat FsError) : Type 0 where
  pub dead : IsNone (mount_in seat) ↔ (result ≡ Err Dead)
  pub faultless : result ≢ Err Fault
  pub answer : (before : Volume OutboxPm) → mount_in seat ≡ Some before → (t : Tree) → StandsFor (words_of before.dev) t
      → result ≡ stat_answer (step t (stat_call path)).0

abbrev pub tells_stat : Told → Told → Result Stat FsError → Type 0
tells_stat old new (Ok stat) = new ≡ told_of stat
tells_stat old new (Err e) = new ≡ old

-- the search for data of the file system
pub record SeeksData (path : List ℕ) (off : ℕ) (seat : Seat) (result : Result (Option ℕ) FsError) : Type 0 where
  pub dead : IsNone (mount_in seat) ↔ (result ≡ Err Dead)
  pub faultless : result ≢ Err Fault
  pub answer : (before : Volume OutboxPm) → mount_in seat ≡ Some before → (t : Tree) → StandsFor (words_of before.dev) t
      → IsLook (refusal t (locate_call path)) (λ found. IsNextData (bytes_in (at t path)) off found) result
  pub mapped : (before : Volume OutboxPm) → mount_in seat ≡ Some before → IfOk result (λ found. IfSome found (λ next. IsMappedAt (words_of before.dev) path next))

-- where data come next, or the largest number where none do
abbrev pub next_of : Option ℕ → ℕ
next_of None = 2 ^ 64 - 1
next_of (Some next) = next

abbrev pub tells_next : ℕ → ℕ → Result (Option ℕ) FsError → Type 0
tells_next old new (Ok found) = new ≡ next_of found
tells_next old new (Err e) = new ≡ old

-- where the file system says that a file lies
pub record Locates (path : List ℕ) (seat : Seat) (result : Result (ℕ × ℕ) FsError) : Type 0 where
  pub dead : IsNone (mount_in seat) ↔ (result ≡ Err Dead)
  pub faultless : result ≢ Err Fault
  pub answer : (before : Volume OutboxPm) → mount_in seat ≡ Some before → (t : Tree) → StandsFor (words_of before.dev) t
      → IsLook (refusal t (locate_call path)) (λ place. IsPlaceAt (words_of before.dev) path place × MayLieAt (size_at t path) place.0 place.1) result

-- an address and a level are told
abbrev pub tells_place : ℕ → ℕ → ℕ → ℕ → Result (ℕ × ℕ) FsError → Type 0
tells_place address level new_address new_level (Ok place) = (new_address ≡ place.0) × (new_level ≡ place.1)
tells_place address level new_address new_level (Err e) = (new_address ≡ address) × (new_level ≡ level)

-- from where names are told: behind a name, or from the first, where none is given
abbrev pub behind : List ℕ → Option (List ℕ)
behind [] = None
behind (byte ∷ name) = Some (byte ∷ name)

-- the next name of the file system
pub record Lists {N : Type 0} (bytes : N → List ℕ) (path after : List ℕ) (seat : Seat) (result : Result (Option N) FsError) : Type 0 where
  pub dead : IsNone (mount_in seat) ↔ (result ≡ Err Dead)
  pub faultless : result ≢ Err Fault
  pub answer : (before : Volume OutboxPm) → mount_in seat ≡ Some before → (t : Tree) → StandsFor (words_of before.dev) t
      → IsLook (refusal t (list_call path)) (λ found. option_map bytes found ≡ next_name (behind after) (listed_in (at t path))) result

-- A name is told whole at the front of the buffer, with its length; one for which there is no room is not told. The length is 0
-- where there is no more.
abbrev pub TellsName : {N : Type 0} → (N → List ℕ) → List ℕ → List ℕ → ℕ → ℕ → ℕ → Result (Option N) FsError → Type 0
TellsName bytes old new old_len new_len code (Ok (Some name)) =
    ((code ≡ 0) × (new_len ≡ length (bytes name)) × (length (bytes name) ≤ length old) × (new ≡ bytes name ++ drop (length (bytes name)) old))
    ⊎ ((code ≡ MISUSE) × (new_len ≡ old_len) × (length old < length (bytes name)) × (new ≡ old))
TellsName bytes old new old_len new_len code (Ok None) = (code ≡ 0) × (new_len ≡ 0) × (new ≡ old)
TellsName bytes old new old_len new_len code (Err e) = (code ≡ code_of {T = Unit {0}} (Err e)) × (new_len ≡ old_len) × (new ≡ old)

-- the handle stays; it had nothing in it and nothing is told, or the next name was asked for, and is told
abbrev pub ListsAt : {N : Type 0} → (N → List ℕ) → List ℕ → List ℕ → List ℕ → List ℕ → ℕ → ℕ → Option Seat → Option Seat → ℕ → Type 0
ListsAt bytes path after old new old_len new_len None now code = (now ≡ None) × (code ≡ CLOSED) × (new ≡ old) × (new_len ≡ old_len)
ListsAt {N = N} bytes path after old new old_len new_len (Some was) now code =
    (now ≡ Some was) × ((result : Result (Option N) FsError) × (Lists bytes path after was result × TellsName bytes old new old_len new_len code result))

-- The handle stays. It had nothing in it, or the number is no address, and nothing is told; or the byte at the address is, after a
-- fault too.
abbrev pub PeeksAt : ℕ → ℕ → ℕ → Option Seat → Option Seat → ℕ → Type 0
PeeksAt address old new None now code = (now ≡ None) × (code ≡ CLOSED) × (new ≡ old)
PeeksAt address old new (Some was) now code =
    (now ≡ Some was) × (((code ≡ MISUSE) × (ADDRESS_END ≤ address) × (new ≡ old)) ⊎ ((code ≡ 0) × IfSome (device_in (state_of was.fs)) (λ dev. new ≡ byte (words_of dev) address)))
