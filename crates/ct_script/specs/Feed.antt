-- Lines that come one after another: what a feed is seen as, and what it finds ahead.
use Rattle.std.specs.Prelude.{◌≡◌, ◌≢◌, ◌⊎◌, ℕ, ◌+◌, ◌<◌, ◌≤◌, Bool, true, false, List, [], ◌∷◌, ◌++◌, length, Ok, Err}
use Rattle.std.specs.Io.KnownBytes.{Consumes, IsAtEnd}
use Rattle.std.specs.List.{All}
use Rattle.std.specs.declared.option.Option.{Option}
use Rattle.std.specs.declared.result.Result.{Result}
use Rattle.ct_script.specs.declared.feed.Next.{Next}
use Rattle.ct_script.specs.declared.feed.Next.TheVariants.{Line, Overlong, End}
use Rattle.ct_script.specs.declared.feed.ReadEnd.{ReadEnd}
use Rattle.ct_script.specs.declared.feed.ReadEnd.TheVariants.{Fault, TooLong}
use Rattle.ct_script.specs.declared.feed.TheConstants.{SCRIPT_BYTES}
use Rattle.ct_script.specs.declared.scratch.TheConstants.{LINE_BYTES}

-- A feed is seen as the line that it found last, the bytes that it holds of those behind it, how many bytes the input gave in all,
-- and whether the input has ended.
pub record FeedState : Type 0 where
  pub line : List ℕ
  pub held : List ℕ
  pub given : ℕ
  pub ended : Bool

-- nothing was asked of an input yet
abbrev pub unasked : FeedState
unasked = record { line = []; held = []; given = 0; ended = false }

-- no byte 10 is in the text
abbrev pub IsUnended : List ℕ → Type 0
IsUnended text = All (λ b. b ≢ 10) text

-- the input has ended, and the text is its last line, which has a byte but no byte 10
pub record IsLastLine (text line : List ℕ) (feed : FeedState) : Type 0 where
  pub all : text ≡ line
  pub some : 0 < length line
  pub ended : feed.ended ≡ true
  pub none : feed.held ≡ []

-- the text begins with this line: behind its byte 10 stands what is held, or it is the last
abbrev pub BeginsWith : List ℕ → List ℕ → FeedState → Type 0
BeginsWith text line feed = IsUnended line × ((text ≡ line ++ 10 ∷ feed.held) ⊎ IsLastLine text line feed)

-- what was found at the front of the text
abbrev pub Finds : List ℕ → FeedState → Next → Type 0
Finds text feed Line = BeginsWith text feed.line feed × (length feed.line ≤ LINE_BYTES)
Finds text feed Overlong = (line : List ℕ) × BeginsWith text line feed × (LINE_BYTES < length line)
Finds text feed End = (text ≡ []) × (feed.ended ≡ true) × (feed.held ≡ [])

-- or why nothing was: the input failed before a line was ended, or it gave a byte more than a script may have
abbrev pub FindsOr : List ℕ → FeedState → Result Next ReadEnd → Type 0
FindsOr text feed (Ok next) = Finds text feed next × (feed.given ≤ SCRIPT_BYTES)
FindsOr text feed (Err Fault) = IsUnended text × (feed.given ≤ SCRIPT_BYTES) × (feed.ended ≡ false)
FindsOr text feed (Err TooLong) = feed.given ≡ SCRIPT_BYTES + 1

-- The input gave more bytes, which is how it ended if the feed says so, unless that was known before: then it gave none.
pub record Gives (old new : FeedState) (rest rest' : Option (List ℕ)) (more : List ℕ) : Type 0 where
  pub gave : Consumes rest rest' more
  pub count : new.given ≡ old.given + length more
  pub ends : new.ended ≡ true → IsAtEnd rest' ⊎ ((old.ended ≡ true) × (rest' ≡ rest))
  pub after : old.ended ≡ true → (more ≡ []) × (new.ended ≡ true)

-- a feed went on by a line: that was found in what it held and what the input gave
pub record Advances (old new : FeedState) (rest rest' : Option (List ℕ)) (result : Result Next ReadEnd) : Type 0 where
  pub more : List ℕ
  pub gives : Gives old new rest rest' more
  pub found : FindsOr (old.held ++ more) new result

-- the first line was taken from what is held, or none is ended there
abbrev pub TakesLine : FeedState → FeedState → Bool → Type 0
TakesLine old new true = (old.held ≡ new.line ++ 10 ∷ new.held) × IsUnended new.line × (length new.line ≤ LINE_BYTES)
TakesLine old new false = (new.held ≡ old.held) × IsUnended old.held

-- there is room for a byte more: what is held was kept, or it was a part of a line that is too long
abbrev pub MakesRoom : FeedState → FeedState → Bool → Bool → Type 0
MakesRoom old new passed passed' =
    ((length old.held ≤ LINE_BYTES) × (new.held ≡ old.held) × (passed' ≡ passed)) ⊎ ((LINE_BYTES < length old.held) × (new.held ≡ []) × (passed' ≡ true))

-- what is left where the input has ended
abbrev pub last_next : Bool → List ℕ → Next
last_next true text = Overlong
last_next false [] = End
last_next false (x ∷ xs) = Line

-- what one piece of the input is, and what it leaves of a feed that held no whole line
abbrev pub Fits : FeedState → List ℕ → Result ℕ ReadEnd → Type 0
Fits feed piece (Ok n) = (n ≡ length piece) × (n ≡ 0 → feed.ended ≡ true) × (feed.given ≤ SCRIPT_BYTES)
Fits feed piece (Err Fault) = (piece ≡ []) × (feed.given ≤ SCRIPT_BYTES) × (feed.ended ≡ false)
Fits feed piece (Err TooLong) = feed.given ≡ SCRIPT_BYTES + 1

pub record Fills (old new : FeedState) (rest rest' : Option (List ℕ)) (result : Result ℕ ReadEnd) : Type 0 where
  pub piece : List ℕ
  pub gives : Gives old new rest rest' piece
  pub held : new.held ≡ old.held ++ piece
  pub fits : Fits new piece result
