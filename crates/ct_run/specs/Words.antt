-- Which words are a command.
use Rattle.std.specs.Prelude.{ℕ, List, [], ◌∷◌, Option, Some, None, codes, nat_le, ◌&&◌, if◌then◌else◌, option_and_then}
use Rattle.std.specs.Str.{bytes_eq}
use Rattle.ct_base.specs.declared.layout.TheConstants.{LEAST_INODES, MOST_INODES}
use Rattle.ct_gen.specs.declared.calls.TheConstants.{MOST_DRAWS}
use Rattle.ct_script.specs.Grammar.{number_of}
use Rattle.ct_run.specs.Ways.{IsMounting, IsScript, IsWithinWay, IsWithinWork, Work, calls, dump, nothing, script}
use Rattle.ct_run.specs.declared.command.Command.{Command}
use Rattle.ct_run.specs.declared.command.Command.TheVariants.{Mem, Run, Format, Gen, Dump}
use Rattle.ct_run.specs.declared.opening.Way.{Way}
use Rattle.ct_run.specs.declared.opening.Way.TheVariants.{Making, Mounting}

-- how many inodes the file system of mem has
abbrev pub mem_inodes : ℕ
mem_inodes = 1024

-- a format with so many inodes
abbrev pub format_with : ℕ → Option Command
format_with inodes = if nat_le LEAST_INODES inodes && nat_le inodes MOST_INODES then Some (Format inodes) else None

-- and with as many as the word says, a number as in a script
abbrev pub format_of : List ℕ → Option Command
format_of word = option_and_then format_with (number_of word)

-- the calls of a number, so many draws of them
abbrev pub gen_with : ℕ → ℕ → Option Command
gen_with number count = if nat_le count MOST_DRAWS then Some (Gen number count) else None

-- and as the words say, both numbers as in a script
abbrev pub gen_of : List ℕ → List ℕ → Option Command
gen_of number count = option_and_then (λ n. option_and_then (gen_with n) (number_of count)) (number_of number)

-- a command over an image that is there
abbrev pub image_command : List ℕ → Option Command
image_command word = if bytes_eq word (codes "run") then Some Run else (if bytes_eq word (codes "dump") then Some Dump else None)

-- a command with two words after it
abbrev pub long_command : List ℕ → List ℕ → List ℕ → Option Command
long_command word first second =
    if bytes_eq word (codes "format") then format_of second
    else (if bytes_eq word (codes "gen") then gen_of first second else None)

-- The words are one of these, exactly: mem, run IMAGE, dump IMAGE, format IMAGE INODES, gen NUMBER COUNT. Any word names an image.
abbrev pub command_of : List (List ℕ) → Option Command
command_of [] = None
command_of (word ∷ []) = if bytes_eq word (codes "mem") then Some Mem else None
command_of (word ∷ image ∷ []) = image_command word
command_of (word ∷ first ∷ second ∷ []) = long_command word first second
command_of (word ∷ first ∷ second ∷ other ∷ words) = None

-- how the file system of a command comes to stand
abbrev pub way_of : Command → Way
way_of Mem = Making mem_inodes
way_of Run = Mounting
way_of (Format inodes) = Making inodes
way_of (Gen number count) = Making mem_inodes
way_of Dump = Mounting

-- and what it does over it
abbrev pub work_of : Command → Work
work_of Mem = script
work_of Run = script
work_of (Format inodes) = nothing
work_of (Gen number count) = calls number count
work_of Dump = dump

-- the numbers of a command are within their bounds
abbrev pub AreWithin : Option Command → Type 0
AreWithin None = Unit {0}
AreWithin (Some command) = IsWithinWay (way_of command) × IsWithinWork (work_of command)

-- the command serves the script of the input
abbrev pub TakesScript : Option Command → Type 0
TakesScript None = ⊥
TakesScript (Some command) = IsScript (work_of command)

-- the command mounts the file system that the device holds
abbrev pub TakesImage : Option Command → Type 0
TakesImage None = ⊥
TakesImage (Some command) = IsMounting (way_of command)
