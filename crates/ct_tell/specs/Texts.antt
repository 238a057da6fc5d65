-- What is written.
use Rattle.std.specs.Prelude.{ℕ, ◌==◌, if◌then◌else◌, List, [], ◌++◌, length, codes, Option, Some, None}
use Rattle.std.specs.Fmt.{decimal}
use Rattle.ct_script.specs.Texts.{line_of, name_text}
use Rattle.ct_tree.specs.Step.{count}
use Rattle.ct_tree.specs.Tree.{Tree, File, Dir, Entries, none, entry}
use Rattle.ct_tell.specs.Rules.{rule_line}
use Rattle.ct_tell.specs.declared.held.Counts.{Counts}
use Rattle.ct_tell.specs.declared.info.Info.{Info}
use Rattle.ct_tell.specs.declared.info.State.{State}
use Rattle.ct_tell.specs.declared.info.State.TheVariants.{Headless, Damaged, Sound}

-- sound, or the first rule that fails
abbrev pub verdict_line : Option ℕ → List ℕ
verdict_line None = line_of (codes "sound")
verdict_line (Some rule) = rule_line rule

-- an entry's kind, and the bytes of a file or the number of entries of a directory
abbrev pub kind_text : Tree → List ℕ
kind_text (File bytes) = codes "f " ++ decimal (length bytes)
kind_text (Dir es) = codes "d " ++ decimal (count es)

-- the line of an entry: those, and its name as a script writes it
abbrev pub entry_line : List ℕ → Tree → List ℕ
entry_line name node = line_of (kind_text node ++ name_text name)

-- the entries of a directory, in their order
abbrev pub list_text : Entries → List ℕ
list_text none = []
list_text (entry name node rest) = entry_line name node ++ list_text rest

-- the counts of the first page
abbrev pub head_line : Info → List ℕ
head_line i = line_of (codes "version " ++ decimal i.version ++ codes ", pages " ++ decimal i.pages ++ codes ", inodes " ++ decimal i.inodes)

-- the words of a head that is not lawful, beside those
abbrev pub words_line : ℕ → ℕ → ℕ → List ℕ
words_line magic long short = line_of (codes "first word " ++ decimal magic ++ codes ", gates " ++ decimal long ++ codes " and " ++ decimal short)

-- whether a record is open, with how many pairs, and what the next run does with it
abbrev pub record_line : ℕ → List ℕ
record_line n =
    if n == 0 then line_of (codes "record closed")
    else line_of (codes "record open, pairs " ++ decimal n ++ codes ": a call was cut off, and the next run completes it")

-- what a tree holds, and how many pages are free beside it
abbrev pub held_line : Counts → ℕ → List ℕ
held_line counts free =
    line_of (
    codes "files " ++ decimal counts.files ++ codes ", directories " ++ decimal counts.directories ++ codes ", bytes " ++ decimal counts.bytes
    ++ codes ", free pages " ++ decimal free
    )

abbrev pub state_text : State → List ℕ
state_text (Headless magic long short rule) = words_line magic long short ++ verdict_line (Some rule)
state_text (Damaged pairs rule) = record_line pairs ++ verdict_line (Some rule)
state_text (Sound pairs counts free) = record_line pairs ++ held_line counts free ++ verdict_line None

abbrev pub info_text : Info → List ℕ
info_text i = head_line i ++ state_text i.state
