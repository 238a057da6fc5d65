-- The mount rules in words, by their numbers: what is so where the rule fails.
use Rattle.std.specs.Prelude.{ℕ, zero, suc, ◌+◌, ◌==◌, nat_lt, if◌then◌else◌, List, [], ◌++◌, codes}
use Rattle.std.specs.Fmt.{decimal}
use Rattle.ct_script.specs.Texts.{line_of}

-- of the size, the first page and the record
abbrev pub head_words : ℕ → List ℕ
head_words n =
    if n == 0 then codes "the file has fewer than 256 or more than 262,144 whole pages"
    else if n == 1 then codes "the first word is not that of a file system"
    else if n == 2 then codes "the version is not 1"
    else if n == 3 then codes "the page count is below 256 or above the pages of the file"
    else if n == 4 then codes "the inode count is below 2 or above 1,048,576"
    else if n == 5 then codes "a word of the first page behind the counts is not 0"
    else if n == 6 then codes "the record has more pairs than it has room for, or two gates are open"
    else codes "a pair of the open record names a word that no record may change"

-- of tables, inodes and partitions
abbrev pub space_words : ℕ → List ℕ
space_words n =
    if n == 8 then codes "an entry of a table is not 0 and names no page"
    else if n == 9 then codes "a page is reached twice"
    else if n == 10 then codes "an inode has an unknown kind or a spare word that is not 0, or the root is no directory"
    else if n == 11 then codes "an inode has no lawful place for its size"
    else if n == 12 then codes "two partitions meet"
    else if n == 13 then codes "a byte past a size is not 0"
    else codes "a page is mapped outside the partitions"

-- of headers and directories
abbrev pub name_words : ℕ → List ℕ
name_words n =
    if n == 15 then codes "a partition header is not what the partitions make it"
    else if n == 16 then codes "a byte beside the inodes is not 0"
    else if n == 17 then codes "an entry of a directory names no inode, or has no lawful name"
    else if n == 18 then codes "two entries of a directory have the same name"
    else if n == 19 then codes "the root is named, or another inode is not named once"
    else codes "an inode is not reached from the root"

abbrev pub rule_words : ℕ → List ℕ
rule_words n = if nat_lt n 8 then head_words n else if nat_lt n 15 then space_words n else name_words n

-- the line of a rule: its number, and its words
abbrev pub rule_line : ℕ → List ℕ
rule_line n = line_of (codes "rule " ++ decimal n ++ codes ": " ++ rule_words n)

-- the lines of so many rules from one on
unfoldable pub rule_lines : ℕ → ℕ → List ℕ
rule_lines from zero = []
rule_lines from (suc count) = rule_line from ++ rule_lines (from + 1) count

-- all 21
abbrev pub all_rules : List ℕ
all_rules = rule_lines 0 21
