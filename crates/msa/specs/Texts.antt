-- A status in words.
use Rattle.std.specs.Prelude.{◌≡◌, ◌-◌, ◌++◌, ◌==◌, nat_lt, ℕ, List, drop, length, min, take, codes, if◌then◌else◌}
use Rattle.msa.specs.declared.codes.TheConstants.{DAMAGE}

-- of what a call answers
abbrev pub call_text : ℕ → List ℕ
call_text status =
    if status == 0 then codes "ok" else (
    if status == 1 then codes "bad path" else (
    if status == 2 then codes "not found" else (
    if status == 3 then codes "not a directory" else (
    if status == 4 then codes "is a directory" else (
    if status == 5 then codes "exists" else (
    if status == 6 then codes "not empty" else (
    if status == 7 then codes "into itself" else (
    if status == 8 then codes "is the root" else (
    if status == 9 then codes "too big" else (
    if status == 10 then codes "bad range" else (
    if status == 11 then codes "overlap" else (
    if status == 12 then codes "too long" else (
    if status == 13 then codes "no inode" else (
    if status == 14 then codes "no partition" else (
    if status == 15 then codes "no pages" else (
    if status == 64 then codes "the medium failed, or memory for it ran out" else (
    if status == 65 then codes "an earlier call met a fault" else (
    if status == 66 then codes "the file cannot be read" else (
    if status == 67 then codes "no memory" else (
    if status == 68 then codes "the file is locked" else (
    if status == 69 then codes "not open" else (
    if status == 70 then codes "open already" else (
    if status == 71 then codes "an argument is out of its range" else (
    codes "unknown status"))))))))))))))))))))))))

-- of any status: from 128 to 148 it is a mount rule
abbrev pub text_of : ℕ → List ℕ
text_of status = if nat_lt status DAMAGE then call_text status else (if nat_lt 20 (status - DAMAGE) then codes "unknown status" else codes "no image, or a damaged one")

-- as much of the text as fits stands at the front of the buffer, and its length is told
pub record TellsText (text old new : List ℕ) (len : ℕ) : Type 0 where
  pub all : len ≡ length text
  pub front : new ≡ take (min (length text) (length old)) text ++ drop (min (length text) (length old)) old
