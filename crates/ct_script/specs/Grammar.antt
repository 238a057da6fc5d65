-- A line of a script, and the call that it is.
use Rattle.std.specs.Prelude.{ℕ, ◌+◌, ◌-◌, ◌*◌, ◌^◌, Bool, false, not, ◌&&◌, ◌==◌, nat_lt, nat_le, if◌then◌else◌, List, [], ◌∷◌, length, codes, Some, None, Ok, Err}
use Rattle.std.specs.Char.{is_ascii_digit}
use Rattle.std.specs.List.{list_all}
use Rattle.std.specs.Option.{option_map, option_and_then}
use Rattle.std.specs.Str.{bytes_eq}
use Rattle.std.specs.declared.option.Option.{Option}
use Rattle.std.specs.declared.result.Result.{Result}
use Rattle.hex.specs.Hex.{decode_of}
use Rattle.percent_encoding.specs.Percent.{percent_decode}
use Rattle.ct_base.specs.Split.{parts_at}
use Rattle.ct_tree.specs.Step.{Op, create, mkdir, write, fill, append, read, truncate, unlink, rmdir, rename, exchange, stat, list, locate}
use Rattle.ct_script.specs.declared.verb.Verb.{Verb}
use Rattle.ct_script.specs.declared.verb.Verb.TheVariants.{Create, Mkdir, Write, Fill, Append, Read, Truncate, Unlink, Rmdir, Rename, Exchange, Stat, List as ListNames, Where}
use Rattle.ct_script.specs.declared.scratch.TheConstants.{LINE_BYTES}

-- a line without one byte 13 at its end
abbrev pub chopped : List ℕ → List ℕ
chopped [] = []
chopped (x ∷ []) = if x == 13 then [] else x ∷ []
chopped (x ∷ y ∷ ys) = x ∷ chopped (y ∷ ys)

-- the verbs that name files and directories, or look at them
abbrev pub other_verb_of : List ℕ → Option Verb
other_verb_of word =
    if bytes_eq word (codes "unlink") then Some Unlink
    else if bytes_eq word (codes "rmdir") then Some Rmdir
    else if bytes_eq word (codes "rename") then Some Rename
    else if bytes_eq word (codes "exchange") then Some Exchange
    else if bytes_eq word (codes "stat") then Some Stat
    else if bytes_eq word (codes "list") then Some ListNames
    else if bytes_eq word (codes "where") then Some Where
    else None

abbrev pub verb_of : List ℕ → Option Verb
verb_of word =
    if bytes_eq word (codes "create") then Some Create
    else if bytes_eq word (codes "mkdir") then Some Mkdir
    else if bytes_eq word (codes "write") then Some Write
    else if bytes_eq word (codes "fill") then Some Fill
    else if bytes_eq word (codes "append") then Some Append
    else if bytes_eq word (codes "read") then Some Read
    else if bytes_eq word (codes "truncate") then Some Truncate
    else other_verb_of word

-- the word that a verb is written as
abbrev pub word_of : Verb → List ℕ
word_of Create = codes "create"
word_of Mkdir = codes "mkdir"
word_of Write = codes "write"
word_of Fill = codes "fill"
word_of Append = codes "append"
word_of Read = codes "read"
word_of Truncate = codes "truncate"
word_of Unlink = codes "unlink"
word_of Rmdir = codes "rmdir"
word_of Rename = codes "rename"
word_of Exchange = codes "exchange"
word_of Stat = codes "stat"
word_of ListNames = codes "list"
word_of Where = codes "where"

-- a path has one byte or more, and is percent-decoded as a whole
abbrev pub path_of : List ℕ → Option (List ℕ)
path_of [] = None
path_of (b ∷ bytes) = Some (percent_decode (b ∷ bytes))

-- decimal digits, of which the first is no 0 unless it is the only one
abbrev pub is_number : List ℕ → Bool
is_number [] = false
is_number (d ∷ []) = is_ascii_digit d
is_number (d ∷ e ∷ ds) = not (d == 48) && list_all is_ascii_digit (d ∷ e ∷ ds)

-- the value of digits that follow others of value n
abbrev pub value_from : ℕ → List ℕ → ℕ
value_from n [] = n
value_from n (d ∷ ds) = value_from (10 * n + (d - 48)) ds

abbrev pub value_below : ℕ → List ℕ → Option ℕ
value_below limit word = if nat_lt (value_from 0 word) limit then Some (value_from 0 word) else None

abbrev pub number_below : ℕ → List ℕ → Option ℕ
number_below limit word = if is_number word then value_below limit word else None

abbrev pub number_of : List ℕ → Option ℕ
number_of word = number_below (2 ^ 64) word

abbrev pub byte_of : List ℕ → Option ℕ
byte_of word = number_below 256 word

abbrev pub if_ok : {T E : Type 0} → Result T E → Option T
if_ok (Ok x) = Some x
if_ok (Err e) = None

-- two or more hexadecimal digits, an even number of them
abbrev pub bytes_of : List ℕ → Option (List ℕ)
bytes_of [] = None
bytes_of (d ∷ digits) = if_ok (decode_of (d ∷ digits))

-- what two, or three, words say
abbrev pub of_two : {A B C : Type 0} → (A → B → C) → Option A → Option B → Option C
of_two f (Some a) (Some b) = Some (f a b)
of_two f (Some a) None = None
of_two f None b = None

abbrev pub of_three : {A B C D : Type 0} → (A → B → C → D) → Option A → Option B → Option C → Option D
of_three f (Some a) b c = of_two (f a) b c
of_three f None b c = None

-- the call of a verb and its words
abbrev pub call_with : Verb → List (List ℕ) → Option Op
call_with Create (p ∷ []) = option_map create (path_of p)
call_with Mkdir (p ∷ []) = option_map mkdir (path_of p)
call_with Unlink (p ∷ []) = option_map unlink (path_of p)
call_with Rmdir (p ∷ []) = option_map rmdir (path_of p)
call_with Stat (p ∷ []) = option_map stat (path_of p)
call_with ListNames (p ∷ []) = option_map list (path_of p)
call_with Where (p ∷ []) = option_map locate (path_of p)
call_with Append (p ∷ hex ∷ []) = of_two append (path_of p) (bytes_of hex)
call_with Truncate (p ∷ len ∷ []) = of_two truncate (path_of p) (number_of len)
call_with Rename (p ∷ q ∷ []) = of_two rename (path_of p) (path_of q)
call_with Write (p ∷ off ∷ hex ∷ []) = of_three write (path_of p) (number_of off) (bytes_of hex)
call_with Read (p ∷ off ∷ len ∷ []) = of_three read (path_of p) (number_of off) (number_of len)
call_with Fill (p ∷ off ∷ len ∷ byte ∷ []) = option_and_then (λ path. of_three (fill path) (number_of off) (number_of len) (byte_of byte)) (path_of p)
call_with Exchange (p ∷ off ∷ q ∷ other_off ∷ len ∷ []) =
    option_and_then (λ path. option_and_then (λ n. of_three (exchange path n) (path_of q) (number_of other_off) (number_of len)) (number_of off)) (path_of p)
call_with verb words = None

abbrev pub call_in : List (List ℕ) → Option Op
call_in (verb ∷ word ∷ words) = option_and_then (λ v. call_with v (word ∷ words)) (verb_of verb)
call_in words = None

-- a call has at most so many bytes, a byte 13 at the end included; its words stand with one space between each two
abbrev pub call_of : List ℕ → Option Op
call_of line = if nat_le (length line) LINE_BYTES then call_in (parts_at 32 (chopped line)) else None
