-- Which words are a look at an image.
use Rattle.std.specs.Prelude.{ℕ, List, [], ◌∷◌, Option, Some, None, codes, if◌then◌else◌}
use Rattle.std.specs.Str.{bytes_eq}
use Rattle.percent_encoding.specs.Percent.{percent_decode}
use Rattle.ct_script.specs.Grammar.{number_of, of_two}
use Rattle.ct_tree.specs.Step.{file_limit}
use Rattle.ct_tell.specs.declared.look.Look.{Look as Asked}
use Rattle.ct_tell.specs.declared.look.Look.TheVariants.{Rules, Info, Check, List as ListEntries, Cat}

-- The rules in words; what an image is; whether it is sound; the entries of a directory; so many bytes of a file from an offset on.
pub data Look : Type 0 where
  rules : Look
  info : Look
  check : Look
  list : List ℕ → Look
  cat : List ℕ → ℕ → ℕ → Look

-- a path is percent-decoded, as a path of a script is
abbrev pub look_in : Asked → Look
look_in Rules = rules
look_in Info = info
look_in Check = check
look_in (ListEntries path) = list (percent_decode path.now)
look_in (Cat path off len) = cat (percent_decode path.now) off len

-- a look at no image
abbrev pub rules_look : List ℕ → Option Look
rules_look word = if bytes_eq word (codes "rules") then Some rules else None

-- a look at an image as a whole
abbrev pub image_look : List ℕ → Option Look
image_look word = if bytes_eq word (codes "info") then Some info else if bytes_eq word (codes "check") then Some check else None

-- and at what lies at a path: of a file all its bytes
abbrev pub path_look : List ℕ → List ℕ → Option Look
path_look word path =
    if bytes_eq word (codes "ls") then Some (list (percent_decode path))
    else if bytes_eq word (codes "cat") then Some (cat (percent_decode path) 0 file_limit)
    else None

-- or some of them, both numbers as in a script
abbrev pub range_look : List ℕ → List ℕ → List ℕ → List ℕ → Option Look
range_look word path off len =
    if bytes_eq word (codes "cat") then of_two (cat (percent_decode path)) (number_of off) (number_of len) else None

-- by the words behind the path
abbrev pub look_with : List ℕ → List ℕ → List (List ℕ) → Option Look
look_with word path [] = path_look word path
look_with word path (off ∷ []) = None
look_with word path (off ∷ len ∷ []) = range_look word path off len
look_with word path (off ∷ len ∷ other ∷ more) = None

-- The words are one of these, exactly: rules, info IMAGE, check IMAGE, ls IMAGE PATH, cat IMAGE PATH, cat IMAGE PATH OFF LEN. Any
-- word names an image.
abbrev pub look_of : List (List ℕ) → Option Look
look_of [] = None
look_of (word ∷ []) = rules_look word
look_of (word ∷ image ∷ []) = image_look word
look_of (word ∷ image ∷ path ∷ more) = look_with word path more
