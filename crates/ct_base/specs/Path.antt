-- Which byte strings are paths, and the names that they hold.
use Rattle.std.specs.Prelude.{ℕ, Bool, not, ◌&&◌, ◌==◌, nat_lt, nat_le, if◌then◌else◌, List, [], ◌∷◌, length, map, Some, None}
use Rattle.std.specs.Borrow.{Bor}
use Rattle.std.specs.List.{list_all}
use Rattle.std.specs.Str.{bytes_eq}
use Rattle.std.specs.declared.option.Option.{Option}
use Rattle.std.specs.declared.cmp.Ordering.{Ordering}
use Rattle.std.specs.Ordering.{nat_cmp}
use Rattle.std.specs.Cmp.Lexicographic.{slice_cmp}
use Rattle.ct_base.specs.Split.{parts_at}
use Rattle.ct_base.specs.declared.layout.TheConstants.{PATH_BYTES}

-- the parts of a text between its slashes
abbrev pub parts : List ℕ → List (List ℕ)
parts text = parts_at 47 text

-- a name has 1 to 248 bytes, is neither . nor .., and has no byte 0 and no slash
abbrev pub is_name : List ℕ → Bool
is_name x = nat_lt 0 (length x) && nat_le (length x) 248 && not (bytes_eq x (46 ∷ [])) && not (bytes_eq x (46 ∷ 46 ∷ []))
    && list_all (λ b. not (b == 0) && not (b == 47)) x

-- the names, where each is one
abbrev pub if_names : List (List ℕ) → Option (List (List ℕ))
if_names names = if list_all is_name names then Some names else None

-- what follows the first slash: nothing, or names with a slash between each two
abbrev pub names_after : List ℕ → Option (List (List ℕ))
names_after [] = Some []
names_after (x ∷ xs) = if_names (parts (x ∷ xs))

-- a path begins with a slash
abbrev pub names_from : List ℕ → Option (List (List ℕ))
names_from [] = None
names_from (x ∷ xs) = if x == 47 then names_after xs else None

-- the names of a path, which has at most 4096 bytes; none where the text is no path
abbrev pub names_of : List ℕ → Option (List (List ℕ))
names_of path = if nat_le (length path) PATH_BYTES then names_from path else None

-- what a list of borrowed texts holds
abbrev pub texts : List (Bor (List ℕ)) → List (List ℕ)
texts names = map (λ n. n.now) names

-- names in byte order: the first byte that differs decides, and else the shorter name is first
abbrev pub name_cmp : List ℕ → List ℕ → Ordering
name_cmp x y = slice_cmp nat_cmp x y
