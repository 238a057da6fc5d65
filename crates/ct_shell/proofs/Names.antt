-- The names in a directory, one after another, each the first that is later than the one before.
use Rattle.std.proofs.Common.{◌≡◌, ◌∙◌, ℕ, zero, suc, ◌+◌, ◌<◌, ◌≤◌, List, [], ◌∷◌, ◌++◌, length, length-take, take, drop, get_or, map, Option, Some, None, Ok, Err, Result, refl, sym, ap, subst, append_assoc, append-nil, arith}
use Rattle.std.specs.Prelude.{codes, slice_get}
use Rattle.std.specs.List.{flat_map}
use Rattle.std.specs.Io.KnownBytes.{Appends}
use Rattle.std.proofs.lemmas.List.{get_or-take, length-map, take_all}
use Rattle.std.proofs.lemmas.Option.{slice_get-get_or, slice_get-map}
use Rattle.std.specs.Option.{option_map}
use Rattle.ct_base.specs.Objects.{Object}
use Rattle.ct_base.specs.Slots.{slot_name}
use Rattle.ct_look.proofs.Following.{first_name, next_later}
use Rattle.ct_look.proofs.Listed.{names_count}
use Rattle.ct_look.specs.Looks.{IsLook, next_name, stat_answer}
use Rattle.ct_call.specs.declared.mount.FsError.{FsError}
use Rattle.ct_call.specs.declared.mount.FsError.TheVariants.{Dead, Refused as refused, Fault}
use Rattle.ct_look.specs.declared.seen.Stat.{Stat}
use Rattle.ct_script.proofs.Puts.{appends_then, fault_after, fault_first}
use Rattle.ct_script.specs.Texts.{name_text, reply_line}
use Rattle.ct_tree.proofs.Ordered.{resolve_tree}
use Rattle.ct_tree.specs.Checks.{at, bad_path, first_of, names, no_dir, no_node}
use Rattle.ct_tree.specs.Ordered.{IsTree}
use Rattle.ct_tree.specs.Step.{answered, list, listed_in, refusal, stat, step, told}
use Rattle.ct_tree.specs.Tree.{Tree, File, Dir}
use Rattle.ct_tree.specs.declared.call.Refusal.{Refusal}
use Rattle.ct_tree.specs.declared.call.Reply.TheVariants.{Names}
use Rattle.ct_shell.specs.Shows.{entries_of}

-- what is told of a directory is how many names it has, and what is told of all else refuses the list
entries_case : (t : Tree) (check : Option Refusal) (n : Result Tree Refusal)
    → IsLook (first_of (check ∷ no_dir n ∷ [])) (λ count. count ≡ length (listed_in n)) (entries_of (stat_answer (answered (first_of (check ∷ no_node n ∷ [])) t (told n, t)).0))
entries_case t (Some r) n = refl
entries_case t None (Err e) = refl
entries_case t None (Ok (File bytes)) = refl
entries_case t None (Ok (Dir es)) = (refl, sym (names_count es))

pub entries_told : (t : Tree) (path : List ℕ) (result : Result Stat FsError) → result ≡ stat_answer (step t (stat path)).0 → IsLook (refusal t (list path)) (λ count. count ≡ length (listed_in (at t path))) (entries_of result)
entries_told t path result is = subst (λ r. IsLook (refusal t (list path)) (λ count. count ≡ length (listed_in (at t path))) (entries_of r)) (sym is) (entries_case t (bad_path path) (at t path))

-- what is refused is refused whatever was looked for
pub refused_alike : {T U : Type 0} (P : T → Type 0) (Q : U → Type 0) (check : Option Refusal) (error : FsError) → IsLook check P (Err error) → IsLook check Q (Err error)
refused_alike P Q check Dead look = look
refused_alike P Q check (refused r) look = look
refused_alike P Q check Fault look = look

-- the list up to one more
pub take_next : {X : Type 0} (xs : List X) (i : ℕ) (x : X) → slice_get xs i ≡ Some x → take (i + 1) xs ≡ take i xs ++ (x ∷ [])
take_next [] i x is = absurd (cc)
take_next (y ∷ ys) zero x is = let same : y ≡ x = cc in ap (λ z. z ∷ []) same
take_next (y ∷ ys) (suc i) x is =
    let more : suc (i + 1) ≡ suc i + 1 = omega arith in
    ap (λ n. take n (y ∷ ys)) (sym more) ∙ ap (λ zs. y ∷ zs) (take_next ys i x is)

whole_next : {X : Type 0} (xs : List X) (i : ℕ) (x : X) → slice_get xs i ≡ Some x → xs ≡ take i xs ++ (x ∷ drop (i + 1) xs)
whole_next [] i x is = absurd (cc)
whole_next (y ∷ ys) zero x is = let same : y ≡ x = cc in ap (λ z. z ∷ ys) same
whole_next (y ∷ ys) (suc i) x is =
    let more : suc (i + 1) ≡ suc i + 1 = omega arith in
    ap (λ zs. y ∷ zs) (whole_next ys i x is) ∙ ap (λ n. take (suc i) (y ∷ ys) ++ (x ∷ drop n (y ∷ ys))) more

pub get_within : {X : Type 0} (xs : List X) (i : ℕ) → i < length xs → (x : X) × (slice_get xs i ≡ Some x)
get_within [] i less = absurd (omega (arith, less))
get_within (x ∷ xs) zero less = (x, refl)
get_within (x ∷ xs) (suc i) less = get_within xs i (omega (arith, less))

flat_append : (xs ys : List (List ℕ)) → flat_map name_text (xs ++ ys) ≡ flat_map name_text xs ++ flat_map name_text ys
flat_append [] ys = refl
flat_append (x ∷ xs) ys = ap (λ w. name_text x ++ w) (flat_append xs ys) ∙ sym (append_assoc (name_text x) (flat_map name_text xs) (flat_map name_text ys))

-- the text of the first names
abbrev pub names_to : List (List ℕ) → ℕ → List ℕ
names_to xs i = codes "names" ++ flat_map name_text (take i xs)

pub names_more : (xs : List (List ℕ)) (i : ℕ) (x : List ℕ) → slice_get xs i ≡ Some x → names_to xs (i + 1) ≡ names_to xs i ++ name_text x
names_more xs i x is =
    ap (λ ys. codes "names" ++ flat_map name_text ys) (take_next xs i x is)
    ∙ ap (λ w. codes "names" ++ w) (flat_append (take i xs) (x ∷ []) ∙ ap (λ w. flat_map name_text (take i xs) ++ w) (append-nil (name_text x)))
    ∙ sym (append_assoc (codes "names") (flat_map name_text (take i xs)) (name_text x))

-- the line from a name on
names_from : (xs : List (List ℕ)) (i : ℕ) (x : List ℕ) → slice_get xs i ≡ Some x
    → reply_line (Names xs) ≡ names_to xs i ++ (name_text x ++ (flat_map name_text (drop (i + 1) xs) ++ (10 ∷ [])))
names_from xs i x is =
    let front = flat_map name_text (take i xs) in
    let back = flat_map name_text (drop (i + 1) xs) in
    let all : flat_map name_text xs ≡ front ++ (name_text x ++ back) = ap (flat_map name_text) (whole_next xs i x is) ∙ flat_append (take i xs) (x ∷ drop (i + 1) xs) in
    ap (λ w. (codes "names" ++ w) ++ (10 ∷ [])) all
    ∙ ap (λ w. w ++ (10 ∷ [])) (sym (append_assoc (codes "names") front (name_text x ++ back)))
    ∙ append_assoc (codes "names" ++ front) (name_text x ++ back) (10 ∷ [])
    ∙ ap (λ w. (codes "names" ++ front) ++ w) (append_assoc (name_text x) back (10 ∷ []))

-- a fault in the middle of a name
pub torn_name : (xs : List (List ℕ)) (i : ℕ) (x : List ℕ) (a b d : Option (List ℕ)) → slice_get xs i ≡ Some x → Appends a b (names_to xs i) → (k : ℕ) × Appends b d (take k (name_text x))
    → (m : ℕ) × Appends a d (take m (reply_line (Names xs)))
torn_name xs i x a b d is before part =
    subst (λ w. (m : ℕ) × Appends a d (take m w)) (sym (names_from xs i x is)) (fault_after a b d (names_to xs i) (name_text x) (flat_map name_text (drop (i + 1) xs) ++ (10 ∷ [])) before part)

-- what stands in the line before a name is a part of it
pub torn_line : (xs : List (List ℕ)) (a d : Option (List ℕ)) → (k : ℕ) × Appends a d (take k (codes "names")) → (m : ℕ) × Appends a d (take m (reply_line (Names xs)))
torn_line xs a d part =
    let is : reply_line (Names xs) ≡ codes "names" ++ (flat_map name_text xs ++ (10 ∷ [])) = append_assoc (codes "names") (flat_map name_text xs) (10 ∷ []) in
    subst (λ w. (m : ℕ) × Appends a d (take m w)) (sym is) (fault_first a d (codes "names") (flat_map name_text xs ++ (10 ∷ [])) part)

-- the names of the directory at a path, in order
pub listed_ordered : (t : Tree) (path : List ℕ) (i : ℕ) (x : List ℕ) → IsTree t → slice_get (listed_in (at t path)) i ≡ Some x → next_name (Some x) (listed_in (at t path)) ≡ slice_get (listed_in (at t path)) (i + 1)
listed_ordered t path i x ordered is = cases (at t path) refl is
  where
    cases : (n : Result Tree Refusal) → at t path ≡ n → slice_get (listed_in n) i ≡ Some x → next_name (Some x) (listed_in n) ≡ slice_get (listed_in n) (i + 1)
    cases (Err e) at_is is = absurd (cc)
    cases (Ok (File bytes)) at_is is = absurd (cc)
    cases (Ok (Dir es)) at_is is = next_later es i x (resolve_tree (names path) t (Dir es) ordered at_is) is

-- so many names are written, and the next is the one that follows the last of them
abbrev pub IsListed : List (List ℕ) → ℕ → Option (List ℕ) → Option (List ℕ) → Option (List ℕ) → Type 0
IsListed xs i last old new = Appends old new (names_to xs i) × (next_name last xs ≡ slice_get xs i)

pub names_none : (xs : List (List ℕ)) (old new : Option (List ℕ)) → Appends old new (codes "names") → Appends old new (names_to xs 0)
names_none xs old new put = subst (Appends old new) (sym (append-nil (codes "names"))) put

pub names_then : (xs : List (List ℕ)) (i : ℕ) (x : List ℕ) (old mid new : Option (List ℕ)) → slice_get xs i ≡ Some x → Appends old mid (names_to xs i) → Appends mid new (name_text x) → Appends old new (names_to xs (i + 1))
names_then xs i x old mid new is before put = subst (Appends old new) (sym (names_more xs i x is)) (appends_then old mid new (names_to xs i) (name_text x) before put)

pub listed_start : (xs : List (List ℕ)) (old new : Option (List ℕ)) → Appends old new (codes "names") → IsListed xs 0 None old new
listed_start xs old new put = (names_none xs old new put, first_name xs)

pub listed_more : (t : Tree) (path : List ℕ) (i : ℕ) (x y : List ℕ) (last old mid new : Option (List ℕ)) → IsTree t → slice_get (listed_in (at t path)) i ≡ Some x → IsListed (listed_in (at t path)) i last old mid
    → y ≡ x → Appends mid new (name_text x) → IsListed (listed_in (at t path)) (i + 1) (Some y) old new
listed_more t path i x y last old mid new ordered is listed same put = (
  names_then (listed_in (at t path)) i x old mid new is listed.0 put,
  subst (λ z. next_name (Some z) (listed_in (at t path)) ≡ slice_get (listed_in (at t path)) (i + 1)) (sym same) (listed_ordered t path i x ordered is),
)

-- once all names are written, what is left is the end of the line
names_all : (xs : List (List ℕ)) (n : ℕ) → n ≡ length xs → names_to xs n ≡ codes "names" ++ flat_map name_text xs
names_all xs n is = ap (λ ys. codes "names" ++ flat_map name_text ys) (take_all n xs (omega (arith, is)))

pub listed_end : (xs : List (List ℕ)) (n : ℕ) (old mid new : Option (List ℕ)) → n ≡ length xs → Appends old mid (names_to xs n) → Appends mid new (10 ∷ []) → Appends old new (reply_line (Names xs))
listed_end xs n old mid new is before put = appends_then old mid new (codes "names" ++ flat_map name_text xs) (10 ∷ []) (subst (Appends old mid) (names_all xs n is) before) put

pub torn_end : (xs : List (List ℕ)) (n : ℕ) (old mid new : Option (List ℕ)) → n ≡ length xs → Appends old mid (names_to xs n) → (k : ℕ) × Appends mid new (take k (10 ∷ [])) → (m : ℕ) × Appends old new (take m (reply_line (Names xs)))
torn_end xs n old mid new is before put = fault_after old mid new (codes "names" ++ flat_map name_text xs) (10 ∷ []) [] (subst (Appends old mid) (names_all xs n is) before) put

-- ---- the names of slots

pub name_put : (f : Object) (offsets : List ℕ) (n k d : ℕ) → k < n → n ≤ length offsets → slice_get (map (slot_name f) (take n offsets)) k ≡ Some (slot_name f (get_or offsets k d))
name_put f offsets n k d lt room =
    let long = length-take n offsets in
    slice_get-map (slot_name f) (take n offsets) k
    ∙ ap (option_map (slot_name f)) (slice_get-get_or (take n offsets) k d (omega (arith, long)) ∙ ap Some (get_or-take n offsets k d lt))

pub names_put : (f : Object) (offsets : List ℕ) (n : ℕ) → n ≤ length offsets → n ≡ length (map (slot_name f) (take n offsets))
names_put f offsets n room = let long = length-take n offsets in omega (arith, long, length-map (take n offsets) (slot_name f))
