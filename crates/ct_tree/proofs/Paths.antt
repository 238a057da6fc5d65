-- Lists of names, and where they lead.
use Rattle.std.proofs.Common.{◌≡◌, ◌∙◌, ℕ, ◌<◌, ◌≤◌, List, [], ◌∷◌, ◌++◌, length, drop, refl, sym, ap, subst, arith, Ok, Bor, Bool, true, false}
use Rattle.std.specs.Prelude.{IsOkAnd, ◌&&◌}
use Rattle.std.specs.Str.{bytes_eq}
use Rattle.std.proofs.lemmas.List.{drop_more, drop_all, map-append, length-map}
use Rattle.ct_base.specs.Path.{texts}
use Rattle.ct_tree.specs.Tree.{Tree, File, Dir}
use Rattle.ct_tree.specs.Resolve.{resolve, put, cut, parent, last_name, lies_below, IsDir, IsBelowRoot}

pub parent_push : (names : List (List ℕ)) (x : List ℕ) → parent (names ++ x ∷ []) ≡ names
parent_push [] x = refl
parent_push (n ∷ []) x = refl
parent_push (n ∷ m ∷ names) x = ap (λ ns. n ∷ ns) (parent_push (m ∷ names) x)

pub last_push : (names : List (List ℕ)) (x : List ℕ) → last_name (names ++ x ∷ []) ≡ x
last_push [] x = refl
last_push (n ∷ []) x = refl
last_push (n ∷ m ∷ names) x = last_push (m ∷ names) x

-- the same of texts that are borrowed
pub parent_texts : (all front : List (Bor (List ℕ))) (name : Bor (List ℕ)) → all ≡ front ++ name ∷ [] → texts front ≡ parent (texts all)
parent_texts all front name h = sym (ap (λ ns. parent (texts ns)) h ∙ ap parent (map-append (λ n. n.now) front (name ∷ [])) ∙ parent_push (texts front) name.now)

pub last_texts : (all front : List (Bor (List ℕ))) (name : Bor (List ℕ)) → all ≡ front ++ name ∷ [] → name.now ≡ last_name (texts all)
last_texts all front name h = sym (ap (λ ns. last_name (texts ns)) h ∙ ap last_name (map-append (λ n. n.now) front (name ∷ [])) ∙ last_push (texts front) name.now)

pub put_is_dir : (t : Tree) (names : List (List ℕ)) (n : Tree) → IsBelowRoot t names → IsDir (put t names n)
put_is_dir t [] n h = absurd h
put_is_dir t (x ∷ xs) n h = tt

pub cut_is_dir : (t : Tree) (names : List (List ℕ)) → IsBelowRoot t names → IsDir (cut t names)
cut_is_dir t [] h = absurd h
cut_is_dir t (x ∷ []) h = tt
cut_is_dir t (x ∷ y ∷ ys) h = tt

-- a file in a directory lies below it
pub file_below_root : (t : Tree) (names : List (List ℕ)) (bytes : List ℕ) → IsDir t → resolve t names ≡ Ok (File bytes) → IsBelowRoot t names
file_below_root (Dir es) [] bytes d h = absurd (cc)
file_below_root (File b) names bytes d h = absurd d
file_below_root (Dir es) (x ∷ xs) bytes d h = subst (λ r. IsOkAnd r (λ n. Unit {0})) (sym h) tt

short_above : (xs ys : List (List ℕ)) → length ys ≤ length xs → lies_below xs ys ≡ false
short_above [] [] h = refl
short_above [] (y ∷ ys) h = absurd (omega (arith, h))
short_above (x ∷ xs) [] h = refl
short_above (x ∷ xs) (y ∷ ys) h = ap (λ b. bytes_eq x y && b) (short_above xs ys (omega (arith, h))) ∙ and_false (bytes_eq x y)
  where
    and_false : (b : Bool) → (b && false) ≡ false
    and_false true = refl
    and_false false = refl

-- no more names than those lead to nothing below them
pub short_not_below : (names to : List (Bor (List ℕ))) → length to ≤ length names → false ≡ lies_below (texts names) (texts to)
short_not_below names to h =
    sym (short_above (texts names) (texts to) (let a = length-map names (λ (n : Bor (List ℕ)). n.now) in let b = length-map to (λ (n : Bor (List ℕ)). n.now) in omega (arith, a, b, h)))

-- all names agree, and there are more
pub below_ends : (names to : List (Bor (List ℕ))) → length names < length to → lies_below (texts (drop (length names) names)) (texts (drop (length names) to)) ≡ true
below_ends names to h =
    let d : Bor (List ℕ) = record { ref_ptr = (0, 0); now = [] } in
    ap (λ ns. lies_below (texts ns) (texts (drop (length names) to))) (drop_all (length names) names (omega arith)) ∙ ap (λ ns. lies_below [] (texts ns)) (drop_more to (length names) d h)
