-- A write is read back and leaves other files; two exchanges are none.
use Rattle.std.proofs.Common.{◌≡◌, ◌∙◌, ℕ, List, [], ◌∷◌, refl, sym, ap, subst, Some, None, Option, Ok, Err, Result, Bool, true, false}
use Rattle.std.specs.Prelude.{unwrap_or, ◌&&◌}
use Rattle.std.specs.List.{list_all}
use Rattle.std.specs.Option.{ok_or}
use Rattle.std.specs.declared.cmp.Ordering.{Ordering}
use Rattle.std.specs.declared.cmp.Ordering.TheVariants.{Less, Equal, Greater}
use Rattle.std.specs.Cmp.Lexicographic.{nat_list_cmp_total}
use Rattle.std.specs.Ordering.{ordering_reverse}
use Rattle.std.proofs.lemmas.Cmp.{tied_itself}
use Rattle.std.proofs.lemmas.Map.Lookups.{exact_bytes}
use Rattle.ct_base.specs.Path.{is_name}
use Rattle.ct_tree.specs.Tree.{Tree, File, Dir, Entries, none, entry}
use Rattle.ct_tree.specs.Entries.{by_order, name_cmp, lookup, put_entry}
use Rattle.ct_tree.specs.Ordered.{IsBelow, IsTree, AreEntries}
use Rattle.ct_tree.specs.Resolve.{and_then, resolve, put}
use Rattle.ct_tree.specs.declared.call.Refusal.{Refusal}
use Rattle.ct_tree.specs.declared.call.Refusal.TheVariants.{NotFound, NotDir}
use Rattle.ct_tree.proofs.Again.{put_put}
use Rattle.ct_tree.proofs.Moved.{lookup_put_same, lookup_put_other}
use Rattle.ct_tree.proofs.Ordered.{put_entries, put_tree, found_tree, below_trans}

-- ---- entries in order are told by what is found in them

itself : (x : List ℕ) → name_cmp x x ≡ Equal
itself x = tied_itself nat_list_cmp_total x

turn_greater : (x y : List ℕ) → name_cmp x y ≡ Greater → name_cmp y x ≡ Less
turn_greater x y h = nat_list_cmp_total.antisymm y x ∙ ap ordering_reverse h

-- a name before all of them is not found
none_before : (x : List ℕ) (es : Entries) → IsBelow x es → lookup x es ≡ None
none_before x none b = refl
none_before x (entry y n rest) b = ap (λ o. by_order o None (Some n) (lookup x rest)) b.0

module _ (y : List ℕ) (n : Tree) (rest : Entries) where
  found_first : lookup y (entry y n rest) ≡ Some n
  found_first = ap (λ o. by_order o None (Some n) (lookup y rest)) (itself y)

  found_later : (x : List ℕ) → name_cmp x y ≡ Greater → lookup x (entry y n rest) ≡ lookup x rest
  found_later x h = ap (λ o. by_order o None (Some n) (lookup x rest)) h

  not_found : (x : List ℕ) → name_cmp x y ≡ Less → lookup x (entry y n rest) ≡ None
  not_found x h = ap (λ o. by_order o None (Some n) (lookup x rest)) h

some_none : {n : Tree} {o p : Option Tree} → o ≡ Some n → p ≡ None → o ≡ p → ⊥
some_none a b c = let e : Some _ ≡ None = sym a ∙ c ∙ b in cc

rest_same : (o : Ordering) (x y : List ℕ) (m n : Tree) (es fs : Entries) → name_cmp x y ≡ o → IsBelow y es → IsBelow y fs → lookup x (entry y m es) ≡ lookup x (entry y n fs) → lookup x es ≡ lookup x fs
rest_same Less x y m n es fs h a b same = none_before x es (below_trans x y es h a) ∙ sym (none_before x fs (below_trans x y fs h b))
rest_same Equal x y m n es fs h a b same =
    let is : x ≡ y = exact_bytes x y h in
    ap (λ z. lookup z es) is ∙ none_before y es a ∙ sym (ap (λ z. lookup z fs) is ∙ none_before y fs b)
rest_same Greater x y m n es fs h a b same = sym (found_later y m es x h) ∙ same ∙ found_later y n fs x h

some_inj : (m n : Tree) → Some m ≡ Some n → m ≡ n
some_inj m n e = cc

pub entries_same : (es fs : Entries) → AreEntries es → AreEntries fs → ((x : List ℕ) → lookup x es ≡ lookup x fs) → es ≡ fs
entries_same none none a b same = refl
entries_same none (entry y n rest) a b same = absurd (some_none (found_first y n rest) refl (sym (same y)))
entries_same (entry y n rest) none a b same = absurd (some_none (found_first y n rest) refl (same y))
entries_same (entry y m es) (entry z n fs) a b same = at (name_cmp y z) refl (entries_same es fs a.3 b.3)
  where
    at : (o : Ordering) → name_cmp y z ≡ o → (((x : List ℕ) → lookup x es ≡ lookup x fs) → es ≡ fs) → entry y m es ≡ entry z n fs
    at Less h ih = absurd (some_none (found_first y m es) (not_found z n fs y h) (same y))
    at Greater h ih = absurd (some_none (found_first z n fs) (not_found y m es z (turn_greater y z h)) (sym (same z)))
    at Equal h ih =
        let is : y ≡ z = exact_bytes y z h in
        let same' : (x : List ℕ) → lookup x (entry y m es) ≡ lookup x (entry y n fs) = λ x. same x ∙ ap (λ w. lookup x (entry w n fs)) (sym is) in
        let below : IsBelow y fs = subst (λ w. IsBelow w fs) (sym is) b.2 in
        let node : m ≡ n = some_inj m n (sym (found_first y m es) ∙ same' y ∙ found_first y n fs) in
        let rest : es ≡ fs = ih (λ x. rest_same (name_cmp x y) x y m n es fs refl a.2 below (same' x)) in
        λ i. entry (is i) (node i) (rest i)

-- ---- what is put twice, with something else between

module _ (x y : List ℕ) (v o n : Tree) (es : Entries) (apart : name_cmp x y ≡ Equal → ⊥) (apart' : name_cmp y x ≡ Equal → ⊥) (name_x : is_name x ≡ true) (name_y : is_name y ≡ true)
    (tree_v : IsTree v) (tree_o : IsTree o) (tree_n : IsTree n) (are : AreEntries es) where
  with_v : AreEntries (put_entry y v es)
  with_v = put_entries y v es name_y tree_v are

  with_o : AreEntries (put_entry x o es)
  with_o = put_entries x o es name_x tree_o are

  with_both : AreEntries (put_entry x o (put_entry y v es))
  with_both = put_entries x o (put_entry y v es) name_x tree_o with_v

  entry_lost : put_entry y n (put_entry x o (put_entry y v es)) ≡ put_entry y n (put_entry x o es)
  entry_lost =
      entries_same (put_entry y n (put_entry x o (put_entry y v es))) (put_entry y n (put_entry x o es)) (put_entries y n (put_entry x o (put_entry y v es)) name_y tree_n with_both)
      (put_entries y n (put_entry x o es) name_y tree_n with_o) (λ q. at (name_cmp q y) q refl)
    where
      off_y : (q : List ℕ) → (name_cmp q y ≡ Equal → ⊥) → lookup q (put_entry x o (put_entry y v es)) ≡ lookup q (put_entry x o es)
      off_y q other = on (name_cmp q x) refl
        where
          away : (name_cmp q x ≡ Equal → ⊥) → lookup q (put_entry x o (put_entry y v es)) ≡ lookup q (put_entry x o es)
          away far = lookup_put_other q x o (put_entry y v es) far with_v ∙ lookup_put_other q y v es other are ∙ sym (lookup_put_other q x o es far are)

          on : (c : Ordering) → name_cmp q x ≡ c → lookup q (put_entry x o (put_entry y v es)) ≡ lookup q (put_entry x o es)
          on Equal h =
              let is : q ≡ x = exact_bytes q x h in
              ap (λ w. lookup w (put_entry x o (put_entry y v es))) is ∙ lookup_put_same x o (put_entry y v es) ∙ sym (ap (λ w. lookup w (put_entry x o es)) is ∙ lookup_put_same x o es)
          on Less h = away (λ e. less_equal (sym h ∙ e))
            where
              less_equal : Less ≡ Equal → ⊥
              less_equal e = (cc)
          on Greater h = away (λ e. greater_equal (sym h ∙ e))
            where
              greater_equal : Greater ≡ Equal → ⊥
              greater_equal e = (cc)

      other_y : (q : List ℕ) → (name_cmp q y ≡ Equal → ⊥) → lookup q (put_entry y n (put_entry x o (put_entry y v es))) ≡ lookup q (put_entry y n (put_entry x o es))
      other_y q far = lookup_put_other q y n (put_entry x o (put_entry y v es)) far with_both ∙ off_y q far ∙ sym (lookup_put_other q y n (put_entry x o es) far with_o)

      at : (c : Ordering) (q : List ℕ) → name_cmp q y ≡ c → lookup q (put_entry y n (put_entry x o (put_entry y v es))) ≡ lookup q (put_entry y n (put_entry x o es))
      at Equal q h =
          let is : q ≡ y = exact_bytes q y h in
          ap (λ w. lookup w (put_entry y n (put_entry x o (put_entry y v es)))) is ∙ lookup_put_same y n (put_entry x o (put_entry y v es))
          ∙ sym (ap (λ w. lookup w (put_entry y n (put_entry x o es))) is ∙ lookup_put_same y n (put_entry x o es))
      at Less q h = other_y q (λ e. less_equal (sym h ∙ e))
        where
          less_equal : Less ≡ Equal → ⊥
          less_equal e = (cc)
      at Greater q h = other_y q (λ e. greater_equal (sym h ∙ e))
        where
          greater_equal : Greater ≡ Equal → ⊥
          greater_equal e = (cc)

-- what is put where it stands changes nothing
put_entry_same : (x : List ℕ) (k : Tree) (es : Entries) → lookup x es ≡ Some k → put_entry x k es ≡ es
put_entry_same x k none h = absurd (cc)
put_entry_same x k (entry y n rest) h = at (name_cmp x y) h (put_entry_same x k rest)
  where
    at : (o : Ordering) → by_order o None (Some n) (lookup x rest) ≡ Some k → (lookup x rest ≡ Some k → put_entry x k rest ≡ rest) → by_order o (entry x k (entry y n rest)) (entry y k rest) (entry y n (put_entry x k rest)) ≡ entry y n rest
    at Less found ih = absurd (cc)
    at Equal found ih = ap (λ m. entry y m rest) (some_inj k n (sym found))
    at Greater found ih = ap (entry y n) (ih found)

found_in : (r : Option Tree) (names : List (List ℕ)) (n : Tree) → and_then (ok_or r NotFound) (λ k. resolve k names) ≡ Ok n → (k : Tree) × (r ≡ Some k) × (resolve k names ≡ Ok n)
found_in None names n h = absurd (cc)
found_in (Some k) names n h = (k, refl, h)

ok_inj : (m n : Tree) (r : Result Tree Refusal) → r ≡ Ok m → r ≡ Ok n → m ≡ n
ok_inj m n r a b = let e : Ok m ≡ Ok n = sym a ∙ b in cc

pub put_same : (t : Tree) (names : List (List ℕ)) (n : Tree) → resolve t names ≡ Ok n → put t names n ≡ t
put_same t [] n h = let e : t ≡ n = cc in sym e
put_same (File bytes) (x ∷ xs) n h = absurd (cc)
put_same (Dir es) (x ∷ xs) n h =
    let there = found_in (lookup x es) xs n h in
    let same : put (unwrap_or (lookup x es) (Dir none)) xs n ≡ there.0 = ap (λ o. put (unwrap_or o (Dir none)) xs n) there.1 ∙ put_same there.0 xs n there.2 in
    ap (λ k. Dir (put_entry x k es)) same ∙ ap Dir (put_entry_same x there.0 es there.1)

-- a put below an entry that was put
put_under : (x : List ℕ) (m o : Tree) (xs : List (List ℕ)) (es : Entries) → put (Dir (put_entry x m es)) (x ∷ xs) o ≡ Dir (put_entry x (put m xs o) es)
put_under x m o xs es =
    ap (λ (k : Option Tree). Dir (put_entry x (put (unwrap_or k (Dir none)) xs o) (put_entry x m es))) (lookup_put_same x m es) ∙ put_put (Dir es) (x ∷ []) m (put m xs o)

-- and one below another entry
put_beside : (x y : List ℕ) (m o : Tree) (xs : List (List ℕ)) (es : Entries) → (name_cmp x y ≡ Equal → ⊥) → AreEntries es → put (Dir (put_entry y m es)) (x ∷ xs) o ≡ Dir (put_entry x (put (unwrap_or (lookup x es) (Dir none)) xs o) (put_entry y m es))
put_beside x y m o xs es other are = ap (λ (k : Option Tree). Dir (put_entry x (put (unwrap_or k (Dir none)) xs o) (put_entry y m es))) (lookup_put_other x y m es other are)

alone : (t : Tree) (names : List (List ℕ)) (b c : List ℕ) → t ≡ File b → resolve t names ≡ Ok (File c) → [] ≡ names
alone t [] b c is h = refl
alone t (x ∷ xs) b c is h = absurd (let e : Err NotDir ≡ Ok (File c) = sym (ap (λ u. resolve u (x ∷ xs)) is) ∙ h in cc)

all_first : (x : List ℕ) (xs : List (List ℕ)) → list_all is_name (x ∷ xs) ≡ true → (is_name x ≡ true) × (list_all is_name xs ≡ true)
all_first x xs h = parts (is_name x) (list_all is_name xs) h
  where
    parts : (b c : Bool) → (b && c) ≡ true → (b ≡ true) × (c ≡ true)
    parts true c h = (refl, h)
    parts false c h = absurd (cc)

abbrev IsLost : List (List ℕ) → List (List ℕ) → Tree → Tree → Tree → Tree → Type 0
IsLost a b t v o n = put (put (put t b v) a o) b n ≡ put (put t a o) b n

lost_apart : (x y : List ℕ) (xs ys : List (List ℕ)) (es : Entries) (v o n : Tree) → (name_cmp x y ≡ Equal → ⊥) → (name_cmp y x ≡ Equal → ⊥) → IsTree (Dir es) → IsTree v → IsTree o → IsTree n
    → list_all is_name (x ∷ xs) ≡ true → list_all is_name (y ∷ ys) ≡ true → IsLost (x ∷ xs) (y ∷ ys) (Dir es) v o n
lost_apart x y xs ys es v o n apart apart' tree tv to tn ax ay =
    let nx = all_first x xs ax in
    let ny = all_first y ys ay in
    let kx = unwrap_or (lookup x es) (Dir none) in
    let ky = unwrap_or (lookup y es) (Dir none) in
    let v' = put ky ys v in
    let o' = put kx xs o in
    let n' = put ky ys n in
    let tree_x : IsTree kx = found_tree x es tree in
    let tree_y : IsTree ky = found_tree y es tree in
    let tv' = put_tree ky ys v ny.1 tree_y tv in
    let to' = put_tree kx xs o nx.1 tree_x to in
    let tn' = put_tree ky ys n ny.1 tree_y tn in
    let with_v : AreEntries (put_entry y v' es) = put_entries y v' es ny.0 tv' tree in
    let first : put (put (Dir es) (y ∷ ys) v) (x ∷ xs) o ≡ Dir (put_entry x o' (put_entry y v' es)) = put_beside x y v' o xs es apart tree in
    let found : lookup y (put_entry x o' (put_entry y v' es)) ≡ Some v' = lookup_put_other y x o' (put_entry y v' es) apart' with_v ∙ lookup_put_same y v' es in
    let second : put (Dir (put_entry x o' (put_entry y v' es))) (y ∷ ys) n ≡ Dir (put_entry y n' (put_entry x o' (put_entry y v' es))) =
    ap (λ (k : Option Tree). Dir (put_entry y (put (unwrap_or k (Dir none)) ys n) (put_entry x o' (put_entry y v' es)))) found
    ∙ ap (λ k. Dir (put_entry y k (put_entry x o' (put_entry y v' es)))) (put_put ky ys v n) in
    let right : put (put (Dir es) (x ∷ xs) o) (y ∷ ys) n ≡ Dir (put_entry y n' (put_entry x o' es)) = put_beside y x o' n ys es apart' tree in
    ap (λ t. put t (y ∷ ys) n) first ∙ second ∙ ap Dir (entry_lost x y v' o' n' es apart apart' nx.0 ny.0 tv' to' tn' tree) ∙ sym right

-- what was put at one file is lost once that file is put again, whatever was put at another file meanwhile
pub put_lost : (a b : List (List ℕ)) (t v o n : Tree) (c d : List ℕ) → IsTree t → IsTree v → IsTree o → IsTree n → list_all is_name a ≡ true → list_all is_name b ≡ true → (a ≡ b → ⊥)
    → resolve t a ≡ Ok (File c) → resolve t b ≡ Ok (File d) → IsLost a b t v o n
put_lost [] b t v o n c d tree tv to tn aa ab other ha hb = absurd (other (alone t b c d (ok_inj t (File c) (Ok t) refl ha) hb))
put_lost (x ∷ xs) [] t v o n c d tree tv to tn aa ab other ha hb = absurd (other (sym (alone t (x ∷ xs) d c (ok_inj t (File d) (Ok t) refl hb) ha)))
put_lost (x ∷ xs) (y ∷ ys) (File bytes) v o n c d tree tv to tn aa ab other ha hb = absurd (cc)
put_lost (x ∷ xs) (y ∷ ys) (Dir es) v o n c d tree tv to tn aa ab other ha hb =
    at (name_cmp x y) refl (put_lost xs ys (unwrap_or (lookup x es) (Dir none)) v o n c d (found_tree x es tree) tv to tn (all_first x xs aa).1 (all_first y ys ab).1)
  where
    at : (q : Ordering) → name_cmp x y ≡ q → ((xs ≡ ys → ⊥) → resolve (unwrap_or (lookup x es) (Dir none)) xs ≡ Ok (File c) → resolve (unwrap_or (lookup x es) (Dir none)) ys ≡ Ok (File d)
        → IsLost xs ys (unwrap_or (lookup x es) (Dir none)) v o n) → IsLost (x ∷ xs) (y ∷ ys) (Dir es) v o n
    at Less h ih = lost_apart x y xs ys es v o n (λ e. bad e) (λ e. bad (ap (name_cmp x) (exact_bytes y x e) ∙ itself x)) tree tv to tn aa ab
      where
        bad : name_cmp x y ≡ Equal → ⊥
        bad e = let f : Less ≡ Equal = sym h ∙ e in cc
    at Greater h ih = lost_apart x y xs ys es v o n (λ e. bad e) (λ e. bad (ap (name_cmp x) (exact_bytes y x e) ∙ itself x)) tree tv to tn aa ab
      where
        bad : name_cmp x y ≡ Equal → ⊥
        bad e = let f : Greater ≡ Equal = sym h ∙ e in cc
    at Equal h ih =
        let is : x ≡ y = exact_bytes x y h in
        let k = unwrap_or (lookup x es) (Dir none) in
        let at_a = found_in (lookup x es) xs (File c) ha in
        let at_b = found_in (lookup x es) ys (File d) (subst (λ w. resolve (Dir es) (w ∷ ys) ≡ Ok (File d)) (sym is) hb) in
        let ka : resolve k xs ≡ Ok (File c) = ap (λ (q : Option Tree). resolve (unwrap_or q (Dir none)) xs) at_a.1 ∙ at_a.2 in
        let kb : resolve k ys ≡ Ok (File d) = ap (λ (q : Option Tree). resolve (unwrap_or q (Dir none)) ys) at_b.1 ∙ at_b.2 in
        let low = ih (λ e. other (λ i. is i ∷ e i)) ka kb in
        let same : IsLost (x ∷ xs) (x ∷ ys) (Dir es) v o n =
        ap (λ t. put t (x ∷ ys) n) (put_under x (put k ys v) o xs es) ∙ put_under x (put (put k ys v) xs o) n ys es ∙ ap (λ m. Dir (put_entry x m es)) low ∙ sym (put_under x (put k xs o) n ys es) in
        subst (λ w. IsLost (x ∷ xs) (w ∷ ys) (Dir es) v o n) is same
