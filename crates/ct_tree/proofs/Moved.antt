-- What stays where it was when something else is put or taken out.
use Rattle.std.proofs.Common.{◌≡◌, ◌∙◌, ℕ, List, [], ◌∷◌, refl, sym, ap, subst, Some, None, Option, Ok, Bool, true, false}
use Rattle.std.specs.Prelude.{unwrap_or, IsOkAnd, ◌&&◌}
use Rattle.std.specs.Str.{bytes_eq}
use Rattle.std.proofs.lemmas.Slice.Eq.{bytes_eq-Decides}
use Rattle.std.specs.Option.{ok_or}
use Rattle.std.specs.declared.cmp.Ordering.{Ordering}
use Rattle.std.specs.declared.cmp.Ordering.TheVariants.{Less, Equal, Greater}
use Rattle.std.specs.Ordering.{ordering_reverse}
use Rattle.std.specs.Cmp.Lexicographic.{nat_list_cmp_total}
use Rattle.std.proofs.lemmas.Cmp.{tied_itself}
use Rattle.std.proofs.lemmas.Map.Lookups.{exact_bytes}
use Rattle.ct_tree.specs.Tree.{Tree, File, Dir, Entries, none, entry}
use Rattle.ct_tree.specs.Entries.{by_order, name_cmp, lookup, put_entry, cut_entry}
use Rattle.ct_tree.specs.Ordered.{IsBelow, IsTree, AreEntries}
use Rattle.ct_tree.proofs.Ordered.{below_trans, found_tree}
use Rattle.ct_tree.specs.Resolve.{child, and_then, resolve, cut, parent, lies_below, IsDir, HasParent}
use Rattle.ct_tree.specs.declared.call.Refusal.TheVariants.{NotFound}

self : (x : List ℕ) → name_cmp x x ≡ Equal
self x = tied_itself nat_list_cmp_total x

-- a name that is before all others is not there
before_all : (q y : List ℕ) (es : Entries) → name_cmp q y ≡ Less → IsBelow y es → lookup q es ≡ None
before_all q y none h b = refl
before_all q y (entry z n rest) h b = ap (λ o. by_order o None (Some n) (lookup q rest)) (nat_list_cmp_total.trans q y z h b.0)

-- the same name again
put_same_at : (o : Ordering) (p z : List ℕ) (n m : Tree) (rest : Entries) → name_cmp p z ≡ o → lookup p (put_entry p n rest) ≡ Some n →
    lookup p (by_order o (entry p n (entry z m rest)) (entry z n rest) (entry z m (put_entry p n rest))) ≡ Some n
put_same_at Less p z n m rest h ih = ap (λ o. by_order o None (Some n) (lookup p (entry z m rest))) (self p)
put_same_at Equal p z n m rest h ih = ap (λ o. by_order o None (Some n) (lookup p rest)) h
put_same_at Greater p z n m rest h ih = ap (λ o. by_order o None (Some m) (lookup p (put_entry p n rest))) h ∙ ih

pub lookup_put_same : (p : List ℕ) (n : Tree) (es : Entries) → lookup p (put_entry p n es) ≡ Some n
lookup_put_same p n none = ap (λ o. by_order o None (Some n) None) (self p)
lookup_put_same p n (entry z m rest) = put_same_at (name_cmp p z) p z n m rest refl (lookup_put_same p n rest)

-- another name: q is looked up, and p was put
skip : (q p : List ℕ) (n : Tree) (es : Entries) → (name_cmp q p ≡ Equal → ⊥) → (name_cmp q p ≡ Less → lookup q es ≡ None) → lookup q (entry p n es) ≡ lookup q es
skip q p n es ne none_before = at (name_cmp q p) refl
  where
    at : (o : Ordering) → name_cmp q p ≡ o → by_order o None (Some n) (lookup q es) ≡ lookup q es
    at Less h = sym (none_before h)
    at Equal h = absurd (ne h)
    at Greater h = refl

put_other_at : (o : Ordering) (q p z : List ℕ) (n m : Tree) (rest : Entries) → name_cmp p z ≡ o → (name_cmp q p ≡ Equal → ⊥) → IsBelow z rest →
    lookup q (put_entry p n rest) ≡ lookup q rest →
    lookup q (by_order o (entry p n (entry z m rest)) (entry z n rest) (entry z m (put_entry p n rest))) ≡ lookup q (entry z m rest)
put_other_at Less q p z n m rest h ne b ih =
    skip q p n (entry z m rest) ne (λ less. before_all q p (entry z m rest) less (h, below_trans p z rest h b))
put_other_at Equal q p z n m rest h ne b ih = at (name_cmp q z) refl
  where
    at : (o : Ordering) → name_cmp q z ≡ o → by_order o None (Some n) (lookup q rest) ≡ by_order o None (Some m) (lookup q rest)
    at Less k = refl
    at Equal k = absurd (ne (nat_list_cmp_total.congr q z p k ∙ nat_list_cmp_total.antisymm z p ∙ ap ordering_reverse h))
    at Greater k = refl
put_other_at Greater q p z n m rest h ne b ih = ap (λ r. by_order (name_cmp q z) None (Some m) r) ih

pub lookup_put_other : (q p : List ℕ) (n : Tree) (es : Entries) → (name_cmp q p ≡ Equal → ⊥) → AreEntries es → lookup q (put_entry p n es) ≡ lookup q es
lookup_put_other q p n none ne es = skip q p n none ne (λ _. refl)
lookup_put_other q p n (entry z m rest) ne es = put_other_at (name_cmp p z) q p z n m rest refl ne es.2 (lookup_put_other q p n rest ne es.3)

cut_other_at : (o : Ordering) (q p z : List ℕ) (m : Tree) (rest : Entries) → name_cmp p z ≡ o → (name_cmp q p ≡ Equal → ⊥) → IsBelow z rest →
    lookup q (cut_entry p rest) ≡ lookup q rest →
    lookup q (by_order o (entry z m rest) rest (entry z m (cut_entry p rest))) ≡ lookup q (entry z m rest)
cut_other_at Less q p z m rest h ne b ih = refl
cut_other_at Equal q p z m rest h ne b ih = at (name_cmp q z) refl
  where
    at : (o : Ordering) → name_cmp q z ≡ o → lookup q rest ≡ by_order o None (Some m) (lookup q rest)
    at Less k = before_all q z rest k b
    at Equal k = absurd (ne (nat_list_cmp_total.congr q z p k ∙ nat_list_cmp_total.antisymm z p ∙ ap ordering_reverse h))
    at Greater k = refl
cut_other_at Greater q p z m rest h ne b ih = ap (λ r. by_order (name_cmp q z) None (Some m) r) ih

pub lookup_cut_other : (q p : List ℕ) (es : Entries) → (name_cmp q p ≡ Equal → ⊥) → AreEntries es → lookup q (cut_entry p es) ≡ lookup q es
lookup_cut_other q p none ne es = refl
lookup_cut_other q p (entry z m rest) ne es = cut_other_at (name_cmp p z) q p z m rest refl ne es.2 (lookup_cut_other q p rest ne es.3)

-- the second names begin with the first
abbrev pub Leads : List (List ℕ) → List (List ℕ) → Type 0
Leads [] qs = Unit {0}
Leads (p ∷ ps) [] = ⊥
Leads (p ∷ ps) (q ∷ qs) = (q ≡ p) × Leads ps qs

abbrev pub IsDirAt : Tree → List (List ℕ) → Type 0
IsDirAt t qs = IsOkAnd (resolve t qs) IsDir

-- a directory that stays where it was, by what stands under its first name
step_to : (t u : Tree) (q : List ℕ) (qs : List (List ℕ)) (m n : Tree) → child t q ≡ Ok m → child u q ≡ Ok n → (IsDirAt m qs → IsDirAt n qs) → IsDirAt t (q ∷ qs) → IsDirAt u (q ∷ qs)
step_to t u q qs m n a b f h =
    subst (λ r. IsOkAnd (and_then r (λ k. resolve k qs)) IsDir) (sym b) (f (subst (λ r. IsOkAnd (and_then r (λ k. resolve k qs)) IsDir) a h))

there_at : (r : Option Tree) (qs : List (List ℕ)) → IsOkAnd (and_then (ok_or r NotFound) (λ k. resolve k qs)) IsDir → (m : Tree) × (r ≡ Some m)
there_at None qs h = absurd h
there_at (Some m) qs h = (m, refl)

-- below the first name, the same or another
deeper_at : (o : Ordering) (p : List ℕ) (ps : List (List ℕ)) (es : Entries) (q : List ℕ) (qs : List (List ℕ)) (m : Tree) → name_cmp q p ≡ o → AreEntries es → (Leads (p ∷ ps) (q ∷ qs) → ⊥) → lookup q es ≡ Some m →
    ((Leads ps qs → ⊥) → IsDirAt m qs → IsDirAt (cut m ps) qs) → IsDirAt (Dir es) (q ∷ qs) → IsDirAt (Dir (put_entry p (cut (unwrap_or (lookup p es) (Dir none)) ps) es)) (q ∷ qs)
deeper_at Equal p ps es q qs m o tree ne is below h =
    let same : q ≡ p = exact_bytes q p o in
    let there : lookup p es ≡ Some m = subst (λ x. lookup x es ≡ Some m) same is in
    let now : lookup q (put_entry p (cut (unwrap_or (lookup p es) (Dir none)) ps) es) ≡ Some (cut m ps) =
    ap (λ x. lookup x (put_entry p (cut (unwrap_or (lookup p es) (Dir none)) ps) es)) same ∙ lookup_put_same p (cut (unwrap_or (lookup p es) (Dir none)) ps) es ∙ ap (λ r. Some (cut (unwrap_or r (Dir none)) ps)) there in
    step_to (Dir es) (Dir (put_entry p (cut (unwrap_or (lookup p es) (Dir none)) ps) es)) q qs m (cut m ps) (ap (λ r. ok_or r NotFound) is) (ap (λ r. ok_or r NotFound) now) (below (λ l. ne (same, l))) h
deeper_at Less p ps es q qs m o tree ne is below h =
    step_to (Dir es) (Dir (put_entry p (cut (unwrap_or (lookup p es) (Dir none)) ps) es)) q qs m m (ap (λ r. ok_or r NotFound) is) (ap (λ r. ok_or r NotFound) (lookup_put_other q p (cut (unwrap_or (lookup p es) (Dir none)) ps) es (λ e. less_equal (sym o ∙ e)) tree ∙ is)) (λ x. x) h
  where
    less_equal : Less ≡ Equal → ⊥
    less_equal e = (cc)
deeper_at Greater p ps es q qs m o tree ne is below h =
    step_to (Dir es) (Dir (put_entry p (cut (unwrap_or (lookup p es) (Dir none)) ps) es)) q qs m m (ap (λ r. ok_or r NotFound) is) (ap (λ r. ok_or r NotFound) (lookup_put_other q p (cut (unwrap_or (lookup p es) (Dir none)) ps) es (λ e. greater_equal (sym o ∙ e)) tree ∙ is)) (λ x. x) h
  where
    greater_equal : Greater ≡ Equal → ⊥
    greater_equal e = (cc)

child_tree : (q : List ℕ) (es : Entries) (m : Tree) → AreEntries es → lookup q es ≡ Some m → IsTree m
child_tree q es m tree is = subst (λ r. IsTree (unwrap_or r (Dir none))) is (found_tree q es tree)

-- a directory stays one where something is taken out that it does not lie in
pub dir_stays : (ps : List (List ℕ)) (t : Tree) (qs : List (List ℕ)) → IsTree t → (Leads ps qs → ⊥) → IsDirAt t qs → IsDirAt (cut t ps) qs
dir_stays [] t qs tree ne h = h
dir_stays (p ∷ []) t [] tree ne h = tt
dir_stays (p ∷ []) (File bytes) (q ∷ qs) tree ne h = absurd h
dir_stays (p ∷ []) (Dir es) (q ∷ qs) tree ne h =
    let m = there_at (lookup q es) qs h in
    let other : name_cmp q p ≡ Equal → ⊥ = λ e. ne (exact_bytes q p e, tt) in
    step_to (Dir es) (Dir (cut_entry p es)) q qs m.0 m.0 (ap (λ o. ok_or o NotFound) m.1) (ap (λ o. ok_or o NotFound) (lookup_cut_other q p es other tree ∙ m.1)) (λ x. x) h
dir_stays (p ∷ p' ∷ ps) t [] tree ne h = tt
dir_stays (p ∷ p' ∷ ps) (File bytes) (q ∷ qs) tree ne h = absurd h
dir_stays (p ∷ p' ∷ ps) (Dir es) (q ∷ qs) tree ne h =
    let m = there_at (lookup q es) qs h in
    deeper_at (name_cmp q p) p (p' ∷ ps) es q qs m.0 refl tree ne m.1 (dir_stays (p' ∷ ps) m.0 qs (child_tree q es m.0 tree m.1)) h

same_bytes : (p q : List ℕ) → q ≡ p → bytes_eq p q ≡ true
same_bytes p q e = (bytes_eq-Decides p q).1 (sym e)

and_both : (a b : Bool) → a ≡ true → b ≡ true → (a && b) ≡ true
and_both true b p q = q
and_both false b p q = absurd (cc)

leads_below : (ps : List (List ℕ)) (q : List ℕ) (qs : List (List ℕ)) → Leads ps (parent (q ∷ qs)) → lies_below ps (q ∷ qs) ≡ true
leads_below [] q qs h = refl
leads_below (p ∷ ps) q [] h = absurd h
leads_below (p ∷ ps) q (r ∷ rs) h = and_both (bytes_eq p q) (lies_below ps (r ∷ rs)) (same_bytes p q h.0) (leads_below ps r rs h.1)

-- the place where something is moved to stays one where something may be put
pub parent_stays : (t : Tree) (ps qs : List (List ℕ)) → IsTree t → lies_below ps qs ≡ false → HasParent t qs → HasParent (cut t ps) qs
parent_stays t ps [] tree apart h = h
parent_stays t ps (q ∷ qs) tree apart h =
    dir_stays ps t (parent (q ∷ qs)) tree (λ l. true_false (sym (leads_below ps q qs l) ∙ apart)) h
  where
    true_false : true ≡ false → ⊥
    true_false e = (cc)
