-- One step down a tree.
use Rattle.std.proofs.Common.{◌≡◌, ◌∙◌, ℕ, ◌+◌, ◌<◌, ◌≤◌, List, [], ◌∷◌, ◌++◌, length, drop, get_or, refl, sym, ap, arith, Ok, Err, Some, None, Bor}
use Rattle.std.specs.Option.{ok_or}
use Rattle.std.proofs.lemmas.List.{drop_more}
use Rattle.ct_base.specs.Path.{texts}
use Rattle.ct_tree.specs.declared.call.Refusal.{Refusal}
use Rattle.ct_tree.specs.declared.call.Refusal.TheVariants.{NotFound, NotDir, NotEmpty}
use Rattle.ct_tree.specs.Tree.{Tree, File, Dir, Entries}
use Rattle.ct_tree.specs.Entries.{lookup}
use Rattle.ct_tree.specs.Checks.{has_entries}
use Rattle.ct_tree.specs.Step.{names_in, count}
use Rattle.ct_tree.specs.Resolve.{child, and_then, resolve, HasParent, IsBelowRoot}
use Rattle.ct_node.specs.declared.node.Entry.{Entry}
use Rattle.ct_node.specs.Listed.{listed}

module _ (t : Tree) (x : List ℕ) where
  pub child_of_file : (bytes : List ℕ) → File bytes ≡ t → child t x ≡ Err NotDir
  child_of_file bytes is = sym (ap (λ u. child u x) is)

  pub child_none : (es : Entries) → Dir es ≡ t → lookup x es ≡ None → child t x ≡ Err NotFound
  child_none es is h = sym (ap (λ u. child u x) is) ∙ ap (λ o. ok_or o NotFound) h

  pub child_some : (es : Entries) (n : Tree) → Dir es ≡ t → lookup x es ≡ Some n → child t x ≡ Ok n
  child_some es n is h = sym (ap (λ u. child u x) is) ∙ ap (λ o. ok_or o NotFound) h

module _ (t : Tree) (names : List (Bor (List ℕ))) (i : ℕ) (d : Bor (List ℕ)) (within : i < length names) where
  next : resolve t (texts (drop i names)) ≡ and_then (child t (get_or names i d).now) (λ n. resolve n (texts (drop (i + 1) names)))
  next = ap (λ ns. resolve t (texts ns)) (drop_more names i d within)

  pub resolve_stop : (e : Refusal) → child t (get_or names i d).now ≡ Err e → resolve t (texts (drop i names)) ≡ Err e
  resolve_stop e h = next ∙ ap (λ r. and_then r (λ n. resolve n (texts (drop (i + 1) names)))) h

  pub resolve_go : (n : Tree) → child t (get_or names i d).now ≡ Ok n → resolve t (texts (drop i names)) ≡ resolve n (texts (drop (i + 1) names))
  resolve_go n h = next ∙ ap (λ r. and_then r (λ n. resolve n (texts (drop (i + 1) names)))) h

-- nothing stands below a file, and nothing may be put there
pub no_parent_in_file : (bytes : List ℕ) (names : List (List ℕ)) → HasParent (File bytes) names → ⊥
no_parent_in_file bytes [] h = h
no_parent_in_file bytes (x ∷ []) h = h
no_parent_in_file bytes (x ∷ y ∷ ys) h = h

pub none_in_file : (bytes : List ℕ) (names : List (List ℕ)) → IsBelowRoot (File bytes) names → ⊥
none_in_file bytes [] h = h
none_in_file bytes (x ∷ xs) h = h

-- a directory that has rows has entries
pub some_entries : (es : List Entry) → 1 ≤ length es → has_entries (Ok (Dir (listed es))) ≡ Some NotEmpty
some_entries [] h = absurd (omega (arith, h))
some_entries (e ∷ es) h = refl

-- the names of the rows, with one more
pub names_push : (es : List Entry) (e : Entry) → names_in (listed (es ++ e ∷ [])) ≡ names_in (listed es) ++ e.name.items ∷ []
names_push [] e = refl
names_push (f ∷ es) e = ap (λ ns. f.name.items ∷ ns) (names_push es e)

pub count_rows : (es : List Entry) → count (listed es) ≡ length es
count_rows [] = refl
count_rows (e ∷ es) = ap (λ k. 1 + k) (count_rows es) ∙ (let one : 1 + length es ≡ length (e ∷ es) = omega arith in one)
