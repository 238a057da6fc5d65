-- The calls of a dump on a new name in a directory.
use Rattle.std.proofs.Common.{◌≡◌, ◌∙◌, ℕ, ◌+◌, ◌<◌, ◌≤◌, true, false, List, [], ◌∷◌, ◌++◌, length, refl, ap, arith, None, Ok}
use Rattle.std.specs.Prelude.{is_none, is_some, unwrap_or}
use Rattle.std.proofs.lemmas.List.{length-append}
use Rattle.ct_base.specs.declared.layout.TheConstants.{PATH_BYTES}
use Rattle.ct_base.specs.Path.{is_name}
use Rattle.ct_tree.specs.Checks.{bad_path, exists, exists_in, has_none, is_root, names, no_dir, parent_at, refuse_if}
use Rattle.ct_tree.specs.Entries.{lookup}
use Rattle.ct_tree.specs.Resolve.{last_name, parent, put, resolve}
use Rattle.ct_tree.specs.Step.{file_limit, make_refusal}
use Rattle.ct_tree.specs.Tree.{Tree, File, Dir, Entries, none, nodes}
use Rattle.ct_tree.specs.declared.call.Refusal.TheVariants.{BadPath, Exists}
use Rattle.ct_tree.proofs.Exchanges.{pass}
use Rattle.ct_tree.proofs.Paths.{last_push, parent_push}
use Rattle.ct_dump.specs.Dumped.{create_line, file_text, mkdir_line, path_below}
use Rattle.ct_dump.specs.Places.{IsPlace}
use Rattle.ct_dump.proofs.Places.{names_below}
use Rattle.ct_dump_laws.specs.Dumpable.{are_bytes}
use Rattle.ct_dump_laws.proofs.Calls.{IsText, reads_create, reads_mkdir}
use Rattle.ct_dump_laws.proofs.Files.{content_builds}
use Rattle.ct_dump_laws.proofs.Inserted.{ComesAfter, lookup_last, nodes_push, nodes_put, push, put_child, put_last}
use Rattle.ct_dump_laws.proofs.Builds.{Builds, builds_both, builds_call}

-- a directory at a path, and a name that comes after all that are there
pub record IsNew (t : Tree) (dir name : List ℕ) (front : Entries) : Type 0 where
  pub place : IsPlace dir
  pub there : resolve t (names dir) ≡ Ok (Dir front)
  pub named : is_name name ≡ true
  pub after : ComesAfter name front
  pub short : length (path_below dir name) ≤ PATH_BYTES
  pub bytes : are_bytes (path_below dir name) ≡ true

some_name : (ns : List (List ℕ)) (x : List ℕ) → has_none (ns ++ x ∷ []) ≡ false
some_name [] x = refl
some_name (n ∷ ns) x = refl

module _ {t : Tree} {dir name : List ℕ} {front : Entries} (new : IsNew t dir name front) where
  abbrev path : List ℕ
  path = path_below dir name

  pub text : IsText (path_below dir name)
  text = record { some = omega (arith, length-append dir (47 ∷ name)); short = new.short; bytes = new.bytes }

  names_are : names (path_below dir name) ≡ names dir ++ name ∷ []
  names_are = ap (λ o. unwrap_or o []) (names_below dir name new.place new.named new.short)

  good : bad_path (path_below dir name) ≡ None
  good = ap (λ o. refuse_if (is_none o) BadPath) (names_below dir name new.place new.named new.short)

  parent_is : parent_at t (path_below dir name) ≡ Ok (Dir front)
  parent_is = ap (λ ns. resolve t (parent ns)) names_are ∙ ap (resolve t) (parent_push (names dir) name) ∙ new.there

  not_there : exists t (path_below dir name) ≡ None
  not_there =
      ap (λ r. exists_in r (last_name (names (path_below dir name)))) parent_is ∙ ap (λ ns. exists_in (Ok (Dir front)) (last_name ns)) names_are
      ∙ ap (λ x. refuse_if (is_some (lookup x front)) Exists) (last_push (names dir) name) ∙ ap (λ o. refuse_if (is_some o) Exists) (lookup_last name front new.after)

  below_root : is_root (path_below dir name) Exists ≡ None
  below_root = ap (λ b. refuse_if b Exists) (ap has_none names_are ∙ some_name (names dir) name)

  free : make_refusal t (path_below dir name) ≡ None
  free =
      pass (bad_path path) (is_root path Exists ∷ no_dir (parent_at t path) ∷ exists t path ∷ []) good ∙ pass (is_root path Exists) (no_dir (parent_at t path) ∷ exists t path ∷ []) below_root
      ∙ pass (no_dir (parent_at t path)) (exists t path ∷ []) (ap no_dir parent_is) ∙ pass (exists t path) [] not_there

  -- the directory has one entry more
  pub one_more : (n : Tree) → put t (names (path_below dir name)) n ≡ put t (names dir) (Dir (push front name n))
  one_more n =
      ap (λ ns. put t ns n) names_are ∙ put_child t (names dir) name n front new.there ∙ ap (λ es. put t (names dir) (Dir es)) (put_last name n front new.after)

  pub more_nodes : (n : Tree) → nodes (put t (names (path_below dir name)) n) ≡ nodes t + nodes n
  more_nodes n =
      let e = ap nodes (one_more n) in
      let f = nodes_put t (names dir) (Dir (push front name n)) (Dir front) new.there in
      let g = nodes_push front name n in
      omega (arith, e, f, g)

  module _ (c : ℕ) where
    pub mkdir_builds : nodes t < c → Builds c t (mkdir_line (path_below dir name)) (put t (names (path_below dir name)) (Dir none))
    mkdir_builds room = builds_call (reads_mkdir path text) (record { passes = free; done = refl; room = λ _. room })

    create_builds : nodes t < c → Builds c t (create_line (path_below dir name)) (put t (names (path_below dir name)) (File []))
    create_builds room = builds_call (reads_create path text) (record { passes = free; done = refl; room = λ _. room })

    -- the lines of a file make it
    pub file_builds : (bytes : List ℕ) → length bytes ≤ file_limit → are_bytes bytes ≡ true → nodes t < c → Builds c t (file_text (path_below dir name) bytes) (put t (names (path_below dir name)) (File bytes))
    file_builds bytes few all room = builds_both (create_builds room) (content_builds c t path text good bytes few all)
