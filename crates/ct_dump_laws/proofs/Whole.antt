-- The dump of a tree makes it, entry by entry.
use Rattle.std.proofs.Common.{◌≡◌, ◌∙◌, ℕ, ◌+◌, ◌≤◌, true, Bool, List, [], ◌∷◌, ◌++◌, length, refl, sym, ap, subst, append-nil, arith, Ok}
use Rattle.std.specs.Prelude.{◌&&◌, nat_le, nat_lt}
use Rattle.std.proofs.lemmas.Bool.Decides.{nat_tests}
use Rattle.std.proofs.lemmas.Grind.{flat_map-append}
use Rattle.std.proofs.lemmas.List.Folds.{list_all-append}
use Rattle.ct_base.specs.declared.layout.TheConstants.{PATH_BYTES}
use Rattle.ct_tree.specs.Checks.{names}
use Rattle.ct_tree.specs.Ordered.{AreEntries, IsTree}
use Rattle.ct_tree.specs.Resolve.{put, resolve}
use Rattle.ct_tree.specs.Tree.{Tree, File, Dir, Entries, none, entry, nodes, nodes_below}
use Rattle.ct_tree.proofs.Again.{put_put, resolve_put}
use Rattle.ct_tree.proofs.Twice.{put_same}
use Rattle.ct_dump.specs.Dumped.{are_short, dumped, file_text, is_short, lines_of, mkdir_line, path_below, placed, placed_in, text_of}
use Rattle.ct_dump.specs.Places.{IsPlace}
use Rattle.ct_dump.proofs.Places.{place_below}
use Rattle.ct_dump_laws.specs.Dumpable.{HoldBytes, HoldsBytes, IsDumpable, are_bytes}
use Rattle.ct_dump_laws.proofs.Inserted.{Follow, follow_none, follow_push, joined, joined_none, joined_push, push}
use Rattle.ct_dump_laws.proofs.NewNames.{IsNew, file_builds, mkdir_builds, more_nodes, one_more}
use Rattle.ct_dump_laws.proofs.Builds.{Builds, builds_both, builds_none}
use Rattle.ct_dump_laws.proofs.Words.{both, and_true}

path_fits : (path : List ℕ) (more : Bool) → (nat_le (length path) PATH_BYTES && more) ≡ true → length path ≤ PATH_BYTES
path_fits path more h = let b = both (nat_le (length path) PATH_BYTES) more h in fits (length path) b.0
  where
    fits : (n : ℕ) → nat_le n PATH_BYTES ≡ true → n ≤ PATH_BYTES
    fits n h = grind (arith, nat_tests)

short_path : (path : List ℕ) (n : Tree) → are_short (placed path n) ≡ true → length path ≤ PATH_BYTES
short_path path (File bytes) h = path_fits path true h
short_path path (Dir es) h = path_fits path (are_short (placed_in path es)) h

bytes_below : (dir name : List ℕ) → are_bytes dir ≡ true → are_bytes name ≡ true → are_bytes (path_below dir name) ≡ true
bytes_below dir name a b = list_all-append (λ x. nat_lt x 256) dir (47 ∷ name) ∙ and_true (are_bytes dir) (are_bytes (47 ∷ name)) a b

-- entries of a directory that follow those which are there
record AreNext (c : ℕ) (t : Tree) (dir : List ℕ) (front es : Entries) : Type 0 where
  place : IsPlace dir
  there : resolve t (names dir) ≡ Ok (Dir front)
  follow : Follow front es
  are : AreEntries es
  hold : HoldBytes es
  short : are_short (placed_in dir es) ≡ true
  bytes : are_bytes dir ≡ true
  room : nodes t + nodes_below es ≤ c

-- the first of them
record IsNext (c : ℕ) (t : Tree) (dir name : List ℕ) (front : Entries) (n : Tree) : Type 0 where
  new : IsNew t dir name front
  is : IsTree n
  holds : HoldsBytes n
  short : are_short (placed (path_below dir name) n) ≡ true
  room : nodes t + nodes n ≤ c

module _ {c : ℕ} {t : Tree} {dir name : List ℕ} {front rest : Entries} {n : Tree} (next : AreNext c t dir front (entry name n rest)) where
  shorts : (are_short (placed (path_below dir name) n) ≡ true) × (are_short (placed_in dir rest) ≡ true)
  shorts = both _ _ (sym (list_all-append is_short (placed (path_below dir name) n) (placed_in dir rest)) ∙ next.short)

  first : IsNext c t dir name front n
  first = record {
    new =
        record {
          place = next.place;
          there = next.there;
          named = next.are.0;
          after = next.follow.0;
          short = short_path (path_below dir name) n shorts.0;
          bytes = bytes_below dir name next.bytes next.hold.0;
        };
    is = next.are.1;
    holds = next.hold.1;
    short = shorts.0;
    room = omega (arith, next.room);
  }

  later : AreNext c (put t (names (path_below dir name)) n) dir (push front name n) rest
  later =
      let there = resolve_put t (names dir) (Dir (push front name n)) in
      record {
        place = next.place;
        there = subst (λ u. resolve u (names dir) ≡ Ok (Dir (push front name n))) (sym (one_more first.new n)) there;
        follow = follow_push front rest name n next.follow.1 next.are.2;
        are = next.are.3;
        hold = next.hold.2;
        short = shorts.1;
        bytes = next.bytes;
        room = omega (arith, next.room, more_nodes first.new n);
      }

  -- what is made of the first and then of the others
  both_made : put (put t (names (path_below dir name)) n) (names dir) (Dir (joined (push front name n) rest)) ≡ put t (names dir) (Dir (joined front (entry name n rest)))
  both_made =
      ap (λ u. put u (names dir) (Dir (joined (push front name n) rest))) (one_more first.new n)
      ∙ put_put t (names dir) (Dir (push front name n)) (Dir (joined (push front name n) rest)) ∙ ap (λ es. put t (names dir) (Dir es)) (joined_push front rest name n)

module _ {c : ℕ} {t : Tree} {dir name : List ℕ} {front es : Entries} (next : IsNext c t dir name front (Dir es)) where
  -- the entries of a new directory
  inner : AreNext c (put t (names (path_below dir name)) (Dir none)) (path_below dir name) none es
  inner = record {
    place = place_below dir name next.new.place next.new.named next.new.short;
    there = resolve_put t (names (path_below dir name)) (Dir none);
    follow = follow_none es;
    are = next.is;
    hold = next.holds;
    short = (both (is_short (record { path = path_below dir name; node = Dir es })) (are_short (placed_in (path_below dir name) es)) next.short).1;
    bytes = next.new.bytes;
    room = omega (arith, next.room, more_nodes next.new (Dir none));
  }

mutual
  node_builds : (n : Tree) (c : ℕ) (t : Tree) (dir name : List ℕ) (front : Entries) → IsNext c t dir name front n
      → Builds c t (text_of (placed (path_below dir name) n)) (put t (names (path_below dir name)) n)
  node_builds (File bytes) c t dir name front next =
      subst (λ text. Builds c t text (put t (names (path_below dir name)) (File bytes))) (sym (append-nil (file_text (path_below dir name) bytes)))
      (file_builds next.new c bytes next.is next.holds (omega (arith, next.room)))
  node_builds (Dir es) c t dir name front next =
      let path = path_below dir name in
      subst (Builds c t (mkdir_line path ++ text_of (placed_in path es))) (put_put t (names path) (Dir none) (Dir es))
      (builds_both (mkdir_builds next.new c (omega (arith, next.room))) (entries_build es c (put t (names path) (Dir none)) path none (inner next)))

  entries_build : (es : Entries) (c : ℕ) (t : Tree) (dir : List ℕ) (front : Entries) → AreNext c t dir front es
      → Builds c t (text_of (placed_in dir es)) (put t (names dir) (Dir (joined front es)))
  entries_build none c t dir front next =
      subst (Builds c t []) (sym (ap (λ es. put t (names dir) (Dir es)) (joined_none front) ∙ put_same t (names dir) (Dir front) next.there)) (builds_none c t)
  entries_build (entry name n rest) c t dir front next =
      subst (λ text. Builds c t text (put t (names dir) (Dir (joined front (entry name n rest))))) (sym (flat_map-append lines_of (placed (path_below dir name) n) (placed_in dir rest)))
      (subst (Builds c t (text_of (placed (path_below dir name) n) ++ text_of (placed_in dir rest))) (both_made next)
      (builds_both (node_builds n c t dir name front (first next)) (entries_build rest c (put t (names (path_below dir name)) n) dir (push front name n) (later next))))

-- the dump of a tree makes it on an empty one
pub dump_builds : (c : ℕ) (t : Tree) → IsDumpable t → nodes t ≤ c → Builds c (Dir none) (dumped t) t
dump_builds c (File bytes) h room = absurd h.dir
dump_builds c (Dir es) h room =
    entries_build es c (Dir none) [] none (record { place = tt; there = refl; follow = follow_none es; are = h.tree; hold = h.bytes; short = h.short; bytes = refl; room = omega (arith, room) })
