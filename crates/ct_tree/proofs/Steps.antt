-- The step of a call leaves a tree, and the root a directory.
use Rattle.std.proofs.Common.{◌≡◌, ℕ, ◌+◌, ◌≤◌, List, [], ◌∷◌, length, refl, sym, arith, Some, None, Option, Ok, Err, Result, Bool, true, false}
use Rattle.std.specs.Prelude.{unwrap_or, if◌then◌else◌, replicate}
use Rattle.std.specs.List.{list_all}
use Rattle.std.specs.Str.{bytes_eq}
use Rattle.std.proofs.lemmas.List.{length-replicate}
use Rattle.ct_base.specs.Path.{is_name, names_of}
use Rattle.ct_tree.specs.Tree.{Tree, File, Dir, none}
use Rattle.ct_tree.specs.Ordered.{IsTree}
use Rattle.ct_tree.specs.Resolve.{resolve, put, cut, IsDir, node_in}
use Rattle.ct_tree.specs.Content.{bytes_in, range, resized, written}
use Rattle.ct_tree.specs.Checks.{first_of, refuse_if, has_none, names, at, parent_at, bad_path, is_root, no_node, no_file, no_dir, is_dir, exists, above, into_self, in_the_way, bad_range, overlap}
use Rattle.ct_tree.specs.Step.{Op, create, mkdir, write, fill, append, read, truncate, unlink, rmdir, rename, exchange, stat, list, locate, refusal, effect, answered, step, with_bytes, exchanged, file_limit, exchange_limit}
use Rattle.ct_tree.specs.declared.call.Reply.{Reply}
use Rattle.ct_tree.specs.declared.call.Refusal.{Refusal}
use Rattle.ct_tree.specs.declared.call.Refusal.TheVariants.{BadRange, Exists, IsRoot, TooBig, TooLong}
use Rattle.ct_tree.proofs.Ordered.{path_names, put_tree, cut_tree, node_tree, file_short, written_length, resized_length, not_above}
use Rattle.ct_tree.proofs.Exchanges.{within_both, range_length}

-- a tree whose root is a directory
pub record IsRooted (t : Tree) : Type 0 where
  pub tree : IsTree t
  pub dir : IsDir t

pub first_none : (c : Option Refusal) (cs : List (Option Refusal)) → first_of (c ∷ cs) ≡ None → (c ≡ None) × (first_of cs ≡ None)
first_none None cs h = (refl, h)
first_none (Some r) cs h = absurd (cc)

valid_names : (o : Option (List (List ℕ))) (path : List ℕ) → o ≡ names_of path → list_all is_name (unwrap_or o []) ≡ true
valid_names None path h = refl
valid_names (Some ns) path h = path_names path ns h

pub are_names : (path : List ℕ) → list_all is_name (names path) ≡ true
are_names path = valid_names (names_of path) path refl

answered_keeps : (r : Option Refusal) (t : Tree) (done : Reply × Tree) → IsRooted t → (r ≡ None → IsRooted done.1) → IsRooted (answered r t done).1
answered_keeps None t done h k = k refl
answered_keeps (Some r) t done h k = h

bytes_short : (r : Result Tree Refusal) (t : Tree) (ns : List (List ℕ)) → r ≡ resolve t ns → IsTree t → length (bytes_in r) ≤ 549755813888
bytes_short (Err e) t ns is tree = omega arith
bytes_short (Ok (Dir es)) t ns is tree = omega arith
bytes_short (Ok (File bytes)) t ns is tree = file_short t ns bytes tree (sym is)

-- the bytes of a file of a tree are not too many
pub few_bytes : (t : Tree) (path : List ℕ) → IsTree t → length (bytes_in (at t path)) ≤ 549755813888
few_bytes t path tree = bytes_short (at t path) t (names path) refl tree

file_below : (t : Tree) (ns : List (List ℕ)) → IsDir t → no_file (resolve t ns) ≡ None → has_none ns ≡ false
file_below (File bytes) ns dir h = absurd dir
file_below (Dir es) [] dir h = absurd (cc)
file_below (Dir es) (x ∷ xs) dir h = refl

no_dir_below : (t : Tree) (ns : List (List ℕ)) → IsDir t → is_dir (resolve t ns) ≡ None → has_none ns ≡ false
no_dir_below (File bytes) ns dir h = absurd dir
no_dir_below (Dir es) [] dir h = absurd (cc)
no_dir_below (Dir es) (x ∷ xs) dir h = refl

pub not_refused : (b : Bool) (r : Refusal) → refuse_if b r ≡ None → b ≡ false
not_refused true r h = absurd (cc)
not_refused false r h = refl

put_below : (t : Tree) (ns : List (List ℕ)) (n : Tree) → has_none ns ≡ false → IsDir (put t ns n)
put_below t [] n h = absurd (cc)
put_below t (x ∷ xs) n h = tt

cut_dir : (t : Tree) (ns : List (List ℕ)) → IsDir t → IsDir (cut t ns)
cut_dir t [] dir = dir
cut_dir t (x ∷ []) dir = tt
cut_dir t (x ∷ y ∷ ys) dir = tt

pub file_at : (r : Result Tree Refusal) → no_file r ≡ None → (bytes : List ℕ) × (r ≡ Ok (File bytes))
file_at (Err e) h = absurd (cc)
file_at (Ok (File bytes)) h = (bytes, refl)
file_at (Ok (Dir es)) h = absurd (cc)

-- nowhere is no file, and no directory is
file_there : (r : Result Tree Refusal) → no_node r ≡ None → is_dir r ≡ None → (bytes : List ℕ) × (r ≡ Ok (File bytes))
file_there (Err e) a b = absurd (cc)
file_there (Ok (File bytes)) a b = (bytes, refl)
file_there (Ok (Dir es)) a b = absurd (cc)

-- what is known of an exchange that is not refused
pub record ExchangeChecked (t : Tree) (path other : List ℕ) (off other_off len : ℕ) : Type 0 where
  pub path_good : bad_path path ≡ None
  pub other_good : bad_path other ≡ None
  pub file : (bytes : List ℕ) × (at t path ≡ Ok (File bytes))
  pub other_file : (bytes : List ℕ) × (at t other ≡ Ok (File bytes))
  pub below : has_none (names path) ≡ false
  pub other_below : has_none (names other) ≡ false
  pub ranges : bad_range t path off other other_off len ≡ None
  pub apart : overlap path off other other_off len ≡ None
  pub few : above len exchange_limit TooLong ≡ None
  pub within : (off + len ≤ length (bytes_in (at t path))) × (other_off + len ≤ length (bytes_in (at t other)))

module _ (t : Tree) (is : IsRooted t) where
  put_rooted : (path : List ℕ) (n : Tree) → IsTree n → has_none (names path) ≡ false → IsRooted (put t (names path) n)
  put_rooted path n node below = record { tree = put_tree t (names path) n (are_names path) is.tree node; dir = put_below t (names path) n below }

  cut_rooted : (path : List ℕ) → IsRooted (cut t (names path))
  cut_rooted path = record { tree = cut_tree t (names path) (are_names path) is.tree; dir = cut_dir t (names path) is.dir }

  bytes_rooted : (path : List ℕ) (off : ℕ) (bytes : List ℕ) → off + length bytes ≤ 549755813888 → has_none (names path) ≡ false → IsRooted (with_bytes t path off bytes)
  bytes_rooted path off bytes fits below =
      put_rooted path (File (written (bytes_in (at t path)) off bytes)) (written_length (bytes_in (at t path)) off bytes (few_bytes t path is.tree) fits) below

  make_rooted : (path : List ℕ) (n : Tree) → IsTree n → refusal t (create path) ≡ None → IsRooted (put t (names path) n)
  make_rooted path n node h =
      let a = first_none (bad_path path) (is_root path Exists ∷ no_dir (parent_at t path) ∷ exists t path ∷ []) h in
      let b = first_none (is_root path Exists) (no_dir (parent_at t path) ∷ exists t path ∷ []) a.1 in
      put_rooted path n node (not_refused (has_none (names path)) Exists b.0)

  -- the checks of a call on a file
  file_checked : (path : List ℕ) (n limit : ℕ) → first_of (bad_path path ∷ no_file (at t path) ∷ above n limit TooBig ∷ []) ≡ None → (has_none (names path) ≡ false) × (n ≤ limit)
  file_checked path n limit h =
      let a = first_none (bad_path path) (no_file (at t path) ∷ above n limit TooBig ∷ []) h in
      let b = first_none (no_file (at t path)) (above n limit TooBig ∷ []) a.1 in
      let c = first_none (above n limit TooBig) [] b.1 in
      (file_below t (names path) is.dir b.0, not_above n limit TooBig c.0)

  moved_rooted : (path to : List ℕ) (b : Bool) → has_none (names to) ≡ false → IsRooted (if b then t else put (cut t (names path)) (names to) (node_in (at t path)))
  moved_rooted path to true below = is
  moved_rooted path to false below =
      let gone = cut_rooted path in
      record {
        tree = put_tree (cut t (names path)) (names to) (node_in (at t path)) (are_names to) gone.tree (node_tree t (names path) is.tree);
        dir = put_below (cut t (names path)) (names to) (node_in (at t path)) below;
      }

  rename_below : (path to : List ℕ) → refusal t (rename path to) ≡ None → has_none (names to) ≡ false
  rename_below path to h =
      let a = first_none (bad_path path) (bad_path to ∷ is_root path IsRoot ∷ is_root to IsRoot ∷ no_node (at t path) ∷ no_dir (parent_at t to) ∷ into_self path to ∷ in_the_way t path to ∷ []) h in
      let b = first_none (bad_path to) (is_root path IsRoot ∷ is_root to IsRoot ∷ no_node (at t path) ∷ no_dir (parent_at t to) ∷ into_self path to ∷ in_the_way t path to ∷ []) a.1 in
      let c = first_none (is_root path IsRoot) (is_root to IsRoot ∷ no_node (at t path) ∷ no_dir (parent_at t to) ∷ into_self path to ∷ in_the_way t path to ∷ []) b.1 in
      let d = first_none (is_root to IsRoot) (no_node (at t path) ∷ no_dir (parent_at t to) ∷ into_self path to ∷ in_the_way t path to ∷ []) c.1 in
      not_refused (has_none (names to)) IsRoot d.0

  module _ (path other : List ℕ) (off other_off len : ℕ) (h : refusal t (exchange path off other other_off len) ≡ None) where
    pub exchange_checked : ExchangeChecked t path other off other_off len
    exchange_checked =
        let p = first_none (bad_path path) (bad_path other ∷ no_node (at t path) ∷ no_node (at t other) ∷ is_dir (at t path) ∷ is_dir (at t other) ∷ bad_range t path off other other_off len ∷ overlap path off other other_off len ∷ above len exchange_limit TooLong ∷ []) h in
        let q = first_none (bad_path other) (no_node (at t path) ∷ no_node (at t other) ∷ is_dir (at t path) ∷ is_dir (at t other) ∷ bad_range t path off other other_off len ∷ overlap path off other other_off len ∷ above len exchange_limit TooLong ∷ []) p.1 in
        let a = first_none (no_node (at t path)) (no_node (at t other) ∷ is_dir (at t path) ∷ is_dir (at t other) ∷ bad_range t path off other other_off len ∷ overlap path off other other_off len ∷ above len exchange_limit TooLong ∷ []) q.1 in
        let b = first_none (no_node (at t other)) (is_dir (at t path) ∷ is_dir (at t other) ∷ bad_range t path off other other_off len ∷ overlap path off other other_off len ∷ above len exchange_limit TooLong ∷ []) a.1 in
        let c = first_none (is_dir (at t path)) (is_dir (at t other) ∷ bad_range t path off other other_off len ∷ overlap path off other other_off len ∷ above len exchange_limit TooLong ∷ []) b.1 in
        let d = first_none (is_dir (at t other)) (bad_range t path off other other_off len ∷ overlap path off other other_off len ∷ above len exchange_limit TooLong ∷ []) c.1 in
        let e = first_none (bad_range t path off other other_off len) (overlap path off other other_off len ∷ above len exchange_limit TooLong ∷ []) d.1 in
        let f = first_none (overlap path off other other_off len) (above len exchange_limit TooLong ∷ []) e.1 in
        let g = first_none (above len exchange_limit TooLong) [] f.1 in
        record {
          path_good = p.0;
          other_good = q.0;
          file = file_there (at t path) a.0 c.0;
          other_file = file_there (at t other) b.0 d.0;
          below = no_dir_below t (names path) is.dir c.0;
          other_below = no_dir_below t (names other) is.dir d.0;
          ranges = e.0;
          apart = f.0;
          few = g.0;
          within = within_both (bytes_in (at t path)) off (bytes_in (at t other)) other_off len BadRange e.0;
        }

    once_rooted : IsRooted (with_bytes t path off (range (bytes_in (at t other)) other_off len))
    once_rooted =
        let c = exchange_checked in
        bytes_rooted path off (range (bytes_in (at t other)) other_off len) (omega (arith, range_length (bytes_in (at t other)) other_off len, c.within, few_bytes t path is.tree)) c.below

exchange_rooted : (t : Tree) (is : IsRooted t) (path other : List ℕ) (off other_off len : ℕ) → refusal t (exchange path off other other_off len) ≡ None → IsRooted (exchanged t path off other other_off len)
exchange_rooted t is path other off other_off len h =
    let c = exchange_checked t is path other off other_off len h in
    bytes_rooted (with_bytes t path off (range (bytes_in (at t other)) other_off len)) (once_rooted t is path other off other_off len h) other other_off (range (bytes_in (at t path)) off len)
    (omega (arith, range_length (bytes_in (at t path)) off len, c.within, few_bytes t other is.tree)) c.other_below

done_rooted : (t : Tree) → IsRooted t → (op : Op) → refusal t op ≡ None → IsRooted (effect t op).1
done_rooted t is (create path) h = make_rooted t is path (File []) (omega arith) h
done_rooted t is (mkdir path) h = make_rooted t is path (Dir none) tt h
done_rooted t is (write path off bytes) h = let c = file_checked t is path (off + length bytes) file_limit h in bytes_rooted t is path off bytes c.1 c.0
done_rooted t is (fill path off len byte) h =
    let c = file_checked t is path (off + len) file_limit h in
    bytes_rooted t is path off (replicate len byte) (omega (arith, c.1, length-replicate {A = ℕ} len byte)) c.0
done_rooted t is (append path bytes) h =
    let c = file_checked t is path (length (bytes_in (at t path)) + length bytes) file_limit h in
    bytes_rooted t is path (length (bytes_in (at t path))) bytes c.1 c.0
done_rooted t is (read path off len) h = is
done_rooted t is (truncate path len) h =
    let c = file_checked t is path len file_limit h in
    put_rooted t is path (File (resized len (bytes_in (at t path)))) (omega (arith, c.1, resized_length len (bytes_in (at t path)))) c.0
done_rooted t is (unlink path) h = cut_rooted t is path
done_rooted t is (rmdir path) h = cut_rooted t is path
done_rooted t is (rename path to) h = moved_rooted t is path to (bytes_eq path to) (rename_below t is path to h)
done_rooted t is (exchange path off other other_off len) h = exchange_rooted t is path other off other_off len h
done_rooted t is (stat path) h = is
done_rooted t is (list path) h = is
done_rooted t is (locate path) h = is

pub step_rooted : (t : Tree) (op : Op) → IsRooted t → IsRooted (step t op).1
step_rooted t op is = answered_keeps (refusal t op) t (effect t op) is (done_rooted t is op)
