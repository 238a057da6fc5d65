-- The tree of an image: its bytes, and the sizes of its files.
use Rattle.std.proofs.Common.{◌≡◌, ℕ, zero, suc, ◌+◌, ◌%◌, ◌^◌, ◌<◌, ◌≤◌, Bool, true, false, List, [], ◌∷◌, length, refl, sym, ap, subst, arith, inl, inr, if◌then◌else◌}
use Rattle.std.specs.Prelude.{nat_lt, slice_index}
use Rattle.std.proofs.Math.Nat.{pow-le-pow_right}
use Rattle.std.proofs.lemmas.Bool.Decides.{nat_tests}
use Rattle.ct_base.specs.Inode.{inode, IsLive}
use Rattle.ct_base.specs.Objects.{Object}
use Rattle.ct_base.specs.Rules.{placed, Sound}
use Rattle.ct_base.specs.Settled.{settled}
use Rattle.ct_base.specs.Slots.{bytes_from, slot_inode, slot_length}
use Rattle.ct_base.specs.View.{inode_count, is_seen, view}
use Rattle.ct_base.specs.Walk.{byte, byte_in, walk}
use Rattle.ct_tree.specs.Lands.{Lands, files}
use Rattle.ct_tree.specs.Ordered.{IsTree}
use Rattle.ct_tree.specs.Stands.{Stands, StandIn}
use Rattle.ct_tree.specs.Tree.{Tree, File, Dir, Entries, none, entry}
use Rattle.ct_state.proofs.Bytes.{objects-cases}
use Rattle.ct_state.proofs.Head.{settled_inodes}
use Rattle.ct_state.proofs.Landing.{lands_dir}
use Rattle.ct_state.proofs.LiveNodes.{nodes_most}
use Rattle.ct_dump.specs.Dumped.{are_short, dumped, placed_below}
use Rattle.ct_script.specs.Script.{items}
use Rattle.ct_tree.specs.Runs.{Runs}
use Rattle.ct_dump_laws.specs.Dumpable.{are_bytes, AreWithinLimit, HoldBytes, HoldsBytes, IsDumpable, IsWithinLimit}
use Rattle.ct_dump_laws.specs.Plain.{replies_from}
use Rattle.ct_dump_laws.proofs.Follows.{dump_runs}
use Rattle.ct_dump_laws.proofs.Words.{and_true}

-- ---- bytes

byte_small : (img : List ℕ) (page o : ℕ) → byte_in img page o < 256
byte_small img zero o = omega arith
byte_small img (suc page) o = omega arith

view_byte : (img : List ℕ) (v : ℕ) → view img v < 256
unfolding view
view_byte img v = by (is_seen v)
  where
    by : (b : Bool) → (if b then byte img v else 0) < 256
    by true = byte_small img (walk img v) (v % 4096)
    by false = omega arith

object_byte : (img : List ℕ) (i k : ℕ) → (files img i).at k < 256
object_byte img i k = elim (objects-cases (view img) (inode_count img) i) [
  | inl is ↦ subst (λ (f : Object). f.at k < 256) (sym is.1) (by (nat_lt k (inode (view img) i).size))
  | inr is ↦ subst (λ (f : Object). f.at k < 256) (sym is.1) (omega arith)
]
  where
    by : (b : Bool) → (if b then view img ((inode (view img) i).base + k) else 0) < 256
    by true = view_byte img ((inode (view img) i).base + k)
    by false = omega arith

byte_test : (x : ℕ) → x < 256 → nat_lt x 256 ≡ true
byte_test x h = grind (arith, nat_tests)

bytes_all : (xs : List ℕ) → ((k : ℕ) → k < length xs → slice_index xs k < 256) → are_bytes xs ≡ true
bytes_all [] h = refl
bytes_all (x ∷ xs) h = and_true (nat_lt x 256) (are_bytes xs) (byte_test x (h 0 (omega arith))) (bytes_all xs (λ k lt. h (suc k) (omega arith)))

bytes_read : (b : ℕ → ℕ) (v n : ℕ) → ((k : ℕ) → b k < 256) → are_bytes (bytes_from b v n) ≡ true
unfolding bytes_from
bytes_read b v zero small = refl
bytes_read b v (suc n) small = and_true (nat_lt (b v) 256) (are_bytes (bytes_from b (v + 1) n)) (byte_test (b v) (small v)) (bytes_read b (v + 1) n small)

module _ (fs : ℕ → Object) (small : (i k : ℕ) → (fs i).at k < 256) where
  mutual
    stands_bytes : (t : Tree) (i : ℕ) → Stands fs i t → HoldsBytes t
    stands_bytes (File bytes) i st = bytes_all bytes (λ k lt. subst (λ x. x < 256) (st.all k lt) (small i k))
    stands_bytes (Dir es) i st = stand_bytes es i st.1

    stand_bytes : (es : Entries) (i : ℕ) → StandIn fs (fs i) es → HoldBytes es
    stand_bytes none i st = tt
    stand_bytes (entry name node rest) i st =
        let s = st.0.0 in
        let named = bytes_read (fs i).at (s.offset + 8) (slot_length (fs i) s.offset) (small i) in
        (subst (λ x. are_bytes x ≡ true) s.name named, stands_bytes node (slot_inode (fs i) s.offset) st.0.1, stand_bytes rest i st.1)

-- ---- sizes

file_size : (img : List ℕ) → Sound img → (i : ℕ) → (files img i).kind ≡ 1 → (files img i).size ≤ 2 ^ 39
file_size img sound i file = elim (objects-cases (view img) (inode_count img) i) [
  | inl is ↦
      let live : IsLive (view img) (inode_count img) i = record { number = is.0; used = λ free. omega (arith, free, file, ap (λ (f : Object). f.kind) is.1) } in
      let same = ap (λ (f : Object). f.size) is.1 in
      elim (sound placed i live).place [
        | inl bare ↦ omega (arith, same, bare.size)
        | inr room ↦
            let wide : 8 ^ (inode (view img) i).level ≤ 8 ^ 9 = pow-le-pow_right {n = 8} (omega arith) {i = (inode (view img) i).level} {j = 9} room.part.level in
            omega (arith, same, room.size, wide)
      ]
  | inr is ↦ absurd (omega (arith, file, ap (λ (f : Object). f.kind) is.1))
]

module _ (fs : ℕ → Object) (limit : (i : ℕ) → (fs i).kind ≡ 1 → (fs i).size ≤ 2 ^ 39) where
  mutual
    stands_limit : (t : Tree) (i : ℕ) → Stands fs i t → IsWithinLimit t
    stands_limit (File bytes) i st = omega (arith, limit i st.kind, st.size)
    stands_limit (Dir es) i st = stand_limit es i st.1

    stand_limit : (es : Entries) (i : ℕ) → StandIn fs (fs i) es → AreWithinLimit es
    stand_limit none i st = tt
    stand_limit (entry name node rest) i st = (stands_limit node (slot_inode (fs i) st.0.0.offset) st.0.1, stand_limit rest i st.1)

-- ---- images

module _ (img : List ℕ) (t : Tree) (lands : Lands img t) where
  pub lands_bytes : HoldsBytes t
  lands_bytes = stands_bytes (files (settled img)) (object_byte (settled img)) t 1 lands.stands

  pub lands_limit : IsWithinLimit t
  lands_limit = stands_limit (files (settled img)) (file_size (settled img) lands.sound) t 1 lands.stands

  module _ (is : IsTree t) (short : are_short (placed_below t) ≡ true) where
    pub lands_dumpable : IsDumpable t
    lands_dumpable = record { dir = lands_dir img t lands; tree = is; bytes = lands_bytes; short = short }

    pub lands_runs : Runs (inode_count img) (Dir none) (items (dumped t)) (replies_from (Dir none) (items (dumped t))) t
    lands_runs =
        let most = nodes_most (settled img) t lands.sound is lands.stands in
        let same = settled_inodes img lands.head.recorded in
        dump_runs (inode_count img) t lands_dumpable (omega (arith, most, same))
