-- The counts of an image, inode by inode, and the tree for which it stands.
use Rattle.std.proofs.Common.{◌≡◌, ◌≢◌, ◌∙◌, ℕ, ◌^◌, ◌≤◌, List, length, refl, sym, ap, inl, inr, arith}
use Rattle.std.proofs.Math.Nat.{pow-le-pow_right}
use Rattle.std.proofs.lemmas.Bool.{cases_eq, eq-eqb, ne_eqb}
use Rattle.ct_base.specs.Inode.{IsNumber, inode}
use Rattle.ct_base.specs.declared.inode.Inode.{Inode}
use Rattle.ct_base.specs.Objects.{Object}
use Rattle.ct_base.specs.Rules.{inodes, names, named, placed, reached, slots}
use Rattle.ct_base.specs.View.{inode_count, view}
use Rattle.ct_commit.specs.Rest.{IsAtRest, StandsFor}
use Rattle.ct_state.proofs.Bytes.{objects-cases, objects-in}
use Rattle.ct_state.proofs.Nodes.{all_live, numbers, once_each, reached_among}
use Rattle.ct_tree.specs.Lands.{files}
use Rattle.ct_tree.specs.Tree.{Tree}
use Rattle.ct_tell.specs.Held.{IsCount, bytes_of, directories_of, files_of, total}
use Rattle.ct_tell.specs.declared.held.Counts.{Counts}
use Rattle.ct_tell.proofs.Sums.{Weighs, sum_once, sum_to, sum_tree}

-- what an inode counts for, by its kind and its size
pub record CountsFor (of : Inode → ℕ) (of_size : ℕ → ℕ) (of_dir : ℕ) : Type 0 where
  pub file : (f : Inode) → f.kind ≡ 1 → of f ≡ of_size f.size
  pub dir : (f : Inode) → f.kind ≡ 2 → of f ≡ of_dir
  pub free : (f : Inode) → f.kind ≡ 0 → of f ≡ 0

module _ {w : List ℕ} (rest : IsAtRest w) where
  -- an inode whose object has a kind
  numbered : (i : ℕ) → (files w i).kind ≢ 0 → IsNumber (inode_count w) i × ((files w i).kind ≡ (inode (view w) i).kind) × ((files w i).size ≡ (inode (view w) i).size)
  numbered i used = elim (objects-cases (view w) (inode_count w) i) [
    | inl k ↦ (k.0, ap (λ (f : Object). f.kind) k.1, ap (λ (f : Object). f.size) k.1)
    | inr k ↦ absurd (used (ap (λ (f : Object). f.kind) k.1))
  ]

  live_kind : (i : ℕ) → IsNumber (inode_count w) i → (inode (view w) i).kind ≢ 0 → (files w i).kind ≢ 0
  live_kind i number used z = used (sym (ap (λ (f : Object). f.kind) (objects-in (view w) (inode_count w) i number)) ∙ z)

  module _ {of : Inode → ℕ} {of_size : ℕ → ℕ} {of_dir : ℕ} (h : CountsFor of of_size of_dir) where
    weighs : Weighs (files w) (λ i. of (inode (view w) i)) (λ bytes. of_size (length bytes)) of_dir
    weighs = record {
      file = λ i bytes is.
          let n = numbered i (λ z. let kind = is.kind in omega (arith, kind, z)) in
          h.file (inode (view w) i) (sym n.1 ∙ is.kind) ∙ ap of_size (sym n.2 ∙ is.size);
      dir = λ i es is.
          let n = numbered i (λ z. let kind = is.kind in omega (arith, kind, z)) in
          h.dir (inode (view w) i) (sym n.1 ∙ is.kind);
    }

    -- the sum over all inodes is that over the nodes of the tree
    pub counted : (t : Tree) → StandsFor w t → sum_to (λ i. of (inode (view w) i)) (inode_count w) ≡ total (λ bytes. of_size (length bytes)) of_dir t
    counted t st =
        let fs = files w in
        let sound = rest.sound in
        sum_once (λ i. of (inode (view w) i)) (inode_count w) (numbers fs 1 t st.stands) (once_each (sound slots) (sound named) t st.stands st.tree)
        (λ x h. let n = (numbered x (all_live fs 1 t st.stands x h)).0 in (n.from, n.to))
        (λ i from to some.
        let used : (inode (view w) i).kind ≢ 0 = λ z. some (h.free (inode (view w) i) z) in
        let up = sound reached i (live_kind i (record { from = from; to = to }) used) in
        reached_among fs (sound names) t st.stands up.0 i up.1)
        ∙ sum_tree weighs 1 t st.stands

  -- no inode has more bytes than fit a root slot
  size_most : (i : ℕ) → IsNumber (inode_count w) i → (inode (view w) i).size ≤ 2 ^ 39
  size_most i number = elim (cases_eq (inode (view w) i).kind 0) [
    | inl free ↦ omega (arith, (rest.sound inodes i number).free 1 (omega arith) free)
    | inr used ↦ elim (rest.sound placed i (record { number = number; used = used })).place [
      | inl none ↦ omega (arith, none.size)
      | inr r ↦
          let wide : 8 ^ (inode (view w) i).level ≤ 8 ^ 9 = pow-le-pow_right {n = 8} (omega arith) {i = (inode (view w) i).level} {j = 9} r.part.level in
          omega (arith, r.size, wide)
    ]
  ]

  pub bytes_most : (i : ℕ) → 1 ≤ i → i ≤ inode_count w → bytes_of (inode (view w) i) ≤ 2 ^ 39
  bytes_most i from to =
      let most = size_most i (record { from = from; to = to }) in
      elim (cases_eq (inode (view w) i).kind 1) [
        | inl is ↦ rw (eq-eqb (inode (view w) i).kind 1 is) most
        | inr other ↦ rw (ne_eqb (inode (view w) i).kind 1 other) (omega arith)
      ]

pub files_most : (f : Inode) → files_of f ≤ 1
files_most f = elim (cases_eq f.kind 1) [ inl is ↦ rw (eq-eqb f.kind 1 is) (omega arith) | inr other ↦ rw (ne_eqb f.kind 1 other) (omega arith) ]

pub directories_most : (f : Inode) → directories_of f ≤ 1
directories_most f = elim (cases_eq f.kind 2) [ inl is ↦ rw (eq-eqb f.kind 2 is) (omega arith) | inr other ↦ rw (ne_eqb f.kind 2 other) (omega arith) ]

for_files : CountsFor files_of (λ n. 1) 0
for_files = record {
  file = λ f is. rw (eq-eqb f.kind 1 is) refl;
  dir = λ f is. rw (ne_eqb f.kind 1 (λ e. omega (arith, e, is))) refl;
  free = λ f is. rw (ne_eqb f.kind 1 (λ e. omega (arith, e, is))) refl;
}

for_directories : CountsFor directories_of (λ n. 0) 1
for_directories = record {
  file = λ f is. rw (ne_eqb f.kind 2 (λ e. omega (arith, e, is))) refl;
  dir = λ f is. rw (eq-eqb f.kind 2 is) refl;
  free = λ f is. rw (ne_eqb f.kind 2 (λ e. omega (arith, e, is))) refl;
}

for_bytes : CountsFor bytes_of (λ n. n) 0
for_bytes = record {
  file = λ f is. rw (eq-eqb f.kind 1 is) refl;
  dir = λ f is. rw (ne_eqb f.kind 1 (λ e. omega (arith, e, is))) refl;
  free = λ f is. rw (ne_eqb f.kind 1 (λ e. omega (arith, e, is))) refl;
}

-- the counts of the inodes from 1 to n
pub record IsSum (b : ℕ → ℕ) (n : ℕ) (counts : Counts) : Type 0 where
  pub files : counts.files ≡ sum_to (λ i. files_of (inode b i)) n
  pub directories : counts.directories ≡ sum_to (λ i. directories_of (inode b i)) n
  pub bytes : counts.bytes ≡ sum_to (λ i. bytes_of (inode b i)) n

-- are those of the tree where they are all
pub counts_all : {w : List ℕ} → IsAtRest w → (counts : Counts) → IsSum (view w) (inode_count w) counts → (t : Tree) → StandsFor w t → IsCount t counts
counts_all rest counts sums t st = record {
  files = sums.files ∙ counted rest for_files t st;
  directories = sums.directories ∙ counted rest for_directories t st;
  bytes = sums.bytes ∙ counted rest for_bytes t st;
}
