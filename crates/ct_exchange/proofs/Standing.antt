-- After an exchange the image stands for the tree in which the two ranges have changed places.
use Rattle.std.proofs.Common.{◌≡◌, ℕ, ◌+◌, ◌-◌, ◌<◌, ◌≤◌, List, [], ◌∷◌, length, drop, Ok, sym, ap, subst, ◌∙◌, inl, inr, arith, refl}
use Rattle.std.specs.Prelude.{slice_index}
use Rattle.std.proofs.lemmas.Bool.{cases_lt}
use Rattle.std.proofs.lemmas.List.{get_or-drop, get_or-take}
use Rattle.ct_base.specs.declared.inode.Inode.{Inode}
use Rattle.ct_base.specs.Exchange.{partner}
use Rattle.ct_base.specs.Inode.{inode, IsNumber}
use Rattle.ct_base.specs.Named.{Leads, Named}
use Rattle.ct_base.specs.Objects.{Object, objects}
use Rattle.ct_base.specs.Rules.{AreEntries, AreNamesApart, AreNamed}
use Rattle.ct_base.specs.Slots.{slot_inode}
use Rattle.ct_base.specs.View.{view, inode_count}
use Rattle.ct_state.proofs.Bytes.{content-at, objects-in}
use Rattle.ct_state.proofs.Followed.{followed, leads_resolve}
use Rattle.ct_state.proofs.Forests.{once_named, path_up}
use Rattle.ct_state.proofs.Grafts.{tree_graft}
use Rattle.ct_state.proofs.Paths.{Path}
use Rattle.ct_state.proofs.Puts.{onto}
use Rattle.ct_state.proofs.Resolve.{leads_path}
use Rattle.ct_state.proofs.Write.{HasSpace, written as writes_object}
use Rattle.ct_state.proofs.Written.{Written, dir-same, entries_stay, names_apart_stay, named_stay}
use Rattle.ct_tree.proofs.Exchanges.{written_within}
use Rattle.ct_tree.proofs.Ordered.{put_tree}
use Rattle.ct_tree.proofs.ReadBack.{range_all}
use Rattle.ct_tree.proofs.Steps.{are_names}
use Rattle.ct_tree.specs.Checks.{at, names}
use Rattle.ct_tree.specs.Content.{bytes_in, range, written}
use Rattle.ct_tree.specs.Ordered.{IsTree}
use Rattle.ct_tree.specs.Resolve.{put, resolve}
use Rattle.ct_tree.specs.Stands.{IsFile, Stands}
use Rattle.ct_tree.specs.Step.{exchanged}
use Rattle.ct_tree.specs.Tree.{Tree, File, Dir}
use Rattle.ct_write.proofs.Files.{written_before, written_inside, written_after}
use Rattle.ct_exchange.specs.Ranges.{CanExchange}
use Rattle.ct_exchange.proofs.Contents.{between, copied-in, copied-out, first_writes, second_writes, inode_between, inode_after, in_second, off_second, places}

-- ---- a file by its bytes

module _ (b : ℕ → ℕ) (count k : ℕ) (number : IsNumber count k) where
  had_bytes : (xs : List ℕ) → IsFile (objects b count k) xs → ((inode b k).size ≡ length xs) × ((m : ℕ) → m < length xs → b ((inode b k).base + m) ≡ slice_index xs m)
  had_bytes xs file =
      let is = subst (λ (o : Object). IsFile o xs) (objects-in b count k number) file in
      (is.size, λ m lt. sym (content-at b (inode b k).base (inode b k).size m (omega (arith, is.size, lt))) ∙ is.all m lt)

  has_bytes : (xs : List ℕ) → (inode b k).kind ≡ 1 → (inode b k).size ≡ length xs → ((m : ℕ) → m < length xs → b ((inode b k).base + m) ≡ slice_index xs m) → IsFile (objects b count k) xs
  has_bytes xs kind size all = subst (λ (o : Object). IsFile o xs) (sym (objects-in b count k number)) (record {
    kind = kind;
    size = size;
    all = λ m lt. content-at b (inode b k).base (inode b k).size m (omega (arith, size, lt)) ∙ all m lt;
  })

range_index : (bytes : List ℕ) (off len m : ℕ) → m < len → slice_index (range bytes off len) m ≡ slice_index bytes (off + m)
range_index bytes off len m lt = get_or-take len (drop off bytes) m 0 lt ∙ get_or-drop off bytes m 0 ∙ ap (slice_index bytes) (omega arith)

-- ---- one file gets other bytes

module _ {fs gs : ℕ → Object} {i : ℕ} (w : Written fs gs i) (e : AreEntries fs) (n : AreNamesApart fs) (m : AreNamed fs) where
  -- the tree has them too
  put_stands : (xs : List (List ℕ)) (t : Tree) (bytes : List ℕ) → Leads fs 1 xs i → IsTree t → Stands fs 1 t → IsFile (gs i) bytes → Stands gs 1 (put t xs (File bytes))
  unfolding Path
  put_stands xs t bytes leads tree st file =
      let way = followed fs n 1 i xs t tree st leads in
      tree_graft w.others (once_named e n m) (onto xs []) (path_up fs (onto xs []) i (leads_path fs 1 i xs [] leads refl)) xs t way.node (File bytes) refl leads way.to tree st file

  -- names lead where they led
  leads_stay : (xs : List (List ℕ)) (c d : ℕ) → Leads fs c xs d → Leads gs c xs d
  unfolding Leads
  leads_stay [] c d leads = leads
  leads_stay (x ∷ xs) c d leads =
      let s = leads.0 in
      let same : fs c ≡ gs c = sym (dir-same w c s.slot.dir) in
      subst (λ (o : Object). (u : Named o x) × Leads gs (slot_inode o u.offset) xs d) same (s, leads_stay xs (slot_inode (fs c) s.offset) d leads.1)

-- the node of a file is its bytes
file_node : (fs : ℕ → Object) (j : ℕ) (node : Tree) → (fs j).kind ≡ 1 → Stands fs j node → (bytes : List ℕ) × (node ≡ File bytes) × IsFile (fs j) bytes
file_node fs j (File bytes) kind st = (bytes, refl, st)
file_node fs j (Dir es) kind st = absurd (omega (arith, kind, st.0.kind))

module _ {img : List ℕ} {i off j other len : ℕ} (can : CanExchange img i off j other len) (space : HasSpace (view img) (inode_count img)) where
  abbrev b0 : ℕ → ℕ
  b0 = view img

  abbrev b1 : ℕ → ℕ
  b1 = between can space

  abbrev count : ℕ
  count = inode_count img

  few_first : i ≤ 1048576
  few_first = omega (arith, can.first.live.number.to, space.few)

  few_second : j ≤ 1048576
  few_second = omega (arith, can.second.live.number.to, space.few)

  module _ (one two : List ℕ) (is_one : IsFile (objects b0 count i) one) (is_two : IsFile (objects b0 count j) two) where
    had_one : ((inode b0 i).size ≡ length one) × ((m : ℕ) → m < length one → b0 ((inode b0 i).base + m) ≡ slice_index one m)
    had_one = had_bytes b0 count i can.first.live.number one is_one

    had_two : ((inode b0 j).size ≡ length two) × ((m : ℕ) → m < length two → b0 ((inode b0 j).base + m) ≡ slice_index two m)
    had_two = had_bytes b0 count j can.second.live.number two is_two

    fits_one : off + len ≤ length one
    fits_one = omega (arith, can.fits, had_one.0)

    fits_two : other + len ≤ length two
    fits_two = omega (arith, can.other_fits, had_two.0)

    taken_two : length (range two other len) ≡ len
    taken_two = range_all two other len fits_two

    taken_one : length (range one off len) ≡ len
    taken_one = range_all one off len fits_one

    first_byte : (m : ℕ) → m < length one → b1 ((inode b0 i).base + m) ≡ slice_index (written one off (range two other len)) m
    first_byte m lt =
        let p = places can space in
        let x = (inode b0 i).base in
        let y = (inode b0 j).base in
        let some : 1 ≤ length (range two other len) = omega (arith, taken_two, can.some) in
        elim (cases_lt m off) [
          | inl before ↦
              copied-out b0 (x + off) (y + other) len (x + m) (λ le. absurd (omega (arith, le, before))) ∙ had_one.1 m lt
              ∙ sym (written_before one off (range two other len) m some before)
          | inr from ↦ elim (cases_lt m (off + len)) [
            | inl inside ↦
                copied-in b0 (x + off) (y + other) len (x + m) (omega (arith, from)) (omega (arith, inside))
                ∙ ap b0 (omega (arith, from)) ∙ had_two.1 (other + (m - off)) (omega (arith, from, inside, fits_two))
                ∙ sym (written_inside one off (range two other len) m from (omega (arith, taken_two, inside)) ∙ range_index two other len (m - off) (omega (arith, from, inside)))
            | inr past ↦
                copied-out b0 (x + off) (y + other) len (x + m) (λ le. omega (arith, past)) ∙ had_one.1 m lt
                ∙ sym (written_after one off (range two other len) m some (omega (arith, taken_two, past)))
          ]
        ]

    first_file : IsFile (objects b1 count i) (written one off (range two other len))
    first_file =
        let same = inode_between can space i few_first in
        let long : length (written one off (range two other len)) ≡ length one = written_within one off (range two other len) (omega (arith, taken_two, fits_one)) in
        has_bytes b1 count i can.first.live.number (written one off (range two other len)) (ap (λ (f : Inode). f.kind) same ∙ can.file) (ap (λ (f : Inode). f.size) same ∙ had_one.0 ∙ sym long)
        (λ m lt. ap (λ (f : Inode). b1 (f.base + m)) same ∙ first_byte m (omega (arith, lt, long)))

    module _ {c : ℕ → ℕ} (swapped : (v : ℕ) → c v ≡ view img (partner ((inode (view img) i).base + off) ((inode (view img) j).base + other) len v)) (had : List ℕ) (is_had : IsFile (objects b1 count j) had) where
      second_file : IsFile (objects c count j) (written had other (range one off len))
      second_file =
          let p = places can space in
          let x = (inode b0 i).base in
          let y = (inode b0 j).base in
          let was = inode_between can space j few_second in
          let is = inode_after can space swapped j few_second in
          let h = had_bytes b1 count j can.second.live.number had is_had in
          let fits : other + len ≤ length had = omega (arith, h.0, ap (λ (f : Inode). f.size) was, can.other_fits) in
          let long : length (written had other (range one off len)) ≡ length had = written_within had other (range one off len) (omega (arith, taken_one, fits)) in
          let some : 1 ≤ length (range one off len) = omega (arith, taken_one, can.some) in
          has_bytes c count j can.second.live.number (written had other (range one off len)) (ap (λ (f : Inode). f.kind) is ∙ can.other_file)
          (ap (λ (f : Inode). f.size) is ∙ sym (ap (λ (f : Inode). f.size) was) ∙ h.0 ∙ sym long)
          (λ m lt. ap (λ (f : Inode). c (f.base + m)) is ∙ elim (cases_lt m other) [
            | inl before ↦
                off_second can space swapped (y + m) (λ le. absurd (omega (arith, le, before))) ∙ sym (ap (λ (f : Inode). b1 (f.base + m)) was) ∙ h.1 m (omega (arith, lt, long))
                ∙ sym (written_before had other (range one off len) m some before)
            | inr from ↦ elim (cases_lt m (other + len)) [
              | inl inside ↦
                  in_second can space swapped (y + m) (omega (arith, from)) (omega (arith, inside)) ∙ ap b0 (omega (arith, from)) ∙ had_one.1 (off + (m - other)) (omega (arith, from, inside, fits_one))
                  ∙ sym (written_inside had other (range one off len) m from (omega (arith, taken_one, inside)) ∙ range_index one off len (m - other) (omega (arith, from, inside)))
              | inr past ↦
                  off_second can space swapped (y + m) (λ le. omega (arith, past)) ∙ sym (ap (λ (f : Inode). b1 (f.base + m)) was) ∙ h.1 m (omega (arith, lt, long))
                  ∙ sym (written_after had other (range one off len) m some (omega (arith, taken_one, past)))
            ]
          ])

  -- ---- the tree

  module _ {c : ℕ → ℕ} (swapped : (v : ℕ) → c v ≡ view img (partner ((inode (view img) i).base + off) ((inode (view img) j).base + other) len v)) (e : AreEntries (objects (view img) (inode_count img)))
      (n : AreNamesApart (objects (view img) (inode_count img))) (m : AreNamed (objects (view img) (inode_count img))) where
    abbrev fs0 : ℕ → Object
    fs0 = objects (view img) (inode_count img)

    abbrev fs1 : ℕ → Object
    fs1 = objects b1 count

    abbrev fs2 : ℕ → Object
    fs2 = objects c count

    once_written : Written fs0 fs1 i
    once_written = writes_object (first_writes can space)

    twice_written : Written fs1 fs2 j
    twice_written = writes_object (second_writes can space swapped)

    pub swapped_stands : (path to : List ℕ) (t : Tree) → IsTree t → Stands fs0 1 t → Leads fs0 1 (names path) i → Leads fs0 1 (names to) j → Stands fs2 1 (exchanged t path off to other len)
    swapped_stands path to t tree st leads leads_to =
        let way = followed fs0 n 1 i (names path) t tree st leads in
        let way_to = followed fs0 n 1 j (names to) t tree st leads_to in
        let one = file_node fs0 i way.node (ap (λ (o : Object). o.kind) (objects-in b0 count i can.first.live.number) ∙ can.file) way.stands in
        let two = file_node fs0 j way_to.node (ap (λ (o : Object). o.kind) (objects-in b0 count j can.second.live.number) ∙ can.other_file) way_to.stands in
        let at_one : at t path ≡ Ok (File one.0) = leads_resolve t (names path) way.node way.to ∙ ap Ok one.1 in
        let at_two : at t to ≡ Ok (File two.0) = leads_resolve t (names to) way_to.node way_to.to ∙ ap Ok two.1 in
        let w = written one.0 off (range two.0 other len) in
        let mid = put t (names path) (File w) in
        let long : length w ≡ length one.0 = written_within one.0 off (range two.0 other len) (omega (arith, taken_two one.0 two.0 one.2 two.2, fits_one one.0 two.0 one.2 two.2)) in
        let short : length one.0 ≤ 549755813888 = subst IsTree one.1 way.tree in
        let mid_tree : IsTree mid = put_tree t (names path) (File w) (are_names path) tree (omega (arith, long, short)) in
        let st1 : Stands fs1 1 mid = put_stands once_written e n m (names path) t w leads tree st (first_file one.0 two.0 one.2 two.2) in
        let e1 = entries_stay once_written e in
        let n1 = names_apart_stay once_written n in
        let m1 = named_stay once_written m in
        let leads1 : Leads fs1 1 (names to) j = leads_stay once_written e n m (names to) 1 j leads_to in
        let way1 = followed fs1 n1 1 j (names to) mid mid_tree st1 leads1 in
        let had = file_node fs1 j way1.node twice_written.was way1.stands in
        let at_had : resolve mid (names to) ≡ Ok (File had.0) = leads_resolve mid (names to) way1.node way1.to ∙ ap Ok had.1 in
        let v = written had.0 other (range one.0 off len) in
        let st2 : Stands fs2 1 (put mid (names to) (File v)) = put_stands twice_written e1 n1 m1 (names to) mid v leads1 mid_tree st1 (second_file one.0 two.0 one.2 two.2 swapped had.0 had.2) in
        subst (Stands fs2 1) (sym (shape path to t one.0 two.0 had.0 at_one at_two at_had)) st2
      where
        shape : (path to : List ℕ) (t : Tree) (one two had : List ℕ) → at t path ≡ Ok (File one) → at t to ≡ Ok (File two) → resolve (put t (names path) (File (written one off (range two other len)))) (names to) ≡ Ok (File had)
            → exchanged t path off to other len ≡ put (put t (names path) (File (written one off (range two other len)))) (names to) (File (written had other (range one off len)))
        shape path to t one two had a b h =
            let once : put t (names path) (File (written (bytes_in (at t path)) off (range (bytes_in (at t to)) other len))) ≡ put t (names path) (File (written one off (range two other len))) =
            ap (λ r. put t (names path) (File (written (bytes_in r) off (range (bytes_in (at t to)) other len)))) a ∙ ap (λ r. put t (names path) (File (written one off (range (bytes_in r) other len)))) b in
            ap (λ u. put u (names to) (File (written (bytes_in (resolve u (names to))) other (range (bytes_in (at t path)) off len)))) once
            ∙ ap (λ r. put (put t (names path) (File (written one off (range two other len)))) (names to) (File (written (bytes_in r) other (range (bytes_in (at t path)) off len)))) h
            ∙ ap (λ r. put (put t (names path) (File (written one off (range two other len)))) (names to) (File (written had other (range (bytes_in r) off len)))) a
