-- What is read of a file is what each tree has there for which the words stand.
use Rattle.std.proofs.Common.{◌≡◌, ◌≢◌, ℕ, ◌+◌, ◌-◌, ◌*◌, ◌^◌, ◌<◌, ◌≤◌, false, List, [], ◌∷◌, Ok, Some, None, length, min, take, drop, ◌++◌, get_or, refl, sym, ap, ◌∙◌, subst, inl, inr, arith, rules}
use Rattle.std.specs.Prelude.{nat_le}
use Rattle.std.proofs.lemmas.Bool.{cases_lt, le-leb, leb-true, lt-ltb, false_from_ne_true}
use Rattle.std.proofs.lemmas.List.{ext_get_or, places}
use Rattle.ct_base.specs.Inode.{part}
use Rattle.ct_base.specs.declared.inode.Inode.{Inode}
use Rattle.ct_base.specs.Objects.{Object, content}
use Rattle.ct_base.specs.Rules.{HasRoom}
use Rattle.ct_base.specs.Settled.{HasPages}
use Rattle.ct_base.specs.View.{view}
use Rattle.ct_base.specs.Walk.{byte}
use Rattle.ct_call.proofs.Enlarged.{part_high}
use Rattle.ct_call.specs.Calls.{StandsFor}
use Rattle.ct_commit.specs.Rest.{IsAtRest}
use Rattle.ct_state.proofs.Carry.{view-seen}
use Rattle.ct_state.proofs.Whole.{seen_from}
use Rattle.ct_tree.specs.Checks.{above, at, bad_path, first_of, no_file}
use Rattle.ct_tree.specs.Content.{bytes_in, range}
use Rattle.ct_tree.specs.Step.{read, read_limit, refusal}
use Rattle.ct_tree.specs.Tree.{Tree, File, Dir}
use Rattle.ct_tree.specs.declared.call.Refusal.{Refusal}
use Rattle.ct_tree.specs.declared.call.Refusal.TheVariants.{IsDir as is_dir, TooLong as too_long}
use Rattle.ct_look.proofs.Filling.{fills_none}
use Rattle.ct_find.proofs.Leading.{dir_node, file_node}
use Rattle.ct_find.proofs.Living.{dir_is, placed_at, size_is}
use Rattle.ct_find.specs.Nodes.{IsNodeAt}
use Rattle.ct_look.specs.Content.{Fills, IsRead}

-- bytes of a list that were put at the front of a buffer
front_is : (bytes old new : List ℕ) (off len count : ℕ) (b : ℕ → ℕ) → count ≡ min len (length bytes - off) → count ≤ length old → Fills old new 0 count b → ((k : ℕ) → k < count → b k ≡ get_or bytes (off + k) 0)
    → IsRead (range bytes off len) old new count
front_is bytes old new off len count b is room f same =
    let long : length (take len (drop off bytes)) ≡ count = search (rules, places, is) in
    let all : length new ≡ length (range bytes off len ++ drop count old) = f.size ∙ search (rules, places, long, room) in (
      sym long,
      ext_get_or 0 new (range bytes off len ++ drop count old) all (λ i lt. elim (cases_lt i count) [
        | inl less ↦ ap (λ j. get_or new j 0) (omega arith) ∙ f.here i less ∙ same i less ∙ grind (arith, places, long)
        | inr past ↦ f.others i (inr (omega (arith, past))) ∙ grind (arith, places, long)
      ]),
    )

-- the checks of a read, once the path is one that leads to a node
checked_read : (t n : Tree) (path : List ℕ) (off len : ℕ) → bad_path path ≡ None → at t path ≡ Ok n → refusal t (read path off len) ≡ first_of (no_file (Ok n) ∷ above len read_limit too_long ∷ [])
checked_read t n path off len valid is =
    ap (λ q. first_of (q ∷ no_file (at t path) ∷ above len read_limit too_long ∷ [])) valid ∙ ap (λ found. first_of (no_file found ∷ above len read_limit too_long ∷ [])) is

above_not : (n limit : ℕ) (r : Refusal) → n ≤ limit → above n limit r ≡ None
above_not n limit r le = rw (le-leb n limit le) refl

above_is : (n limit : ℕ) (r : Refusal) → limit < n → above n limit r ≡ Some r
above_is n limit r lt = let off : nat_le n limit ≡ false = false_from_ne_true _ (λ t. omega (arith, leb-true n limit t, lt)) in rw off refl

module _ {w path : List ℕ} {i : ℕ} {d : Inode} (rest : IsAtRest w) (found : IsNodeAt w path i d) (off len : ℕ) where
  pub has_pages : HasPages w
  has_pages = (rest.tables.some, rest.tables.there)

  -- a file with bytes lies in a partition
  pub room_of : off < d.size → HasRoom d
  room_of lt = elim (placed_at rest found.live found.is).place [ inl n ↦ absurd (omega (arith, n.size, lt)) | inr r ↦ r ]

  pub content_high : off < d.size → d.base + d.size ≤ 2 ^ 48
  content_high lt = let r = room_of lt in omega (arith, part_high (part d) r.part, r.size)

  pub content_byte : off < d.size → (k : ℕ) → k < d.size → content (view w) d.base d.size k ≡ byte w (d.base + k)
  content_byte lt k in_size =
      let r = room_of lt in
      let low : 10 * 2 ^ 39 ≤ d.base = r.part.low in
      rw (lt-ltb k d.size in_size) (view-seen w (d.base + k) (seen_from (d.base + k) (omega (arith, content_high lt, in_size)) (inr (omega (arith, low)))))

  module _ (t : Tree) (s : StandsFor w t) where
    pub read_dir : d.kind ≡ 2 → refusal t (read path off len) ≡ Some is_dir
    read_dir dir = let n = dir_node rest found t s dir in checked_read t (Dir n.0) path off len found.valid n.1

    pub read_long : d.kind ≢ 2 → read_limit < len → refusal t (read path off len) ≡ Some too_long
    read_long other long =
        let n = file_node rest found t s other in
        checked_read t (File n.0) path off len found.valid n.1 ∙ ap (λ o. first_of (o ∷ [])) (above_is len read_limit too_long long)

    pub read_file : d.kind ≢ 2 → len ≤ read_limit → (old new : List ℕ) (count : ℕ) → count ≤ length old → count ≡ min len (d.size - off) → (off < d.size → Fills old new 0 count (λ k. byte w (d.base + off + k))) → (d.size ≤ off → new ≡ old)
        → (refusal t (read path off len) ≡ None) × IsRead (range (bytes_in (at t path)) off len) old new count
    read_file other short old new count room is puts none =
        let n = file_node rest found t s other in
        let size = size_is rest found.live found.is in (
          checked_read t (File n.0) path off len found.valid n.1 ∙ ap (λ o. first_of (o ∷ [])) (above_not len read_limit too_long short),
          subst (λ n. IsRead (range (bytes_in n) off len) old new count) (sym n.1) (front_is n.0 old new off len count b (is ∙ ap (λ n. min len (n - off)) (sym size ∙ n.2.size)) room filled (λ k lt.
              let less : off < d.size = omega (arith, is, lt) in
              let in_size : off + k < d.size = omega (arith, is, lt) in
              let within : off + k < length n.0 = omega (arith, in_size, size, n.2.size) in
              ap (byte w) (omega arith) ∙ sym (content_byte less (off + k) in_size) ∙ ap (λ (f : Object). f.at (off + k)) (dir_is rest found.live found.is) ∙ n.2.all (off + k) within)),
        )
      where
        b : ℕ → ℕ
        b k = byte w (d.base + off + k)

        filled : Fills old new 0 count b
        filled = elim (cases_lt off d.size) [
          | inl less ↦ puts less
          | inr past ↦ subst (λ list. Fills old list 0 count b) (sym (none past)) (fills_none old 0 count b (omega (arith, is, past)))
        ]
