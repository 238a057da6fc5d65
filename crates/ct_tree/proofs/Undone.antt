-- A write is read back, and leaves other files; an exchange that is made twice leaves the tree.
use Rattle.std.proofs.Common.{◌≡◌, ◌≢◌, ◌∙◌, ℕ, ◌+◌, ◌≤◌, List, [], ◌∷◌, length, refl, sym, ap, subst, arith, inl, inr, None, Option, Ok, Result, Bool, true, false}
use Rattle.std.specs.Prelude.{◌⊎◌, ◌&&◌, ◌==◌, ◌%◌, not, nat_lt, nat_le}
use Rattle.std.specs.Str.{bytes_eq}
use Rattle.std.proofs.lemmas.Bool.Decides.{nat_tests}
use Rattle.std.proofs.lemmas.Slice.Eq.{bytes_eq-Decides}
use Rattle.ct_tree.specs.Tree.{Tree, File}
use Rattle.ct_tree.specs.Ordered.{IsTree}
use Rattle.ct_tree.specs.Content.{bytes_in, range, written}
use Rattle.ct_tree.specs.Checks.{first_of, refuse_if, names, at, bad_path, no_file, above, are_ranges, overlap}
use Rattle.ct_tree.specs.Resolve.{resolve, put, IsDir}
use Rattle.ct_tree.specs.Step.{write, read, exchange, refusal, effect, answered, step, with_bytes, exchanged, file_limit, read_limit}
use Rattle.ct_tree.specs.declared.call.Reply.{Reply}
use Rattle.ct_tree.specs.declared.call.Reply.TheVariants.{Done, Data}
use Rattle.ct_tree.specs.declared.call.Refusal.{Refusal}
use Rattle.ct_tree.specs.declared.call.Refusal.TheVariants.{BadRange, Overlap, TooBig, TooLong}
use Rattle.ct_tree.proofs.Again.{resolve_put, put_put, other_stays, names_differ}
use Rattle.ct_tree.proofs.Exchanges.{exchange_passes, exchanged_within, exchanged_apart, second_apart, written_within, within_both}
use Rattle.ct_tree.proofs.Ordered.{put_tree, file_short}
use Rattle.ct_tree.proofs.ReadBack.{range-written, turned_in, turned_length, turned_back, exchanged_back, range_all}
use Rattle.ct_tree.proofs.Steps.{are_names, first_none, ExchangeChecked, exchange_checked, file_at}
use Rattle.ct_tree.proofs.Twice.{put_same, put_lost}

-- a call that is not refused has its effect
done : {r : Option Refusal} (t : Tree) (e : Reply × Tree) → r ≡ None → answered r t e ≡ e
done t e h = ap (λ o. answered o t e) h

above_none : (b : Bool) (r : Refusal) → b ≡ true → refuse_if (not b) r ≡ None
above_none true r h = refl
above_none false r h = absurd (cc)

at_most : (n limit : ℕ) → n ≤ limit → nat_le n limit ≡ true
at_most n limit h = grind (arith, nat_tests)

module _ (t : Tree) (path : List ℕ) (off : ℕ) (bytes : List ℕ) (h : refusal t (write path off bytes) ≡ None) where
  left : (step t (write path off bytes)).1 ≡ with_bytes t path off bytes
  left = ap (λ (d : Reply × Tree). d.1) (done t (Done, with_bytes t path off bytes) h)

  good : bad_path path ≡ None
  good = (first_none (bad_path path) (no_file (at t path) ∷ above (off + length bytes) file_limit TooBig ∷ []) h).0

  was : (old : List ℕ) × (at t path ≡ Ok (File old))
  was =
      let rest = (first_none (bad_path path) (no_file (at t path) ∷ above (off + length bytes) file_limit TooBig ∷ []) h).1 in
      file_at (at t path) (first_none (no_file (at t path)) (above (off + length bytes) file_limit TooBig ∷ []) rest).0

  pub write_read : length bytes ≤ read_limit → step (step t (write path off bytes)).1 (read path off (length bytes)) ≡ (Data bytes, (step t (write path off bytes)).1)
  write_read few =
      let new = written (bytes_in (at t path)) off bytes in
      let u = with_bytes t path off bytes in
      let there : at u path ≡ Ok (File new) = resolve_put t (names path) (File new) in
      let passes : refusal u (read path off (length bytes)) ≡ None =
      ap (λ o. first_of (o ∷ no_file (at u path) ∷ above (length bytes) read_limit TooLong ∷ [])) good
      ∙ ap (λ r. first_of (no_file r ∷ above (length bytes) read_limit TooLong ∷ [])) there ∙ ap (λ o. first_of (o ∷ [])) (above_none (nat_le (length bytes) read_limit) TooLong (at_most (length bytes) read_limit few)) in
      let told : step u (read path off (length bytes)) ≡ (Data bytes, u) =
      done u (effect u (read path off (length bytes))) passes ∙ ap (λ r. (Data (range (bytes_in r) off (length bytes)), u)) there ∙ ap (λ b. (Data b, u)) (range-written (bytes_in (at t path)) off bytes) in
      subst (λ s. step s (read path off (length bytes)) ≡ (Data bytes, s)) (sym left) told

  pub others_stay : (other two : List ℕ) → IsTree t → bad_path other ≡ None → path ≢ other → at t other ≡ Ok (File two) → at (step t (write path off bytes)).1 other ≡ Ok (File two)
  others_stay other two tree other_good apart there =
      ap (λ s. at s other) left ∙ other_stays (names path) (names other) t (written (bytes_in (at t path)) off bytes) was.0 two tree (names_differ path other good other_good apart) was.1 there

-- ---- two exchanges

not_both : (a b c : Bool) (r : Refusal) → a ≡ true → refuse_if (a && b && c) r ≡ None → (b ≡ false) ⊎ (c ≡ false)
not_both true true true r h k = absurd (cc)
not_both true true false r h k = inr refl
not_both true false c r h k = inl refl
not_both false b c r h k = absurd (cc)

not_less : (a b : ℕ) → nat_lt a b ≡ false → b ≤ a
not_less a b h = grind (arith, nat_tests)

-- ranges of one file that pass the check do not meet
ranges_apart : (path other : List ℕ) (off other_off len : ℕ) → bytes_eq path other ≡ true → overlap path off other other_off len ≡ None → (off + len ≤ other_off) ⊎ (other_off + len ≤ off)
ranges_apart path other off other_off len same h = elim (not_both (bytes_eq path other) (nat_lt off (other_off + len)) (nat_lt other_off (off + len)) Overlap same h) [
  | inl b ↦ inr (not_less off (other_off + len) b)
  | inr c ↦ inl (not_less other_off (off + len) c)
]

-- the check of ranges sees the lengths of the files alone
ranges_by : (one two new last : List ℕ) (off other_off len : ℕ) → length new ≡ length one → length last ≡ length two → refuse_if (not (are_ranges one off two other_off len)) BadRange ≡ None
    → refuse_if (not (are_ranges new off last other_off len)) BadRange ≡ None
ranges_by one two new last off other_off len a b h =
    let check : ℕ → ℕ → Bool = λ m n. (off % 4096 == 0) && (other_off % 4096 == 0) && (len % 4096 == 0) && nat_le (off + len) m && nat_le (other_off + len) n in
    ap (λ m. refuse_if (not (check m (length last))) BadRange) a ∙ ap (λ n. refuse_if (not (check (length one) n)) BadRange) b ∙ h

module _ (t : Tree) (path other : List ℕ) (off other_off len : ℕ) (tree : IsTree t) (dir : IsDir t) (h : refusal t (exchange path off other other_off len) ≡ None) where
  c : ExchangeChecked t path other off other_off len
  c = exchange_checked t (record { tree = tree; dir = dir }) path other off other_off len h

  one : List ℕ
  one = c.file.0

  two : List ℕ
  two = c.other_file.0

  ranges : refuse_if (not (are_ranges c.file.0 off c.other_file.0 other_off len)) BadRange ≡ None
  ranges =
      ap (λ (r : Result Tree Refusal). refuse_if (not (are_ranges (bytes_in r) off c.other_file.0 other_off len)) BadRange) (sym c.file.1)
      ∙ ap (λ (r : Result Tree Refusal). refuse_if (not (are_ranges (bytes_in (at t path)) off (bytes_in r) other_off len)) BadRange) (sym c.other_file.1) ∙ c.ranges

  within : (off + len ≤ length c.file.0) × (other_off + len ≤ length c.other_file.0)
  within = within_both c.file.0 off c.other_file.0 other_off len BadRange ranges

  once : Tree
  once = exchanged t path off other other_off len

  -- a second exchange is made where the files are there again, and as long
  again : (new last : List ℕ) → at (exchanged t path off other other_off len) path ≡ Ok (File new) → at (exchanged t path off other other_off len) other ≡ Ok (File last) → length new ≡ length c.file.0
      → length last ≡ length c.other_file.0 → refusal (exchanged t path off other other_off len) (exchange path off other other_off len) ≡ None
  again new last a b long longer =
      exchange_passes (exchanged t path off other other_off len) path other off other_off len new last new a b c.path_good c.other_good (ranges_by c.file.0 c.other_file.0 new last off other_off len long longer ranges) c.apart c.few

  module _ (e : path ≡ other) where
    there : at t other ≡ Ok (File c.file.0)
    there = ap (at t) (sym e) ∙ c.file.1

    alike : c.other_file.0 ≡ c.file.0
    alike = let is : Ok (File c.other_file.0) ≡ Ok (File c.file.0) = sym c.other_file.1 ∙ there in cc

    fits : other_off + len ≤ length c.file.0
    fits = omega (arith, within.1, ap (length {A = ℕ}) alike)

    far : (off + len ≤ other_off) ⊎ (other_off + len ≤ off)
    far = ranges_apart path other off other_off len ((bytes_eq-Decides path other).1 e) c.apart

    made : List ℕ
    made = turned_in c.file.0 off other_off len

    once_within : put t (names path) (File (turned_in c.file.0 off other_off len)) ≡ exchanged t path off other other_off len
    once_within = exchanged_within t path other off other_off len c.file.0 c.file.0 (written c.file.0 off (range c.file.0 other_off len)) c.file.1 there refl (turned_in c.file.0 off other_off len) e refl

    left_within : at (exchanged t path off other other_off len) path ≡ Ok (File (turned_in c.file.0 off other_off len))
    left_within = subst (λ s. at s path ≡ Ok (File (turned_in c.file.0 off other_off len))) once_within (resolve_put t (names path) (File (turned_in c.file.0 off other_off len)))

    left_other : at (exchanged t path off other other_off len) other ≡ Ok (File (turned_in c.file.0 off other_off len))
    left_other = ap (at (exchanged t path off other other_off len)) (sym e) ∙ left_within

    long : length (turned_in c.file.0 off other_off len) ≡ length c.file.0
    long = turned_length c.file.0 off other_off len within.0 fits far

    passes_within : refusal (exchanged t path off other other_off len) (exchange path off other other_off len) ≡ None
    passes_within = again (turned_in c.file.0 off other_off len) (turned_in c.file.0 off other_off len) left_within left_other long (long ∙ sym (ap (length {A = ℕ}) alike))

    back_within : exchanged (exchanged t path off other other_off len) path off other other_off len ≡ t
    back_within =
        let v = turned_in c.file.0 off other_off len in
        let u = turned_in v off other_off len in
        let s = exchanged t path off other other_off len in
        let w = written v off (range v other_off len) in
        sym (exchanged_within s path other off other_off len v v w left_within left_other refl u e refl) ∙ ap (λ x. put x (names path) (File u)) (sym once_within) ∙ put_put t (names path) (File v) (File u)
        ∙ ap (λ b. put t (names path) (File b)) (turned_back c.file.0 off other_off len within.0 fits far) ∙ put_same t (names path) (File c.file.0) c.file.1

  module _ (ne : path ≡ other → ⊥) where
    first_bytes : List ℕ
    first_bytes = written c.file.0 off (range c.other_file.0 other_off len)

    size_one : length (written c.file.0 off (range c.other_file.0 other_off len)) ≡ length c.file.0
    size_one = written_within c.file.0 off (range c.other_file.0 other_off len) (omega (arith, within.0, range_all c.other_file.0 other_off len within.1))

    size_two : length (written c.other_file.0 other_off (range c.file.0 off len)) ≡ length c.other_file.0
    size_two = written_within c.other_file.0 other_off (range c.file.0 off len) (omega (arith, within.1, range_all c.file.0 off len within.0))

    short_one : length c.file.0 ≤ 549755813888
    short_one = file_short t (names path) c.file.0 tree c.file.1

    short_two : length c.other_file.0 ≤ 549755813888
    short_two = file_short t (names other) c.other_file.0 tree c.other_file.1

    module _ (w v : List ℕ) (is_w : w ≡ written c.file.0 off (range c.other_file.0 other_off len)) (is_v : v ≡ written c.other_file.0 other_off (range c.file.0 off len)) where
      names_apart : names path ≡ names other → ⊥
      names_apart = names_differ path other c.path_good c.other_good ne

      tree_w : IsTree (File w)
      tree_w = omega (arith, short_one, size_one, ap (length {A = ℕ}) is_w)

      tree_v : IsTree (File v)
      tree_v = omega (arith, short_two, size_two, ap (length {A = ℕ}) is_v)

      mid_tree : IsTree (put t (names path) (File w))
      mid_tree = put_tree t (names path) (File w) (are_names path) tree tree_w

      mid_other : resolve (put t (names path) (File w)) (names other) ≡ Ok (File c.other_file.0)
      mid_other = second_apart t path other off other_off len c.file.0 c.other_file.0 w c.file.1 c.other_file.1 is_w tree c.path_good c.other_good ne

      mid_path : resolve (put t (names path) (File w)) (names path) ≡ Ok (File w)
      mid_path = resolve_put t (names path) (File w)

      once_apart : put (put t (names path) (File w)) (names other) (File v) ≡ exchanged t path off other other_off len
      once_apart = exchanged_apart t path other off other_off len c.file.0 c.other_file.0 w c.file.1 c.other_file.1 is_w tree c.path_good c.other_good ne v is_v

      at_other : at (exchanged t path off other other_off len) other ≡ Ok (File v)
      at_other = subst (λ s. at s other ≡ Ok (File v)) once_apart (resolve_put (put t (names path) (File w)) (names other) (File v))

      at_path : at (exchanged t path off other other_off len) path ≡ Ok (File w)
      at_path =
          subst (λ s. at s path ≡ Ok (File w)) once_apart (other_stays (names other) (names path) (put t (names path) (File w)) v c.other_file.0 w mid_tree (λ e. names_apart (sym e)) mid_other mid_path)

      once_tree : IsTree (exchanged t path off other other_off len)
      once_tree = subst IsTree once_apart (put_tree (put t (names path) (File w)) (names other) (File v) (are_names other) mid_tree tree_v)

      passes_apart : refusal (exchanged t path off other other_off len) (exchange path off other other_off len) ≡ None
      passes_apart = again w v at_path at_other (ap (length {A = ℕ}) is_w ∙ size_one) (ap (length {A = ℕ}) is_v ∙ size_two)

      one_back : written w off (range v other_off len) ≡ c.file.0
      one_back = ap (λ x. written x off (range v other_off len)) is_w ∙ ap (λ x. written (written c.file.0 off (range c.other_file.0 other_off len)) off (range x other_off len)) is_v ∙ exchanged_back c.file.0 c.other_file.0 off other_off len within.0 within.1

      two_back : written v other_off (range w off len) ≡ c.other_file.0
      two_back = ap (λ x. written x other_off (range w off len)) is_v ∙ ap (λ x. written (written c.other_file.0 other_off (range c.file.0 off len)) other_off (range x off len)) is_w ∙ exchanged_back c.other_file.0 c.file.0 other_off off len within.1 within.0

      back_apart : exchanged (exchanged t path off other other_off len) path off other other_off len ≡ t
      back_apart =
          let s = exchanged t path off other other_off len in
          let w2 = written w off (range v other_off len) in
          let v2 = written v other_off (range w off len) in
          let m = put t (names path) (File w) in
          let o = File c.file.0 in
          let n = File c.other_file.0 in
          sym (exchanged_apart s path other off other_off len w v w2 at_path at_other refl once_tree c.path_good c.other_good ne v2 refl)
          ∙ ap (λ x. put (put s (names path) (File x)) (names other) (File v2)) one_back ∙ ap (λ x. put (put s (names path) o) (names other) (File x)) two_back
          ∙ ap (λ x. put (put x (names path) o) (names other) n) (sym once_apart)
          ∙ put_lost (names path) (names other) m (File v) o n w c.other_file.0 mid_tree tree_v short_one short_two (are_names path) (are_names other) names_apart mid_path mid_other
          ∙ ap (λ x. put x (names other) n) (put_put t (names path) (File w) o ∙ put_same t (names path) o c.file.1) ∙ put_same t (names other) n c.other_file.1

  both_ways : (b : Bool) → bytes_eq path other ≡ b → (refusal (exchanged t path off other other_off len) (exchange path off other other_off len) ≡ None)
      × (exchanged (exchanged t path off other other_off len) path off other other_off len ≡ t)
  both_ways true h = let e = (bytes_eq-Decides path other).0 h in (passes_within e, back_within e)
  both_ways false h =
      let ne : path ≡ other → ⊥ = λ e. (let no : false ≡ true = sym h ∙ (bytes_eq-Decides path other).1 e in cc) in
      let w = written c.file.0 off (range c.other_file.0 other_off len) in
      let v = written c.other_file.0 other_off (range c.file.0 off len) in
      (passes_apart ne w v refl refl, back_apart ne w v refl refl)

  pub exchange_undone : step (step t (exchange path off other other_off len)).1 (exchange path off other other_off len) ≡ (Done, t)
  exchange_undone =
      let s = exchanged t path off other other_off len in
      let op = exchange path off other other_off len in
      let both = both_ways (bytes_eq path other) refl in
      let left_is : (step t op).1 ≡ s = ap (λ (d : Reply × Tree). d.1) (done t (Done, s) h) in
      let told : step s op ≡ (Done, t) = done s (Done, exchanged s path off other other_off len) both.0 ∙ ap (λ x. (Done, x)) both.1 in
      subst (λ x. step x op ≡ (Done, t)) (sym left_is) told
