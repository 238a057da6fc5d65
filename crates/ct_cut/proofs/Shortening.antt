-- A file is cut to a length that is not 0: an edit with zeros from there to its partition's end.
use Rattle.std.proofs.Common.{◌≡◌, ℕ, ◌+◌, ◌-◌, ◌*◌, ◌/◌, ◌%◌, ◌^◌, ◌<◌, ◌≤◌, Bool, true, false, List, [], ◌∷◌, length, refl, sym, ap, subst, ◌∙◌, inl, inr, arith}
use Rattle.std.specs.Prelude.{◌||◌, ◌==◌, if◌then◌else◌, Option}
use Rattle.std.proofs.lemmas.Bool.{cases_eq, eq-eqb, le-ltb, lt-ltb, ne_eqb}
use Rattle.ct_base.specs.declared.inode.Inode.{Inode}
use Rattle.ct_base.specs.Inode.{inode, part_bytes}
use Rattle.ct_base.specs.Plan.{cut_wants, page_want, stage, touched}
use Rattle.ct_base.specs.Rules.{HasRoom}
use Rattle.ct_base.specs.View.{view}
use Rattle.ct_base.specs.Wants.{is_wanted, missing}
use Rattle.ct_grow.proofs.Moved.{space_of}
use Rattle.ct_image.proofs.MissingSum.{is_wanted-append}
use Rattle.ct_plan.proofs.Same.{missing_same}
use Rattle.ct_plan.proofs.Sides.{few_cut_missing}
use Rattle.ct_plan.specs.Few.{few_both_wants, few_cut_wants, few_wants}
use Rattle.ct_pm.specs.Images.{History}
use Rattle.ct_pm.specs.Phase.{Phase}
use Rattle.ct_stage.proofs.Edits.{edited-in, edited-off}
use Rattle.ct_stage.specs.declared.edit.Given.TheVariants.{Same}
use Rattle.ct_stage.specs.Edited.{AreBytes}
use Rattle.ct_tree.specs.Content.{resized}
use Rattle.ct_tree.specs.Lands.{files}
use Rattle.ct_tree.specs.Stands.{IsFile}
use Rattle.ct_tree.proofs.Ordered.{resized_length}
use Rattle.ct_commit.specs.Closed.{IsStateOr}
use Rattle.ct_write.specs.Written.{CanWrite, IsEdited, edit_of, side_page, stage_page}
use Rattle.ct_write.proofs.Changing.{bytes_had, file_now}
use Rattle.ct_write.proofs.Done.{IsSize, changing}
use Rattle.ct_write.proofs.Files.{resized_at}
use Rattle.ct_cut.specs.Cut.{CanCut, IsShorter}
use Rattle.ct_cut.specs.Sides.{cut_asks, edge_page, side_tables, staged_wants}
use Rattle.ct_cut.proofs.Parts.{WholeSpot, whole_spot}
use Rattle.ct_cut.proofs.Readying.{few_side}

module _ {w0 : List ℕ} {i len : ℕ} (can : CanCut w0 i len) where
  abbrev f : Inode
  f = inode (view w0) i

  -- what has bytes has a partition
  pub cut_room : HasRoom (inode (view w0) i)
  cut_room = let less = can.less in elim ((space_of w0 can.ready).placed i can.live).place [ inl none ↦ absurd (omega (arith, none.size, less)) | inr r ↦ r ]

  pub cut_spot : WholeSpot (inode (view w0) i)
  cut_spot = whole_spot (inode (view w0) i) cut_room.part

  pub fits_part : len < part_bytes f.level
  fits_part = omega (arith, can.less, cut_room.size)

  module _ (rest : ℕ) (is : rest ≡ part_bytes (inode (view w0) i).level - len) where
    pub as_write : CanWrite w0 i len rest
    as_write = record { ready = can.ready; live = can.live; file = can.file; level = cut_room.part.level; some = omega (arith, is, fits_part); fits = omega (arith, is, fits_part) }

    pub zero_bytes : AreBytes (edit_of (inode (view w0) i) len rest (Same 0))
    zero_bytes k = omega arith

    pub zero_size : IsSize w0 i len rest (Same 0) len
    zero_size = record {
      fits = omega (arith, fits_part);
      tail = λ k past lt. edited-in (view w0) (edit_of f len rest (Same 0)) (f.base + k) (omega arith) (omega (arith, is, fits_part, lt));
    }

    pub cut_end : (side_page (inode (view w0) i) len + touched len rest) * 4096 ≤ (inode (view w0) i).base + len + rest
    cut_end = omega (arith, cut_spot.start, is, fits_part)

    pub shorter_file : {new : List ℕ} → IsEdited w0 new i len rest (Same 0) len → (was : List ℕ) → IsFile (files w0 i) was → IsFile (files new i) (resized len was)
    shorter_file {new} w was had =
        let change = changing as_write zero_size w in
        let total : length (resized len was) ≡ len = resized_length len was in
        let few = can.live.number.to in
        let most = can.ready.inodes.1 in
        file_now change (resized len was) (w.size ∙ sym total) (λ k lt.
        w.bytes (f.base + k) (inr (omega (arith, cut_room.part.low, few, most)))
        ∙ edited-off (view w0) (edit_of f len rest (Same 0)) (f.base + k) (inl (omega (arith, lt, w.size)))
        ∙ bytes_had change was had k (omega (arith, lt, w.size, fits_part)) ∙ sym (resized_at len was k (omega (arith, lt, w.size))))

    pub shorter : {new : List ℕ} → IsEdited w0 new i len rest (Same 0) len → IsShorter w0 new i len
    shorter {new} w = subst (λ (k : ℕ). IsEdited w0 new i len k (Same 0) len) is w

    pub shorter_phase : {start told : Option History} {now : List ℕ} → Phase (IsStateOr w0 (λ after. IsEdited w0 after i len rest (Same 0) len)) 5111 start told now → Phase (IsStateOr w0 (λ after. IsShorter w0 after i len)) 5111 start told now
    shorter_phase {start} {told} {now} phase = subst (λ (k : ℕ). Phase (IsStateOr w0 (λ after. IsEdited w0 after i len k (Same 0) len)) 5111 start told now) is phase

    -- ---- what is asked for, by the plan

    abbrev A : ℕ
    A = (inode (view w0) i).base / 4096 + len / 4096

    abbrev B : ℕ
    B = stage (inode (view w0) i).base / 4096 + len / 4096

    abbrev N : ℕ
    N = 8 ^ (inode (view w0) i).level - len / 4096

    side_is : side_page f len ≡ A
    side_is = omega (arith, cut_spot.start)

    stage_is : stage_page f len ≡ B
    stage_is = omega (arith, cut_spot.start, cut_spot.slot, fits_part)

    count_is : touched len rest ≡ N
    count_is = omega (arith, is, fits_part)

    edge_same : (d x : ℕ) → is_wanted (edge_page A B (f.base + len)) d x ≡ is_wanted (if len % 4096 == 0 then [] else page_want (B * 4096) ∷ []) d x
    edge_same d x = elim (cases_eq (len % 4096) 0) [
      | inl whole ↦
          ap (λ t. is_wanted (if t then page_want (B * 4096) ∷ [] else []) d x) (le-ltb (A * 4096) (f.base + len) (omega (arith, whole, cut_spot.start)))
          ∙ sym (ap (λ t. is_wanted (if t then [] else page_want (B * 4096) ∷ []) d x) (eq-eqb (len % 4096) 0 whole))
      | inr part ↦
          ap (λ t. is_wanted (if t then page_want (B * 4096) ∷ [] else []) d x) (lt-ltb (A * 4096) (f.base + len) (omega (arith, part, cut_spot.start)))
          ∙ sym (ap (λ t. is_wanted (if t then [] else page_want (B * 4096) ∷ []) d x) (ne_eqb (len % 4096) 0 part))
    ]

    asks_same : (d x : ℕ) → 1 ≤ d → is_wanted (few_cut_wants f len) d x ≡ is_wanted (cut_asks A B N (f.base + len)) d x
    asks_same d x one =
        let alike : A % 2 ^ 27 ≡ B % 2 ^ 27 = omega (arith, cut_spot.alike) in
        is_wanted-append (few_both_wants A B N) (if len % 4096 == 0 then [] else page_want (B * 4096) ∷ []) d x
        ∙ ap (λ t. t || is_wanted (if len % 4096 == 0 then [] else page_want (B * 4096) ∷ []) d x) (is_wanted-append (few_wants A B N) (few_wants B A N) d x)
        ∙ assoc (is_wanted (few_wants A B N) d x) (is_wanted (few_wants B A N) d x) (is_wanted (if len % 4096 == 0 then [] else page_want (B * 4096) ∷ []) d x)
        ∙ ap (λ t. is_wanted (few_wants A B N) d x || (t || is_wanted (if len % 4096 == 0 then [] else page_want (B * 4096) ∷ []) d x)) (few_side A B N d x alike one)
        ∙ sym (ap (λ t. is_wanted (few_wants A B N) d x || (is_wanted (side_tables B N) d x || t)) (edge_same d x))
        ∙ sym (ap (λ t. is_wanted (few_wants A B N) d x || t) (is_wanted-append (side_tables B N) (edge_page A B (f.base + len)) d x))
        ∙ sym (is_wanted-append (few_wants A B N) (staged_wants A B N (f.base + len)) d x)
      where
        assoc : (p q r : Bool) → ((p || q) || r) ≡ (p || (q || r))
        assoc true q r = refl
        assoc false q r = refl

    asks_plan : missing w0 (cut_asks A B N (f.base + len)) ≡ missing w0 (cut_wants f len)
    asks_plan = sym (missing_same w0 (few_cut_wants f len) (cut_asks A B N (f.base + len)) (λ d x one four. asks_same d x one)) ∙ sym (few_cut_missing w0 f len (omega (arith, fits_part)))

    pub cut_missing : {a b n from base : ℕ} → base ≡ (inode (view w0) i).base → from ≡ base + len → a ≡ from / 4096 → b ≡ stage from / 4096 → n ≡ touched len rest → missing w0 (cut_asks a b n from) ≡ missing w0 (cut_wants (inode (view w0) i) len)
    cut_missing {a} {b} {n} {from} {base} base_is from_is a_is b_is n_is =
        let here : from ≡ f.base + len = from_is ∙ ap (λ k. k + len) base_is in
        let first : a ≡ A = a_is ∙ ap (λ k. k / 4096) here ∙ side_is in
        let second : b ≡ B = b_is ∙ ap (λ k. stage k / 4096) here ∙ stage_is in
        let count : n ≡ N = n_is ∙ count_is in
        ap (λ k. missing w0 (cut_asks a b n k)) here ∙ ap (λ k. missing w0 (cut_asks k b n (f.base + len))) first ∙ ap (λ k. missing w0 (cut_asks A k n (f.base + len))) second ∙ ap (λ k. missing w0 (cut_asks A B k (f.base + len))) count ∙ asks_plan

-- ---- as the function has it

pub rest_is : {f file : Inode} {pow : ℕ} (len : ℕ) → file ≡ f → pow ≡ 8 ^ file.level → 4096 * pow - len ≡ part_bytes f.level - len
rest_is {f} {file} len is pow = ap (λ k. 4096 * k - len) (pow ∙ ap (λ (x : Inode). 8 ^ x.level) is)

pub cut_numbers : {w0 : List ℕ} {i len : ℕ} {file : Inode} → CanCut w0 i len → file ≡ inode (view w0) i → (file.level ≤ 9) × (8 ^ file.level ≤ 2 ^ 27) × (len < 4096 * 8 ^ file.level) × (file.base + 4096 * 8 ^ file.level ≤ 2 ^ 48)
cut_numbers {w0} {i} {len} {file} can is =
    let at = cut_spot can in
    let level = ap (λ (x : Inode). x.level) is in
    let count = ap (λ (x : Inode). 8 ^ x.level) is in
    let base = ap (λ (x : Inode). x.base) is in
    (omega (arith, level, (cut_room can).part.level), omega (arith, count, at.slot), omega (arith, count, fits_part can), omega (arith, count, base, at.start, at.first_to))

pub end_called : {w0 : List ℕ} {i len : ℕ} (can : CanCut w0 i len) (rest : ℕ) (is : rest ≡ part_bytes (inode (view w0) i).level - len) {file : Inode} {a n : ℕ} → file ≡ inode (view w0) i → a ≡ (file.base + len) / 4096 → n ≡ touched len rest → (a + n) * 4096 ≤ file.base + len + rest
end_called {w0} {i} {len} can rest is {file} {a} {n} file_is a_is n_is =
    let base = ap (λ (x : Inode). x.base) file_is in
    let first : a ≡ side_page (inode (view w0) i) len = a_is ∙ ap (λ (x : Inode). side_page x len) file_is in
    omega (arith, cut_end can rest is, first, n_is, base)
