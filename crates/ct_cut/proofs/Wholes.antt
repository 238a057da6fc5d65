-- A whole partition is ready to be given up: what is asked for is what the plan asks for, and what is there.
use Rattle.std.proofs.Common.{◌≡◌, ◌≢◌, ℕ, ◌+◌, ◌-◌, ◌*◌, ◌/◌, ◌%◌, ◌^◌, ◌<◌, ◌≤◌, true, false, List, [], Result, Ok, Err, refl, sym, ap, subst, ◌∙◌, inl, inr, arith}
use Rattle.std.specs.Prelude.{◌||◌, ◌&&◌, ◌==◌, if◌then◌else◌, nat_le, Contains, OnOk}
use Rattle.std.proofs.Math.Bool.{or-false}
use Rattle.std.proofs.Math.Nat.{div-div-eq-div-mul}
use Rattle.std.proofs.lemmas.Bool.{and_from, and_parts, cases_Bool, cases_eq, le-leb, or_left, or_right}
use Rattle.std.proofs.lemmas.Nat.{pow-add}
use Rattle.ct_base.specs.declared.inode.Inode.{Inode}
use Rattle.ct_base.specs.Inode.{inode, IsPart, part, live_parts, number_of}
use Rattle.ct_base.specs.Plan.{give_up_wants, move_wants, stage, table_want}
use Rattle.ct_base.specs.Rules.{HasRoom, Owns, part_of}
use Rattle.ct_base.specs.View.{view, inode_count}
use Rattle.ct_base.specs.Walk.{page_at}
use Rattle.ct_base.specs.Wants.{Want, is_on_path, is_wanted, missing, missing_at}
use Rattle.ct_grow.proofs.Heads.{live_headers}
use Rattle.ct_grow.proofs.Moved.{space_of}
use Rattle.ct_grow.proofs.Readied.{stands_now}
use Rattle.ct_grow.proofs.Spans.{Heights, first_page, heights}
use Rattle.ct_grow.specs.Grown.{IsReady}
use Rattle.ct_header.specs.Drafted.{AreThere}
use Rattle.ct_image.proofs.MissingLess.{count_below-le}
use Rattle.ct_image.proofs.MissingSum.{is_wanted-append}
use Rattle.ct_parts.proofs.Lists.{base-is}
use Rattle.ct_plan.proofs.Short.{edge_most}
use Rattle.ct_plan.specs.Few.{edge, few_wants}
use Rattle.ct_state.proofs.Owners.{owner_one}
use Rattle.ct_walk.proofs.OneWay.{covers_one, path_is}
use Rattle.ct_write.specs.Prepared.{Prepared}
use Rattle.ct_cut.specs.Readied.{Readied}
use Rattle.ct_cut.specs.Sides.{cut_asks, edge_page, side_tables, staged_wants, zeros}
use Rattle.ct_cut.proofs.Parts.{CalledSo, WholeSpot, at_pages, from_pages, stage_aligned, whole_spot}
use Rattle.ct_cut.proofs.Readying.{few_side}
use Rattle.ct_cut.proofs.Sides.{edge_none}

-- fewer are missing of wants that want less
missing_at_fewer : (img : List ℕ) (wants more : List Want) (d : ℕ) → ((x : ℕ) → is_wanted wants d x ≡ true → is_wanted more d x ≡ true) → missing_at img wants d ≤ missing_at img more d
unfolding missing_at
missing_at_fewer img wants more d each = count_below-le (λ x. is_wanted wants d x && (page_at img d x == 0)) (λ x. is_wanted more d x && (page_at img d x == 0)) (512 ^ d)
    (λ x lt t. let p = and_parts _ _ t in and_from _ _ (each x p.0) p.1)

missing_fewer : (img : List ℕ) (wants more : List Want) → ((d x : ℕ) → 1 ≤ d → is_wanted wants d x ≡ true → is_wanted more d x ≡ true) → missing img wants ≤ missing img more
unfolding missing
missing_fewer img wants more each =
    let at = λ (d : ℕ) (one : 1 ≤ d). missing_at_fewer img wants more d (λ x. each d x one) in
    omega (arith, at 1 (omega arith), at 2 (omega arith), at 3 (omega arith), at 4 (omega arith))

-- the tables that 8 ^ l pages from p on ask for: that one of which all are entries
side_one : (l p d x : ℕ) → l ≤ 8 → p % 8 ^ l ≡ 0 → 1 ≤ 8 ^ l → 1 ≤ d → is_wanted (side_tables p (8 ^ l)) d x ≡ true → is_on_path d x (table_want (l / 3 + 1) (p * 4096)) ≡ true
side_one l p d x le whole some one wanted = elim (cases_Bool (is_on_path d x (table_want (edge 3 p) (p * 4096)))) [
  | inl first ↦
      let is = path_is (edge 3 p) (p * 4096) d x first in
      at (omega (arith, is.0, edge_most 3 (l / 3) p (omega (arith, span.height)) (span.aligned p whole))) (is.1 ∙ ap (λ k. k / 512 ^ (4 - d)) page)
  | inr not_first ↦
      let second : is_on_path d x (table_want (edge 3 (p + 8 ^ l)) ((p + 8 ^ l - 1) * 4096)) ≡ true = sym (or-false _) ∙ sym (ap (λ t. t || (is_on_path d x (table_want (edge 3 (p + 8 ^ l)) ((p + 8 ^ l - 1) * 4096)) || false)) not_first) ∙ wanted in
      let is = path_is (edge 3 (p + 8 ^ l)) ((p + 8 ^ l - 1) * 4096) d x second in
      let end : (p + 8 ^ l - 1) * 4096 / 4096 ≡ p + (8 ^ l - 1) = omega (arith, some) in
      let low : d + (l / 3 + 1) ≤ 4 = omega (arith, is.0, edge_most 3 (l / 3) (p + 8 ^ l) (omega (arith, span.height)) (span.aligned (p + 8 ^ l) end_whole)) in
      at low (is.1 ∙ ap (λ k. k / 512 ^ (4 - d)) end ∙ same low)
]
  where
    span : Heights l
    span = heights l le

    page : p * 4096 / 4096 ≡ p
    page = omega arith

    end_whole : (p + 8 ^ l) % 8 ^ l ≡ 0
    end_whole = Rattle.std.proofs.Math.Nat.add-mod_right p (8 ^ l) ∙ whole

    -- the last page lies in the cells of the first
    same : d + (l / 3 + 1) ≤ 4 → (p + (8 ^ l - 1)) / 512 ^ (4 - d) ≡ p / 512 ^ (4 - d)
    same low =
        let j = 4 - d - (l / 3 + 1) in
        let sum : l / 3 + 1 + (4 - d - (l / 3 + 1)) ≡ 4 - d = omega (arith, low) in
        let width : 512 ^ (l / 3 + 1) * 512 ^ (4 - d - (l / 3 + 1)) ≡ 512 ^ (4 - d) = sym (pow-add 512 (l / 3 + 1) (4 - d - (l / 3 + 1))) ∙ ap (λ k. 512 ^ k) sum in
        let under = span.under p (8 ^ l - 1) whole (omega (arith, some)) in
        sym (div-div-eq-div-mul (p + (8 ^ l - 1)) (512 ^ (l / 3 + 1)) (512 ^ (4 - d - (l / 3 + 1))) ∙ ap (λ k. (p + (8 ^ l - 1)) / k) width)
        ∙ ap (λ k. k / 512 ^ (4 - d - (l / 3 + 1))) under
        ∙ (div-div-eq-div-mul p (512 ^ (l / 3 + 1)) (512 ^ (4 - d - (l / 3 + 1))) ∙ ap (λ k. p / k) width)

    at : d + (l / 3 + 1) ≤ 4 → x ≡ p / 512 ^ (4 - d) → is_on_path d x (table_want (l / 3 + 1) (p * 4096)) ≡ true
    at low is =
        let on : is_on_path d (p * 4096 / 4096 / 512 ^ (4 - d)) (table_want (l / 3 + 1) (p * 4096)) ≡ true = sym (or-false _) ∙ covers_one (l / 3 + 1) (p * 4096) (omega (arith, low)) d one (omega (arith, low)) in
        ap (λ k. is_on_path d k (table_want (l / 3 + 1) (p * 4096))) (is ∙ sym (ap (λ k. k / 512 ^ (4 - d)) page)) ∙ on

-- a whole root slot asks for none
side_none : (p d x : ℕ) → p % 2 ^ 27 ≡ 0 → 1 ≤ d → is_wanted (side_tables p (2 ^ 27)) d x ≡ true → ⊥
side_none p d x whole one wanted = elim (cases_Bool (is_on_path d x (table_want (edge 3 p) (p * 4096)))) [
  | inl first ↦ omega (arith, (path_is (edge 3 p) (p * 4096) d x first).0, edge_most 3 3 p (omega arith) (omega (arith, whole)), one)
  | inr not_first ↦
      let second : is_on_path d x (table_want (edge 3 (p + 2 ^ 27)) ((p + 2 ^ 27 - 1) * 4096)) ≡ true = sym (or-false _) ∙ sym (ap (λ t. t || (is_on_path d x (table_want (edge 3 (p + 2 ^ 27)) ((p + 2 ^ 27 - 1) * 4096)) || false)) not_first) ∙ wanted in
      omega (arith, (path_is (edge 3 (p + 2 ^ 27)) ((p + 2 ^ 27 - 1) * 4096) d x second).0, edge_most 3 3 (p + 2 ^ 27) (omega arith) (omega (arith, whole)), one)
]

module _ (f : Inode) (is_part : IsPart (part f)) where
  at_spot : WholeSpot f
  at_spot = whole_spot f is_part

  stage_start : stage f.base / 4096 * 4096 ≡ stage f.base
  stage_start = omega (arith, at_spot.start)

  whole_wanted : (d x : ℕ) → 1 ≤ d → is_wanted (cut_asks (f.base / 4096) (stage f.base / 4096) (8 ^ f.level) f.base) d x ≡ true → is_wanted (give_up_wants f) d x ≡ true
  whole_wanted d x one wanted =
      let a = f.base / 4096 in
      let b = stage f.base / 4096 in
      let n = 8 ^ f.level in
      let edge : edge_page (f.base / 4096) (stage f.base / 4096) f.base ≡ [] = edge_none (f.base / 4096) (stage f.base / 4096) f.base (omega (arith, at_spot.start)) in
      let split : (is_wanted (few_wants (f.base / 4096) (stage f.base / 4096) (8 ^ f.level)) d x || is_wanted (staged_wants (f.base / 4096) (stage f.base / 4096) (8 ^ f.level) f.base) d x) ≡ true =
      sym (is_wanted-append (few_wants (f.base / 4096) (stage f.base / 4096) (8 ^ f.level)) (staged_wants (f.base / 4096) (stage f.base / 4096) (8 ^ f.level) f.base) d x) ∙ wanted in
      elim (cases_Bool (is_wanted (few_wants (f.base / 4096) (stage f.base / 4096) (8 ^ f.level)) d x)) [
        | inl own ↦ first (sym (few_side (stage f.base / 4096) (f.base / 4096) (8 ^ f.level) d x (sym at_spot.alike) one) ∙ own)
        | inr other ↦
            let staged : is_wanted (staged_wants (f.base / 4096) (stage f.base / 4096) (8 ^ f.level) f.base) d x ≡ true = sym (ap (λ t. t || is_wanted (staged_wants (f.base / 4096) (stage f.base / 4096) (8 ^ f.level) f.base) d x) other) ∙ split in
            second (sym (or-false _) ∙ sym (ap (λ (l : List Want). is_wanted (side_tables (stage f.base / 4096) (8 ^ f.level)) d x || is_wanted l d x) edge)
            ∙ sym (is_wanted-append (side_tables (stage f.base / 4096) (8 ^ f.level)) (edge_page (f.base / 4096) (stage f.base / 4096) f.base) d x) ∙ staged)
      ]
    where
      moves : f.level ≤ 8 → is_wanted (move_wants f f.base (stage f.base)) d x ≡ true → is_wanted (give_up_wants f) d x ≡ true
      moves low is = ap (λ t. is_wanted (if t then move_wants f f.base (stage f.base) else []) d x) (le-leb f.level 8 low) ∙ is

      top : f.level ≢ 9 → f.level ≤ 8
      top other = omega (arith, other, is_part.level)

      count_top : f.level ≡ 9 → 8 ^ f.level ≡ 2 ^ 27
      count_top is = ap (λ k. 8 ^ k) is ∙ omega arith

      first : is_wanted (side_tables (f.base / 4096) (8 ^ f.level)) d x ≡ true → is_wanted (give_up_wants f) d x ≡ true
      first side = elim (cases_eq f.level 9) [
        | inl is ↦
            let count = count_top is in
            absurd (side_none (f.base / 4096) d x (omega (arith, at_spot.slot, count)) one (sym (ap (λ k. is_wanted (side_tables (f.base / 4096) k) d x) count) ∙ side))
        | inr other ↦
            let low = top other in
            let page = first_page f.level f.base low is_part.aligned in
            moves low (or_left _ _ (ap (λ k. is_on_path d x (table_want (f.level / 3 + 1) k)) (sym (sym at_spot.start)) ∙ side_one f.level (f.base / 4096) d x low page.page at_spot.some one side))
      ]

      second : is_wanted (side_tables (stage f.base / 4096) (8 ^ f.level)) d x ≡ true → is_wanted (give_up_wants f) d x ≡ true
      second side = elim (cases_eq f.level 9) [
        | inl is ↦
            let count = count_top is in
            absurd (side_none (stage f.base / 4096) d x (omega (arith, at_spot.slot, count, at_spot.alike)) one (sym (ap (λ k. is_wanted (side_tables (stage f.base / 4096) k) d x) count) ∙ side))
        | inr other ↦
            let low = top other in
            let page = first_page f.level (stage f.base) low (stage_aligned f.level f.base low is_part.aligned) in
            moves low (or_right _ _ (or_left _ _ (ap (λ k. is_on_path d x (table_want (f.level / 3 + 1) k)) (sym stage_start) ∙ side_one f.level (stage f.base / 4096) d x low page.page at_spot.some one side)))
      ]

  -- no more is missing than of the plan's wants
  pub whole_missing : (img : List ℕ) → missing img (cut_asks (f.base / 4096) (stage f.base / 4096) (8 ^ f.level) f.base) ≤ missing img (give_up_wants f)
  whole_missing img = missing_fewer img (cut_asks (f.base / 4096) (stage f.base / 4096) (8 ^ f.level) f.base) (give_up_wants f) whole_wanted

-- ---- what is there

pub room_owned : {img : List ℕ} {i : ℕ} → IsReady img → Owns (view img) (inode_count img) i → HasRoom (inode (view img) i)
room_owned {img} {i} ready owns = elim ((space_of img ready).placed i owns.live).place [ inl none ↦ absurd (omega (arith, none.level, owns.level)) | inr r ↦ r ]

headers_owned : (img : List ℕ) (i : ℕ) → IsReady img → Owns (view img) (inode_count img) i → AreThere img (part_of (view img) i)
headers_owned img i ready owns =
    let room = room_owned ready owns in
    let f = inode (view img) i in
    live_headers img (live_parts (view img) (inode_count img)) (part_of (view img) i) (stands_now ready) room.part
    (owner_one (view img) (inode_count img) (inode (view img) i).level (number_of (part_of (view img) i)) (record {
      inode_number = i;
      from = owns.live.number.from;
      to = owns.live.number.to;
      has = Rattle.ct_grow.proofs.Growing.has_of (view img) (inode_count img) i owns;
      level = refl;
      base = base-is (part_of (view img) i) room.part;
    }))

pub readied : {old new : List ℕ} {i a b n to : ℕ} → IsReady old → Owns (view old) (inode_count old) i → CalledSo (inode (view old) i) a b n → Prepared old new a b n (zeros (inode (view old) i).base to)
    → ((q : ℕ) → q / 2 ^ 27 ≡ 2 → (a * 4096 < (inode (view old) i).base → q ≢ b) → page_at new 4 q ≡ 0) → Readied old new (inode (view old) i)
readied {old} {new} {i} {a} {b} {n} {to} ready owns so p unmapped =
    let f = inode (view old) i in
    let room = room_owned ready owns in
    let at = whole_spot (inode (view old) i) room.part in
    record {
      can = record {
        placed = room.part;
        headers = λ h on none. headers_owned old i ready owns h on (sym (p.pages (h / 4096) (λ slot. omega (arith, slot, (Rattle.ct_grow.proofs.Heads.path_bounds (part_of (view old) i) room.part h on).1))) ∙ none);
        unmapped = λ q slot. unmapped q slot (λ lt. omega (arith, lt, so.first, at.start));
        tables = from_pages so (λ x y z. Rattle.std.specs.Prelude.All (Rattle.ct_base.specs.Exchange.HasTables new x y) (Rattle.ct_base.specs.Pieces.pieces x y z)) p.tables;
      };
      laid = p.laid;
      seen = p.seen;
      pages = p.pages;
      others = p.others;
      roots = p.roots;
      head = p.head;
      size = p.size;
    }

-- ---- as the functions have it

pub asks_called : {f : Inode} {a b n base : ℕ} → CalledSo f a b n → base ≡ f.base → IsPart (part f) → (img : List ℕ) → missing img (cut_asks a b n base) ≤ missing img (give_up_wants f)
asks_called {f} {a} {b} {n} {base} so is p img =
    subst (λ (k : ℕ). missing img (cut_asks a b n k) ≤ missing img (give_up_wants f)) (sym is) (at_pages so (λ x y z. missing img (cut_asks x y z f.base) ≤ missing img (give_up_wants f)) (whole_missing f p img))

pub called_from : {T E : Type 0} (r : Result T E) {old : List ℕ} (new : List ℕ) {i a b n base : ℕ} (to : ℕ) → IsReady old → Owns (view old) (inode_count old) i → CalledSo (inode (view old) i) a b n → base ≡ (inode (view old) i).base
    → OnOk r (Prepared old new a b n (zeros base to)) → OnOk r ((q : ℕ) → q / 2 ^ 27 ≡ 2 → (a * 4096 < base → q ≢ b) → page_at new 4 q ≡ 0) → OnOk r (Readied old new (inode (view old) i))
called_from (Ok done) {old} new {i} {a} {b} {n} {base} to ready owns so is p unmapped =
    readied {to = to} ready owns so (subst (λ (k : ℕ). Prepared old new a b n (zeros k to)) is p) (subst (λ (k : ℕ). (q : ℕ) → q / 2 ^ 27 ≡ 2 → (a * 4096 < k → q ≢ b) → page_at new 4 q ≡ 0) is unmapped)
called_from (Err e) new to ready owns so is p unmapped = tt
