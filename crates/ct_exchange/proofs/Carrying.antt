-- From the wants of an exchange to the end of its record.
use Rattle.std.proofs.Common.{◌≡◌, ℕ, ◌+◌, ◌*◌, ◌/◌, ◌^◌, ◌≤◌, Bool, false, List, [], Result, Option, refl, sym, ap, subst, ◌∙◌, inl, inr, arith}
use Rattle.std.specs.Prelude.{All, length, OnOk, ◌==◌, ◌||◌}
use Rattle.std.proofs.lemmas.Bool.{cond-false, false≢true, ne_eqb}
use Rattle.ct_base.specs.declared.inode.Inode.{Inode}
use Rattle.ct_base.specs.Exchange.{Exchanged, HasTables, partner}
use Rattle.ct_base.specs.Inode.{inode}
use Rattle.ct_base.specs.Objects.{objects}
use Rattle.ct_base.specs.Pieces.{pieces}
use Rattle.ct_base.specs.Rules.{Owns}
use Rattle.ct_base.specs.Settled.{HasPages, IsShut, Pair, with_pairs}
use Rattle.ct_base.specs.View.{view, inode_count}
use Rattle.ct_base.specs.Walk.{page_at}
use Rattle.ct_base.specs.Wants.{Want, is_wanted}
use Rattle.ct_frames.specs.Agrees.{Agrees}
use Rattle.ct_frames.specs.Free.{FreePages}
use Rattle.ct_commit.proofs.States.{off_record}
use Rattle.ct_pieces.proofs.Steps.{length-pieces_from}
use Rattle.ct_plan.proofs.Same.{is_wanted-append}
use Rattle.ct_plan.proofs.There.{few_both_there}
use Rattle.ct_plan.specs.Few.{few_both_wants, few_wants}
use Rattle.ct_pm.proofs.Phases.{phase_then, phase_weaker}
use Rattle.ct_pm.specs.Device.{NothingPending, SameOff}
use Rattle.ct_pm.specs.Images.{History}
use Rattle.ct_pm.specs.Phase.{Phase}
use Rattle.ct_record.proofs.Ended.{ok_both, ok_then}
use Rattle.ct_record.specs.Record.{Concluded, InRecord}
use Rattle.ct_state.proofs.Carry.{files-same}
use Rattle.ct_state.proofs.Settle.{alike_off}
use Rattle.ct_state.proofs.Write.{HasSpace}
use Rattle.ct_state.specs.Alike.{Alike}
use Rattle.ct_swap.specs.Swap.{swap_pairs}
use Rattle.ct_tree.specs.Lands.{files}
use Rattle.ct_walk.specs.Has.{HasAll}
use Rattle.ct_write.proofs.Paths.{all_met, no_pages, none_below}
use Rattle.ct_commit.specs.Made.{Turns}
use Rattle.ct_commit.proofs.Given.{given_made, given_settles, given_spares}
use Rattle.ct_commit.proofs.Made.{made_phase}
use Rattle.ct_commit.proofs.Resting.{agrees_beside, rest_beside, unstaged_beside}
use Rattle.ct_commit.specs.Landing.{LandsAs, LandsOnEither}
use Rattle.ct_call.specs.Mounted.{AreOwned, OffFiles}
use Rattle.ct_commit.specs.Rest.{IsAtRest, IsMounted, IsUnstaged}
use Rattle.ct_exchange.specs.declared.plan.Ranges.{Ranges}
use Rattle.ct_exchange.specs.Ranges.{AreApart, first_page, page_of, second_page, wants_of}
use Rattle.ct_exchange.specs.Swapped.{HasSwapped, SwapsOrNot, files_after}
use Rattle.ct_exchange.proofs.Contents.{Places, places}
use Rattle.ct_exchange.proofs.Recording.{exchange_turns, frames_stay, turned_count, turned_files, unstaged_after}
use Rattle.ct_exchange.proofs.Ruled.{pages_apart, space_of}

neither : (p q : Bool) → p ≡ false → q ≡ false → (p || q) ≡ false
neither p q one two = rw (one, two) refl

-- as many pieces as pages at most
few_pieces : (a b n : ℕ) → length (pieces a b n) ≤ n
few_pieces a b n = length-pieces_from n a b n 0

-- ---- the wants

module _ {w0 : List ℕ} {r : Ranges} (rest : IsAtRest w0) (can : AreApart w0 r) where
  pub space : HasSpace (view w0) (inode_count w0)
  space = space_of w0 rest.sound rest.head.inodes.1

  pub placed : Places w0 r.first r.off r.second r.other_off r.len
  placed = places can space

  wants_are : wants_of w0 r ≡ few_both_wants (first_page w0 r) (second_page w0 r) (r.len / 4096)
  wants_are = cond-false (r.len == 0) [] (few_both_wants (first_page w0 r) (second_page w0 r) (r.len / 4096)) (ne_eqb r.len 0 (λ z. omega (arith, z, can.some)))

  no_cells : (d x : ℕ) → is_wanted (few_wants (first_page w0 r) (second_page w0 r) (r.len / 4096)) d x ≡ false → is_wanted (few_wants (second_page w0 r) (first_page w0 r) (r.len / 4096)) d x ≡ false → is_wanted (wants_of w0 r) d x ≡ false
  no_cells d x one two =
      ap (λ (ws : List Want). is_wanted ws d x) wants_are
      ∙ is_wanted-append (few_wants (first_page w0 r) (second_page w0 r) (r.len / 4096)) (few_wants (second_page w0 r) (first_page w0 r) (r.len / 4096)) d x
      ∙ neither (is_wanted (few_wants (first_page w0 r) (second_page w0 r) (r.len / 4096)) d x) (is_wanted (few_wants (second_page w0 r) (first_page w0 r) (r.len / 4096)) d x) one two

  -- tables alone are wanted
  pub no_page : (x : ℕ) → is_wanted (wants_of w0 r) 4 x ≡ false
  no_page x = no_cells 4 x (no_pages (first_page w0 r) (second_page w0 r) (r.len / 4096) x) (no_pages (second_page w0 r) (first_page w0 r) (r.len / 4096) x)

  pub wants_owned : AreOwned w0 (wants_of w0 r)
  wants_owned = record {
    pages = λ p low is. absurd (false≢true (sym (no_page p) ∙ is));
    staging = λ k lt. no_cells 1 (2 + k)
        (none_below (first_page w0 r) (second_page w0 r) (r.len / 4096) 0 (2 + k) placed.first_low placed.some (omega arith) (omega (arith, lt)))
        (none_below (second_page w0 r) (first_page w0 r) (r.len / 4096) 0 (2 + k) placed.second_low placed.some (omega arith) (omega (arith, lt)));
  }

  pub wants_off : OffFiles w0 (wants_of w0 r)
  wants_off p low is = absurd (false≢true (sym (no_page p) ∙ is))

  -- where they are met, each piece has its tables
  pub wants_there : (w1 : List ℕ) → HasAll w1 (wants_of w0 r) → All (HasTables w1 (first_page w0 r) (second_page w0 r)) (pieces (first_page w0 r) (second_page w0 r) (r.len / 4096))
  wants_there w1 all =
      let some = placed.some in
      few_both_there w1 (first_page w0 r) (second_page w0 r) (r.len / 4096) some placed.first_high placed.second_high
      (all_met w1 (few_both_wants (first_page w0 r) (second_page w0 r) (r.len / 4096)) (omega (arith, some), (omega arith, (omega arith, (omega (arith, some), (omega arith, (omega arith, tt))))))
      (subst (HasAll w1) wants_are all))

-- ---- the same once the tables are made

module _ {w0 w1 : List ℕ} {r : Ranges} (alike : Alike w0 w1) (can : AreApart w0 r) where
  owns_on : (i : ℕ) → Owns (view w0) (inode_count w0) i → Owns (view w1) (inode_count w1) i
  owns_on i owns = subst (λ (b : ℕ → ℕ). Owns b (inode_count w1) i) (sym alike.bytes) (subst (λ (k : ℕ). Owns (view w0) k i) (sym alike.inodes) owns)

  inode_on : (i : ℕ) → inode (view w1) i ≡ inode (view w0) i
  inode_on i = ap (λ (b : ℕ → ℕ). inode b i) alike.bytes

  pub can_on : AreApart w1 r
  can_on =
      let one = inode_on r.first in
      let two = inode_on r.second in
      record {
        first = owns_on r.first can.first;
        second = owns_on r.second can.second;
        file = ap (λ (f : Inode). f.kind) one ∙ can.file;
        other_file = ap (λ (f : Inode). f.kind) two ∙ can.other_file;
        some = can.some;
        start = can.start;
        other_start = can.other_start;
        whole = can.whole;
        fits = omega (arith, can.fits, ap (λ (f : Inode). f.size) one);
        other_fits = omega (arith, can.other_fits, ap (λ (f : Inode). f.size) two);
        apart = can.apart;
        few = can.few;
      }

  first_on : first_page w1 r ≡ first_page w0 r
  first_on = ap (λ (f : Inode). page_of f r.off) (inode_on r.first)

  second_on : second_page w1 r ≡ second_page w0 r
  second_on = ap (λ (f : Inode). page_of f r.other_off) (inode_on r.second)

  after_on : files_after w1 r ≡ files_after w0 r
  after_on =
      ap (λ (b : ℕ → ℕ). objects (λ v. b (partner ((inode b r.first).base + r.off) ((inode b r.second).base + r.other_off) r.len v)) (inode_count w1)) alike.bytes
      ∙ ap (objects (λ v. view w0 (partner ((inode (view w0) r.first).base + r.off) ((inode (view w0) r.second).base + r.other_off) r.len v))) alike.inodes

-- The tables are made, and the pages are known.
pub record Tabled (w0 w1 : List ℕ) (r : Ranges) (a b n : ℕ) : Type 0 where
  pub rest : IsAtRest w0
  pub rest_on : IsAtRest w1
  pub alike : Alike w0 w1
  pub can : AreApart w0 r
  pub first : a ≡ first_page w0 r
  pub second : b ≡ second_page w0 r
  pub count : n ≡ r.len / 4096
  pub met : HasAll w1 (wants_of w0 r)
  pub pages : (p : ℕ) → page_at w1 4 p ≡ page_at w0 4 p

pub tabled : {w0 w1 : List ℕ} {r : Ranges} {a b n : ℕ} (ws wants : List Want) → IsAtRest w0 → IsAtRest w1 → Alike w0 w1 → AreApart w0 r → a ≡ first_page w0 r → b ≡ second_page w0 r → n ≡ r.len / 4096 → ws ≡ wants → wants ≡ wants_of w0 r → HasAll w1 ws
    → ((d x : ℕ) → d ≤ 4 → is_wanted ws d x ≡ false → page_at w1 d x ≡ page_at w0 d x) → Tabled w0 w1 r a b n
tabled {w1 = w1} ws wants rest rest_on alike can first second count are is met cells = record {
  rest = rest;
  rest_on = rest_on;
  alike = alike;
  can = can;
  first = first;
  second = second;
  count = count;
  met = subst (HasAll w1) (are ∙ is) met;
  pages = λ p. cells 4 p (omega arith) (subst (λ (l : List Want). is_wanted l 4 p ≡ false) (sym (are ∙ is)) (no_page rest can p));
}

module _ {w0 w1 : List ℕ} {r : Ranges} {a b n : ℕ} (t : Tabled w0 w1 r a b n) where
  abbrev pairs : List Pair
  pairs = swap_pairs w1 a b (pieces a b n)

  -- what holds of the pages of the ranges holds of these
  at_pages : (P : ℕ → ℕ → ℕ → Type 0) → P (first_page w0 r) (second_page w0 r) (r.len / 4096) → P a b n
  at_pages P has = subst (λ (x : ℕ). P x b n) (sym t.first) (subst (λ (x : ℕ). P (first_page w0 r) x n) (sym t.second) (subst (λ (x : ℕ). P (first_page w0 r) (second_page w0 r) x) (sym t.count) has))

  at_pages_on : (P : ℕ → ℕ → ℕ → Type 0) → P (first_page w1 r) (second_page w1 r) (r.len / 4096) → P a b n
  at_pages_on P has = at_pages P (subst (λ (x : ℕ). P x (second_page w0 r) (r.len / 4096)) (first_on t.alike t.can) (subst (λ (x : ℕ). P (first_page w1 r) x (r.len / 4096)) (second_on t.alike t.can) has))

  there_on : All (HasTables w1 (first_page w1 r) (second_page w1 r)) (pieces (first_page w1 r) (second_page w1 r) (r.len / 4096))
  there_on =
      subst (λ (x : ℕ). All (HasTables w1 x (second_page w1 r)) (pieces x (second_page w1 r) (r.len / 4096))) (sym (first_on t.alike t.can))
      (subst (λ (x : ℕ). All (HasTables w1 (first_page w0 r) x) (pieces (first_page w0 r) x (r.len / 4096))) (sym (second_on t.alike t.can)) (wants_there t.rest t.can w1 t.met))

  -- what the exchange asks for
  pub swap_first : a + n ≤ 2 ^ 36
  swap_first = at_pages (λ x y k. x + k ≤ 2 ^ 36) (placed t.rest t.can).first_high

  pub swap_second : b + n ≤ 2 ^ 36
  swap_second = at_pages (λ x y k. y + k ≤ 2 ^ 36) (placed t.rest t.can).second_high

  pub swap_some : 1 ≤ n
  swap_some = at_pages (λ x y k. 1 ≤ k) (placed t.rest t.can).some

  pub swap_apart : Rattle.ct_base.specs.Exchange.Apart a b n
  swap_apart = at_pages Rattle.ct_base.specs.Exchange.Apart (pages_apart t.can (space t.rest t.can))

  pub swap_there : All (HasTables w1 a b) (pieces a b n)
  swap_there = at_pages (λ x y k. All (HasTables w1 x y) (pieces x y k)) (wants_there t.rest t.can w1 t.met)

  pub swap_few : 2 * length (pieces a b n) ≤ 8000
  swap_few = omega (arith, few_pieces a b n, at_pages (λ x y k. k ≤ 4000) (placed t.rest t.can).most)

  swap_turns : Turns w1 pairs
  swap_turns = at_pages_on (λ x y k. Turns w1 (swap_pairs w1 x y (pieces x y k))) (exchange_turns t.rest_on (can_on t.alike t.can) there_on)

  swap_files : files (with_pairs pairs w1) ≡ files_after w0 r
  swap_files = at_pages_on (λ x y k. files (with_pairs (swap_pairs w1 x y (pieces x y k)) w1) ≡ files_after w1 r) (turned_files t.rest_on (can_on t.alike t.can) there_on) ∙ after_on t.alike t.can

  turned : (image : List ℕ) → LandsOnEither (files w1) (files (with_pairs pairs w1)) image → SwapsOrNot w0 r image
  turned image (inl lands) = inl (subst (λ fs. LandsAs fs image) (files-same t.alike) lands)
  turned image (inr lands) = inr (subst (λ fs. LandsAs fs image) swap_files lands)

  -- the words keep their pages
  pub pages_held : {T E : Type 0} (now : List ℕ) (result : Result T E) → OnOk result (SameOff InRecord now (with_pairs (swap_pairs w1 a b (pieces a b n)) w1)) → OnOk result (HasPages now)
  pages_held now result words = ok_then (SameOff InRecord now (with_pairs pairs w1)) result (λ same.
      let c = swap_turns.after.head.count in
      let count = same.others 2 (λ is. omega (arith, is.0)) in
      (omega (arith, c.0, count), omega (arith, c.1, count, same.size))) words

  -- once its record has come to its end
  module _ {T E : Type 0} {mid told : Option History} {now : List ℕ} {result : Result T E} (c : Concluded w1 mid (swap_pairs w1 a b (pieces a b n)) (2 * length (pieces a b n)) now told result) where
    pub swapped_phase : {start : Option History} → Phase (LandsAs (files w0)) 0 start mid w1 → Phase (SwapsOrNot w0 r) 8000 start told now
    swapped_phase first = phase_then (phase_weaker (SwapsOrNot w0 r) (λ image lands. inl lands) (omega arith) first) (phase_weaker (SwapsOrNot w0 r) turned swap_few (made_phase (given_made swap_turns) (given_spares swap_turns) (given_settles swap_turns) c))

    pub swapped_mounted : {frames : FreePages} → IsMounted w1 mid frames → OnOk result (IsMounted now told frames)
    swapped_mounted {frames} m =
        let S : Type 0 = SameOff InRecord now (with_pairs pairs w1) in
        ok_then (S × (IsShut now × NothingPending told)) result (λ has. record {
          rest = rest_beside swap_turns.after has.0 has.1.0;
          unstaged = unstaged_beside swap_turns.after has.0 has.1.0 (at_pages_on (λ x y k. IsUnstaged (with_pairs (swap_pairs w1 x y (pieces x y k)) w1)) (unstaged_after t.rest_on (can_on t.alike t.can) there_on m.unstaged));
          settled = has.1.1;
          agrees = agrees_beside swap_turns.after has.0 has.1.0 (at_pages_on (λ x y k. Agrees (with_pairs (swap_pairs w1 x y (pieces x y k)) w1) frames) (frames_stay t.rest_on (can_on t.alike t.can) there_on frames m.agrees));
        }) (ok_both S (IsShut now × NothingPending told) result c.words (ok_both (IsShut now) (NothingPending told) result c.shut c.settled))

    pub swapped_files : OnOk result (files now ≡ files_after w0 r)
    swapped_files = ok_then (SameOff InRecord now (with_pairs pairs w1)) result (λ same. files-same (alike_off (off_record same)) ∙ swap_files) c.words

    pub swapped_count : OnOk result (inode_count now ≡ inode_count w0)
    swapped_count = ok_then (SameOff InRecord now (with_pairs pairs w1)) result (λ same. (alike_off (off_record same)).inodes ∙ after_count ∙ t.alike.inodes) c.words
      where
        after_count : inode_count (with_pairs pairs w1) ≡ inode_count w1
        after_count = at_pages_on (λ x y k. inode_count (with_pairs (swap_pairs w1 x y (pieces x y k)) w1) ≡ inode_count w1) (turned_count t.rest_on (can_on t.alike t.can) there_on)

  pub swapped_pages : {now : List ℕ} → Exchanged w1 now a b n → HasSwapped w0 now r
  swapped_pages {now} e p = e.pages p ∙ t.pages (partner a b n p) ∙ at_pages (λ x y k. page_at w0 4 (partner a b n p) ≡ page_at w0 4 (partner x y k p) → page_at w0 4 (partner a b n p) ≡ page_at w0 4 (partner (first_page w0 r) (second_page w0 r) (r.len / 4096) p)) (λ is. is) refl

-- what lands has its pages
pub lands_pages : (w : List ℕ) (r : Ranges) (image : List ℕ) → SwapsOrNot w r image → HasPages image
lands_pages w r image (inl lands) = let c = lands.head.count in (omega (arith, c.0), c.1)
lands_pages w r image (inr lands) = let c = lands.head.count in (omega (arith, c.0), c.1)
