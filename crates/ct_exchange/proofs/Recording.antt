-- The record of an exchange turns words at rest into words at rest.
use Rattle.std.proofs.Common.{◌≡◌, ◌≢◌, ℕ, ◌+◌, ◌-◌, ◌*◌, ◌/◌, ◌^◌, ◌<◌, ◌≤◌, List, [], refl, sym, ap, ◌∙◌, arith}
use Rattle.std.specs.Prelude.{All}
use Rattle.ct_base.specs.Exchange.{Exchanged, HasTables, partner}
use Rattle.ct_base.specs.Free.{IsFilePage}
use Rattle.ct_base.specs.Inode.{inode}
use Rattle.ct_base.specs.Objects.{objects}
use Rattle.ct_base.specs.Pieces.{pieces}
use Rattle.ct_base.specs.Rules.{Sound}
use Rattle.ct_base.specs.Settled.{IsShut, Named, Pair, with_pairs}
use Rattle.ct_base.specs.View.{view, inode_count}
use Rattle.ct_base.specs.Walk.{word, page_at}
use Rattle.ct_frames.specs.Agrees.{Agrees}
use Rattle.ct_frames.specs.Free.{FreePages}
use Rattle.ct_grow.proofs.Spared.{swap_entries, swaps_spare}
use Rattle.ct_image.proofs.Pairs.{length-with_pairs, with_pairs_off}
use Rattle.ct_image.proofs.Steps.{page_at-low}
use Rattle.ct_pm.specs.Device.{SameOff}
use Rattle.ct_record.proofs.Lawful.{pairs_shut}
use Rattle.ct_record.specs.Record.{AreApart, InRecord}
use Rattle.ct_state.proofs.Write.{HasSpace}
use Rattle.ct_swap.proofs.Pairing.{pswap_exchanged}
use Rattle.ct_swap.specs.Swap.{swap_pairs}
use Rattle.ct_tree.specs.Lands.{files}
use Rattle.ct_write.proofs.Reaching.{fresh_agree}
use Rattle.ct_commit.proofs.Pages.{file_cell}
use Rattle.ct_commit.specs.Made.{Turns}
use Rattle.ct_commit.proofs.Resting.{slots_stay}
use Rattle.ct_commit.proofs.States.{head_over}
use Rattle.ct_commit.specs.Rest.{IsAtRest, IsUnstaged}
use Rattle.ct_exchange.specs.Ranges.{CanExchange, page_of}
use Rattle.ct_exchange.proofs.Changed.{Swaps, partner-between}
use Rattle.ct_exchange.proofs.Contents.{room_of}
use Rattle.ct_exchange.proofs.Ruled.{pages_apart, sound_after, space_of, swapped_bytes, swaps_of}

-- the pairs of the exchange
abbrev pub exchange_pairs : List ℕ → ℕ → ℕ → ℕ → List Pair
exchange_pairs img a b n = swap_pairs img a b (pieces a b n)

module _ {was : List ℕ} {i off j other len : ℕ} (rest : IsAtRest was) (can : CanExchange was i off j other len)
    (there : All (HasTables was (page_of (inode (view was) i) off) (page_of (inode (view was) j) other)) (pieces (page_of (inode (view was) i) off) (page_of (inode (view was) j) other) (len / 4096))) where
  abbrev a : ℕ
  a = page_of (inode (view was) i) off

  abbrev b : ℕ
  b = page_of (inode (view was) j) other

  abbrev n : ℕ
  n = len / 4096

  abbrev pairs : List Pair
  pairs = exchange_pairs was a b n

  abbrev after : List ℕ
  after = with_pairs pairs was

  space : HasSpace (view was) (inode_count was)
  space = space_of was rest.sound rest.head.inodes.1

  -- each pair names an entry of a table
  pairs_apart : AreApart pairs
  pairs_apart w named =
      let e = swap_entries was a b (pieces a b n) there w named in
      omega (arith, e.is, page_at-low was e.depth e.number e.there)

  pairs_spare : (w : ℕ) → Named pairs w → (q : ℕ) → 10 * 2 ^ 27 ≤ q → page_at was 4 q ≢ w / 512
  pairs_spare = swaps_spare was a b (pieces a b n) rest.tables there

  head_stays : (w : ℕ) → w < 512 → word after w ≡ word was w
  head_stays w lt = with_pairs_off pairs was w (λ named. omega (arith, lt, pairs_apart w named))

  exchanges : Exchanged was after a b n
  exchanges =
      pswap_exchanged was was [] pairs a b n rest.tables (λ w none. absurd none) (λ w none. absurd none) (pages_apart can space) there (same_refl_words was)
      (sym (Rattle.std.proofs.lemmas.List.append-nil pairs))
    where
      same_refl_words : (img : List ℕ) → SameOff InRecord img img
      same_refl_words img = record { others = λ w off. refl; size = refl }

  pub swaps : Swaps was after a b n
  swaps = swaps_of can space exchanges head_stays

  -- the staging slots stay empty
  pub unstaged_after : IsUnstaged was → IsUnstaged after
  unstaged_after none =
      let s = swaps in
      slots_stay was after s.exchanged.tables (λ k lt.
      let cell : (2 + k) * 2 ^ 27 / 512 ^ (4 - 1) ≡ 2 + k = omega arith in
      ap (page_at after 1) (sym cell)
      ∙ s.exchanged.cells 1 ((2 + k) * 2 ^ 27) (omega arith) (record { first = λ le. absurd (omega (arith, le, lt, s.first_from)); second = λ le. absurd (omega (arith, le, lt, s.second_from)) })
      ∙ ap (page_at was 1) cell) none

  shut_after : IsShut after
  shut_after = pairs_shut pairs was pairs_apart rest.shut

  rest_after : IsAtRest after
  rest_after = record { head = head_over rest.head head_stays (length-with_pairs pairs was) shut_after; sound = sound_after can space swaps rest.sound; shut = shut_after; tables = swaps.exchanged.tables }

  off_was : (w : ℕ) → Named pairs w → IsFilePage was (w / 512) → ⊥
  off_was w named is =
      let low = (room_of space is.owns).part.low in
      pairs_spare w named (is.address / 4096) (omega (arith, low, is.inside.from)) (file_cell was rest.sound is)

  off_after : (w : ℕ) → Named pairs w → IsFilePage after (w / 512) → ⊥
  off_after w named is =
      let s = swaps in
      let sound = rest_after.sound in
      let room = room_of (space_of after sound rest_after.head.inodes.1) is.owns in
      let q = is.address / 4096 in
      let low : 10 * 2 ^ 27 ≤ q = omega (arith, room.part.low, is.inside.from) in
      let high = is.inside.to in
      let most = Rattle.ct_grow.proofs.Spans.part_high (Rattle.ct_base.specs.Rules.part_of (view after) is.file) room.part in
      let at = partner-between (10 * 2 ^ 27) (2 ^ 36) a b n q s.first_from s.second_from s.first_to s.second_to low (omega (arith, high, most)) in
      pairs_spare w named (partner a b n q) at.0 (sym (s.exchanged.pages q) ∙ file_cell after sound is)

  pub frames_stay : (frames : FreePages) → Agrees was frames → Agrees after frames
  frames_stay frames agrees = fresh_agree swaps.exchanged.count swaps.exchanged.fresh swaps.exchanged.reached agrees

  pub exchange_turns : Turns was pairs
  exchange_turns = record { rest = rest; after = rest_after; apart = pairs_apart; off = off_was; off_after = off_after }

  -- and the objects are those with the two ranges exchanged
  pub turned_files : files after ≡ objects (λ v. view was (partner ((inode (view was) i).base + off) ((inode (view was) j).base + other) len v)) (inode_count was)
  turned_files =
      let bytes : view after ≡ (λ v. view was (partner ((inode (view was) i).base + off) ((inode (view was) j).base + other) len v)) = λ t v. swapped_bytes can space swaps v t in
      ap (objects (view after)) (swaps.head 3 (omega arith)) ∙ ap (λ (c : ℕ → ℕ). objects c (inode_count was)) bytes

  pub turned_count : inode_count after ≡ inode_count was
  turned_count = head_stays 3 (omega arith)
