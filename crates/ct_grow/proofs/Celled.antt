-- The cells after growth, and the free pages.
use Rattle.std.proofs.Common.{◌≡◌, ◌≢◌, ℕ, ◌+◌, ◌-◌, ◌*◌, ◌/◌, ◌^◌, ◌≤◌, false, List, sym, ap, subst, ◌∙◌, ◌⊎◌, inl, inr, arith}
use Rattle.std.proofs.lemmas.Bool.{cases_eq, cases_lt}
use Rattle.ct_base.specs.declared.inode.Inode.{Inode}
use Rattle.ct_base.specs.Exchange.{partner, Outside, Exchanged}
use Rattle.ct_base.specs.Inode.{inode, Partition, part_bytes}
use Rattle.ct_base.specs.Plan.{growth_wants, exchange_height}
use Rattle.ct_base.specs.View.{view}
use Rattle.ct_base.specs.Walk.{page_at, page_count}
use Rattle.ct_base.specs.Wants.{is_wanted}
use Rattle.ct_frames.specs.Agrees.{Agrees}
use Rattle.ct_frames.specs.Free.{FreePages}
use Rattle.ct_image.proofs.Partner.{partner-second, partner-other}
use Rattle.ct_grow.specs.Grown.{CellsMoved, IsCellIn}
use Rattle.ct_grow.proofs.Apart.{span, old_first, new_first, blocks, pages_apart}
use Rattle.ct_grow.proofs.Heads.{path_bounds}
use Rattle.ct_grow.proofs.Moved.{Grew, some_pages, none_pages}
use Rattle.ct_grow.proofs.Swapped.{rows, rows_apart, cell_in, in_cell, cell_number, high_stays, low_swaps, agrees_on, none_agrees, none_stays, cells_agree}
use Rattle.ct_grow.proofs.Wanting.{unwanted, wanted_there}

module _ {w0 w1 w2 : List ℕ} {before after : FreePages} {i : ℕ} {p : Partition} (s : Grew w0 w1 w2 before after i p) where
  abbrev f : Inode
  f = inode (view w0) i

  abbrev a : ℕ
  a = (inode (view w0) i).base / 4096

  abbrev b : ℕ
  b = p.base / 4096

  abbrev n : ℕ
  n = 8 ^ (inode (view w0) i).level

  abbrev h : ℕ
  h = (inode (view w0) i).level / 3

  none_exchanged : f.level ≡ 15 → Exchanged s.moves.middle w2 a b 0
  none_exchanged is = subst (λ (m : ℕ). Exchanged s.moves.middle w2 a b m) (none_pages f is) s.moves.exchanged

  some_exchanged : f.level ≢ 15 → Exchanged s.moves.middle w2 a b n
  some_exchanged some = subst (λ (m : ℕ). Exchanged s.moves.middle w2 a b m) (some_pages f some) s.moves.exchanged

  -- the free pages stay so
  pub agrees_now : {frames : FreePages} → Agrees w1 frames → Agrees w2 frames
  agrees_now agrees =
      let count : page_count s.moves.middle ≡ page_count w1 = s.moves.places.superblock 2 (omega arith) in
      let mid = cells_agree count s.moves.places.cells agrees in
      elim (cases_eq f.level 15) [
        | inl is ↦ none_agrees (none_exchanged is) mid
        | inr some ↦ let o = s.old some in agrees_on (some_exchanged some) (blocks o s.is_part) (pages_apart o s.is_part) mid
      ]

  abbrev InNew : ℕ → ℕ → Type 0
  InNew k c = IsCellIn p.base (part_bytes (inode (view w0) i).level) k c

  abbrev InOld : ℕ → ℕ → Type 0
  InOld k c = IsCellIn (inode (view w0) i).base (part_bytes (inode (view w0) i).level) k c

  -- a low cell of the old partition is not asked for
  old_unwanted : (some : f.level ≢ 15) (k c : ℕ) → k ≤ h → f.base ≤ c * (4096 * 512 ^ k) → is_wanted (growth_wants f p) (4 - k) c ≡ false
  old_unwanted some k c le from =
      let o = s.old some in
      let low = (span o s.is_part).height in
      let back : 4 - (4 - k) ≡ k = omega arith in
      let wide : c * (4096 * 512 ^ (4 - (4 - k))) ≡ c * (4096 * 512 ^ k) = ap (λ m. c * (4096 * 512 ^ m)) back in
      unwanted f p (4 - k) c (λ x on. (path_bounds p s.is_part x on).1) (omega (arith, wide, from, o.own.low)) (λ _. inl (omega arith))

  brought : (k c : ℕ) → f.level ≢ 15 → k ≤ exchange_height f.level → InNew k c → page_at w2 (4 - k) c ≡ page_at w0 (4 - k) (c - p.base / (4096 * 512 ^ k) + f.base / (4096 * 512 ^ k))
  brought k c some le inside =
      let o = s.old some in
      let bs = blocks o s.is_part in
      let r = rows k bs le in
      let apart = rows_apart k a b n r (pages_apart o s.is_part) in
      let one = old_first o s.is_part in
      let two = new_first o s.is_part in
      let in_new = cell_in k p.base b n c r.low two.start r.second r.whole inside.0 inside.1 in
      let A = a / 512 ^ k in
      let B = b / 512 ^ k in
      let N = n / 512 ^ k in
      let x = c - B + A in
      let to : partner A B N c ≡ c - B + A = partner-second A B N c (λ ge. elim apart [ inl first ↦ omega (arith, first, in_new.0) | inr last ↦ omega (arith, last, in_new.1, ge) ]) in_new.0 in_new.1 in
      let in_old = in_cell k f.base a n (c - B + A) r.low one.start r.first r.whole (omega arith) (omega (arith, in_new.0, in_new.1)) in
      let number : c - B + A ≡ c - p.base / (4096 * 512 ^ k) + f.base / (4096 * 512 ^ k) = omega (arith, cell_number k p.base b r.low two.start, cell_number k f.base a r.low one.start) in
      low_swaps (some_exchanged some) bs (pages_apart o s.is_part) k c le ∙ ap (page_at s.moves.middle (4 - k)) to ∙ s.moves.places.cells (4 - k) (c - B + A) (omega arith)
      ∙ s.grown.cells (4 - k) (c - B + A) (omega arith) (old_unwanted some k (c - B + A) le in_old.0) ∙ ap (page_at w0 (4 - k)) number

  -- every other cell is that of before the move
  still : (k c : ℕ) → k ≤ 4 → (f.level ≢ 15 → k ≤ exchange_height f.level → InNew k c ⊎ InOld k c → ⊥) → page_at w2 (4 - k) c ≡ page_at w1 (4 - k) c
  still k c le out = elim (cases_eq f.level 15) [
    | inl is ↦ none_stays (none_exchanged is) k c le ∙ s.moves.places.cells (4 - k) c (omega arith)
    | inr some ↦
        let o = s.old some in
        let bs = blocks o s.is_part in
        elim (cases_lt h k) [
          | inl higher ↦ high_stays (some_exchanged some) bs (pages_apart o s.is_part) k c le higher ∙ s.moves.places.cells (4 - k) c (omega arith)
          | inr lower ↦
              let r = rows k bs lower in
              let one = old_first o s.is_part in
              let two = new_first o s.is_part in
              let A = a / 512 ^ k in
              let B = b / 512 ^ k in
              let N = n / 512 ^ k in
              let outside : Outside A B N c = record {
                first = λ ge. elim (cases_lt c (A + N)) [
                  | inl within ↦ let at = in_cell k f.base a n c r.low one.start r.first r.whole ge within in absurd (out some lower (inr (at.0, at.1)))
                  | inr past ↦ past
                ];
                second = λ ge. elim (cases_lt c (B + N)) [
                  | inl within ↦ let at = in_cell k p.base b n c r.low two.start r.second r.whole ge within in absurd (out some lower (inl (at.0, at.1)))
                  | inr past ↦ past
                ];
              } in
              low_swaps (some_exchanged some) bs (pages_apart o s.is_part) k c lower ∙ ap (page_at s.moves.middle (4 - k)) (partner-other A B N c outside) ∙ s.moves.places.cells (4 - k) c (omega arith)
        ]
  ]

  pub cells_moved : CellsMoved w0 w2 f p
  cells_moved = record {
    brought = brought;
    stays = λ k c le out there. still k c le out ∙ s.grown.walks (4 - k) c (omega arith) there;
    absent = λ k c le out none not. still k c le out ∙ s.grown.cells (4 - k) c (omega arith) not ∙ none;
    present = λ k c le out wanted none. wanted_there f p w1 s.all (4 - k) c wanted (sym (still k c le out) ∙ none);
  }
