-- What growth leaves, in the words of its promise.
use Rattle.std.proofs.Common.{◌≡◌, ◌≢◌, ℕ, ◌+◌, ◌-◌, ◌*◌, ◌/◌, ◌^◌, ◌<◌, ◌≤◌, List, length, refl, sym, ap, subst, ◌∙◌, inl, inr, arith}
use Rattle.std.proofs.lemmas.Bool.{cases_eq, cases_lt}
use Rattle.ct_base.specs.declared.inode.Inode.{Inode}
use Rattle.ct_base.specs.Exchange.{partner, Outside}
use Rattle.ct_base.specs.Inode.{inode, inode_word, IsIn, IsNumber, Partition, part}
use Rattle.ct_base.specs.Objects.{objects}
use Rattle.ct_base.specs.Rules.{Rule, number, HoldsAt, Owns, part_of, entries, once, inodes, placed, apart, tails, mapped, headers, rest, slots, names, named, reached}
use Rattle.ct_base.specs.Settled.{IsShut}
use Rattle.ct_base.specs.View.{view, inode_count}
use Rattle.ct_base.specs.Walk.{word, walk, next, named_page, page_at, page_count}
use Rattle.ct_frames.specs.Free.{FreePages}
use Rattle.ct_image.proofs.Partner.{partner-first, partner-other}
use Rattle.ct_image.proofs.Steps.{walk-cell, page_at-next, page_at-root, next-at, named_page-zero}
use Rattle.ct_state.proofs.Bytes.{little-same}
use Rattle.ct_state.proofs.Grow.{space_stays, objects_stay}
use Rattle.ct_state.proofs.Write.{HasSpace}
use Rattle.ct_grow.specs.Grown.{IsReady, Promoted, pages_of}
use Rattle.ct_grow.proofs.Apart.{old_first, new_first, narrower, pages_apart, blocks}
use Rattle.ct_grow.proofs.Growing.{base, level, low, moved, given, others_all, grows, new_absent}
use Rattle.ct_grow.proofs.Heads.{path_bounds}
use Rattle.ct_grow.proofs.Moved.{Grew, owned, out_low, some_pages, none_pages, byte_middle, byte_out, unwritten, page_now, pages_stay, walk_brought, absent}
use Rattle.ct_grow.proofs.Swapped.{high_stays, none_stays}
use Rattle.ct_grow.proofs.Wanting.{unwanted}

module _ {w0 w1 w2 : List ℕ} {before after : FreePages} {i : ℕ} {p : Partition} (s : Grew w0 w1 w2 before after i p) where
  abbrev f : Inode
  f = inode (view w0) i

  abbrev a : ℕ
  a = (inode (view w0) i).base / 4096

  abbrev b : ℕ
  b = p.base / 4096

  abbrev n : ℕ
  n = pages_of (inode (view w0) i)

  pub superblock : (w : ℕ) → w < 512 → word w2 w ≡ word w0 w
  superblock w lt = s.moves.superblock w lt ∙ s.grown.low w (omega arith)

  pub same_inodes : inode_count w2 ≡ inode_count w0
  same_inodes = superblock 3 (omega arith)

  pub size : length w2 ≡ length w0
  size = s.moves.exchanged.size ∙ s.moves.places.size ∙ s.grown.size

  -- ---- inodes

  word_stays : (j k : ℕ) → IsNumber (inode_count w0) j → k < 8 → (j ≡ i → k < 2) → inode_word (view w2) j k ≡ inode_word (view w0) j k
  word_stays j k number lt first =
      let to = number.to in
      let most = s.ready.inodes.1 in
      little-same (view w0) (view w2) (64 * j + 8 * k) (64 * j + 8 * k) 8 (λ m small. low s (64 * j + 8 * k + m) (omega arith) (elim (cases_eq j i) [
        | inl here ↦ let few = first here in inl (omega arith)
        | inr other ↦ elim (cases_lt j i) [ inl less ↦ inl (omega arith) | inr more ↦ inr (omega arith) ]
      ]))

  other_inode : (j : ℕ) → IsNumber (inode_count w0) j → j ≢ i → inode (view w2) j ≡ inode (view w0) j
  other_inode j number other =
      let kind = word_stays j 0 number (omega arith) (λ here. absurd (other here)) in
      let size = word_stays j 1 number (omega arith) (λ here. absurd (other here)) in
      let base = word_stays j 2 number (omega arith) (λ here. absurd (other here)) in
      let level = word_stays j 3 number (omega arith) (λ here. absurd (other here)) in
      λ e. record { kind = kind e; size = size e; base = base e; level = level e }

  kind_stays : (inode (view w2) i).kind ≡ f.kind
  kind_stays = word_stays i 0 s.live.number (omega arith) (λ here. omega arith)

  size_stays : (inode (view w2) i).size ≡ f.size
  size_stays = word_stays i 1 s.live.number (omega arith) (λ here. omega arith)

  -- an owner other than i owns what it owned
  owns_on : (j : ℕ) → j ≢ i → Owns (view w0) (inode_count w0) j → Owns (view w2) (inode_count w2) j
  owns_on j other o =
      let same = other_inode j o.live.number other in
      subst (λ (c : ℕ). Owns (view w2) c j) (sym same_inodes) (record {
        live = record { number = o.live.number; used = λ z. o.live.used (sym (ap (λ (x : Inode). x.kind) same) ∙ z) };
        level = omega (arith, ap (λ (x : Inode). x.level) same, o.level);
      })

  owns_new : Owns (view w2) (inode_count w2) i
  owns_new =
      subst (λ (c : ℕ). Owns (view w2) c i) (sym same_inodes) (record {
        live = record { number = s.live.number; used = λ z. s.live.used (sym kind_stays ∙ z) };
        level = omega (arith, level s, s.is_part.level);
      })

  part_new : part_of (view w2) i ≡ p
  part_new = let q = base s in let r = level s in λ e. record { base = q e; level = r e }

  -- ---- a page that no partition holds is absent

  module _ (q : ℕ) (high : 10 * 2 ^ 27 ≤ q) (out : (j : ℕ) → Owns (view w2) (inode_count w2) j → IsIn (part_of (view w2) j) (q * 4096) → ⊥) where
    not_new : IsIn p (q * 4096) → ⊥
    not_new inside = out i owns_new (subst (λ (x : Partition). IsIn x (q * 4096)) (sym part_new) inside)

    not_other : (j : ℕ) → j ≢ i → Owns (view w0) (inode_count w0) j → IsIn (part_of (view w0) j) (q * 4096) → ⊥
    not_other j other o inside = out j (owns_on j other o) (subst (λ (x : Inode). IsIn (part x) (q * 4096)) (sym (other_inode j o.live.number other)) inside)

    stayed : Outside a b n q → (Owns (view w0) (inode_count w0) i → IsIn (part f) (q * 4096) → ⊥) → page_at w2 4 q ≡ 0
    stayed outside not_mine =
        page_now s q ∙ ap (page_at w1 4) (partner-other a b n q outside) ∙ pages_stay s q (omega arith)
        ∙ absent s q high (λ j o inside. elim (cases_eq j i) [
          | inl here ↦ not_mine (subst (λ (k : ℕ). Owns (view w0) (inode_count w0) k) here o) (subst (λ (k : ℕ). IsIn (part_of (view w0) k) (q * 4096)) here inside)
          | inr other ↦ not_other j other o inside
        ])

    pub unmapped_now : page_at w2 4 q ≡ 0
    unmapped_now = elim (cases_eq f.level 15) [
      | inl is ↦
          let none = none_pages f is in
          stayed (record { first = λ le. omega (arith, none, le); second = λ le. omega (arith, none, le) }) (λ o inside. owned s o is)
      | inr some ↦
          let o = s.old some in
          let one = old_first o s.is_part in
          let two = new_first o s.is_part in
          let count = some_pages f some in
          let wide = narrower o s.is_part in
          let outside_new : b ≤ q → b + n ≤ q = λ le. elim (cases_lt q (b + n)) [
            | inl within ↦ absurd (not_new (record { from = omega (arith, two.start, le); to = omega (arith, two.start, within, count, wide) }))
            | inr past ↦ past
          ] in
          elim (cases_lt q a) [
            | inl below ↦ stayed (record { first = λ le. absurd (omega (arith, below, le)); second = outside_new }) (λ mine inside. omega (arith, inside.from, below, one.start))
            | inr from ↦ elim (cases_lt q (a + n)) [
              | inr past ↦ stayed (record { first = λ le. past; second = outside_new }) (λ mine inside. omega (arith, inside.to, past, one.start, count))
              | inl within ↦
                  let r = q - a + b in
                  let here : IsIn p (r * 4096) = record { from = omega (arith, two.start); to = omega (arith, two.start, within, count, wide, from) } in
                  let cell : r * 4096 / 4096 ≡ r = omega arith in
                  page_now s q ∙ ap (page_at w1 4) (partner-first a b n q from within) ∙ pages_stay s r (omega (arith, two.start, s.is_part.low))
                  ∙ sym (ap (page_at w0 4) cell) ∙ new_absent s (r * 4096) here
            ]
          ]
    ]

  -- ---- the staging slot

  slot_cell : page_at w0 1 2 ≡ 0
  slot_cell =
      let root : 2 / 512 ≡ 0 = refl in
      page_at-next w0 0 2 ∙ ap (λ t. next w0 t 2) (page_at-root w0) ∙ next-at w0 33 2 (omega arith) ∙ ap (named_page (page_count w0)) s.ready.unstaged ∙ named_page-zero (page_count w0)

  top_stays : (c : ℕ) → page_at w2 1 c ≡ page_at w1 1 c
  top_stays c = elim (cases_eq f.level 15) [
    | inl is ↦
        none_stays (subst (λ (m : ℕ). Rattle.ct_base.specs.Exchange.Exchanged s.moves.middle w2 a b m) (none_pages f is) s.moves.exchanged) 3 c (omega arith) ∙ s.moves.places.cells 1 c (omega arith)
    | inr some ↦
        let o = s.old some in
        high_stays (subst (λ (m : ℕ). Rattle.ct_base.specs.Exchange.Exchanged s.moves.middle w2 a b m) (some_pages f some) s.moves.exchanged) (blocks o s.is_part) (pages_apart o s.is_part) 3 c (omega arith) (omega (arith, o.smaller, s.is_part.level))
        ∙ s.moves.places.cells 1 c (omega arith)
  ]

  unstaged : word w2 16898 ≡ 0
  unstaged =
      let t = s.moves.exchanged.tables in
      let not_wanted = unwanted f p 1 2 (λ x on. (path_bounds p s.is_part x on).1) (omega arith) (λ some. inr (omega (arith, (s.old some).own.low), omega (arith, s.is_part.low))) in
      let gone : page_at w2 1 2 ≡ 0 = top_stays 2 ∙ s.grown.cells 1 2 (omega arith) not_wanted ∙ slot_cell in
      let root = page_at-root w2 in
      let entry : next w2 (page_at w2 0 0) 2 ≡ 0 = sym (page_at-next w2 0 2) ∙ gone in
      ap (λ t. word w2 (t * 512 + 2)) (sym root) ∙ t.entries 0 0 2 (omega arith) (omega arith) (λ z. omega (arith, root, z)) entry

  -- ---- the rules

  space_now : HasSpace (view w2) (inode_count w2)
  space_now = subst (λ (c : ℕ). HasSpace (view w2) c) (sym same_inodes) (space_stays (grows s))

  rules_now : (r : Rule) → number r ≤ 16 → HoldsAt w2 r
  rules_now entries le = λ d x j ld lt seen. s.moves.exchanged.tables.entries d x j ld lt
  rules_now once le = λ d x e y ld lf seen seen'. s.moves.exchanged.tables.once d x e y ld lf
  rules_now inodes le = space_now.inodes
  rules_now placed le = space_now.placed
  rules_now apart le = space_now.apart
  rules_now tails le = space_now.tails
  rules_now mapped le = λ q high out. unmapped_now q high out
  rules_now headers le = space_now.headers
  rules_now rest le = space_now.rest
  rules_now slots le = absurd (omega arith)
  rules_now names le = absurd (omega arith)
  rules_now named le = absurd (omega arith)
  rules_now reached le = absurd (omega arith)

  pub ready_now : IsShut w2 → IsReady w2
  ready_now shut = record {
    tables = s.moves.exchanged.tables;
    shut = shut;
    unstaged = unstaged;
    rules = rules_now;
    inodes = (omega (arith, same_inodes, s.ready.inodes.0), omega (arith, same_inodes, s.ready.inodes.1));
  }

  -- ---- the promise

  staged_walk : (v : ℕ) → 3 * 2 ^ 39 ≤ v → v < 10 * 2 ^ 39 → walk w2 v ≡ walk w0 v
  staged_walk v from to =
      let q = v / 4096 in
      walk-cell w2 v (omega arith) ∙ page_now s q ∙ ap (page_at w1 4) (partner-other a b n q (out_low s q (omega arith))) ∙ pages_stay s q (omega arith) ∙ sym (walk-cell w0 v (omega arith))

  pub promoted : Promoted w0 w2 i p
  promoted = record {
    base = base s;
    level = level s;
    kind = kind_stays;
    size = size_stays;
    walks = λ o v lt. walk_brought s (owned s o) v lt;
    content = moved s;
    given = given s;
    headers = space_now.headers;
    others = others_all s;
    objects = ap (objects (view w2)) same_inodes ∙ objects_stay (grows s);
    staged_walks = staged_walk;
    staged_bytes = λ v from to. byte_out s v (omega arith) (out_low s (v / 4096) (omega arith)) ∙ byte_middle s v (omega arith) (unwritten s v (omega arith));
    superblock = superblock;
    length = size;
  }
