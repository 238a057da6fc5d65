-- A device that landed on a tree, once it settled: its tables are well formed, and its headers stand for its partitions.
use Rattle.std.proofs.Common.{◌≡◌, ◌≢◌, ℕ, ◌+◌, ◌*◌, List, sym, ap, subst, ◌∙◌, inl, inr, arith}
use Rattle.ct_base.specs.Headers.{StandFor}
use Rattle.ct_base.specs.Inode.{Partition, live_parts}
use Rattle.ct_base.specs.Rules.{placed, apart, headers}
use Rattle.ct_base.specs.Settled.{HasPages, settled}
use Rattle.ct_base.specs.View.{inode_count, view}
use Rattle.ct_base.specs.Walk.{AreTables, next, page_at, page_count, word}
use Rattle.ct_image.proofs.Steps.{next-same, page_at-low}
use Rattle.ct_parts.proofs.Live.{live_stand}
use Rattle.ct_pm.specs.Device.{SameOff}
use Rattle.ct_record.specs.Record.{InRecord}
use Rattle.ct_state.proofs.Settle.{AgreeOffRecord, alike_off, cells_off, settled_unstaged}
use Rattle.ct_state.proofs.Whole.{whole_of}
use Rattle.ct_tree.specs.Lands.{Lands}
use Rattle.ct_tree.specs.Tree.{Tree}

agree : {f g : List ℕ} → SameOff InRecord g f → AgreeOffRecord f g
agree {f} {g} same = record { words = λ w off. same.others w (λ within. elim off [ inl low ↦ omega (arith, within.0, low) | inr high ↦ omega (arith, within.1, high) ]); size = same.size }

pub rested_tables : {img now : List ℕ} {t : Tree} → Lands img t → SameOff InRecord now (settled img) → HasPages now → AreTables now
rested_tables {img} {now} lands same pages =
    let f = settled img in
    let a = agree same in
    let count : page_count now ≡ page_count f = a.words 2 (inl (omega arith)) in
    let was = (whole_of f (settled_unstaged img) (omega (arith, count, pages.0)) (omega (arith, count, pages.1, a.size)) lands.sound).tables in
    let cell : (d x : ℕ) → page_at now d x ≡ page_at f d x = λ d x. cells_off a d x in
    record {
      some = pages.0;
      there = pages.1;
      entries = λ d x i le lt ne gone.
          let ne_was : page_at f d x ≢ 0 = λ z. ne (cell d x ∙ z) in
          let low = page_at-low f d x ne_was in
          let here : word now (page_at f d x * 512 + i) ≡ word f (page_at f d x * 512 + i) = a.words (page_at f d x * 512 + i) (inr (omega (arith, low))) in
          let gone_was : next f (page_at f d x) i ≡ 0 = sym (next-same f now (page_at f d x) i count (λ _. here)) ∙ ap (λ p. next now p i) (sym (cell d x)) ∙ gone in
          ap (λ p. word now (p * 512 + i)) (cell d x) ∙ here ∙ was.entries d x i le lt ne_was gone_was;
      once = λ d x e y le lf ne is. was.once d x e y le lf (λ z. ne (cell d x ∙ z)) (sym (cell d x) ∙ is ∙ cell e y);
    }

-- the live partitions, as the settled image has them
abbrev pub rested_parts : List ℕ → List Partition
rested_parts img = live_parts (view (settled img)) (inode_count (settled img))

pub rested_stand : {img now : List ℕ} {t : Tree} → Lands img t → SameOff InRecord now (settled img) → StandFor (view now) (rested_parts img)
rested_stand {img} {now} lands same =
    let f = settled img in
    subst (λ b. StandFor b (live_parts (view f) (inode_count f))) (sym (alike_off (agree same)).bytes)
    (live_stand (view f) (inode_count f) (lands.sound placed) (lands.sound apart) (lands.sound headers))
