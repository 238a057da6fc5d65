use Rattle.std.proofs.Common.{◌≡◌, ◌/◌, ◌^◌, ℕ, List, sym, subst, inl, inr, arith}
use Rattle.std.proofs.lemmas.Bool.{eq-eqb}
use Rattle.ct_base.specs.Exchange.{Apart}
use Rattle.ct_base.specs.Pieces.{pieces}
use Rattle.ct_image.proofs.Exchanging.{exchanged_none}
use Rattle.ct_record.specs.Seen.{drafted, words_under}
use Rattle.ct_record.proofs.Chain.{drafts_here}
use Rattle.ct_parts.proofs.Lengths.{pow8_small}
use Rattle.ct_grow.proofs.Apart.{old_high, new_high, pages_apart, few_at, tables_at}
use Rattle.ct_base.specs.Settled.{Pair, Named}
use Rattle.ct_record.specs.Seen.{pairs_of}
use Rattle.ct_swap.specs.Swap.{swap_pairs}
use Rattle.ct_grow.proofs.Spared.{named_append, swaps_spare}
use Rattle.ct_grow.proofs.draft.move_pages.Given.{Over}
use Rattle.ct_grow.proofs.draft.move_pages.Goals as goal

pub returns-then-old-eq-NO_PARTITION-clause-exchanged : goal.returns-then-old-eq-NO_PARTITION-clause-exchanged
returns-then-old-eq-NO_PARTITION-clause-exchanged g c = rw (eq-eqb c.args.old.level 15 c.if-old-eq-NO_PARTITION.true) (exchanged_none (drafted c.args.draft.now) (c.args.old.base / 4096) (c.args.base / 4096) c.requires.after)

pub returns-then-old-eq-NO_PARTITION-clause-drafts : goal.returns-then-old-eq-NO_PARTITION-clause-drafts
returns-then-old-eq-NO_PARTITION-clause-drafts g c = drafts_here c.args.draft.now

pub pow-pages-requires : goal.pow-pages-requires
pow-pages-requires g c =
    let o = c.requires.has c.if-old-eq-NO_PARTITION.false in
    omega (arith, pow8_small c.args.old.level o.own.level)

module _ (g : Over) (c : goal.After-get g) where
  first : c.get.result ≡ c.args.base
  first = c.get.ensures.value

  count : c.pow-pages.result ≡ 8 ^ c.args.old.level
  count = c.pow-pages.ensures

pub pswap-requires-clause-first : goal.pswap-requires-clause-first
pswap-requires-clause-first g c = omega (arith, old_high (c.requires.has c.if-old-eq-NO_PARTITION.false) c.requires.new, count g c)

pub pswap-requires-clause-second : goal.pswap-requires-clause-second
pswap-requires-clause-second g c = omega (arith, new_high (c.requires.has c.if-old-eq-NO_PARTITION.false) c.requires.new, count g c, first g c)

pub pswap-requires-clause-apart : goal.pswap-requires-clause-apart
pswap-requires-clause-apart g c =
    subst (λ (n : ℕ). Apart (c.args.old.base / 4096) (c.get.result / 4096) n) (sym (count g c))
    (subst (λ (v : ℕ). Apart (c.args.old.base / 4096) (v / 4096) (8 ^ c.args.old.level)) (sym (first g c)) (pages_apart (c.requires.has c.if-old-eq-NO_PARTITION.false) c.requires.new))

pub pswap-requires-clause-there : goal.pswap-requires-clause-there
pswap-requires-clause-there g c = tables_at (c.requires.has c.if-old-eq-NO_PARTITION.false) c.requires.new c.get.result c.pow-pages.result c.get.ensures.value c.pow-pages.ensures

pub pswap-requires-clause-room : goal.pswap-requires-clause-room
pswap-requires-clause-room g c = omega (arith, (few_at (c.requires.has c.if-old-eq-NO_PARTITION.false) c.requires.new c.get.result c.pow-pages.result c.get.ensures.value c.pow-pages.ensures), c.requires.count)

pub returns-clause-count : goal.returns-clause-count
returns-clause-count g c = omega (arith, (few_at (c.requires.has c.if-old-eq-NO_PARTITION.false) c.requires.new c.get.result c.pow-pages.result c.get.ensures.value c.pow-pages.ensures), c.requires.count, c.in_ok-pswap.ensures.count)

pub returns-then-old-eq-NO_PARTITION-clause-spare : goal.returns-then-old-eq-NO_PARTITION-clause-spare
returns-then-old-eq-NO_PARTITION-clause-spare g c w named = inl named

pub returns-clause-spare : goal.returns-clause-spare
returns-clause-spare g c w named =
    let img = words_under c.args.draft.now in
    let o = c.requires.has c.if-old-eq-NO_PARTITION.false in
    let a = c.args.old.base / 4096 in
    let b = c.get.result / 4096 in
    elim (named_append (swap_pairs img (c.args.old.base / 4096) (c.get.result / 4096) (pieces (c.args.old.base / 4096) (c.get.result / 4096) c.pow-pages.result)) (pairs_of c.args.draft.now) w
    (subst (λ (l : List Pair). Named l w) c.in_ok-pswap.ensures.pairs named)) [
      | inl swap ↦ inr (swaps_spare img (c.args.old.base / 4096) (c.get.result / 4096) (pieces (c.args.old.base / 4096) (c.get.result / 4096) c.pow-pages.result) c.requires.tables
          (tables_at o c.requires.new c.get.result c.pow-pages.result c.get.ensures.value c.pow-pages.ensures) w swap)
      | inr old ↦ inl old
    ]
