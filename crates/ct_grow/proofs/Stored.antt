-- No step of growth stores on a page of a live file.
use Rattle.std.proofs.Common.{◌≡◌, ◌≢◌, ℕ, ◌+◌, ◌*◌, ◌/◌, ◌^◌, ◌<◌, ◌≤◌, List, sym, subst, ◌∙◌, inl, inr, arith}
use Rattle.std.specs.Prelude.{Option}
use Rattle.std.proofs.lemmas.Bool.{cases_lt}
use Rattle.ct_base.specs.Exchange.{partner}
use Rattle.ct_base.specs.Inode.{inode, Partition}
use Rattle.ct_base.specs.Plan.{growth_wants}
use Rattle.ct_base.specs.Rules.{ArePlaced, placed}
use Rattle.ct_base.specs.Settled.{settled}
use Rattle.ct_base.specs.Spares.{SparesFiles}
use Rattle.ct_base.specs.View.{view, inode_count}
use Rattle.ct_base.specs.Walk.{page_at}
use Rattle.ct_frames.specs.Agrees.{Agrees}
use Rattle.ct_frames.specs.Free.{FreePages}
use Rattle.ct_image.proofs.Partner.{partner-first, partner-second, partner-other}
use Rattle.ct_pm.specs.Images.{History}
use Rattle.ct_pm.specs.Device.{LeavesOnly, MakesOnly, StoresOver}
use Rattle.ct_pm.proofs.Over.{stores_over}
use Rattle.ct_record.proofs.Settles.{same_refl}
use Rattle.ct_walk.specs.Growth.{Grown, MayGrow}
use Rattle.ct_commit.specs.Closed.{IsClosed}
use Rattle.ct_commit.proofs.Pages.{file_page, settles_page}
use Rattle.ct_grow.specs.Grown.{pages_of}
use Rattle.ct_grow.proofs.Carried.{Making, made_alike, made_page, made_shut, made_whole}
use Rattle.ct_grow.proofs.Moved.{Grew, none_pages}

-- the partner of a page past a limit is past it, where both ranges are
partner_from : (limit a b n q : ℕ) → (0 < n → (limit ≤ a) × (limit ≤ b)) → limit ≤ q → limit ≤ partner a b n q
partner_from limit a b n q some high = elim (cases_lt q a) [
  | inl below ↦ rest (λ le. absurd (omega arith))
  | inr from ↦ elim (cases_lt q (a + n)) [
    | inl within ↦ let both = some (omega arith) in omega (arith, partner-first a b n q from within, both.1)
    | inr past ↦ rest (λ le. past)
  ]
]
  where
    rest : (a ≤ q → a + n ≤ q) → limit ≤ partner a b n q
    rest out = elim (cases_lt q b) [
      | inl below ↦ omega (arith, high, partner-other a b n q (record { first = out; second = λ le. absurd (omega arith) }))
      | inr from ↦ elim (cases_lt q (b + n)) [
        | inl within ↦ let both = some (omega arith) in omega (arith, partner-second a b n q out from within, both.0)
        | inr past ↦ omega (arith, high, partner-other a b n q (record { first = out; second = λ le. past }))
      ]
    ]

pub partner_high : {w0 w1 w2 : List ℕ} {before after : FreePages} {i : ℕ} {p : Partition} → Grew w0 w1 w2 before after i p → (q : ℕ) → 10 * 2 ^ 27 ≤ q
    → 10 * 2 ^ 27 ≤ partner ((inode (view w0) i).base / 4096) (p.base / 4096) (pages_of (inode (view w0) i)) q
partner_high {w0} {i = i} {p = p} s q high =
    partner_from (10 * 2 ^ 27) ((inode (view w0) i).base / 4096) (p.base / 4096) (pages_of (inode (view w0) i)) q (λ more.
    let some : (inode (view w0) i).level ≢ 15 = λ is. omega (arith, more, none_pages (inode (view w0) i) is) in
    (omega (arith, (s.old some).own.low), omega (arith, s.is_part.low))) high

-- ---- while pages are made

module _ {w0 : List ℕ} {i : ℕ} {p : Partition} (m : Making w0 i p) where
  made_placed : {image : List ℕ} {before after : FreePages} → Grown w0 image (growth_wants (inode (view w0) i) p) before after → ArePlaced (view image) (inode_count image)
  made_placed {image} g =
      subst (λ b. ArePlaced b (inode_count image)) (sym (made_alike m g).bytes) (subst (λ (c : ℕ). ArePlaced (view w0) c) (sym (made_alike m g).inodes) (m.ready.rules placed (omega arith)))

  pub made_closed : {image : List ℕ} {before after : FreePages} → Grown w0 image (growth_wants (inode (view w0) i) p) before after → IsClosed image
  made_closed g = record { shut = made_shut m g; whole = made_whole m g; placed = made_placed g }

  making_spares : {before after : FreePages} → Agrees w0 before → (image : List ℕ) (word value : ℕ) → Grown w0 image (growth_wants (inode (view w0) i) p) before after → MayGrow w0 (growth_wants (inode (view w0) i) p) before after word
      → SparesFiles image word value
  making_spares agrees image word value g may file =
      let at = file_page (made_closed g) (settles_page image (made_closed g) (same_refl (settled image)) file) in
      let here : page_at w0 4 at.number ≡ word / 512 = sym (made_page m g at.number at.high) ∙ at.is in
      elim may [
        | inl taken ↦ agrees.free (word / 512) taken.was 4 at.number (omega arith) here
        | inr gap ↦
            let few = gap.few in
            let same : page_at w0 gap.depth gap.number ≡ page_at w0 4 at.number = omega (arith, gap.is, gap.small, here) in
            omega (arith, (m.ready.tables.once gap.depth gap.number 4 at.number (omega arith) (omega arith) gap.there same).0, few)
      ]

  pub making_stores : {start told : Option History} {before after : FreePages} → Agrees w0 before → LeavesOnly start told (λ image. Grown w0 image (growth_wants (inode (view w0) i) p) before after)
      → MakesOnly (λ at put. MayGrow w0 (growth_wants (inode (view w0) i) p) before after at) start told → StoresOver SparesFiles start told
  making_stores agrees images made = stores_over SparesFiles (making_spares agrees) images made
