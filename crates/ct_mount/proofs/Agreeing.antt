-- Images that settle to the same words, those of the record aside, are of one state, whatever rules fail on them.
use Rattle.std.proofs.Common.{◌≡◌, ◌≢◌, ℕ, ◌+◌, ◌*◌, List, sym, ap, ◌∙◌, subst, inl, inr, arith}
use Rattle.ct_base.specs.Objects.{objects}
use Rattle.ct_base.specs.Rules.{Rule, entries, once, inodes, placed, apart, tails, mapped, headers, rest, slots, names, named, reached, HoldsAt, AreInodes, ArePlaced, ArePartsApart, AreTailsZero, AreHeaders, IsMappedInParts, IsRestZero, AreEntries, AreNamesApart, AreNamed, AreReached}
use Rattle.ct_base.specs.Settled.{settled, IsRecord}
use Rattle.ct_base.specs.State.{SameState}
use Rattle.ct_base.specs.View.{view, inode_count}
use Rattle.ct_base.specs.Walk.{word, next, page_at}
use Rattle.ct_image.proofs.Steps.{next-same, page_at-low}
use Rattle.ct_pm.specs.Device.{SameOff}
use Rattle.ct_record.specs.Record.{InRecord, SettlesTo}
use Rattle.ct_record.proofs.Lawful.{settles_head}
use Rattle.ct_state.proofs.Settle.{AgreeOffRecord, alike_off, cells_off}
use Rattle.ct_state.proofs.States.{SameHead, head_on}

pub agree_back : {f g : List ℕ} → AgreeOffRecord f g → AgreeOffRecord g f
agree_back a = record { words = λ w out. sym (a.words w out); size = sym a.size }

pub off_agree : {f g : List ℕ} → SameOff InRecord g f → AgreeOffRecord f g
off_agree same = record {
  words = λ w side. same.others w (λ inside. elim side [ inl low ↦ omega (arith, low, inside.0) | inr high ↦ omega (arith, high, inside.1) ]);
  size = same.size;
}

module _ {f g : List ℕ} (a : AgreeOffRecord f g) where
  -- what holds of the bytes of the one holds of those of the other
  along : (P : (ℕ → ℕ) → ℕ → Type 0) → P (view f) (inode_count f) → P (view g) (inode_count g)
  along P h = subst (λ n. P (view g) n) (sym (alike_off a).inodes) (subst (λ b. P b (inode_count f)) (sym (alike_off a).bytes) h)

  off_entries : HoldsAt f entries → HoldsAt g entries
  off_entries h d x i deep low seen there none =
      let cell = cells_off a d x in
      let some : page_at f d x ≢ 0 = λ z. there (cell ∙ z) in
      let on = page_at-low f d x some in
      let at : word g (page_at f d x * 512 + i) ≡ word f (page_at f d x * 512 + i) = a.words (page_at f d x * 512 + i) (inr (omega (arith, on))) in
      let step : next g (page_at f d x) i ≡ next f (page_at f d x) i = next-same f g (page_at f d x) i (a.words 2 (inl (omega arith))) (λ ne. at) in
      ap (λ t. word g (t * 512 + i)) cell ∙ at ∙ h d x i deep low seen some (sym step ∙ sym (ap (λ t. next g t i) cell) ∙ none)

  off_once : HoldsAt f once → HoldsAt g once
  off_once h d x e y deep deep_too seen seen_too there same =
      h d x e y deep deep_too seen seen_too (λ z. there (cells_off a d x ∙ z)) (sym (cells_off a d x) ∙ same ∙ cells_off a e y)

  off_mapped : HoldsAt f mapped → HoldsAt g mapped
  off_mapped h = along (λ b n. IsMappedInParts g b n) (λ p low out. cells_off a 4 p ∙ h p low out)

  pub off_rule : (r : Rule) → HoldsAt f r → HoldsAt g r
  off_rule entries h = off_entries h
  off_rule once h = off_once h
  off_rule mapped h = off_mapped h
  off_rule inodes h = along AreInodes h
  off_rule placed h = along ArePlaced h
  off_rule apart h = along ArePartsApart h
  off_rule tails h = along AreTailsZero h
  off_rule headers h = along AreHeaders h
  off_rule rest h = along IsRestZero h
  off_rule slots h = along (λ b n. AreEntries (objects b n)) h
  off_rule names h = along (λ b n. AreNamesApart (objects b n)) h
  off_rule named h = along (λ b n. AreNamed (objects b n)) h
  off_rule reached h = along (λ b n. AreReached (objects b n)) h

head_back : {f g : List ℕ} → SameHead f g → SameHead g f
head_back s = record { lawful = s.lawful_too; lawful_too = s.lawful; words = λ w lt. sym (s.words w lt); size = sym s.size }

pub agree_state : {f g : List ℕ} → SameHead f g → AgreeOffRecord (settled f) (settled g) → SameState f g
agree_state h a = record {
  bytes = (alike_off a).bytes;
  inodes = (alike_off a).inodes;
  head = λ r. (head_on h r, head_on (head_back h) r);
  rules = λ r. (off_rule a r, off_rule (agree_back a) r);
}

-- page 0 stays
pub settles_same_head : {was image : List ℕ} → IsRecord was → IsRecord image → SettlesTo was image → SameHead was image
settles_same_head {was} {image} lawful is settles =
    let keeps = settles_head was image lawful is settles in
    record { lawful = lawful; lawful_too = is; words = keeps.head; size = keeps.size }

-- what settles as words with a lawful record do
pub settles_state : {was image : List ℕ} → IsRecord was → IsRecord image → SettlesTo was image → SameState was image
settles_state lawful is settles = agree_state (settles_same_head lawful is settles) (off_agree settles)
