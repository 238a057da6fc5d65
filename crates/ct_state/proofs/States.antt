-- When two images settle to one state, and what follows from it.
use Rattle.std.proofs.Common.{◌≡◌, ℕ, ◌<◌, List, length, refl, sym, ap, ◌∙◌, subst, inl, inr, arith}
use Rattle.ct_base.specs.Head.{HeadRule, HeadHolds, size, magic, version, count, inodes, spare, gates, targets}
use Rattle.ct_base.specs.Objects.{objects}
use Rattle.ct_base.specs.Rules.{IsMappedInParts}
use Rattle.ct_base.specs.Settled.{settled, IsRecord}
use Rattle.ct_base.specs.State.{SameState}
use Rattle.ct_base.specs.View.{view, inode_count}
use Rattle.ct_base.specs.Walk.{word}
use Rattle.ct_image.proofs.Beside.{Beside, beside_tables}
use Rattle.ct_tree.specs.Lands.{HasHead, Lands}
use Rattle.ct_tree.specs.Stands.{Stands}
use Rattle.ct_tree.specs.Tree.{Tree}
use Rattle.ct_state.specs.Alike.{Alike, IsWhole}
use Rattle.ct_state.proofs.Carry.{alike_back, carry}
use Rattle.ct_state.proofs.Settle.{AgreeOffRecord, alike_off, cells_off}

pub state_here : (f : List ℕ) → SameState f f
state_here f = record { bytes = refl; inodes = refl; head = λ r. (λ h. h, λ h. h); rules = λ r. (λ h. h, λ h. h) }

pub state_then : {f g h : List ℕ} → SameState f g → SameState g h → SameState f h
state_then s t = record {
  bytes = t.bytes ∙ s.bytes;
  inodes = t.inodes ∙ s.inodes;
  head = λ r. (λ h. (t.head r).0 ((s.head r).0 h), λ h. (s.head r).1 ((t.head r).1 h));
  rules = λ r. (λ h. (t.rules r).0 ((s.rules r).0 h), λ h. (s.rules r).1 ((t.rules r).1 h));
}

-- the head rules hold exactly where the head is in order
pub head_rules : {img : List ℕ} → HasHead img → (r : HeadRule) → HeadHolds img r
head_rules h size = h.pages
head_rules h magic = h.magic
head_rules h version = h.version
head_rules h count = h.count
head_rules h inodes = h.inodes
head_rules h spare = h.spare
head_rules h gates = (h.recorded.long, h.recorded.short, h.recorded.one)
head_rules h targets = (h.recorded.long_targets, h.recorded.short_targets)

pub head_of : {img : List ℕ} → ((r : HeadRule) → HeadHolds img r) → HasHead img
head_of h = record {
  pages = h size;
  magic = h magic;
  version = h version;
  count = h count;
  inodes = h inodes;
  spare = h spare;
  recorded = record { long = (h gates).0; short = (h gates).1; one = (h gates).2; long_targets = (h targets).0; short_targets = (h targets).1 };
}

-- an image of the same state lands on the same tree
pub state_lands : {f g : List ℕ} {t : Tree} → SameState f g → Lands f t → Lands g t
state_lands {f} {g} {t} s lands = record {
  head = head_of (λ r. (s.head r).0 (head_rules lands.head r));
  sound = λ r. (s.rules r).0 (lands.sound r);
  stands = subst (λ fs. Stands fs 1 t) (ap (λ b. objects b (inode_count (settled f))) (sym s.bytes) ∙ ap (objects (view (settled g))) (sym s.inodes)) lands.stands;
}

-- page 0 is the same, and both records are as they may be
pub record SameHead (f g : List ℕ) : Type 0 where
  pub lawful : IsRecord f
  pub lawful_too : IsRecord g
  pub words : (w : ℕ) → w < 512 → word g w ≡ word f w
  pub size : length g ≡ length f

pub head_on : {f g : List ℕ} → SameHead f g → (r : HeadRule) → HeadHolds f r → HeadHolds g r
head_on s size h = (omega (arith, h.0, s.size), omega (arith, h.1, s.size))
head_on s magic h = s.words 0 (omega arith) ∙ h
head_on s version h = s.words 1 (omega arith) ∙ h
head_on s count h = (omega (arith, h.0, s.words 2 (omega arith)), omega (arith, h.1, s.words 2 (omega arith), s.size))
head_on s inodes h = (omega (arith, h.0, s.words 3 (omega arith)), omega (arith, h.1, s.words 3 (omega arith)))
head_on s spare h = λ w four lt. s.words w lt ∙ h w four lt
head_on s gates h = (s.lawful_too.long, s.lawful_too.short, s.lawful_too.one)
head_on s targets h = (s.lawful_too.long_targets, s.lawful_too.short_targets)

head_back : {f g : List ℕ} → SameHead f g → SameHead g f
head_back s = record { lawful = s.lawful_too; lawful_too = s.lawful; words = λ w lt. sym (s.words w lt); size = sym s.size }

-- images that settle to the same bytes in well formed tables
pub alike_state : {f g : List ℕ} → SameHead f g → Alike (settled f) (settled g) → IsWhole (settled f) → IsWhole (settled g) → SameState f g
alike_state h a wf wg = record {
  bytes = a.bytes;
  inodes = a.inodes;
  head = λ r. (head_on h r, head_on (head_back h) r);
  rules = λ r. (carry r a wg, carry r (alike_back a) wf);
}

pub off_beside : {f g : List ℕ} → AgreeOffRecord f g → Beside f g
off_beside a = record { size = a.size; front = λ w lt. a.words w (inl lt); back = λ w le. a.words w (inr le) }

pub off_whole : {f g : List ℕ} → AgreeOffRecord f g → IsWhole f → IsWhole g
off_whole {f} {g} a w = record {
  tables = beside_tables (off_beside a) w.tables;
  mapped = subst (λ b. IsMappedInParts g b (inode_count g)) (sym (alike_off a).bytes) (subst (λ c. IsMappedInParts g (view f) c) (sym (alike_off a).inodes)
      (λ p low out. cells_off a 4 p ∙ w.mapped p low out));
}

-- images that settle to the same words, those of the record aside
pub off_state : {f g : List ℕ} → SameHead f g → AgreeOffRecord (settled f) (settled g) → IsWhole (settled f) → SameState f g
off_state h a w = alike_state h (alike_off a) w (off_whole a w)
