-- The record of a new entry: what it makes, and what it spares.
use Rattle.std.proofs.Common.{◌≡◌, ℕ, ◌/◌, ◌<◌, List, get_or, ◌∙◌, inl, inr, arith}
use Rattle.std.specs.Prelude.{◌⊎◌}
use Rattle.ct_base.specs.declared.inode.Inode.{Inode}
use Rattle.ct_base.specs.Free.{IsFilePage}
use Rattle.ct_image.proofs.Beside.{Beside, beside_cells, beside_tables, beside_words}
use Rattle.ct_record.proofs.Under.{under_beside}
use Rattle.ct_tree.specs.Lands.{files}
use Rattle.ct_commit.specs.Made.{IsStable, Settles, Spares}
use Rattle.ct_commit.specs.Rest.{IsAtRest}
use Rattle.ct_commit.proofs.Landed.{rest_spares, same_as}
use Rattle.ct_enter.specs.Landing.{EntersOrNot}
use Rattle.ct_enter.specs.Entry.{IsEntryWord, IsFreeInode, IsSpot, WritesEntry}
use Rattle.ct_enter.proofs.Entered.{has_entry}
use Rattle.ct_enter.proofs.Entering.{Enters, spot_there}
use Rattle.ct_enter.proofs.Spared.{entry_page, word_spares}

-- words at rest, and the entry that they are asked for
pub record IsAsked (was : List ℕ) (dir : ℕ) (f : Inode) (offset : ℕ) (name : List ℕ) (number kind : ℕ) : Type 0 where
  pub rest : IsAtRest was
  pub spot : IsSpot was dir f offset name
  pub unused : IsFreeInode was number
  pub sort : (kind ≡ 1) ⊎ (kind ≡ 2)

-- words that no table holds may differ
writes_beside : {old mid new : List ℕ} {dir : ℕ} {f : Inode} {offset : ℕ} {name : List ℕ} {number kind : ℕ} → WritesEntry old mid dir f offset name number kind → Beside mid new → WritesEntry old new dir f offset name number kind
writes_beside w b = record {
  named = w.named;
  sized = w.sized;
  slot = w.slot;
  size = w.size;
  object = record {
    tables = beside_tables b w.object.tables;
    cells = λ d x le. beside_cells b d x ∙ w.object.cells d x le;
    words = λ a. beside_words b a ∙ w.object.words a;
    head = λ word lt. b.front word lt ∙ w.object.head word lt;
    size = b.size ∙ w.object.size;
  };
}

enters_by : {was new : List ℕ} {dir : ℕ} {f : Inode} {offset : ℕ} {name : List ℕ} {number kind : ℕ} → IsAsked was dir f offset name number kind → ((k : ℕ) → get_or name k 0 < 256) → WritesEntry was new dir f offset name number kind
    → Enters was new dir f offset name number kind
enters_by a small writes = record { rest = a.rest; spot = a.spot; unused = a.unused; sort = a.sort; small = small; writes = writes }

-- what its record makes: the words of the entry, whose name is bytes
abbrev pub Written : ℕ → Inode → ℕ → List ℕ → ℕ → ℕ → List ℕ → List ℕ → Type 0
Written dir f offset name number kind was new = WritesEntry was new dir f offset name number kind × ((k : ℕ) → get_or name k 0 < 256)

pub written_stable : (dir : ℕ) (f : Inode) (offset : ℕ) (name : List ℕ) (number kind : ℕ) → IsStable (Written dir f offset name number kind)
written_stable dir f offset name number kind was new done has same = (writes_beside has.0 (under_beside new done same), has.1)

module _ {was : List ℕ} {dir : ℕ} {f : Inode} {offset : ℕ} {name : List ℕ} {number kind : ℕ} (a : IsAsked was dir f offset name number kind) where
  pub entered : (new : List ℕ) → Written dir f offset name number kind was new → Enters was new dir f offset name number kind
  entered new has = enters_by a has.1 has.0

  named_off : (word : ℕ) → IsEntryWord was dir f offset number word → IsFilePage was (word / 512) → ⊥
  named_off word named is = word_spares a.rest a.spot number word (omega (arith, a.unused.counted.to, a.rest.head.inodes.1)) a.unused.there (spot_there a.rest a.spot) named is

  pub entry_spares : Spares was (Written dir f offset name number kind was) (IsEntryWord was dir f offset number)
  entry_spares = rest_spares a.rest (λ new has shut. (has_entry (entered new has) shut).rest) named_off (λ new has page is. entry_page (entered new has) is)

  pub entry_settles : Settles was (Written dir f offset name number kind was) (EntersOrNot (files was) dir name kind)
  entry_settles = record {
    before = λ image same. inl (same_as a.rest same);
    after = λ new has shut image same.
        let e = has_entry (entered new has) shut in
        inr (record { after = files new; lands = same_as e.rest same; node = λ xs t tree stands leads. (e.stands xs t (record { tree = tree; stands = stands }) leads).stands });
  }
