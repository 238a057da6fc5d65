-- Two ranges of bytes of files that may change places, and what that asks for.
use Rattle.std.specs.Prelude.{◌≡◌, ℕ, ◌+◌, ◌/◌, ◌%◌, ◌≤◌, ◌==◌, if◌then◌else◌, List, []}
use Rattle.ct_base.specs.declared.inode.Inode.{Inode}
use Rattle.ct_base.specs.Exchange.{Apart}
use Rattle.ct_base.specs.Inode.{inode}
use Rattle.ct_base.specs.Rules.{Owns}
use Rattle.ct_base.specs.View.{view, inode_count}
use Rattle.ct_base.specs.Wants.{Want}
use Rattle.ct_base.specs.declared.layout.TheConstants.{FILE_KIND, PAGE_BYTES}
use Rattle.ct_plan.specs.Few.{few_both_wants}
use Rattle.ct_tree.specs.Step.{exchange_limit}
use Rattle.ct_exchange.specs.declared.plan.Ranges.{Ranges}

-- the virtual page at an offset of an object
abbrev pub page_of : Inode → ℕ → ℕ
page_of f off = (f.base + off) / PAGE_BYTES

-- Files i and j have partitions, and len bytes from an offset of each on are whole pages within their sizes, not too many. Two
-- ranges of one file do not meet.
pub record CanExchange (img : List ℕ) (i off j other len : ℕ) : Type 0 where
  pub first : Owns (view img) (inode_count img) i
  pub second : Owns (view img) (inode_count img) j
  pub file : (inode (view img) i).kind ≡ FILE_KIND
  pub other_file : (inode (view img) j).kind ≡ FILE_KIND
  pub some : 1 ≤ len
  pub start : off % PAGE_BYTES ≡ 0
  pub other_start : other % PAGE_BYTES ≡ 0
  pub whole : len % PAGE_BYTES ≡ 0
  pub fits : off + len ≤ (inode (view img) i).size
  pub other_fits : other + len ≤ (inode (view img) j).size
  pub apart : i ≡ j → Apart off other len
  pub few : len ≤ exchange_limit

-- the ranges may change places
abbrev pub AreApart : List ℕ → Ranges → Type 0
AreApart img r = CanExchange img r.first r.off r.second r.other_off r.len

-- the first page of each
abbrev pub first_page : List ℕ → Ranges → ℕ
first_page img r = page_of (inode (view img) r.first) r.off

abbrev pub second_page : List ℕ → Ranges → ℕ
second_page img r = page_of (inode (view img) r.second) r.other_off

-- the tables on both sides; no bytes ask for nothing
abbrev pub wants_of : List ℕ → Ranges → List Want
wants_of img r = if r.len == 0 then [] else few_both_wants (first_page img r) (second_page img r) (r.len / PAGE_BYTES)
