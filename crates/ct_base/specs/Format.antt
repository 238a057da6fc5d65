-- The image of an empty tree.
use Rattle.std.specs.Prelude.{◌≡◌, ℕ, ◌*◌, ◌<◌, ◌≤◌, ◌==◌, if◌then◌else◌, List, [], ◌∷◌, slice_index}
use Rattle.ct_base.specs.Walk.{word, page_count}
use Rattle.ct_base.specs.View.{inode_count}
use Rattle.ct_base.specs.declared.layout.TheConstants.{LONG_GATE, MAGIC, PAGE_WORDS, ROOT_WORD, SHORT_GATE, VERSION}

-- the value that a table gives for a word, 0 where it has none
abbrev pub value : List (ℕ × ℕ) → ℕ → ℕ
value [] w = 0
value (row ∷ rows) w = if w == row.0 then row.1 else value rows w

-- the words of pages 33 to 41 that are not 0
abbrev pub format_words : List (ℕ × ℕ)
format_words =
    (16896, 139265) ∷ (16897, 155649) ∷ (17408, 143361) ∷ (17920, 147457) ∷ (18432, 151553) ∷ (18952, 2) ∷ (18955, 15) ∷ (19584, 159745)
    ∷ (19968, 163841) ∷ (20480, 167937) ∷ (20992, 0x3030303030303030) ∷ (20993, 0x3030) ∷ []

pub record IsFormatted (img : List ℕ) (pages n : ℕ) : Type 0 where
  pub magic : word img 0 ≡ MAGIC
  pub version : word img 1 ≡ VERSION
  pub count : page_count img ≡ pages
  pub inodes : inode_count img ≡ n
  pub spare : (w : ℕ) → 4 ≤ w → w < PAGE_WORDS → word img w ≡ 0
  pub long : slice_index img LONG_GATE ≡ 0
  pub short : slice_index img SHORT_GATE ≡ 0
  pub words : (w : ℕ) → ROOT_WORD ≤ w → w < 42 * PAGE_WORDS → word img w ≡ value format_words w
