-- The image of an empty tree lands on it.
use Rattle.std.proofs.Common.{◌≡◌, ℕ, ◌+◌, ◌*◌, ◌≤◌, List, length, sym, ◌∙◌, subst, arith}
use Rattle.ct_tree.specs.Tree.{Dir, none}
use Rattle.ct_base.specs.Rules.{Sound}
use Rattle.ct_tree.specs.Stands.{Stands}
use Rattle.ct_base.specs.Settled.{settled}
use Rattle.ct_tree.specs.Lands.{HasHead, Lands, files}
use Rattle.ct_base.specs.Format.{IsFormatted, format_words}
use Rattle.ct_state.proofs.FormatCells.{value-zero}
use Rattle.ct_state.proofs.FormatSound.{format_sound, format_stands}
use Rattle.ct_state.proofs.Settle.{settled_idle}

module _ {img : List ℕ} {pages n : ℕ} (f : IsFormatted img pages n) (many : 256 ≤ pages) (fits : pages * 512 ≤ length img) (device : length img ≤ 262144 * 512) (two : 2 ≤ n) (most : n ≤ 1048576) where
  same : settled img ≡ img
  same = settled_idle img (f.long, f.short) (λ k lt. f.words (33 * 512 + 2 + k) (omega arith) (omega arith) ∙ value-zero format_words (33 * 512 + 2 + k) (λ key. grind arith))

  head : HasHead img
  head = record {
    pages = (omega arith, device);
    magic = f.magic;
    version = f.version;
    count = (omega (arith, f.count), omega (arith, f.count));
    inodes = (omega (arith, f.inodes), omega (arith, f.inodes));
    spare = f.spare;
    recorded = record {
      long = omega (arith, f.long);
      short = omega (arith, f.short);
      one = λ open_gate. absurd (omega (arith, f.long));
      long_targets = λ k lt. absurd (omega (arith, f.long));
      short_targets = λ k lt. absurd (omega (arith, f.short));
    };
  }

  pub format_lands : Lands img (Dir none)
  format_lands = record { head = head; sound = subst Sound (sym same) (format_sound f many two most); stands = subst (λ g. Stands (files g) 1 (Dir none)) (sym same) (format_stands f many two most) }
