-- Header words of an image, and their bytes.
use Rattle.std.proofs.Common.{◌≡◌, ℕ, ◌+◌, ◌%◌, ◌<◌, Bool, true, List, sym, ◌∙◌, arith}
use Rattle.std.proofs.lemmas.Bool.{lt-ltb, or_left}
use Rattle.ct_base.specs.View.{is_seen, view}
use Rattle.ct_base.specs.Inode.{Partition, little}
use Rattle.ct_base.specs.Headers.{is_one, HeadersStand}
use Rattle.ct_base.specs.Ranges.{Headers, header_at}
use Rattle.ct_parts.proofs.Path.{header_at-bounds}
use Rattle.ct_parts.proofs.Stand.{bytes-words, words-bytes}
use Rattle.ct_words.specs.Shown.{shown_word}
use Rattle.ct_words.proofs.Shown.{little-shown, view-small}

-- root slot 1 is looked at
pub seen-low : (a : ℕ) → a < 1099511627776 → is_seen a ≡ true
seen-low a lt = or_left _ _ (lt-ltb a 1099511627776 lt)

-- header words are looked at in root slot 1 alone
headers_move : (live : ℕ → ℕ → Bool) (f g : ℕ → ℕ) → ((a : ℕ) → a % 8 ≡ 0 → a < 1099511627776 → g a ≡ f a) → Headers live f → Headers live g
headers_move live f g same h =
    record {
      words = λ n j le lt. let b = header_at-bounds n j le lt in same (header_at (n + 1) j) b.2 b.1 ∙ h.words n j le lt;
      rest = λ a slot aligned off. same a aligned (omega arith) ∙ h.rest a slot aligned off;
    }

pub view_headers : (img : List ℕ) (ps : List Partition) → HeadersStand (view img) ps → Headers (is_one ps) (shown_word img)
view_headers img ps h = headers_move (is_one ps) (λ a. little (view img) a 8) (shown_word img) (λ a aligned high. sym (little-shown img a aligned (seen-low a high))) (bytes-words (view img) ps h)

pub headers_view : (img : List ℕ) (ps : List Partition) → Headers (is_one ps) (shown_word img) → HeadersStand (view img) ps
headers_view img ps h = words-bytes (view img) ps (view-small img) (headers_move (is_one ps) (shown_word img) (λ a. little (view img) a 8) (λ a aligned high. little-shown img a aligned (seen-low a high)) h)
