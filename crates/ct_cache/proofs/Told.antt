-- The two tables as maps.
use Rattle.std.proofs.Common.{◌≡◌, ℕ, ◌<◌, Bool, true, List, refl, sym, ap, ◌∙◌, arith}
use Rattle.std.specs.Prelude.{◌==◌, ◌&&◌}
use Rattle.std.specs.Str.{bytes_eq}
use Rattle.std.specs.Bool.{Decides}
use Rattle.std.proofs.lemmas.Bool.{and_parts, and_from}
use Rattle.std.proofs.lemmas.Bool.Decides.{Decides-eqb}
use Rattle.std.proofs.lemmas.Slice.Eq.{bytes_eq-Decides}
use Rattle.ct_cache.specs.Cells.{name_place, page_place, same_name, same_page}

pub page_decides : (p q : ℕ) → Decides (same_page p q) (p ≡ q)
page_decides p q = Decides-eqb p q

pub page_low : (p : ℕ) → page_place p < 1024
page_low p = omega arith

pair : (a b : ℕ × List ℕ) → a.0 ≡ b.0 → a.1 ≡ b.1 → a ≡ b
pair a b e f = let m : ℕ × List ℕ = (a.0, b.1) in let p : a ≡ m = ap (λ z. (a.0, z)) f in p ∙ ap (λ i. (i, b.1)) e

pub name_decides : (a b : ℕ × List ℕ) → Decides (same_name a b) (a ≡ b)
name_decides a b = (
  λ is. let parts = and_parts (a.0 == b.0) (bytes_eq a.1 b.1) is in pair a b ((Decides-eqb a.0 b.0).0 parts.0) ((bytes_eq-Decides a.1 b.1).0 parts.1),
  λ is. and_from _ _ ((Decides-eqb a.0 b.0).1 (ap (λ (k : ℕ × List ℕ). k.0) is)) ((bytes_eq-Decides a.1 b.1).1 (ap (λ (k : ℕ × List ℕ). k.1) is)),
)

pub name_low : (k : ℕ × List ℕ) → name_place k < 256
name_low k = omega arith
