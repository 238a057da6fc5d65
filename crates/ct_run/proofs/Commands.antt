-- The numbers of a command are within their bounds, and which command two words are.
use Rattle.std.proofs.Common.{◌≡◌, ℕ, ◌<◌, ◌≤◌, Bool, true, false, List, [], ◌∷◌, length, map, get_or, Option, Some, None, ap, arith, refl, if◌then◌else◌}
use Rattle.std.specs.Prelude.{◌&&◌, nat_le, option_and_then, codes}
use Rattle.std.specs.Str.{bytes_eq}
use Rattle.std.proofs.lemmas.Bool.Decides.{nat_tests}
use Rattle.ct_base.specs.declared.layout.TheConstants.{LEAST_INODES, MOST_INODES}
use Rattle.ct_gen.specs.declared.calls.TheConstants.{MOST_DRAWS}
use Rattle.ct_script.specs.Grammar.{number_of}
use Rattle.ct_run.specs.Ways.{IsWithinWay}
use Rattle.ct_run.specs.Words.{AreWithin, command_of, format_of, format_with, gen_of, gen_with, image_command, mem_inodes}
use Rattle.ct_run.specs.declared.opening.Way.TheVariants.{Making}
use Rattle.ct_run.specs.declared.command.Command.{Command}
use Rattle.ct_run.specs.declared.command.Command.TheVariants.{Mem, Run, Format, Gen, Dump}

either : (b : Bool) (x y : Option Command) → AreWithin x → AreWithin y → AreWithin (if b then x else y)
either true x y p q = p
either false x y p q = q

both : (b c : Bool) → (b && c) ≡ true → (b ≡ true) × (c ≡ true)
both true c h = (refl, h)
both false c h = absurd (cc)

format_fits : (inodes : ℕ) → AreWithin (format_with inodes)
format_fits inodes = at (nat_le LEAST_INODES inodes && nat_le inodes MOST_INODES) refl
  where
    at : (b : Bool) → (nat_le LEAST_INODES inodes && nat_le inodes MOST_INODES) ≡ b → AreWithin (if b then Some (Format inodes) else None)
    at true e =
        let tests = both (nat_le LEAST_INODES inodes) (nat_le inodes MOST_INODES) e in
        let low = tests.0 in
        let high = tests.1 in
        ((grind (arith, nat_tests), grind (arith, nat_tests)), tt)
    at false e = tt

mem_within : IsWithinWay (Making mem_inodes)
mem_within = (omega arith, omega arith)

gen_fits : (number count : ℕ) → AreWithin (gen_with number count)
gen_fits number count = at (nat_le count MOST_DRAWS) refl
  where
    at : (b : Bool) → nat_le count MOST_DRAWS ≡ b → AreWithin (if b then Some (Gen number count) else None)
    at true e = (mem_within, grind (arith, nat_tests))
    at false e = tt

format_word : (o : Option ℕ) → AreWithin (option_and_then format_with o)
format_word None = tt
format_word (Some inodes) = format_fits inodes

count_word : (number : ℕ) (o : Option ℕ) → AreWithin (option_and_then (gen_with number) o)
count_word number None = tt
count_word number (Some count) = gen_fits number count

gen_words : (o p : Option ℕ) → AreWithin (option_and_then (λ n. option_and_then (gen_with n) p) o)
gen_words None p = tt
gen_words (Some number) p = count_word number p

pub are_within : (words : List (List ℕ)) → AreWithin (command_of words)
are_within [] = tt
are_within (word ∷ []) = either (bytes_eq word (codes "mem")) (Some Mem) None (mem_within, tt) tt
are_within (word ∷ image ∷ []) =
    either (bytes_eq word (codes "run")) (Some Run) (if bytes_eq word (codes "dump") then Some Dump else None) (tt, tt)
    (either (bytes_eq word (codes "dump")) (Some Dump) None (tt, tt) tt)
are_within (word ∷ first ∷ second ∷ []) =
    either (bytes_eq word (codes "format")) (format_of second) (if bytes_eq word (codes "gen") then gen_of first second else None) (format_word (number_of second))
    (either (bytes_eq word (codes "gen")) (gen_of first second) None (gen_words (number_of first) (number_of second)) tt)
are_within (word ∷ first ∷ second ∷ other ∷ words) = tt

-- two words
pub of_two : {X : Type 0} (bytes : X → List ℕ) (words : List X) (word : X) → 2 ≤ length words → length words < 3 → word ≡ get_or words 0 word → image_command (bytes word) ≡ command_of (map bytes words)
of_two bytes [] word least below is = absurd (omega (arith, least))
of_two bytes (a ∷ []) word least below is = absurd (omega (arith, least))
of_two bytes (a ∷ b ∷ []) word least below is = ap (λ x. image_command (bytes x)) is
of_two bytes (a ∷ b ∷ d ∷ rest) word least below is = absurd (omega (arith, below))
