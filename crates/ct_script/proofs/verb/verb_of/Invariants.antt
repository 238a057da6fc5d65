use Rattle.std.proofs.Common.{◌≡◌, drop}
use Rattle.ct_script.specs.Grammar.{verb_of}
use Rattle.ct_script.specs.declared.verb.TheConstants.{VERBS}
use Rattle.ct_script.proofs.Verbs.{found}
use Rattle.ct_script.proofs.verb.verb_of.Given as goal

-- the word is none of the verbs so far
abbrev pub invariant-loop-verb : goal.invariant-loop-verb
invariant-loop-verb l = found l.word (drop l.verb-index VERBS) ≡ verb_of l.word
