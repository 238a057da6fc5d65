use Rattle.std.proofs.Common.{◌≡◌, ◌∙◌, true, false, get_or, refl, sym, ap}
use Rattle.std.specs.Str.{bytes_eq}
use Rattle.ct_script.specs.Grammar.{word_of}
use Rattle.ct_script.specs.declared.verb.Verb.TheVariants.{Create}
use Rattle.ct_script.specs.declared.verb.TheConstants.{VERBS}
use Rattle.ct_script.proofs.Verbs.{found_here, found_later, found_none}
use Rattle.ct_script.proofs.verb.verb_of.Goals as goal

pub loop-verb-init : goal.loop-verb-init
loop-verb-init c = refl

pub returns-then-eq : goal.returns-then-eq
returns-then-eq c =
    let test : bytes_eq c.args.word.now (word_of (get_or VERBS c.loop-verb.verb-index Create)) ≡ true = sym (ap (bytes_eq c.args.word.now) c.word_of.ensures) ∙ sym c.eq.ensures ∙ c.if-eq.true in
    sym (found_here c.args.word.now VERBS c.loop-verb.verb-index c.loop-verb-test.true test) ∙ c.loop-verb.invariant

pub loop-verb-preserved : goal.loop-verb-preserved
loop-verb-preserved c =
    let test : bytes_eq c.args.word.now (word_of (get_or VERBS c.loop-verb.verb-index Create)) ≡ false = sym (ap (bytes_eq c.args.word.now) c.word_of.ensures) ∙ sym c.eq.ensures ∙ c.if-eq.false in
    sym (found_later c.args.word.now VERBS c.loop-verb.verb-index c.loop-verb-test.true test) ∙ c.loop-verb.invariant

pub returns : goal.returns
returns c = sym (found_none c.args.word.now VERBS c.loop-verb.verb-index c.loop-verb-test.false) ∙ c.loop-verb.invariant
