use Rattle.std.proofs.Common.{◌≡◌, ◌∙◌, ℕ, List, [], ◌∷◌, sym, ap, Some}
use Rattle.std.specs.Option.{option_map}
use Rattle.ct_tree.specs.Step.{op_of, create, mkdir, unlink, rmdir, stat, list, locate}
use Rattle.ct_tree.specs.declared.call.Call.{Call}
use Rattle.ct_script.specs.Grammar.{call_with}
use Rattle.ct_script.specs.declared.verb.Verb.{Verb}
use Rattle.ct_script.proofs.Words.{no_call_of_one}
use Rattle.ct_script.proofs.line.with_path.Goals as goal
use Rattle.ct_script.proofs.line.with_path.Goals.{in-Create, in-Mkdir, in-Unlink, in-Rmdir, in-Stat, in-List, in-Where}

pub returns-in_default : goal.returns-in_default
returns-in_default c = λ word is. no_call_of_one c.args.verb word c.in_default.not-Create c.in_default.not-Mkdir c.in_default.not-Unlink c.in_default.not-Rmdir c.in_default.not-Stat c.in_default.not-List c.in_default.not-Where

-- the call that was made is that of the verb
at : (word : List ℕ) {verb v : Verb} {call made : Call} → verb ≡ v → call ≡ made → Some (op_of made) ≡ call_with v (word ∷ []) → Some (op_of call) ≡ call_with verb (word ∷ [])
at word verb_is call_is made_is = ap (λ k. Some (op_of k)) call_is ∙ made_is ∙ ap (λ u. call_with u (word ∷ [])) (sym verb_is)

pub returns : goal.returns
returns c = λ word is. elim c.match-verb.branch [
  | in-Create w ↦ at word w.in-Create.is w.call-is (ap (option_map create) (sym is))
  | in-Mkdir w ↦ at word w.in-Mkdir.is w.call-is (ap (option_map mkdir) (sym is))
  | in-Unlink w ↦ at word w.in-Unlink.is w.call-is (ap (option_map unlink) (sym is))
  | in-Rmdir w ↦ at word w.in-Rmdir.is w.call-is (ap (option_map rmdir) (sym is))
  | in-Stat w ↦ at word w.in-Stat.is w.call-is (ap (option_map stat) (sym is))
  | in-List w ↦ at word w.in-List.is w.call-is (ap (option_map list) (sym is))
  | in-Where w ↦ at word w.in-Where.is w.call-is (ap (option_map locate) (sym is))
]
