-- Items that are all done, and texts of such items.
use Rattle.std.proofs.Common.{◌≡◌, ◌∙◌, ℕ, ◌<◌, List, [], ◌∷◌, ◌++◌, refl, sym, ap, subst, None}
use Rattle.std.specs.Prelude.{All}
use Rattle.std.proofs.lemmas.List.Elements.{All-cons, All-nil}
use Rattle.ct_tree.specs.Runs.{Item, bad, call, MakesNode, CallAnswers, Runs}
use Rattle.ct_tree.specs.Step.{Op, refusal, effect, answered, step}
use Rattle.ct_tree.specs.Tree.{Tree, nodes}
use Rattle.ct_tree.specs.declared.call.Reply.{Reply}
use Rattle.ct_tree.specs.declared.call.Reply.TheVariants.{Done}
use Rattle.ct_dump_laws.specs.Plain.{made_from, replies_from}
use Rattle.ct_dump_laws.proofs.Words.{Reads, reads_nil, reads_both}

-- the call is done, and where it makes a node there are fewer than so many
pub record IsDone (c : ℕ) (t : Tree) (op : Op) : Type 0 where
  pub passes : refusal t op ≡ None
  pub done : (effect t op).0 ≡ Done
  pub room : MakesNode op → nodes t < c

-- all are calls that are done, and they make the second tree of the first
abbrev pub Makes : ℕ → Tree → List Item → Tree → Type 0
Makes c t [] u = u ≡ t
Makes c t (call op ∷ items) u = IsDone c t op × Makes c (effect t op).1 items u
Makes c t (bad ∷ items) u = ⊥

makes_both : (c : ℕ) (t u v : Tree) (xs ys : List Item) → Makes c t xs u → Makes c u ys v → Makes c t (xs ++ ys) v
makes_both c t u v [] ys a b = subst (λ s. Makes c s ys v) a b
makes_both c t u v (call op ∷ xs) ys a b = (a.0, makes_both c (effect t op).1 u v xs ys a.1 b)
makes_both c t u v (bad ∷ xs) ys a b = absurd a

step_is : (c : ℕ) (t : Tree) (op : Op) → IsDone c t op → step t op ≡ (Done, (effect t op).1)
step_is c t op h = ap (λ o. answered o t (effect t op)) h.passes ∙ ap (λ r. (r, (effect t op).1)) h.done

pub made : (c : ℕ) (t u : Tree) (items : List Item) → Makes c t items u → made_from t items ≡ u
made c t u [] m = sym m
made c t u (call op ∷ items) m = ap (λ (s : Reply × Tree). made_from s.1 items) (step_is c t op m.0) ∙ made c (effect t op).1 u items m.1
made c t u (bad ∷ items) m = absurd m

pub all_done : (c : ℕ) (t u : Tree) (items : List Item) → Makes c t items u → All (λ r. r ≡ Done) (replies_from t items)
all_done c t u [] m = All-nil (λ r. r ≡ Done)
all_done c t u (call op ∷ items) m =
    let is = step_is c t op m.0 in
    All-cons (λ r. r ≡ Done) (step t op).0 (replies_from (step t op).1 items) (ap (λ (s : Reply × Tree). s.0) is)
    (subst (λ (s : Reply × Tree). All (λ r. r ≡ Done) (replies_from s.1 items)) (sym is) (all_done c (effect t op).1 u items m.1))
all_done c t u (bad ∷ items) m = absurd m

pub all_run : (c : ℕ) (t u : Tree) (items : List Item) → Makes c t items u → Runs c t items (replies_from t items) u
all_run c t u [] m = m
all_run c t u (call op ∷ items) m =
    let is = step_is c t op m.0 in
    let next = (effect t op).1 in
    subst (λ (s : Reply × Tree). (mid : Tree) × CallAnswers c t op s.0 mid × Runs c mid items (replies_from s.1 items) u) (sym is)
    (next, (sym is, λ free new. m.0.room new), all_run c next u items m.1)
all_run c t u (bad ∷ items) m = absurd m

-- the items of a text make the second tree of the first
pub record Builds (c : ℕ) (t : Tree) (text : List ℕ) (u : Tree) : Type 0 where
  pub items : List Item
  pub reads : Reads text items
  pub makes : Makes c t items u

pub builds_none : (c : ℕ) (t : Tree) → Builds c t [] t
builds_none c t = record { items = []; reads = reads_nil; makes = refl }

pub builds_both : {c : ℕ} {t u v : Tree} {a b : List ℕ} → Builds c t a u → Builds c u b v → Builds c t (a ++ b) v
builds_both {c} {t} {u} {v} {a} {b} x y = record {
  items = x.items ++ y.items;
  reads = reads_both a b x.items y.items x.reads y.reads;
  makes = makes_both c t u v x.items y.items x.makes y.makes;
}

pub builds_call : {c : ℕ} {t : Tree} {line : List ℕ} {op : Op} → Reads line (call op ∷ []) → IsDone c t op → Builds c t line (effect t op).1
builds_call {c} {t} {line} {op} r d = record { items = call op ∷ []; reads = r; makes = (d, refl) }
