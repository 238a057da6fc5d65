-- A file that has the length already, and one that gets a smaller one.
use Rattle.std.proofs.Common.{◌≡◌, ℕ, ◌-◌, ◌≤◌, List, ◌++◌, length, Some, None, refl, sym, ap, subst, ◌∙◌, inl, inr, arith}
use Rattle.std.specs.Prelude.{take, replicate}
use Rattle.std.proofs.lemmas.Bool.{cases_eq}
use Rattle.std.proofs.lemmas.List.{append-nil, take_all}
use Rattle.ct_base.specs.declared.inode.Inode.{Inode}
use Rattle.ct_base.specs.Inode.{IsLive, inode}
use Rattle.ct_base.specs.Objects.{Object}
use Rattle.ct_base.specs.Plan.{Plan, truncate_plan}
use Rattle.ct_base.specs.View.{view, inode_count}
use Rattle.ct_state.proofs.Bytes.{objects-in}
use Rattle.ct_tree.specs.Content.{resized}
use Rattle.ct_tree.specs.Lands.{files}
use Rattle.ct_tree.specs.Stands.{IsFile}
use Rattle.ct_call.specs.Plans.{Plans, level_of}
use Rattle.ct_call.specs.declared.plan.CallPlan.{CallPlan}
use Rattle.ct_edit.specs.Changed.{Changes}
use Rattle.ct_edit.proofs.Growths.{less_is, none_is, same_is}

resized_same : (bytes : List ℕ) (len : ℕ) → len ≡ length bytes → resized len bytes ≡ bytes
resized_same bytes len is =
    let none : len - length bytes ≡ 0 = omega (arith, is) in
    ap (λ k. take len bytes ++ replicate k 0) none ∙ append-nil (take len bytes) ∙ take_all len bytes (omega (arith, is))

-- the length that a file has changes nothing
pub same_changes : (w : List ℕ) {i len : ℕ} {f : Inode} → IsLive (view w) (inode_count w) i → f ≡ inode (view w) i → len ≡ f.size → Changes (files w) (files w) i (resized len)
same_changes w {i} {len} live f_is is = record {
  file = λ was file.
      let size : (inode (view w) i).size ≡ length was = ap (λ (o : Object). o.size) (sym (objects-in (view w) (inode_count w) i live.number)) ∙ file.size in
      subst (IsFile (files w i)) (sym (resized_same was len (is ∙ ap (λ (g : Inode). g.size) f_is ∙ size))) file;
  others = λ j other. refl;
}

-- and no object grows for it, nor for less
no_growth : (w : List ℕ) (f : Inode) (len : ℕ) → len ≤ f.size → (truncate_plan (view w) (inode_count w) f len).growth ≡ None
no_growth w f len le = elim (cases_eq len f.size) [
  | inl same ↦ ap (λ (p : Plan). p.growth) (same_is (view w) (inode_count w) f len same)
  | inr other ↦ elim (cases_eq len 0) [
    | inl none ↦ ap (λ (p : Plan). p.growth) (none_is (view w) (inode_count w) f len (omega (arith, le, other)) none)
    | inr some ↦ ap (λ (p : Plan). p.growth) (less_is (view w) (inode_count w) f len (omega (arith, le, other)) some)
  ]
]

pub grows_never : (w : List ℕ) (f : Inode) {len level : ℕ} {plan : CallPlan} → len ≤ f.size → Plans w (truncate_plan (view w) (inode_count w) f len) plan → level_of plan.growth ≡ Some level → ⊥
grows_never w f {len} {level} le plans goes = let both : None ≡ Some level = sym (no_growth w f len le) ∙ plans.growth ∙ goes in absurd (cc)
