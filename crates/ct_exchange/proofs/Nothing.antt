-- An exchange of no bytes: all is where it was.
use Rattle.std.proofs.Common.{◌≡◌, ℕ, ◌+◌, ◌/◌, List, [], ap, sym, ◌∙◌, arith}
use Rattle.std.specs.Prelude.{◌==◌}
use Rattle.std.proofs.lemmas.Bool.{cond-true, eq-eqb}
use Rattle.std.proofs.Math.Path.{fun_ext}
use Rattle.ct_base.specs.Exchange.{partner}
use Rattle.ct_base.specs.Inode.{inode}
use Rattle.ct_base.specs.Objects.{objects}
use Rattle.ct_base.specs.View.{view, inode_count}
use Rattle.ct_base.specs.Walk.{page_at}
use Rattle.ct_base.specs.Wants.{missing}
use Rattle.ct_image.proofs.Partner.{partner-none}
use Rattle.ct_plan.proofs.Space.{missing_nothing}
use Rattle.ct_plan.specs.Few.{few_both_wants}
use Rattle.ct_tree.specs.Lands.{files}
use Rattle.ct_exchange.specs.Ranges.{first_page, second_page, wants_of}
use Rattle.ct_exchange.specs.Swapped.{HasSwapped, files_after}
use Rattle.ct_exchange.specs.declared.plan.Ranges.{Ranges}

partner_stays : (a b n v : ℕ) → n ≡ 0 → partner a b n v ≡ v
partner_stays a b n v none = ap (λ k. partner a b k v) none ∙ partner-none a b v

module _ (w : List ℕ) (r : Ranges) (none : r.len ≡ 0) where
  pub byte_stays : (v : ℕ) → partner ((inode (view w) r.first).base + r.off) ((inode (view w) r.second).base + r.other_off) r.len v ≡ v
  byte_stays v = partner_stays ((inode (view w) r.first).base + r.off) ((inode (view w) r.second).base + r.other_off) r.len v none

  pub page_stays : (p : ℕ) → partner (first_page w r) (second_page w r) (r.len / 4096) p ≡ p
  page_stays p = partner_stays (first_page w r) (second_page w r) (r.len / 4096) p (omega (arith, none))

  pub none_swapped : HasSwapped w w r
  none_swapped p = sym (ap (page_at w 4) (page_stays p))

  pub none_files : files w ≡ files_after w r
  none_files = ap (λ (b : ℕ → ℕ). objects b (inode_count w)) (fun_ext (λ v. sym (ap (view w) (byte_stays v))))

  pub none_missing : missing w (wants_of w r) ≡ 0
  none_missing = ap (missing w) (cond-true (r.len == 0) [] (few_both_wants (first_page w r) (second_page w r) (r.len / 4096)) (eq-eqb r.len 0 none)) ∙ missing_nothing w
