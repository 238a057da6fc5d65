-- The rules on the superblock and the gates, in their order.
use Rattle.std.proofs.Common.{◌≡◌, ℕ, ◌+◌, ◌<◌, List, refl, sym, ap, ◌∙◌, subst, inl, inr, arith}
use Rattle.std.specs.Prelude.{◌==◌, if◌then◌else◌}
use Rattle.std.proofs.lemmas.Bool.{cases_eq}
use Rattle.ct_base.specs.Head.{HeadRule, size, magic, version, count, inodes, spare, gates, targets, head_number, HeadHolds}
use Rattle.ct_check.specs.Heads.{HeadsBelow}

abbrev head_at : ℕ → HeadRule
head_at n =
    if n == 0 then size else (if n == 1 then magic else (if n == 2 then version else (if n == 3 then count else (if n == 4 then inodes else (if n == 5 then spare else (if n == 6 then gates else targets))))))

head_is : (r : HeadRule) → head_at (head_number r) ≡ r
head_is size = refl
head_is magic = refl
head_is version = refl
head_is count = refl
head_is inodes = refl
head_is spare = refl
head_is gates = refl
head_is targets = refl

pub head_most : (r : HeadRule) → head_number r < 8
head_most size = omega arith
head_most magic = omega arith
head_most version = omega arith
head_most count = omega arith
head_most inodes = omega arith
head_most spare = omega arith
head_most gates = omega arith
head_most targets = omega arith

module _ (img : List ℕ) where
  pub heads_first : HeadsBelow img 0
  heads_first s lt = absurd (omega arith)

  heads_more : (r : HeadRule) {n : ℕ} → n ≡ head_number r + 1 → HeadsBelow img (head_number r) → HeadHolds img r → HeadsBelow img n
  heads_more r e below holds s lt = elim (cases_eq (head_number r) (head_number s)) [
    | inl same ↦ subst (HeadHolds img) (sym (head_is r) ∙ ap head_at same ∙ head_is s) holds
    | inr other ↦ below s (omega arith)
  ]

  pub below_magic : HeadHolds img size → HeadsBelow img 1
  below_magic h = heads_more size refl heads_first h

  pub below_version : HeadHolds img size → HeadHolds img magic → HeadsBelow img 2
  below_version h i = heads_more magic refl (below_magic h) i

  pub below_count : HeadHolds img size → HeadHolds img magic → HeadHolds img version → HeadsBelow img 3
  below_count h i j = heads_more version refl (below_version h i) j

  pub below_inodes : HeadHolds img size → HeadHolds img magic → HeadHolds img version → HeadHolds img count → HeadsBelow img 4
  below_inodes h i j k = heads_more count refl (below_count h i j) k

  pub below_spare : HeadHolds img size → HeadHolds img magic → HeadHolds img version → HeadHolds img count → HeadHolds img inodes → HeadsBelow img 5
  below_spare h i j k l = heads_more inodes refl (below_inodes h i j k) l

  pub below_gates : HeadHolds img size → HeadHolds img magic → HeadHolds img version → HeadHolds img count → HeadHolds img inodes → HeadHolds img spare → HeadsBelow img 6
  below_gates h i j k l m = heads_more spare refl (below_spare h i j k l) m

  pub below_targets : HeadHolds img size → HeadHolds img magic → HeadHolds img version → HeadHolds img count → HeadHolds img inodes → HeadHolds img spare → HeadHolds img gates → HeadsBelow img 7
  below_targets h i j k l m n = heads_more gates refl (below_gates h i j k l m) n
