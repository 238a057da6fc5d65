-- What is known on a sound image is live, and has a number.
use Rattle.std.proofs.Common.{◌≡◌, ◌≢◌, ℕ, ◌≤◌, List, Option, Some, None, sym, ap, ◌∙◌, subst, arith}
use Rattle.std.proofs.lemmas.Option.{none-some}
use Rattle.ct_base.specs.Rules.{slots}
use Rattle.ct_base.specs.View.{inode_count}
use Rattle.ct_dir.specs.declared.lookup.Found.{Found}
use Rattle.ct_tree.specs.Lands.{files}
use Rattle.ct_commit.specs.Rest.{IsAtRest}
use Rattle.ct_cache.specs.Agrees.{Agrees}
use Rattle.ct_cache.specs.Known.{Known}
use Rattle.ct_learn.specs.Learning.{nothing}

module _ {w : List ℕ} (rest : IsAtRest w) where
  -- a name that is known leads to what is live
  pub known_live : {known : Known} → Agrees known w → (k : ℕ × List ℕ) (found : Found) → Some found ≡ known.names k → (files w found.inode).kind ≢ 0
  known_live a k found is =
      let first = (a.names k found (sym is)).first in
      subst (λ i. (files w i).kind ≢ 0) first.inode (rest.sound slots k.0 found.offset first.slot).live

  pub few : inode_count w ≤ 1048576
  few = omega (arith, rest.head.inodes.1)

-- what is known of nothing is so on all words
pub nothing_so : (w : List ℕ) → Agrees nothing w
nothing_so w = record { pages = λ p page is. absurd (none-some page is); names = λ k found is. absurd (none-some found is) }

pub nothing_known : {known : Known} → ((p : ℕ) → known.pages p ≡ None) → ((k : ℕ × List ℕ) → known.names k ≡ None) → (w : List ℕ) → Agrees known w
nothing_known no_page no_name w = record {
  pages = λ p page is. absurd (none-some page (sym (no_page p) ∙ is));
  names = λ k found is. absurd (none-some found (sym (no_name k) ∙ is));
}

-- names stay so where the pages are forgotten
pub names_stay : (old : Known) {new : Known} → ((p : ℕ) → new.pages p ≡ None) → new.names ≡ old.names → (w : List ℕ) → Agrees (record { pages = λ p. None; names = old.names }) w → Agrees new w
names_stay old no_page same w a = record {
  pages = λ p page is. absurd (none-some page (sym (no_page p) ∙ is));
  names = λ k found is. a.names k found (ap (λ names. names k) (sym same) ∙ is);
}
