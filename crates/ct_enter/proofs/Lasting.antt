-- Crashes while an entry comes.
use Rattle.std.proofs.Common.{◌≡◌, ◌≤◌, ◌⊎◌, ℕ, List, Option, subst, inl, inr, arith}
use Rattle.ct_base.specs.Named.{Leads}
use Rattle.ct_base.specs.Objects.{Object}
use Rattle.ct_base.specs.Settled.{HasPages}
use Rattle.ct_pm.specs.Images.{History}
use Rattle.ct_pm.specs.Phase.{Phase}
use Rattle.ct_pm.proofs.Phases.{phase_then, phase_weaker}
use Rattle.ct_tree.specs.Lands.{Lands, files}
use Rattle.ct_tree.specs.Tree.{Tree}
use Rattle.ct_call.specs.Calls.{StandsFor}
use Rattle.ct_enter.specs.Entry.{with_node}
use Rattle.ct_enter.specs.Landing.{EntersOrNot}
use Rattle.ct_commit.specs.Landing.{LandsAs}
use Rattle.ct_commit.proofs.Landed.{lands_on}

-- and what lands has its pages
pub lands_pages : {fs : ℕ → Object} {dir : ℕ} {name : List ℕ} {kind : ℕ} (image : List ℕ) → EntersOrNot fs dir name kind image → HasPages image
lands_pages image (inl lands) = let c = lands.head.count in (omega (arith, c.0), c.1)
lands_pages image (inr more) = let c = more.lands.head.count in (omega (arith, c.0), c.1)

-- no entry yet
pub no_entry_phase : {fs : ℕ → Object} {now : List ℕ} {from to : Option History} {dir : ℕ} {name : List ℕ} {kind : ℕ} → Phase (LandsAs fs) 150 from to now → Phase (EntersOrNot fs dir name kind) 150 from to now
no_entry_phase {fs} {dir = dir} {name = name} {kind = kind} phase = phase_weaker (EntersOrNot fs dir name kind) (λ image lands. inl lands) (omega arith) phase

-- and the record of an entry
pub entry_phase : (w0 w1 : List ℕ) {w2 : List ℕ} {from mid to : Option History} {dir : ℕ} {name : List ℕ} {kind : ℕ} → files w1 ≡ files w0 → Phase (LandsAs (files w0)) 150 from mid w1 → Phase (EntersOrNot (files w1) dir name kind) 41 mid to w2
    → Phase (EntersOrNot (files w0) dir name kind) 150 from to w2
entry_phase w0 w1 {w2 = w2} {mid = mid} {to = to} {dir = dir} {name = name} {kind = kind} same first second =
    phase_then (no_entry_phase first) (phase_weaker (EntersOrNot (files w0) dir name kind) (λ image lands. lands) (omega arith) (subst (λ (fs : ℕ → Object). Phase (EntersOrNot fs dir name kind) 41 mid to w2) same second))

-- told by the trees, at the call
pub call_phase : {w now : List ℕ} {from to : Option History} {dir : ℕ} {name : List ℕ} {kind : ℕ} (t u : Tree) (xs : List (List ℕ)) (most : ℕ) → 5111 ≤ most → StandsFor w t → Leads (files w) 1 xs dir → with_node t xs name kind ≡ u
    → Phase (EntersOrNot (files w) dir name kind) 150 from to now → Phase (λ image. Lands image t ⊎ Lands image u) most from to now
call_phase t u xs most many st leads is phase = phase_weaker (λ image. Lands image t ⊎ Lands image u) (λ image lands. elim lands [
  | inl none ↦ inl (lands_on st.stands none)
  | inr more ↦ inr (subst (λ v. Lands image v) is (lands_on (more.node xs t st.tree st.stands leads) more.lands))
]) (omega (arith, many)) phase
