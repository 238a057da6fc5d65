-- How a look at a path ends.
use Rattle.std.proofs.Common.{◌≡◌, ◌∙◌, ℕ, List, [], ◌∷◌, take, Option, Some, None, Result, Err, ◌⊎◌, refl, sym, ap, subst, inl, inr}
use Rattle.std.specs.Io.KnownBytes.{Appends}
use Rattle.ct_check.specs.First.{MountHolds, MountRule, body, head}
use Rattle.ct_check.specs.declared.fault.CheckFault.{CheckFault}
use Rattle.ct_check.specs.declared.fault.CheckFault.TheVariants.{Damage, Memory}
use Rattle.ct_find.specs.Nodes.{LeadsNowhere}
use Rattle.ct_script.proofs.Puts.{appends_nil}
use Rattle.ct_state.proofs.Landing.{lands_where}
use Rattle.ct_state.proofs.States.{head_of}
use Rattle.ct_tree.specs.Checks.{at, bad_path, first_of}
use Rattle.ct_tree.specs.Lands.{Lands}
use Rattle.ct_tree.specs.Ordered.{IsTree}
use Rattle.ct_tree.specs.Tree.{Tree}
use Rattle.ct_tree.specs.declared.call.Refusal.{Refusal}
use Rattle.ct_tell.specs.Ends.{Comes, EndsAs}
use Rattle.ct_tell.specs.Looks.{Look}
use Rattle.ct_tell.specs.Told.{Answers, IsTold, IsWhy, OverTree, fault_status, status_by, text_by}
use Rattle.ct_tell.specs.declared.status.Status.{Status}
use Rattle.ct_tell.specs.declared.status.Status.TheVariants.{Done, NoMemory, NotImage, Refused, WriteFault}

-- a path that leads nowhere is refused for that, whatever else is checked of what lies there
pub nowhere : (check : Result Tree Refusal → Option Refusal) (t : Tree) (path : List ℕ) (r : Refusal) → check (Err r) ≡ Some r → LeadsNowhere t path r → first_of (bad_path path ∷ check (at t path) ∷ []) ≡ Some r
nowhere check t path r on (inl bad) = ap (λ q. first_of (q ∷ check (at t path) ∷ [])) bad
nowhere check t path r on (inr n) = ap (λ q. first_of (q ∷ check (at t path) ∷ [])) n.0 ∙ ap (λ a. first_of (check a ∷ [])) n.1 ∙ ap (λ q. first_of (q ∷ [])) on

-- it ends with the refusal
pub refused_comes : (check : Option Refusal) (r : Refusal) (whole : List ℕ) (old : Option (List ℕ)) → check ≡ Some r → Comes (status_by check) (text_by check whole) (Refused r) old old
refused_comes check r whole old is = subst (λ q. Comes (status_by q) (text_by q whole) (Refused r) old old) (sym is) (inl (refl, appends_nil old))

-- or with the whole text, or a part of it
pub done_comes : (check : Option Refusal) (whole : List ℕ) (old new : Option (List ℕ)) → check ≡ None → Appends old new whole → Comes (status_by check) (text_by check whole) Done old new
done_comes check whole old new is put = subst (λ q. Comes (status_by q) (text_by q whole) Done old new) (sym is) (inl (refl, put))

pub torn_comes : (check : Option Refusal) (whole : List ℕ) (old new : Option (List ℕ)) → check ≡ None → (k : ℕ) × Appends old new (take k whole) → Comes (status_by check) (text_by check whole) WriteFault old new
torn_comes check whole old new is part = subst (λ q. Comes (status_by q) (text_by q whole) WriteFault old new) (sym is) (inr (refl, part))

-- the image lands on a tree where no rule fails
pub tree_of : {img : List ℕ} → ((r : MountRule) → MountHolds img r) → (t : Tree) × IsTree t × Lands img t
tree_of {img} holds = lands_where img (head_of (λ r. holds (head r))) (λ r. holds (body r))

-- and where one does, or memory ran out, nothing is written
pub fault_comes : (img : List ℕ) (fault : CheckFault) (status : Status) (On : Status → List ℕ → Tree → Type 0) (old : Option (List ℕ)) → IsWhy img fault → status ≡ fault_status fault
    → ((status ≡ NoMemory) × (old ≡ old)) ⊎ ((end : Status) × ((text : List ℕ) × OverTree img end text (On end text) × Comes end text status old old))
fault_comes img (Damage rule) status On old first is = inr (NotImage rule, ([], inr (rule, first, refl, refl), inl (is, appends_nil old)))
fault_comes img Memory status On old why is = inl (is, refl)

pub tree_comes : (img : List ℕ) (t : Tree) (check : Tree → Option Refusal) (whole : Tree → List ℕ) (status : Status) (old new : Option (List ℕ)) → IsTree t → Lands img t → Comes (status_by (check t)) (text_by (check t) (whole t)) status old new
    → (end : Status) × ((text : List ℕ) × OverTree img end text (λ u. Answers (check u) (whole u) end text) × Comes end text status old new)
tree_comes img t check whole status old new tree lands comes =
    (status_by (check t), (text_by (check t) (whole t), inl (t, tree, lands, record { ends = refl; tells = refl }), comes))

-- what is told of an image, and a part of it
pub told_comes : (look : Look) (img : List ℕ) (end : Status) (text : List ℕ) (old new : Option (List ℕ)) → IsTold look img end text → Appends old new text → EndsAs look img end old new
told_comes look img end text old new told put = inr (end, (text, told, inl (refl, put)))

pub torn_told : (look : Look) (img : List ℕ) (end : Status) (text : List ℕ) (old new : Option (List ℕ)) → IsTold look img end text → (k : ℕ) × Appends old new (take k text) → EndsAs look img WriteFault old new
torn_told look img end text old new told part = inr (end, (text, told, inr (refl, part)))
