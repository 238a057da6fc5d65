-- The four changes of the objects, and the trees that they leave.
use Rattle.std.proofs.Common.{◌≡◌, ◌≢◌, ◌∙◌, ℕ, List, [], ◌∷◌, ◌++◌, refl, sym, ap, subst, arith}
use Rattle.ct_base.specs.Objects.{Object, no_object}
use Rattle.ct_base.specs.Slots.{IsSlot, slot_inode}
use Rattle.ct_base.specs.Named.{Named, Leads}
use Rattle.ct_tree.specs.Tree.{Tree, File, Dir, none}
use Rattle.ct_tree.specs.Ordered.{IsTree}
use Rattle.ct_tree.specs.Resolve.{put, cut}
use Rattle.ct_tree.specs.Stands.{Stands}
use Rattle.ct_state.specs.Leads.{LeadsTo}
use Rattle.ct_state.specs.Forest.{Entered, AreTrees, Forest}
use Rattle.ct_state.specs.Edits.{discard, fresh, IsFresh, Detaches, Attaches}
use Rattle.ct_state.proofs.Bare.{dropped_forest, fresh_forest}
use Rattle.ct_state.proofs.Edits.{same_at, detach_relinks, attach_relinks, swap_relinks, bares_at}
use Rattle.ct_state.proofs.Followed.{Followed, followed, leads_push}
use Rattle.ct_state.proofs.Linked.{named_before, cut_forest, put_forest, swap_forest}

-- names that lead to an object end at an entry
pub leads_pop : (fs : ℕ → Object) (c i : ℕ) (xs : List (List ℕ)) (x : List ℕ) → Leads fs c (xs ++ (x ∷ [])) i → (d : ℕ) × Leads fs c xs d × (s : Named (fs d) x) × (slot_inode (fs d) s.offset ≡ i)
unfolding Leads
leads_pop fs c i [] x leads = (c, refl, leads.0, leads.1)
leads_pop fs c i (y ∷ ys) x leads =
    let below = leads_pop fs (slot_inode (fs c) leads.0.offset) i ys x leads.1 in
    (below.0, (leads.0, below.1), below.2, below.3)

module _ {fs : ℕ → Object} {d o i : ℕ} {xs : List (List ℕ)} {x : List ℕ} (e : Entered fs d o i xs x) where
  pub entered_leads : Leads fs 1 (xs ++ (x ∷ [])) i
  entered_leads = subst (Leads fs 1 (xs ++ (x ∷ []))) e.child (leads_push fs 1 d xs x e.leads (record { offset = o; slot = e.slot; name = e.name }))

  -- no slot names inode 1 or the orphan
  pub entered_some : {r : ℕ} → AreTrees fs r → i ≢ 1
  entered_some f is = f.top d o (record { slot = e.slot; child = e.child ∙ is })

  -- what the entry leads to in the tree
  pub entered : {r : ℕ} {t u : Tree} → Forest fs r t u → Followed fs i (xs ++ (x ∷ [])) t
  entered {t = t} f = followed fs f.are.apart 1 i (xs ++ (x ∷ [])) t f.tree f.stands entered_leads

  -- an entry goes: its object is the orphan, and the tree is without it
  pub detached : {gs : ℕ → Object} {t : Tree} → Forest fs 1 t t → Detaches fs gs d o → (u : Tree) × LeadsTo t (xs ++ (x ∷ [])) u × Forest gs i (cut t (xs ++ (x ∷ []))) u
  detached f c =
      let l = detach_relinks f.are.entries f.are.apart c e.slot e.child e.name in
      let some = entered_some f.are in
      ((named_before l f xs e.leads some).node, (named_before l f xs e.leads some).to, cut_forest l f xs e.leads refl some)

  -- an entry gets the orphan in the place of its object, which is the orphan then
  pub swapped : {gs : ℕ → Object} {r : ℕ} {t u : Tree} → Forest fs r t u → r ≢ 1 → Attaches fs gs d o r x
      → (w : Tree) × LeadsTo t (xs ++ (x ∷ [])) w × Forest gs i (put t (xs ++ (x ∷ [])) u) w
  swapped f held c =
      let l = swap_relinks f.are.entries f.are.apart c e.slot e.child e.name held in
      let some = entered_some f.are in
      ((named_before l f xs e.leads some).node, (named_before l f xs e.leads some).to, swap_forest l f xs e.leads held some)

-- an entry is made: no orphan is left, and the tree has its tree where the names lead
pub attached : {fs gs : ℕ → Object} {d o r : ℕ} {x : List ℕ} {t u : Tree} (xs : List (List ℕ)) → Forest fs r t u → r ≢ 1 → Leads fs 1 xs d → (IsSlot (fs d) o → ⊥) → IsFresh (fs d) x → Attaches fs gs d o r x
    → Forest gs 1 (put t (xs ++ (x ∷ [])) u) (put t (xs ++ (x ∷ [])) u)
attached xs f held leads unused new c = put_forest (attach_relinks f.are.entries c unused new held) f xs leads held refl

-- the orphan goes
pub dropped : {fs : ℕ → Object} {r : ℕ} {t u : Tree} → Forest fs r t u → r ≢ 1 → ((k : ℕ) → IsSlot (fs r) k → ⊥) → Forest (discard fs r) 1 t t
dropped {fs} {r} f held bare =
    dropped_forest (bares_at fs r no_object bare (λ k s. omega (arith, s.dir))) f held (ap (λ (f : Object). f.kind) (same_at fs r no_object))

-- an object comes, and is the orphan
pub made : {fs : ℕ → Object} {i kind : ℕ} {t u : Tree} → Forest fs 1 t t → (fs i).kind ≡ 0 → kind ≢ 0 → IsTree u → Stands (fresh fs i kind) i u → Forest (fresh fs i kind) i t u
made {fs} {i} {kind} f free some tree st =
    fresh_forest (bares_at fs i _ (λ k s. omega (arith, s.dir, free)) (λ k s. omega (arith, s.below))) f free (λ z. some (sym (ap (λ (f : Object). f.kind) (same_at fs i (record { kind = kind; size = 0; at = λ k. 0 }))) ∙ z)) tree st

pub made_file : {fs : ℕ → Object} {i : ℕ} {t : Tree} → Forest fs 1 t t → (fs i).kind ≡ 0 → Forest (fresh fs i 1) i t (File [])
made_file {fs} {i} f free =
    let same = same_at fs i (record { kind = 1; size = 0; at = λ k. 0 }) in
    made f free (λ z. omega (arith, z)) (omega arith) (record {
      kind = ap (λ (f : Object). f.kind) same;
      size = ap (λ (f : Object). f.size) same;
      all = λ k lt. absurd (omega arith);
    })

pub made_dir : {fs : ℕ → Object} {i : ℕ} {t : Tree} → Forest fs 1 t t → (fs i).kind ≡ 0 → Forest (fresh fs i 2) i t (Dir none)
made_dir {fs} {i} f free =
    let same = same_at fs i (record { kind = 2; size = 0; at = λ k. 0 }) in
    made f free (λ z. omega (arith, z)) tt (
      record {
        kind = ap (λ (f : Object). f.kind) same;
        names = λ k s. omega (arith, s.below, ap (λ (f : Object). f.size) same);
      },
      tt,
    )
