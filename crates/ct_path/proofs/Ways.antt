-- A walk along names goes on as in each tree that the objects stand for.
use Rattle.std.proofs.Common.{◌≡◌, ◌≢◌, ℕ, List, [], ◌∷◌, Result, Ok, Err, Some, None, refl, sym, ap, ◌∙◌, subst, arith}
use Rattle.std.specs.Prelude.{unwrap_or, IsErrAnd}
use Rattle.std.specs.Option.{ok_or}
use Rattle.std.specs.declared.option.Option.{Option}
use Rattle.ct_base.specs.Objects.{Object}
use Rattle.ct_base.specs.Slots.{slot_inode}
use Rattle.ct_base.specs.Named.{Named, Leads}
use Rattle.ct_base.specs.Rules.{AreNamesApart}
use Rattle.ct_tree.specs.Tree.{Tree, File, Dir, Entries, none}
use Rattle.ct_tree.specs.Entries.{lookup}
use Rattle.ct_tree.specs.Ordered.{IsTree}
use Rattle.ct_tree.specs.Stands.{Stands}
use Rattle.ct_tree.specs.Resolve.{and_then, resolve}
use Rattle.ct_tree.specs.declared.call.Refusal.TheVariants.{NotFound as not_found}
use Rattle.ct_tree.proofs.Ordered.{found_tree}
use Rattle.ct_state.proofs.Resolve.{stand_lookup, no_slot}
use Rattle.ct_path.specs.declared.fault.PathFault.{PathFault}
use Rattle.ct_path.specs.declared.fault.PathFault.TheVariants.{BadPath, NotFound, NotDir}
use Rattle.ct_path.specs.Meets.{Meets, OnTheWay, Ahead}
use Rattle.ct_path.specs.Resolves.{refusal_of, Follows}

-- at the start all names are left
pub ahead_start : {fs : ℕ → Object} (all : List (List ℕ)) → (fs 1).kind ≢ 0 → Ahead fs all all 1
ahead_start all live = record {
  live = live;
  there = λ c leads. leads;
  back = λ c leads. leads;
  tree = λ t is st. record { node = t; is_tree = is; stands = st; same = refl };
}

module _ (fs : ℕ → Object) (all : List (List ℕ)) (i : ℕ) (x : List ℕ) (xs : List (List ℕ)) where
  -- a name that an entry has leads to its node
  down : (t n : Tree) (es : Entries) → resolve t all ≡ resolve (Dir es) (x ∷ xs) → lookup x es ≡ Some n → resolve t all ≡ resolve n xs
  down t n es same is = same ∙ ap (λ o. and_then (ok_or o not_found) (λ m. resolve m xs)) is

  module _ (apart : AreNamesApart fs) (c : ℕ) (dir : (fs i).kind ≡ 2) (s : Named (fs i) x) (child : slot_inode (fs i) s.offset ≡ c) where
    -- each slot with the name leads to the one object
    one : (r : Named (fs i) x) → slot_inode (fs i) r.offset ≡ c
    one r = ap (slot_inode (fs i)) (apart i r.offset s.offset r.slot s.slot (r.name ∙ sym s.name)) ∙ child

    on_entry : (t : Tree) (es : Entries) (o : Option Tree) → lookup x es ≡ o → IsTree (Dir es) → Stands fs i (Dir es) → resolve t all ≡ resolve (Dir es) (x ∷ xs) → OnTheWay fs t all xs c
    on_entry t es None is are st same = absurd (no_slot fs (fs i) x es are st.0 is s)
    on_entry t es (Some n) is are st same =
        let found = stand_lookup fs (fs i) x n es st.1 is in
        record {
          node = n;
          is_tree = subst (λ o. IsTree (unwrap_or o (Dir none))) is (found_tree x es are);
          stands = subst (λ k. Stands fs k n) (one found.slot) found.stands;
          same = down t n es same is;
        }

    on_node : (t node : Tree) → IsTree node → Stands fs i node → resolve t all ≡ resolve node (x ∷ xs) → OnTheWay fs t all xs c
    on_node t (File bytes) is st same = absurd (omega (arith, st.kind, dir))
    on_node t (Dir es) is st same = on_entry t es (lookup x es) refl is st same

    pub ahead_step : Ahead fs all (x ∷ xs) i → (fs c).kind ≢ 0 → Ahead fs all xs c
    unfolding Leads
    ahead_step so_far live = record {
      live = live;
      there = λ d leads. so_far.there d (s, subst (λ k. Leads fs k xs d) (sym child) leads);
      back = λ d leads. let far = so_far.back d leads in subst (λ k. Leads fs k xs d) (one far.0) far.1;
      tree = λ t is st. let w = so_far.tree t is st in on_node t w.node w.is_tree w.stands w.same;
    }

  -- where no slot has the name, no entry has it
  not_there : (t : Tree) (es : Entries) (o : Option Tree) → lookup x es ≡ o → (Named (fs i) x → ⊥) → Stands fs i (Dir es) → resolve t all ≡ resolve (Dir es) (x ∷ xs) → resolve t all ≡ Err not_found
  not_there t es None is off st same = same ∙ ap (λ o. and_then (ok_or o not_found) (λ m. resolve m xs)) is
  not_there t es (Some n) is off st same = absurd (off (stand_lookup fs (fs i) x n es st.1 is).slot)

  stop_tree : (t node : Tree) (fault : PathFault) → Meets fs i x (Err fault) → Stands fs i node → resolve t all ≡ resolve node (x ∷ xs) → resolve t all ≡ Err (refusal_of fault)
  stop_tree t node BadPath m st same = absurd m
  stop_tree t (File bytes) NotFound m st same = absurd (omega (arith, st.kind, m.0))
  stop_tree t (Dir es) NotFound m st same = not_there t es (lookup x es) refl m.1 st same
  stop_tree t (File bytes) NotDir m st same = same
  stop_tree t (Dir es) NotDir m st same = absurd (m st.0.kind)

  stop_slot : (fault : PathFault) → Meets fs i x (Err fault) → Named (fs i) x → ⊥
  stop_slot BadPath m s = m
  stop_slot NotFound m s = m.1 s
  stop_slot NotDir m s = m s.slot.dir

  -- a name that leads nowhere decides
  pub ahead_stop : (fault : PathFault) → Ahead fs all (x ∷ xs) i → Meets fs i x (Err fault) → Follows fs all (Err fault)
  unfolding Leads
  ahead_stop fault so_far m = record {
    leads = tt;
    only = λ c leads. absurd (stop_slot fault m (so_far.back c leads).0);
    tree = λ t is st. let w = so_far.tree t is st in stop_tree t w.node fault m w.stands w.same;
  }

  -- the same of a result that is this fault
  pub stop_at : (r : Result ℕ PathFault) (fault : PathFault) → IsErrAnd r (λ e. e ≡ fault) → Ahead fs all (x ∷ xs) i → Meets fs i x (Err fault) → Follows fs all r
  stop_at (Ok c) fault same so_far m = absurd same
  stop_at (Err e) fault same so_far m = subst (λ f. Follows fs all (Err f)) (sym same) (ahead_stop fault so_far m)

-- where no name is left, the object is the answer
pub ahead_end : {fs : ℕ → Object} {all : List (List ℕ)} {i : ℕ} → Ahead fs all [] i → Follows fs all (Ok i)
unfolding Leads
ahead_end {i = i} so_far = record {
  leads = so_far.there i refl;
  only = λ c leads. ap Ok (so_far.back c leads);
  tree = λ t is st. let w = so_far.tree t is st in (w.node, w.same, w.stands);
}
