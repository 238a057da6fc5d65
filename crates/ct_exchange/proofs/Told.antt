-- What an exchange is for the tree: where a crash lands, where the walks lead, and what was taken.
use Rattle.std.proofs.Common.{◌≡◌, ◌⊎◌, ℕ, ◌+◌, ◌*◌, ◌/◌, ◌%◌, ◌^◌, ◌<◌, ◌≤◌, List, [], Option, None, Ok, refl, sym, ap, subst, ◌∙◌, inl, inr, arith}
use Rattle.std.proofs.lemmas.Bool.{cases_eq}
use Rattle.ct_base.specs.Exchange.{partner}
use Rattle.ct_base.specs.Free.{HasFreePages}
use Rattle.ct_base.specs.Inode.{inode}
use Rattle.ct_base.specs.Rules.{slots, names as names_rule, named}
use Rattle.ct_base.specs.View.{view, inode_count}
use Rattle.ct_base.specs.Walk.{page_at, walk}
use Rattle.ct_image.proofs.Steps.{walk-cell}
use Rattle.ct_pm.proofs.Phases.{phase_weaker}
use Rattle.ct_pm.specs.Images.{History}
use Rattle.ct_pm.specs.Phase.{Phase}
use Rattle.ct_state.proofs.Resolve.{leads_once}
use Rattle.ct_tree.proofs.Steps.{step_rooted}
use Rattle.ct_tree.proofs.Twice.{put_same}
use Rattle.ct_tree.specs.Checks.{at, names}
use Rattle.ct_tree.specs.Content.{bytes_in, range, written}
use Rattle.ct_tree.specs.Lands.{Lands, files}
use Rattle.ct_tree.specs.Need.{HasNeed, IsAt}
use Rattle.ct_tree.specs.Resolve.{IsDir, put}
use Rattle.ct_tree.specs.Stands.{Stands}
use Rattle.ct_tree.specs.Step.{Op, answered, effect, exchange, exchanged, refusal}
use Rattle.ct_tree.specs.Tree.{Tree, File}
use Rattle.ct_commit.proofs.Landed.{lands_on}
use Rattle.ct_call.specs.Calls.{StandsFor, after, most_pairs}
use Rattle.ct_call.specs.Carried.{Reaches}
use Rattle.ct_commit.specs.Rest.{IsAtRest}
use Rattle.ct_call.specs.Placed.{Places}
use Rattle.ct_exchange.specs.declared.plan.Ranges.{Ranges}
use Rattle.ct_find.proofs.Rooted.{root_entries}
use Rattle.ct_find.specs.Files.{IsFileAt}
use Rattle.ct_exchange.specs.Ranges.{AreApart, first_page, second_page}
use Rattle.ct_exchange.specs.Swapped.{HasSwapped, SwapsOrNot, SwapsWalks, files_after}
use Rattle.ct_exchange.proofs.Carrying.{placed, space}
use Rattle.ct_exchange.proofs.Changed.{partner-between, partner-pages}
use Rattle.ct_exchange.proofs.Nothing.{byte_stays, none_files, page_stays}
use Rattle.ct_exchange.proofs.Ruled.{pages_apart}
use Rattle.ct_exchange.proofs.Standing.{swapped_stands}

-- the call that exchanges the ranges of the files at two paths
abbrev pub swap_op : List ℕ → List ℕ → Ranges → Op
swap_op path other r = exchange path r.off other r.other_off r.len

-- the tree of a call that is not refused
done_tree : (t : Tree) (path other : List ℕ) (off other_off len : ℕ) → refusal t (exchange path off other other_off len) ≡ None → exchanged t path off other other_off len ≡ after t (exchange path off other other_off len)
done_tree t path other off other_off len allowed = sym (ap (λ r. (answered r t (effect t (exchange path off other other_off len))).1) allowed)

is_dir : {w : List ℕ} (rest : IsAtRest w) (t : Tree) → StandsFor w t → IsDir t
is_dir rest t st = subst IsDir (sym (root_entries rest t st).1) tt

module _ {w : List ℕ} (rest : IsAtRest w) (path other : List ℕ) (r : Ranges) (first : IsFileAt w path r.first (inode (view w) r.first)) (second : IsFileAt w other r.second (inode (view w) r.second)) where
  module _ (t : Tree) (st : StandsFor w t) (allowed : refusal t (swap_op path other r) ≡ None) where
    -- where nothing is exchanged, the tree is the same
    none_tree : r.len ≡ 0 → t ≡ after t (swap_op path other r)
    none_tree none = sym same ∙ done_tree t path other r.off r.other_off r.len allowed
      where
        none_range : (bytes : List ℕ) (from : ℕ) → range bytes from r.len ≡ []
        none_range bytes from = ap (range bytes from) none

        one : (xs : List ℕ) × (at t path ≡ Ok (File xs)) × Rattle.ct_tree.specs.Stands.IsFile (files w r.first) xs
        one = first.node t st

        two : (xs : List ℕ) × (at t other ≡ Ok (File xs)) × Rattle.ct_tree.specs.Stands.IsFile (files w r.second) xs
        two = second.node t st

        with_none : (u : Tree) (p xs bytes : List ℕ) (from : ℕ) → at u p ≡ Ok (File xs) → bytes ≡ [] → put u (names p) (File (written (bytes_in (at u p)) from bytes)) ≡ u
        with_none u p xs bytes from at_file empty =
            ap (λ bs. put u (names p) (File (written (bytes_in (at u p)) from bs))) empty ∙ ap (λ r. put u (names p) (File (bytes_in r))) at_file ∙ put_same u (names p) (File xs) at_file

        same : exchanged t path r.off other r.other_off r.len ≡ t
        same =
            let once = with_none t path one.0 (range (bytes_in (at t other)) r.other_off r.len) r.off one.1 (none_range (bytes_in (at t other)) r.other_off) in
            ap (λ u. put u (names other) (File (written (bytes_in (at u other)) r.other_off (range (bytes_in (at t path)) r.off r.len)))) once
            ∙ with_none t other two.0 (range (bytes_in (at t path)) r.off r.len) r.other_off two.1 (none_range (bytes_in (at t path)) r.off)

    -- the objects with the ranges exchanged stand for the tree of the call
    files_stand : (1 ≤ r.len → AreApart w r) → Stands (files_after w r) 1 (after t (swap_op path other r))
    files_stand can = elim (cases_eq r.len 0) [
      | inl none ↦ subst (Stands (files_after w r) 1) (none_tree none) (subst (λ fs. Stands fs 1 t) (none_files w r none) st.stands)
      | inr some ↦
          let s = rest.sound in
          let apart : AreApart w r = can (omega (arith, some)) in
          subst (Stands (files_after w r) 1) (done_tree t path other r.off r.other_off r.len allowed)
          (swapped_stands apart (space rest apart) (λ v. refl) (s slots) (s names_rule) (s named) path other t st.tree st.stands first.leads second.leads)
    ]

  module _ (can : 1 ≤ r.len → AreApart w r) {op : Op} (is : swap_op path other r ≡ op) (t : Tree) (st : StandsFor w t) (allowed : refusal t op ≡ None) where
    stand : Stands (files_after w r) 1 (after t op)
    stand = subst (λ o. Stands (files_after w r) 1 (after t o)) is (files_stand t st (subst (λ o. refusal t o ≡ None) (sym is) allowed) can)

    -- whatever a crash leaves lands on the tree before the call or after it
    pub told_phase : {from to : Option History} {now : List ℕ} → Phase (SwapsOrNot w r) 8000 from to now → Phase (λ image. Lands image t ⊎ Lands image (after t op)) (most_pairs op) from to now
    told_phase phase = phase_weaker (λ image. Lands image t ⊎ Lands image (after t op)) (λ image lands. elim lands [
      | inl none ↦ inl (lands_on st.stands none)
      | inr all ↦ inr (lands_on stand all)
    ]) (subst (λ o. 8000 ≤ most_pairs o) is (omega arith)) phase

    pub reaches : {new : List ℕ} → files new ≡ files_after w r → inode_count new ≡ inode_count w → Reaches w new t op
    reaches are count = record {
      stands = record {
        tree = (step_rooted t op (record { tree = st.tree; dir = is_dir rest t st })).tree;
        stands = subst (λ fs. Stands fs 1 (after t op)) (sym are) stand;
      };
      counted = count;
    }

  -- ---- where the walks lead

  at_first : (k : ℕ) → IsAt w path k → k ≡ r.first
  at_first k leads = leads_once (files w) (rest.sound names_rule) 1 k r.first (names path) leads first.leads

  at_second : (k : ℕ) → IsAt w other k → k ≡ r.second
  at_second k leads = leads_once (files w) (rest.sound names_rule) 1 k r.second (names other) leads second.leads

  -- the walk of a byte is that of its partner
  partner_walk : (1 ≤ r.len → AreApart w r) → (new : List ℕ) → HasSwapped w new r → (v : ℕ) → 10 * 2 ^ 39 ≤ v → v < 2 ^ 48
      → walk new v ≡ walk w (partner ((inode (view w) r.first).base + r.off) ((inode (view w) r.second).base + r.other_off) r.len v)
  partner_walk can new swapped v low high = elim (cases_eq r.len 0) [
    | inl none ↦ walk-cell new v high ∙ swapped (v / 4096) ∙ ap (page_at w 4) (page_stays w r none (v / 4096)) ∙ sym (walk-cell w v high) ∙ ap (walk w) (sym (byte_stays w r none v))
    | inr some ↦
        let apart : AreApart w r = can (omega (arith, some)) in
        let p = placed rest apart in
        let a = first_page w r in
        let b = second_page w r in
        let x = (inode (view w) r.first).base + r.off in
        let y = (inode (view w) r.second).base + r.other_off in
        let n = r.len / 4096 in
        let q = partner a b n (v / 4096) in
        let between = partner-between (10 * 2 ^ 27) (2 ^ 36) a b n (v / 4096) p.first_low p.second_low p.first_high p.second_high (omega (arith, low)) (omega (arith, high)) in
        let is : partner x y r.len v ≡ q * 4096 + v % 4096 =
        ap (λ c. partner c y r.len v) (sym p.first) ∙ ap (λ c. partner (a * 4096) c r.len v) (sym p.second) ∙ ap (λ c. partner (a * 4096) (b * 4096) c v) (sym p.count) ∙ partner-pages a b n v (pages_apart apart (space rest apart)) in
        let page : q ≡ partner x y r.len v / 4096 = omega (arith, is) in
        let small : partner x y r.len v < 2 ^ 48 = omega (arith, is, between.1) in
        walk-cell new v high ∙ swapped (v / 4096) ∙ ap (page_at w 4) page ∙ sym (walk-cell w (partner x y r.len v) small)
  ]

  pub swaps_walks : (1 ≤ r.len → AreApart w r) → (new : List ℕ) → HasSwapped w new r → SwapsWalks w new path r.off other r.other_off r.len
  swaps_walks can new swapped k l one two v low high =
      partner_walk can new swapped v low high
      ∙ ap (walk w) (ap (λ c. partner ((inode (view w) c).base + r.off) ((inode (view w) r.second).base + r.other_off) r.len v) (sym (at_first k one))
      ∙ ap (λ c. partner ((inode (view w) k).base + r.off) ((inode (view w) c).base + r.other_off) r.len v) (sym (at_second l two)))

-- ---- what was taken

-- where nothing grows, and no page more is taken than the plan counts
pub exchange_places : (w new path other : List ℕ) (off other_off len left had missed : ℕ) → ((need : ℕ) → HasNeed w (exchange path off other other_off len) need → need ≡ missed) → ((count : ℕ) → HasFreePages w count → count ≡ had)
    → ((count : ℕ) → HasFreePages new count → count ≡ left) → had ≤ left + missed → Places w new (exchange path off other other_off len)
exchange_places w new path other off other_off len left had missed need once once_after taken = record {
  entry = tt;
  moved = λ i level grows. absurd grows.3;
  taken = λ before after n has has_after needs. omega (arith, once before has, once_after after has_after, need n needs, taken);
}
