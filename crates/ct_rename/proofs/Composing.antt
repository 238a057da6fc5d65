-- The tree after each form of a rename.
use Rattle.std.proofs.Common.{ap, arith, inl, inr, List, None, refl, subst, sym, ℕ, ◌%◌, ◌+◌, ◌-◌, ◌<◌, ◌∙◌, ◌≡◌, ◌≢◌, ◌≤◌}
use Rattle.std.specs.Prelude.{max}
use Rattle.std.proofs.lemmas.Bool.{cases_eq, eq-eqb, ne_eqb}
use Rattle.ct_base.specs.declared.inode.Inode.{Inode}
use Rattle.ct_base.specs.Inode.{IsLive, IsNumber}
use Rattle.ct_base.specs.Objects.{Object, no_object}
use Rattle.ct_base.specs.Slots.{IsSlot, slot_name}
use Rattle.ct_base.specs.View.{view, inode_count}
use Rattle.ct_path.proofs.Sounds.{is_live}
use Rattle.ct_state.specs.Edits.{HasTail, IsPlace, attach, detach, discard, with_slot, without_slot}
use Rattle.ct_state.specs.Forest.{OneTree}
use Rattle.ct_state.proofs.Added.{sound_forest}
use Rattle.ct_state.proofs.Addressed.{object_tail}
use Rattle.ct_state.proofs.Bytes.{objects-in}
use Rattle.ct_state.proofs.Composed.{rename_composed, rename_over_composed, replaced_are, replaced_within_are}
use Rattle.ct_state.proofs.Edits.{beside_or, kept_out, other_at, same_at, zeros_in}
use Rattle.ct_state.proofs.Filled.{kept_beside, slot_at}
use Rattle.ct_state.proofs.Renames.{renamed_self}
use Rattle.ct_tree.specs.Lands.{files}
use Rattle.ct_tree.specs.Step.{refusal, rename, step}
use Rattle.ct_tree.specs.Tree.{Tree}
use Rattle.ct_call.specs.Calls.{StandsFor}
use Rattle.ct_commit.specs.Rest.{IsAtRest}
use Rattle.ct_enter.proofs.Offered.{next_unused}
use Rattle.ct_find.proofs.Fitting.{entry_live}
use Rattle.ct_rename.specs.Forms.{IsForm}
use Rattle.ct_rename.specs.Moves.{moved, replaced}
use Rattle.ct_rename.specs.Renamed.{renamed, slot_for}
use Rattle.ct_rename.specs.declared.find.Form.{Form}
use Rattle.ct_rename.specs.declared.find.Form.TheVariants.{Same, New, Over}

-- ---- a slot that is emptied before it is filled

slot_same : (f g : Object) (s i : ℕ) (y : List ℕ) (n : ℕ) → s ≤ n → n < s + 256 → (with_slot f s i y).at n ≡ (with_slot g s i y).at n
slot_same f g s i y n from to =
    let is : s + (n - s) ≡ n = omega (arith, from) in
    sym (ap (with_slot f s i y).at is) ∙ slot_at f s i y (n - s) (omega (arith, from, to)) ∙ sym (slot_at g s i y (n - s) (omega (arith, from, to))) ∙ ap (with_slot g s i y).at is

refill : (f : Object) (s i : ℕ) (y : List ℕ) → with_slot (without_slot f s) s i y ≡ with_slot f s i y
refill f s i y = λ e. record { kind = f.kind; size = max f.size (s + 256); at = λ n. at_each n e }
  where
    at_each : (n : ℕ) → (with_slot (without_slot f s) s i y).at n ≡ (with_slot f s i y).at n
    at_each n = elim (beside_or s n) [
      | inl at ↦ slot_same (without_slot f s) f s i y n at.0 at.1
      | inr out ↦ kept_beside (without_slot f s) s i y n out ∙ kept_out f s n out ∙ sym (kept_beside f s i y n out)
    ]

refill_within : (f : Object) (o s i : ℕ) (y : List ℕ) → with_slot (without_slot (without_slot f s) o) s i y ≡ with_slot (without_slot f o) s i y
refill_within f o s i y = λ e. record { kind = f.kind; size = max f.size (s + 256); at = λ n. at_each n e }
  where
    at_each : (n : ℕ) → (with_slot (without_slot (without_slot f s) o) s i y).at n ≡ (with_slot (without_slot f o) s i y).at n
    at_each n = elim (beside_or s n) [
      | inl at ↦ slot_same (without_slot (without_slot f s) o) (without_slot f o) s i y n at.0 at.1
      | inr out ↦
          kept_beside (without_slot (without_slot f s) o) s i y n out
          ∙ elim (beside_or o n) [
            | inl at ↦ zeros_in (without_slot f s) o n at.0 at.1 ∙ sym (zeros_in f o n at.0 at.1)
            | inr off ↦ kept_out (without_slot f s) o n off ∙ kept_out f s n out ∙ sym (kept_out f o n off)
          ]
          ∙ sym (kept_beside (without_slot f o) s i y n out)
    ]

module _ (fs : ℕ → Object) (d o k s i j : ℕ) (y : List ℕ) (left : d ≢ j) (right : k ≢ j) where
  cleared : ℕ → Object
  cleared = detach fs k s

  bare : ℕ → Object
  bare = discard (detach fs k s) j

  out : ℕ → Object
  out = detach (discard (detach fs k s) j) d o

  apart_is : d ≢ k → replaced fs d o k s i j y ≡ discard (attach (detach fs d o) k s i y) j
  unfolding cleared bare out
  apart_is other = replaced_are d o k s i j y other left right from to gone others
    where
      from : replaced fs d o k s i j y d ≡ without_slot (fs d) o
      from =
          other_at out k (with_slot (out k) s i y) d other ∙ same_at bare d (without_slot (bare d) o)
          ∙ ap (λ f. without_slot f o) (other_at cleared j no_object d left ∙ other_at fs k (without_slot (fs k) s) d other)

      to : replaced fs d o k s i j y k ≡ with_slot (fs k) s i y
      to =
          same_at out k (with_slot (out k) s i y)
          ∙ ap (λ f. with_slot f s i y) (other_at bare d (without_slot (bare d) o) k (λ is. other (sym is)) ∙ other_at cleared j no_object k right ∙ same_at fs k (without_slot (fs k) s))
          ∙ refill (fs k) s i y

      gone : replaced fs d o k s i j y j ≡ no_object
      gone = other_at out k (with_slot (out k) s i y) j (λ is. right (sym is)) ∙ other_at bare d (without_slot (bare d) o) j (λ is. left (sym is)) ∙ same_at cleared j no_object

      others : (c : ℕ) → c ≢ d → c ≢ k → c ≢ j → replaced fs d o k s i j y c ≡ fs c
      others c here there away =
          other_at out k (with_slot (out k) s i y) c there ∙ other_at bare d (without_slot (bare d) o) c here ∙ other_at cleared j no_object c away ∙ other_at fs k (without_slot (fs k) s) c there

within_is : (fs : ℕ → Object) (d o s i j : ℕ) (y : List ℕ) → d ≢ j → replaced fs d o d s i j y ≡ discard (attach (detach fs d o) d s i y) j
unfolding bare out
within_is fs d o s i j y left = replaced_within_are d o s i j y left to gone others
  where
    to : replaced fs d o d s i j y d ≡ with_slot (without_slot (fs d) o) s i y
    to =
        same_at (out fs d o d s i j y left left) d (with_slot (out fs d o d s i j y left left d) s i y)
        ∙ ap (λ f. with_slot f s i y) (same_at (bare fs d o d s i j y left left) d (without_slot (bare fs d o d s i j y left left d) o)
        ∙ ap (λ f. without_slot f o) (other_at (detach fs d s) j no_object d left ∙ same_at fs d (without_slot (fs d) s)))
        ∙ refill_within (fs d) o s i y

    gone : replaced fs d o d s i j y j ≡ no_object
    gone =
        other_at (out fs d o d s i j y left left) d (with_slot (out fs d o d s i j y left left d) s i y) j (λ is. left (sym is))
        ∙ other_at (bare fs d o d s i j y left left) d (without_slot (bare fs d o d s i j y left left d) o) j (λ is. left (sym is)) ∙ same_at (detach fs d s) j no_object

    others : (c : ℕ) → c ≢ d → c ≢ j → replaced fs d o d s i j y c ≡ fs c
    others c here away =
        other_at (out fs d o d s i j y left left) d (with_slot (out fs d o d s i j y left left d) s i y) c here
        ∙ other_at (bare fs d o d s i j y left left) d (without_slot (bare fs d o d s i j y left left d) o) c here
        ∙ other_at (detach fs d s) j no_object c away ∙ other_at fs d (without_slot (fs d) s) c here

-- an object that goes before the entry moves, or behind it
pub over_is : (fs : ℕ → Object) (d o k s i j : ℕ) (y : List ℕ) → d ≢ j → k ≢ j → replaced fs d o k s i j y ≡ discard (attach (detach fs d o) k s i y) j
over_is fs d o k s i j y left right = elim (cases_eq d k) [
  | inr other ↦ apart_is fs d o k s i j y left right other
  | inl same ↦ subst (λ e. replaced fs d o e s i j y ≡ discard (attach (detach fs d o) e s i y) j) same (within_is fs d o s i j y left)
]

-- ---- the tree

module _ {w : List ℕ} (rest : IsAtRest w) where
  forest : {t : Tree} → StandsFor w t → OneTree (files w) t
  forest {t} st = sound_forest w t (omega (arith, rest.head.inodes.0)) rest.sound st.tree st.stands

  pub tail_of : (d : ℕ) → IsNumber (inode_count w) d → HasTail (files w d)
  tail_of d number = subst HasTail (sym (objects-in (view w) (inode_count w) d number)) (object_tail (view w) d)

  pub slot_live : (d : ℕ) {o : ℕ} → IsSlot (files w d) o → IsLive (view w) (inode_count w) d
  slot_live d slot = is_live w rest.sound rest.head.inodes.1 d (λ z. omega (arith, z, slot.dir))

module _ {w : List ℕ} (path to : List ℕ) (rest : IsAtRest w) {t : Tree} (st : StandsFor w t) (passes : refusal t (rename path to) ≡ None) where
  pub form_tree : (form : Form) → IsForm w path to form → OneTree (renamed (files w) form) (step t (rename path to)).1
  form_tree Same same = renamed_self path to (forest rest st) same passes
  form_tree (New e spot) is =
      let entry = is.1 in
      let new = is.2 in
      let k = spot.dir in
      let s = slot_for e.dir e.offset k spot.offset in
      let few : e.number < 4294967296 = omega (arith, (entry_live rest entry).number.to, rest.head.inodes.1) in
      let tail = tail_of rest e.dir (slot_live rest e.dir entry.entered.slot).number in
      let dir : (files w k).kind ≡ 2 = ap (λ (f : Object). f.kind) (objects-in (view w) (inode_count w) k new.next.live.number) ∙ ap (λ (f : Inode). f.kind) new.next.is ∙ new.next.kind in
      let chosen : (s % 256 ≡ 0) × (IsSlot (files w k) s → (k ≡ e.dir) × (s ≡ e.offset)) =
      elim (cases_eq e.dir k) [
        | inl same ↦ let at : slot_for e.dir e.offset k spot.offset ≡ e.offset = rw (eq-eqb e.dir k same) refl in (ap (λ x. x % 256) at ∙ entry.entered.slot.aligned, λ used. (sym same, at))
        | inr other ↦
            let at : slot_for e.dir e.offset k spot.offset ≡ spot.offset = rw (ne_eqb e.dir k other) refl in
            (ap (λ x. x % 256) at ∙ new.next.aligned, λ used. absurd (next_unused rest.sound new.next (subst (λ x. IsSlot (files w k) x) at used)))
      ] in
      subst (λ y. OneTree (moved (files w) e.dir e.offset k s e.number y) (step t (rename path to)).1) (sym new.last)
      (rename_composed path to k s (forest rest st) entry.entered few tail new.parent (record { dir = dir; tail = tail_of rest k new.next.live.number; aligned = chosen.0 }) is.0 passes
      (subst (λ y. (n : ℕ) → IsSlot (files w k) n → slot_name (files w k) n ≢ y) new.last new.fresh) chosen.1)
  form_tree (Over e there gone) is =
      let entry = is.1 in
      let at = is.2 in
      let leaf = is.3 in
      let k = there.dir in
      let s = there.offset in
      let few : e.number < 4294967296 = omega (arith, (entry_live rest entry).number.to, rest.head.inodes.1) in
      let tail = tail_of rest e.dir (slot_live rest e.dir entry.entered.slot).number in
      let left : e.dir ≢ there.number = λ same. leaf.bare e.offset (subst (λ n. IsSlot (files w n) e.offset) same entry.entered.slot) in
      let right : there.dir ≢ there.number = λ same. leaf.bare s (subst (λ n. IsSlot (files w n) s) same leaf.slot) in
      let place : IsPlace (files w k) s = record { dir = at.entered.slot.dir; tail = tail_of rest k (slot_live rest k at.entered.slot).number; aligned = at.entered.slot.aligned } in
      let one = rename_over_composed path to k s (forest rest st) entry.entered few tail at.entered.leads place is.0 passes at.entered in
      let y = slot_name (files w k) s in
      subst (λ fs. OneTree fs (step t (rename path to)).1) (sym (over_is (files w) e.dir e.offset k s e.number there.number y left right))
      (subst (λ x. OneTree (discard (attach (detach (files w) e.dir e.offset) k s e.number x) there.number) (step t (rename path to)).1) (sym at.entered.name) one)
