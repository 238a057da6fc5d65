-- What is told of a file is told of the tree.
use Rattle.std.proofs.Common.{◌≡◌, ◌⊎◌, ℕ, ◌^◌, ◌≤◌, List, [], Option, Ok, None, refl, sym, ap, subst, ◌∙◌, inl, inr, arith}
use Rattle.std.specs.Prelude.{length}
use Rattle.ct_base.specs.Inode.{IsNumber, inode}
use Rattle.ct_base.specs.Objects.{Object}
use Rattle.ct_base.specs.Rules.{named, names as names_apart, placed, slots}
use Rattle.ct_base.specs.View.{view, inode_count}
use Rattle.ct_base.specs.declared.inode.Inode.{Inode}
use Rattle.ct_parts.proofs.Lengths.{pow8_small}
use Rattle.ct_pm.specs.Images.{History}
use Rattle.ct_pm.specs.Phase.{Phase}
use Rattle.ct_pm.proofs.Phases.{phase_weaker}
use Rattle.ct_state.proofs.Bytes.{objects-in}
use Rattle.ct_state.proofs.Followed.{resolve_leads}
use Rattle.ct_state.proofs.Forests.{once_named, path_up}
use Rattle.ct_state.proofs.Grafts.{tree_graft}
use Rattle.ct_state.proofs.Paths.{Path}
use Rattle.ct_state.proofs.Puts.{onto}
use Rattle.ct_state.proofs.Resolve.{leads_path}
use Rattle.ct_tree.specs.Checks.{at, names}
use Rattle.ct_tree.specs.Lands.{Lands, files}
use Rattle.ct_tree.specs.Resolve.{put}
use Rattle.ct_tree.specs.Stands.{IsFile, Stands}
use Rattle.ct_tree.specs.Step.{Op, answered, effect, refusal}
use Rattle.ct_tree.specs.Tree.{Tree, File}
use Rattle.ct_tree.proofs.Ordered.{put_tree}
use Rattle.ct_tree.proofs.Steps.{are_names}
use Rattle.ct_commit.proofs.Landed.{lands_on}
use Rattle.ct_call.proofs.Pairs.{least_pairs}
use Rattle.ct_call.specs.Calls.{StandsFor, after, most_pairs}
use Rattle.ct_commit.specs.Rest.{IsAtRest}
use Rattle.ct_edit.specs.Changed.{Changes, ChangesOrNot}
use Rattle.ct_find.specs.Files.{IsFileAt}

-- What the call makes of the bytes of its file, in each tree.
pub record MakesBytes (w path : List ℕ) (i : ℕ) (op : Op) (change : List ℕ → List ℕ) : Type 0 where
  pub makes : (t : Tree) (was : List ℕ) → at t path ≡ Ok (File was) → IsFile (files w i) was → (effect t op).1 ≡ put t (names path) (File (change was))

module _ {w path : List ℕ} {i : ℕ} {f : Inode} {op : Op} {change : List ℕ → List ℕ} (rest : IsAtRest w) (found : IsFileAt w path i f) (m : MakesBytes w path i op change) {t : Tree} (st : StandsFor w t) (allowed : refusal t op ≡ None) where
  after_is : after t op ≡ put t (names path) (File (change (found.node t st).0))
  after_is = ap (λ r. (answered r t (effect t op)).1) allowed ∙ m.makes t (found.node t st).0 (found.node t st).1 (found.node t st).2

  -- objects with the change stand for the tree after the call
  changed_stands : {gs : ℕ → Object} → Changes (files w) gs i change → Stands gs 1 (after t op)
  unfolding Path
  changed_stands {gs} c =
      let node = found.node t st in
      let xs = names path in
      subst (λ u. Stands gs 1 u) (sym after_is)
      (tree_graft (λ j other. c.others j other) (once_named (rest.sound slots) (rest.sound names_apart) (rest.sound named)) (onto xs []) (path_up (files w) (onto xs []) i (leads_path (files w) 1 i xs [] found.leads refl)) xs t (File node.0)
      (File (change node.0)) refl found.leads (resolve_leads t xs (File node.0) node.1) st.tree st.stands (c.file node.0 node.2))

  -- no file is longer than a partition
  short : {new : List ℕ} → IsAtRest new → {bytes : List ℕ} → inode_count new ≡ inode_count w → IsFile (files new i) bytes → length bytes ≤ 2 ^ 39
  short {new} now {bytes} count file =
      let number : IsNumber (inode_count new) i = record { from = found.live.number.from; to = omega (arith, found.live.number.to, count) } in
      let object = objects-in (view new) (inode_count new) i number in
      let kind : (inode (view new) i).kind ≡ 1 = ap (λ (o : Object). o.kind) (sym object) ∙ file.kind in
      let size : (inode (view new) i).size ≡ length bytes = ap (λ (o : Object). o.size) (sym object) ∙ file.size in
      elim (now.sound placed i (record { number = number; used = λ none. omega (arith, none, kind) })).place [
        | inl none ↦ omega (arith, size, none.size)
        | inr room ↦ let small = pow8_small (inode (view new) i).level room.part.level in omega (arith, size, room.size, small.0)
      ]

  pub stands_after : {new : List ℕ} → IsAtRest new → inode_count new ≡ inode_count w → Changes (files w) (files new) i change → StandsFor new (after t op)
  stands_after {new} now count c =
      let node = found.node t st in
      let bytes = change node.0 in
      record {
        tree = subst Rattle.ct_tree.specs.Ordered.IsTree (sym after_is) (put_tree t (names path) (File (change node.0)) (are_names path) st.tree (short now count (c.file node.0 node.2)));
        stands = changed_stands c;
      }

  pub tree_phase : {from to : Option History} {now : List ℕ} → Phase (ChangesOrNot (files w) i change) 5111 from to now → Phase (λ image. Lands image t ⊎ Lands image (after t op)) (most_pairs op) from to now
  tree_phase phase = phase_weaker (λ image. Lands image t ⊎ Lands image (after t op)) (λ image lands. elim lands [
    | inl none ↦ inl (lands_on st.stands none)
    | inr more ↦ inr (lands_on (changed_stands more.changes) more.lands)
  ]) (least_pairs op) phase
