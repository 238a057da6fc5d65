-- What stands once the words of a new entry are there, and where a crash lands.
use Rattle.std.proofs.Common.{◌≡◌, ℕ, List, [], ◌∷◌, ◌++◌, sym, ap, ◌∙◌, subst, inl, inr, arith}
use Rattle.ct_base.specs.declared.inode.Inode.{Inode}
use Rattle.ct_base.specs.Named.{Leads}
use Rattle.ct_base.specs.Objects.{Object}
use Rattle.ct_base.specs.Rules.{names, slots}
use Rattle.ct_base.specs.Settled.{IsShut}
use Rattle.ct_base.specs.View.{view, inode_count}
use Rattle.ct_commit.proofs.States.{head_over}
use Rattle.ct_state.proofs.Bytes.{objects-in}
use Rattle.ct_state.proofs.Created.{created_sound, created_stands, new_file, new_dir}
use Rattle.ct_state.proofs.Followed.{followed, all_names}
use Rattle.ct_state.specs.Leads.{LeadsTo}
use Rattle.ct_tree.specs.Lands.{files}
use Rattle.ct_tree.specs.Ordered.{IsTree}
use Rattle.ct_tree.specs.Stands.{Stands}
use Rattle.ct_tree.specs.Tree.{Tree, File, Dir}
use Rattle.ct_tree.proofs.Ordered.{put_tree}
use Rattle.ct_call.specs.Calls.{StandsFor}
use Rattle.ct_commit.specs.Rest.{IsAtRest, KeepsTables}
use Rattle.ct_enter.specs.Entry.{HasEntry, empty_node, with_node}
use Rattle.ct_enter.proofs.Entering.{Enters, creates, entry_keeps, entry_kind}

-- ---- the words after the record

module _ {old new : List ℕ} {dir : ℕ} {f : Inode} {offset : ℕ} {name : List ℕ} {number kind : ℕ} (e : Enters old new dir f offset name number kind) (shut : IsShut new) where
  keeps : KeepsTables old new
  keeps = entry_keeps e

  rest_after : IsAtRest new
  rest_after = record { head = head_over e.rest.head keeps.head keeps.size shut; sound = created_sound (creates e); shut = shut; tables = (creates e).tables }

  -- the new object is empty
  leaf_stands : Stands (files new) number (empty_node kind)
  leaf_stands = elim e.sort [
    | inl one ↦ subst (Stands (files new) number) (sym (ap empty_node one)) (new_file (creates e) (entry_kind e ∙ one))
    | inr two ↦ subst (Stands (files new) number) (sym (ap empty_node two)) (new_dir (creates e) (entry_kind e ∙ two))
  ]

  leaf_tree : IsTree (empty_node kind)
  leaf_tree = elim e.sort [
    | inl one ↦ subst IsTree (sym (ap empty_node one)) (omega arith)
    | inr two ↦ subst IsTree (sym (ap empty_node two)) tt
  ]

  dir_kind : (files old dir).kind ≡ 2
  dir_kind = ap (λ (g : Object). g.kind) (objects-in (view old) (inode_count old) dir e.spot.owns.live.number) ∙ ap (λ (g : Inode). g.kind) e.spot.is ∙ e.spot.kind

  put_stands : (xs : List (List ℕ)) (t n : Tree) → StandsFor old t → Leads (files old) 1 xs dir → LeadsTo t xs n → Stands (files old) dir n → Stands (files new) 1 (with_node t xs name kind)
  put_stands xs t (File bytes) s leads to was = absurd (omega (arith, was.kind, dir_kind))
  put_stands xs t (Dir es) s leads to was = created_stands (creates e) xs t (empty_node kind) es s.tree s.stands was leads to leaf_stands

  stands_after : (xs : List (List ℕ)) (t : Tree) → StandsFor old t → Leads (files old) 1 xs dir → StandsFor new (with_node t xs name kind)
  stands_after xs t s leads =
      let way = followed (files old) (e.rest.sound names) 1 dir xs t s.tree s.stands leads in
      record {
        tree = put_tree t (xs ++ (name ∷ [])) (empty_node kind) (all_names (files old) (e.rest.sound slots) 1 dir xs name e.spot.lawful leads) s.tree leaf_tree;
        stands = put_stands xs t way.node s leads way.to way.stands;
      }

  pub has_entry : HasEntry old new dir name kind
  has_entry = record { rest = rest_after; keeps = keeps; stands = stands_after }
