-- The object to which a path leads: a file or a directory of the tree, as its inode says.
use Rattle.std.proofs.Common.{◌≡◌, ◌≢◌, ℕ, List, [], ◌∷◌, Option, Result, Ok, None, sym, ap, ◌∙◌, arith}
use Rattle.ct_base.specs.declared.inode.Inode.{Inode}
use Rattle.ct_tree.specs.Checks.{at, bad_path, first_of, no_file}
use Rattle.ct_tree.specs.Lands.{files}
use Rattle.ct_tree.specs.Stands.{IsFile, Stands}
use Rattle.ct_tree.specs.Tree.{Tree, File, Dir, Entries}
use Rattle.ct_tree.specs.declared.call.Refusal.{Refusal}
use Rattle.ct_tree.specs.declared.call.Refusal.TheVariants.{IsDir}
use Rattle.ct_commit.specs.Rest.{IsAtRest, StandsFor}
use Rattle.ct_find.proofs.Living.{file_kind, kind_is}
use Rattle.ct_find.specs.Files.{IsFileAt, IsNoFile}
use Rattle.ct_find.specs.Nodes.{IsNodeAt}

-- the checks of a path look at what it leads to alone
pub checked_by : (check : Result Tree Refusal → Option Refusal) (t : Tree) (path : List ℕ) (found : Result Tree Refusal) → bad_path path ≡ None → at t path ≡ found → first_of (bad_path path ∷ check (at t path) ∷ []) ≡ first_of (check found ∷ [])
checked_by check t path found valid is =
    ap (λ q. first_of (q ∷ check (at t path) ∷ [])) valid ∙ ap (λ r. first_of (check r ∷ [])) is

module _ {w path : List ℕ} {i : ℕ} {f : Inode} (rest : IsAtRest w) (found : IsNodeAt w path i f) where
  module _ (t : Tree) (st : StandsFor w t) where
    pub file_node : f.kind ≢ 2 → (bytes : List ℕ) × (at t path ≡ Ok (File bytes)) × IsFile (files w i) bytes
    file_node other = let s = found.node t st in on s.node s.is s.stands
      where
        on : (n : Tree) → at t path ≡ Ok n → Stands (files w) i n → (bytes : List ℕ) × (at t path ≡ Ok (File bytes)) × IsFile (files w i) bytes
        on (File bytes) is stands = (bytes, is, stands)
        on (Dir es) is stands = absurd (other (sym (kind_is rest found.live found.is) ∙ stands.0.kind))

    pub dir_node : f.kind ≡ 2 → (es : Entries) × (at t path ≡ Ok (Dir es)) × Stands (files w) i (Dir es)
    dir_node dir = let s = found.node t st in on s.node s.is s.stands
      where
        on : (n : Tree) → at t path ≡ Ok n → Stands (files w) i n → (es : Entries) × (at t path ≡ Ok (Dir es)) × Stands (files w) i (Dir es)
        on (File bytes) is stands = absurd (omega (arith, stands.kind, kind_is rest found.live found.is, dir))
        on (Dir es) is stands = (es, is, stands)

  pub file_at : f.kind ≢ 2 → IsFileAt w path i f
  file_at other = record {
    live = found.live;
    is = found.is;
    kind = file_kind rest found.live found.is other;
    leads = found.leads;
    valid = found.valid;
    node = λ t st. file_node t st other;
  }

  -- a directory is no file
  pub no_file_at : f.kind ≡ 2 → (t : Tree) → StandsFor w t → IsNoFile t path IsDir
  no_file_at dir t st = let n = dir_node t st dir in checked_by no_file t path (Ok (Dir n.0)) found.valid n.1
