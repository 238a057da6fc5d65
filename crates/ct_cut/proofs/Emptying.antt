-- A cut to nothing: its pairs, and what they leave.
use Rattle.std.proofs.Common.{◌≡◌, ◌≢◌, ℕ, ◌+◌, ◌*◌, ◌/◌, ◌^◌, ◌<◌, ◌≤◌, List, [], ◌∷◌, ◌++◌, length, refl, sym, ap, subst, ◌∙◌, arith}
use Rattle.ct_base.specs.Inode.{inode, part}
use Rattle.ct_base.specs.Plan.{stage}
use Rattle.ct_base.specs.Settled.{Named, Pair, with_pairs}
use Rattle.ct_base.specs.View.{view}
use Rattle.ct_base.specs.Walk.{page_at, AreTables}
use Rattle.ct_base.specs.Words.{Rewrites, pairs_to, place_at}
use Rattle.ct_commit.proofs.States.{off_record}
use Rattle.ct_grow.proofs.Placing.{names_append, names_beside, names_leave, names_none, names_run}
use Rattle.ct_grow.specs.Drafted.{NamePlaces}
use Rattle.ct_image.proofs.Beside.{Beside, beside_cells, beside_tables}
use Rattle.ct_pm.specs.Device.{SameOff}
use Rattle.ct_record.specs.Record.{InRecord}
use Rattle.ct_record.proofs.Under.{under_beside}
use Rattle.ct_state.proofs.Settle.{alike_off, bytes_off}
use Rattle.ct_swap.specs.Swap.{LeaveTables}
use Rattle.ct_words.specs.Drafted.{MapsAlike}
use Rattle.ct_write.specs.Recorded.{IsBare}
use Rattle.ct_cut.specs.Emptied.{Emptied}
use Rattle.ct_cut.specs.GivenUp.{CanGiveUp, GivesUp, whole_pieces}
use Rattle.ct_cut.proofs.GivingUp.{tables_beside}

-- words that differ in the record alone
module _ {img now : List ℕ} (same : SameOff InRecord now img) where
  beside : Beside img now
  beside = under_beside img now same

  pub view_beside : view now ≡ view img
  view_beside = (alike_off (off_record same)).bytes

  pub can_beside : (i : ℕ) → CanGiveUp img (inode (view img) i) → CanGiveUp now (inode (view now) i)
  can_beside i can = subst (λ b. CanGiveUp now (inode b i)) (sym view_beside) (record {
    placed = can.placed;
    headers = λ a on none. can.headers a on (sym (beside_cells beside 4 (a / 4096)) ∙ none);
    unmapped = λ q slot. beside_cells beside 4 q ∙ can.unmapped q slot;
    tables = tables_beside beside ((inode (view img) i).base / 4096) (stage (inode (view img) i).base / 4096) (whole_pieces (inode (view img) i)) can.tables;
  })

-- a draft without pairs
pub no_pairs : {img : List ℕ} (pairs : List Pair) (slot : ℕ) → pairs ≡ [] → AreTables img → MapsAlike slot img (with_pairs pairs img)
no_pairs {img} pairs slot none tables = subst (λ (l : List Pair). MapsAlike slot img (with_pairs l img)) (sym none) (record { tables = tables; after = tables; count = refl; same = λ n in_slot. refl })

-- ---- the words of the inode

module _ {img now : List ℕ} {i at : ℕ} (values : List ℕ) {before pairs : List Pair} (tables : AreTables img) (few : i ≤ 1048576) (there : page_at img 4 (64 * i / 4096) ≢ 0) (at_is : at ≡ 64 * i + 8) (three : length values ≡ 3)
    (none : before ≡ []) (added : pairs ≡ pairs_to (place_at img at) values (length values) ++ before) (same : SameOff InRecord now img) where
  extent_names : NamePlaces img (λ a. a < 2 ^ 40) pairs
  extent_names =
      let page : at / 4096 ≡ 64 * i / 4096 = omega (arith, at_is) in
      names_append added
      (names_run img (λ a. a < 2 ^ 40) at values (length values) (omega (arith, at_is)) (omega (arith, at_is, three)) (λ z. there (sym (ap (page_at img 4) page) ∙ z)) (λ k lt. omega (arith, at_is, three, lt)))
      (names_none img (λ a. a < 2 ^ 40) before none)

  pub extent_leaves : LeaveTables now pairs
  extent_leaves = let s = under_beside img now same in names_leave (beside_tables s tables) (names_beside s extent_names)

  pub extent_bare : (w : ℕ) → Named pairs w → IsBare img w
  extent_bare w named q high is =
      let n = extent_names.each w named in
      let low = n.on in
      let there : page_at img 4 (n.address / 4096) ≡ page_at img 4 q = omega (arith, n.is, is) in
      omega (arith, (tables.once 4 (n.address / 4096) 4 q (omega arith) (omega arith) n.there there).1, low)

-- as the function has them
pub emptied_by : {img mid0 x1 x2 : List ℕ} {i at : ℕ} (mid values : List ℕ) → mid0 ≡ img → at ≡ 64 * i + 8 → values ≡ 0 ∷ 0 ∷ 15 ∷ [] → view mid ≡ view img → Rewrites mid0 x1 at values → GivesUp x1 x2 (part (inode (view mid) i)) → Emptied img x2 i
emptied_by {img} {mid0} {x1} {x2} {i} {at} mid values start at_is are seen rewrites gives = record {
  middle = x1;
  extent = subst (λ (l : List ℕ). Rewrites img x1 (64 * i + 8) l) are (subst (λ (k : ℕ). Rewrites img x1 k values) at_is (subst (λ (l : List ℕ). Rewrites l x1 at values) start rewrites));
  gives = subst (λ b. GivesUp x1 x2 (part (inode b i))) seen gives;
}

-- the record, once it is complete
pub emptied_done : (i : ℕ) (start changed done : List ℕ) → Emptied start changed i → SameOff InRecord done changed → Emptied start done i
emptied_done i start changed done e same =
    let s = under_beside changed done same in
    let off = off_record same in
    let alike = alike_off off in
    let g = e.gives in
    record {
      middle = e.middle;
      extent = e.extent;
      gives = record {
        gone = λ v inside. ap (λ b. b v) alike.bytes ∙ g.gone v inside;
        stand = λ ps stands one. subst (λ b. Rattle.ct_base.specs.Headers.StandFor b (Rattle.ct_base.specs.Headers.without (part (inode (view start) i)) ps)) (sym alike.bytes) (g.stand ps stands one);
        others = λ v header inside. ap (λ b. b v) alike.bytes ∙ g.others v header inside;
        unmapped = λ q inside. beside_cells s 4 q ∙ g.unmapped q inside;
        pages = λ q away out. beside_cells s 4 q ∙ g.pages q away out;
        staged = λ v from to. bytes_off off v (omega (arith, to)) ∙ g.staged v from to;
        roots = λ k from to. beside_cells s 1 k ∙ g.roots k from to;
        fresh = λ q f d x le is. g.fresh q f d x le (sym (beside_cells s d x) ∙ is);
        reached = λ q f. g.reached q (λ d x le is. f d x le (beside_cells s d x ∙ is));
        tables = beside_tables s g.tables;
        head = λ w lt. s.front w lt ∙ g.head w lt;
        size = s.size ∙ g.size;
      };
    }
