-- What is known after cells have changed.
use Rattle.std.proofs.Common.{◌≡◌, ℕ, ◌%◌, Bool, List, [], Option, Some, None, get_or, set, length, refl, sym, ap, ◌∙◌, subst, ◌≢◌, ◌<◌, true, false, replicate, true≢false, arith}
use Rattle.std.proofs.Math.Path.{fun_ext}
use Rattle.std.proofs.lemmas.List.{get_or_default}
use Rattle.ct_base.specs.Objects.{objects}
use Rattle.ct_base.specs.View.{inode_count, view}
use Rattle.ct_base.specs.Walk.{walk}
use Rattle.ct_dir.specs.declared.lookup.Found.{Found}
use Rattle.ct_cache.specs.Agrees.{Agrees, IsKnown}
use Rattle.ct_cache.specs.Cells.{left_by, name_key, name_place, name_value, names_told, page_key, page_place, page_value, pages_told, same_name, same_page, told_by}
use Rattle.ct_cache.specs.Known.{Forgets, HasAtMost, Known, Learns}
use Rattle.ct_cache.specs.Seen.{known_in}
use Rattle.ct_cache.specs.declared.caches.Caches.{Caches}
use Rattle.ct_cache.specs.declared.cell.NameCell.{NameCell}
use Rattle.ct_cache.specs.declared.cell.PageCell.{PageCell}
use Rattle.ct_cache.proofs.Tables.{empty_told, few_told, forgets, learns, none_told, tells-key, tells-other}
use Rattle.ct_cache.proofs.Told.{name_decides, name_low, page_decides, page_low}

module _ (old new : Caches) where
  pub same_names : new.names.items ≡ old.names.items → (known_in new).names ≡ (known_in old).names
  unfolding known_in
  same_names is = ap names_told is

  pub same_pages : new.pages.items ≡ old.pages.items → (known_in new).pages ≡ (known_in old).pages
  unfolding known_in
  same_pages is = ap pages_told is

  pub page_learnt : (k place page : ℕ) (cell : PageCell) → cell.number ≡ k → place ≡ k % 1024 → cell.page ≡ page → new.pages.items ≡ set old.pages.items place (Some cell)
      → Learns (known_in old).pages (known_in new).pages k page
  unfolding known_in
  page_learnt k place page cell key here value now =
      subst (λ x. Learns (pages_told old.pages.items) (pages_told new.pages.items) k x) value
      (subst (λ cells. Learns (pages_told old.pages.items) (pages_told cells) k cell.page) (sym (now ∙ ap (λ i. set old.pages.items i (Some cell)) here))
      (learns same_page page_decides page_key page_value page_place 1024 page_low old.pages.items old.page_cells k cell key))

  pub name_learnt : (k : ℕ × List ℕ) (place : ℕ) (found : Found) (cell : NameCell) → name_key cell ≡ k → place ≡ name_place k → cell.found ≡ found → new.names.items ≡ set old.names.items place (Some cell)
      → Learns (known_in old).names (known_in new).names k found
  unfolding known_in
  name_learnt k place found cell key here value now =
      subst (λ x. Learns (names_told old.names.items) (names_told new.names.items) k x) value
      (subst (λ cells. Learns (names_told old.names.items) (names_told cells) k cell.found) (sym (now ∙ ap (λ i. set old.names.items i (Some cell)) here))
      (learns same_name name_decides name_key name_value name_place 256 name_low old.names.items old.name_cells k cell key))

  pub pages_left : (gone : ℕ → Bool) → ((i : ℕ) → get_or new.pages.items i None ≡ left_by page_key gone (get_or old.pages.items i None)) → Forgets gone (known_in old).pages (known_in new).pages
  unfolding known_in
  pages_left gone left = forgets same_page page_decides page_key page_value page_place gone old.pages.items new.pages.items left

  pub names_left : (gone : ℕ × List ℕ → Bool) → ((i : ℕ) → get_or new.names.items i None ≡ left_by name_key gone (get_or old.names.items i None)) → Forgets gone (known_in old).names (known_in new).names
  unfolding known_in
  names_left gone left = forgets same_name name_decides name_key name_value name_place gone old.names.items new.names.items left

module _ (caches : Caches) where
  pub no_names : ((i : ℕ) → get_or caches.names.items i None ≡ None) → (k : ℕ × List ℕ) → (known_in caches).names k ≡ None
  unfolding known_in
  no_names none k = none_told same_name name_decides name_key name_value name_place caches.names.items k none

  pub no_pages : ((i : ℕ) → get_or caches.pages.items i None ≡ None) → (p : ℕ) → (known_in caches).pages p ≡ None
  unfolding known_in
  no_pages none p = none_told same_page page_decides page_key page_value page_place caches.pages.items p none

  page_told : (p i : ℕ) (x cell : Option PageCell) → i ≡ p % 1024 → x ≡ get_or caches.pages.items i x → x ≡ cell → cell ≡ get_or caches.pages.items (p % 1024) None
  page_told p i x cell here read is =
      let there : i < length caches.pages.items = omega (arith, here, caches.page_cells) in
      sym is ∙ read ∙ get_or_default caches.pages.items i x None there ∙ ap (λ k. get_or caches.pages.items k None) here

  pub page_hit : (p i : ℕ) (x : Option PageCell) (cell : PageCell) → i ≡ p % 1024 → x ≡ get_or caches.pages.items i x → x ≡ Some cell → cell.number ≡ p → Some cell.page ≡ (known_in caches).pages p
  unfolding known_in
  page_hit p i x cell here read is key =
      sym (tells-key same_page page_decides page_key page_value cell p key) ∙ ap (told_by same_page page_key page_value p) (page_told p i x (Some cell) here read is)

  pub page_miss : (p i : ℕ) (x : Option PageCell) (cell : PageCell) → i ≡ p % 1024 → x ≡ get_or caches.pages.items i x → x ≡ Some cell → cell.number ≢ p → None ≡ (known_in caches).pages p
  unfolding known_in
  page_miss p i x cell here read is other =
      sym (tells-other same_page page_decides page_key page_value cell p other) ∙ ap (told_by same_page page_key page_value p) (page_told p i x (Some cell) here read is)

  pub page_none : (p i : ℕ) (x : Option PageCell) → i ≡ p % 1024 → x ≡ get_or caches.pages.items i x → x ≡ None → None ≡ (known_in caches).pages p
  unfolding known_in
  page_none p i x here read is = ap (told_by same_page page_key page_value p) (page_told p i x None here read is)

  name_told : (k : ℕ × List ℕ) (i : ℕ) (x cell : Option NameCell) → i ≡ name_place k → x ≡ get_or caches.names.items i x → x ≡ cell → cell ≡ get_or caches.names.items (name_place k) None
  name_told k i x cell here read is =
      let there : i < length caches.names.items = omega (arith, here, name_low k, caches.name_cells) in
      sym is ∙ read ∙ get_or_default caches.names.items i x None there ∙ ap (λ j. get_or caches.names.items j None) here

  pub name_hit : (k : ℕ × List ℕ) (i : ℕ) (x : Option NameCell) (cell : NameCell) → i ≡ name_place k → x ≡ get_or caches.names.items i x → x ≡ Some cell → same_name (name_key cell) k ≡ true
      → Some cell.found ≡ (known_in caches).names k
  unfolding known_in
  name_hit k i x cell here read is key =
      sym (tells-key same_name name_decides name_key name_value cell k ((name_decides (name_key cell) k).0 key)) ∙ ap (told_by same_name name_key name_value k) (name_told k i x (Some cell) here read is)

  pub name_miss : (k : ℕ × List ℕ) (i : ℕ) (x : Option NameCell) (cell : NameCell) → i ≡ name_place k → x ≡ get_or caches.names.items i x → x ≡ Some cell → same_name (name_key cell) k ≡ false
      → None ≡ (known_in caches).names k
  unfolding known_in
  name_miss k i x cell here read is off =
      sym (tells-other same_name name_decides name_key name_value cell k (λ e. true≢false (sym ((name_decides (name_key cell) k).1 e) ∙ off)))
      ∙ ap (told_by same_name name_key name_value k) (name_told k i x (Some cell) here read is)

  pub name_none : (k : ℕ × List ℕ) (i : ℕ) (x : Option NameCell) → i ≡ name_place k → x ≡ get_or caches.names.items i x → x ≡ None → None ≡ (known_in caches).names k
  unfolding known_in
  name_none k i x here read is = ap (told_by same_name name_key name_value k) (name_told k i x None here read is)

  pub few_pages : HasAtMost 1024 (known_in caches).pages
  unfolding known_in
  few_pages = few_told same_page page_decides page_key page_value page_place 1024 page_low caches.pages.items caches.page_cells 0

  pub few_names : HasAtMost 256 (known_in caches).names
  unfolding known_in
  few_names = let none : ℕ × List ℕ = (0, []) in few_told same_name name_decides name_key name_value name_place 256 name_low caches.names.items caches.name_cells none

  -- empty tables tell nothing
  pub nothing_known : caches.pages.items ≡ replicate 1024 None → caches.names.items ≡ replicate 256 None → known_in caches ≡ (record { pages = λ p. None; names = λ k. None })
  unfolding known_in
  nothing_known pages names =
      let known : Known = record { pages = λ p. None; names = names_told caches.names.items } in
      let no_page : pages_told caches.pages.items ≡ (λ p. None) =
      fun_ext (λ p. ap (λ cells. pages_told cells p) pages ∙ empty_told same_page page_decides page_key page_value page_place 1024 p (page_low p)) in
      let no_name : names_told caches.names.items ≡ (λ k. None) =
      fun_ext (λ k. ap (λ cells. names_told cells k) names ∙ empty_told same_name name_decides name_key name_value name_place 256 k (name_low k)) in
      let first : known_in caches ≡ known = ap (λ f. record { pages = f; names = names_told caches.names.items }) no_page in
      first ∙ ap (λ f. record { pages = λ p. None; names = f }) no_name
