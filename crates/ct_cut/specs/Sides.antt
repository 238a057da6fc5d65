-- What a cut asks for beside the tables of the file's side.
use Rattle.std.specs.Prelude.{ℕ, ◌+◌, ◌-◌, ◌*◌, ◌++◌, nat_lt, if◌then◌else◌, List, [], ◌∷◌}
use Rattle.ct_base.specs.declared.layout.TheConstants.{PAGE_BYTES}
use Rattle.ct_base.specs.Plan.{page_want, table_want}
use Rattle.ct_base.specs.Wants.{Want}
use Rattle.ct_plan.specs.Few.{edge, few_wants}
use Rattle.ct_stage.specs.declared.edit.Edit.{Edit}
use Rattle.ct_stage.specs.declared.edit.Given.TheVariants.{Same}

-- zeros from an address to before another
abbrev pub zeros : ℕ → ℕ → Edit
zeros from to = record { from = from; to = to; given = Same 0 }

-- the tables of root slot 2 for pages b and on, n of them
abbrev pub side_tables : ℕ → ℕ → List Want
side_tables b n = table_want (edge 3 b) (b * PAGE_BYTES) ∷ table_want (edge 3 (b + n)) ((b + n - 1) * PAGE_BYTES) ∷ []

-- the first page, where the zeros begin behind its begin
abbrev pub edge_page : ℕ → ℕ → ℕ → List Want
edge_page a b from = if nat_lt (a * PAGE_BYTES) from then page_want (b * PAGE_BYTES) ∷ [] else []

abbrev pub staged_wants : ℕ → ℕ → ℕ → ℕ → List Want
staged_wants a b n from = side_tables b n ++ edge_page a b from

-- all that a cut of pages a and on asks for
abbrev pub cut_asks : ℕ → ℕ → ℕ → ℕ → List Want
cut_asks a b n from = few_wants a b n ++ staged_wants a b n from
