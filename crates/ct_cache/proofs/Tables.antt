-- A table of cells, as a map: what a write of one cell does to it, and what emptying cells does.
use Rattle.std.proofs.Common.{◌≡◌, ◌≢◌, ℕ, ◌<◌, ◌≤◌, Bool, true, false, List, Option, Some, None, length, get_or, set, map, replicate, refl, sym, ap, ◌∙◌, subst, ◌⊎◌, inl, inr, arith, true≢false}
use Rattle.std.specs.Prelude.{Contains, if◌then◌else◌}
use Rattle.std.specs.Option.{IsSome}
use Rattle.std.specs.Bool.{Decides}
use Rattle.std.proofs.lemmas.Bool.{cases_Bool, cases_eq}
use Rattle.std.proofs.lemmas.Option.{same_Some}
use Rattle.std.proofs.lemmas.List.{get_or-set_same, get_or-set_other, get_or-map, get_or-replicate, length-map}
use Rattle.ct_cache.specs.Cells.{left_by, told_by, told_in}
use Rattle.ct_cache.specs.Known.{HasAtMost, Learns, Forgets}

none_if : {V : Type 0} (b : Bool) (o : Option V) → o ≡ None → (if b then None else o) ≡ None
none_if true o is = refl
none_if false o is = is

module _ {T K V : Type 0} (same : K → K → Bool) (decides : (a b : K) → Decides (same a b) (a ≡ b)) (key : T → K) (value : T → V) where
  tells : K → Option T → Option V
  tells = told_by same key value

  pub tells-key : (cell : T) (k : K) → key cell ≡ k → told_by same key value k (Some cell) ≡ Some (value cell)
  tells-key cell k is = rw ((decides (key cell) k).1 is) refl

  pub tells-other : (cell : T) (k : K) → key cell ≢ k → told_by same key value k (Some cell) ≡ None
  tells-other cell k other = elim (cases_Bool (same (key cell) k)) [
    | inl e ↦ absurd (other ((decides (key cell) k).0 e))
    | inr off ↦ rw off refl
  ]

  -- where a cell tells of a key, it has it
  tells-has : (o : Option T) (k : K) → told_by same key value k o ≢ None → (cell : T) × (o ≡ Some cell) × (key cell ≡ k)
  tells-has None k some = absurd (some refl)
  tells-has (Some cell) k some = elim (cases_Bool (same (key cell) k)) [
    | inl e ↦ (cell, refl, (decides (key cell) k).0 e)
    | inr off ↦ absurd (some (rw off refl))
  ]

  left_key : (cell : T) (k : K) (b c : Bool) → b ≡ c → told_by same key value k (if b then None else Some cell) ≡ (if c then None else told_by same key value k (Some cell))
  left_key cell k true c is = rw (← is) refl
  left_key cell k false c is = rw (← is) refl

  left_other : (cell : T) (k : K) (b : Bool) → key cell ≢ k → told_by same key value k (if b then None else Some cell) ≡ None
  left_other cell k true other = refl
  left_other cell k false other = tells-other cell k other

  -- a test of keys that empties a cell takes what the cell tells
  tells-left : (gone : K → Bool) (o : Option T) (k : K) → told_by same key value k (left_by key gone o) ≡ (if gone k then None else told_by same key value k o)
  tells-left gone None k = sym (none_if (gone k) None refl)
  tells-left gone (Some cell) k = elim (cases_Bool (same (key cell) k)) [
    | inl e ↦ left_key cell k (gone (key cell)) (gone k) (ap gone ((decides (key cell) k).0 e))
    | inr off ↦
        let other : key cell ≢ k = λ is. true≢false (sym ((decides (key cell) k).1 is) ∙ off) in
        left_other cell k (gone (key cell)) other ∙ sym (none_if (gone k) (told_by same key value k (Some cell)) (tells-other cell k other))
  ]

  module _ (place : K → ℕ) where
    -- a table whose cells are all empty tells nothing
    pub empty_told : (n : ℕ) (k : K) → place k < n → told_in same key value place (replicate n None) k ≡ None
    empty_told n k low = ap (told_by same key value k) (get_or-replicate n (place k) None None low)

    -- cells that are empty tell nothing
    pub none_told : (cells : List (Option T)) (k : K) → ((i : ℕ) → get_or cells i None ≡ None) → told_in same key value place cells k ≡ None
    none_told cells k none = ap (told_by same key value k) (none (place k))

    pub forgets : (gone : K → Bool) (old new : List (Option T)) → ((i : ℕ) → get_or new i None ≡ left_by key gone (get_or old i None))
        → Forgets gone (told_in same key value place old) (told_in same key value place new)
    forgets gone old new left k = ap (told_by same key value k) (left (place k)) ∙ tells-left gone (get_or old (place k) None) k

    module _ (n : ℕ) (low : (k : K) → place k < n) (cells : List (Option T)) (size : length cells ≡ n) where
      -- the cell of a key of which the table tells
      held : (k : K) → told_in same key value place cells k ≢ None → (cell : T) × (get_or cells (place k) None ≡ Some cell) × (key cell ≡ k)
      held k some = tells-has (get_or cells (place k) None) k some

      key_or : K → Option T → K
      key_or none None = none
      key_or none (Some cell) = key cell

      -- so it tells of no more keys than it has cells
      pub few_told : K → HasAtMost n (told_in same key value place cells)
      unfolding key_or
      few_told none = (
        map (key_or none) cells,
        omega (arith, length-map cells (key_or none), size),
        λ k some.
            let h = held k (λ is. true≢false (sym some ∙ ap Rattle.std.specs.Option.is_some is)) in
            let there : place k < length cells = omega (arith, low k, size) in
            (place k, omega (arith, length-map cells (key_or none), there), get_or-map (key_or none) cells (place k) None k there ∙ ap (key_or none) h.1 ∙ h.2),
      )

      module _ (k : K) (cell : T) (is : key cell ≡ k) where
        there : place k < length cells
        there = omega (arith, low k, size)

        after : List (Option T)
        after = set cells (place k) (Some cell)

        at_place : (j : K) → place j ≡ place k → told_in same key value place (set cells (place k) (Some cell)) j ≡ told_by same key value j (Some cell)
        at_place j here = ap (told_by same key value j) (ap (λ i. get_or (set cells (place k) (Some cell)) i None) here ∙ get_or-set_same cells (place k) (Some cell) None there)

        off_place : (j : K) → place j ≢ place k → told_in same key value place (set cells (place k) (Some cell)) j ≡ told_in same key value place cells j
        off_place j off = ap (told_by same key value j) (get_or-set_other cells (place k) (place j) (Some cell) None off)

        gone_at : (j : K) → j ≢ k → place j ≡ place k → told_in same key value place (set cells (place k) (Some cell)) j ≡ None
        gone_at j other here = at_place j here ∙ tells-other cell j (λ e. other (sym e ∙ is))

        -- what changed had the cell
        changed : (j : K) → j ≢ k → told_in same key value place (set cells (place k) (Some cell)) j ≢ told_in same key value place cells j
            → (c : T) × (get_or cells (place k) None ≡ Some c) × (key c ≡ j)
        changed j other new = elim (cases_eq (place j) (place k)) [
          | inl here ↦
              let h = held j (λ none. new (gone_at j other here ∙ sym none)) in
              (h.0, ap (λ i. get_or cells i None) (sym here) ∙ h.1, h.2)
          | inr off ↦ absurd (new (off_place j off))
        ]

        pub learns : Learns (told_in same key value place cells) (told_in same key value place (set cells (place k) (Some cell))) k (value cell)
        learns = record {
          is = at_place k refl ∙ tells-key cell k is;
          others = λ j other. elim (cases_eq (place j) (place k)) [
            | inl here ↦ inr (gone_at j other here)
            | inr off ↦ inl (off_place j off)
          ];
          one = λ i j i_other j_other i_new j_new.
              let a = changed i i_other i_new in
              let b = changed j j_other j_new in
              sym a.2 ∙ ap key (same_Some a.0 b.0 (sym a.1 ∙ b.1)) ∙ b.2;
        }
