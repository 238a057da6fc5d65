-- What was done of items, whatever they are, by the state, the replies, the moments and what was written.
--
-- Step s item reply s' from to: in state s the item had the reply and left state s', and meanwhile went on from one moment to
-- another. Begun s item from to: in state s at most this was done of the item, which had no reply. line reply: what is written
-- of a reply.
use Rattle.std.specs.Prelude.{◌≡◌, ◌⊎◌, ℕ, ◌++◌, ◌-◌, ◌≤◌, List, [], ◌∷◌, length, take, Err, OnOk, IfErr}
use Rattle.std.specs.Io.KnownBytes.{Appends}
use Rattle.std.specs.List.{flat_map}
use Rattle.std.specs.declared.option.Option.{Option}
use Rattle.std.specs.declared.result.Result.{Result}
use Rattle.ct_base.specs.Causes.{Rose}

module _ {S I R M : Type 0} (Step : S → I → R → S → M → M → Type 0) where
  -- the items had these replies, one after another, with a moment for each
  abbrev pub Chain : S → List I → List R → S → M → M → Type 0
  Chain s [] [] s' from to = (s' ≡ s) × (to ≡ from)
  Chain s (item ∷ items) (reply ∷ replies) s' from to = (mid : S) × (there : M) × Step s item reply mid from there × Chain mid items replies s' there to
  Chain s [] (reply ∷ replies) s' from to = ⊥
  Chain s (item ∷ items) [] s' from to = ⊥

  -- The items before the rest had these replies, one after another.
  pub record RanOf (start left : S) (all rest : List I) (replies : List R) (from to : M) : Type 0 where
    pub done : List I
    pub split : all ≡ done ++ rest
    pub passes : Chain start done replies left from to

module _ {S I M : Type 0} (Begun : S → I → M → M → Type 0) where
  -- the first of the items was begun
  abbrev pub HasBegun : S → List I → M → M → Type 0
  HasBegun s [] from to = ⊥
  HasBegun s (item ∷ items) from to = Begun s item from to

module _ {S I R M : Type 0} (Step : S → I → R → S → M → M → Type 0) (line : R → List ℕ) where
  -- the items before the rest were answered, and each reply was written whole
  pub record ServedOf (start left : S) (all rest : List I) (old new : Option (List ℕ)) (from to : M) : Type 0 where
    pub replies : List R
    pub ran : RanOf Step start left all rest replies from to
    pub wrote : Appends old new (flat_map line replies)

module _ {S I R M : Type 0} (Step : S → I → R → S → M → M → Type 0) (Begun : S → I → M → M → Type 0) (line : R → List ℕ) where
  -- Some items were answered. The replies to all of them were written whole, and then at most one item was begun; or to all but
  -- the last, of which a part was written, and then nothing was begun.
  pub record StoppedOf (start : S) (all : List I) (old new : Option (List ℕ)) (from to : M) : Type 0 where
    pub rest : List I
    pub whole : List R
    pub torn : List R
    pub part : ℕ
    pub left : S
    pub moment : M
    pub ran : RanOf Step start left all rest (whole ++ torn) from moment
    pub one : length torn ≤ 1
    pub short : part ≤ length (flat_map line torn) - 1
    pub wrote : Appends old new (flat_map line whole ++ take part (flat_map line torn))
    pub begun : (to ≡ moment) ⊎ ((torn ≡ []) × HasBegun Begun left rest moment to)

  -- and it stopped where this holds of the reply that was written in part, and of what was done since the last reply
  pub record StoppedWhere (By : List R → M → M → Type 0) (start : S) (all : List I) (old new : Option (List ℕ)) (from to : M) : Type 0 where
    pub stopped : StoppedOf start all old new from to
    pub by : By stopped.torn stopped.moment to

module _ {S I R M E : Type 0} (Step : S → I → R → S → M → M → Type 0) (Begun : S → I → M → M → Type 0) (line : R → List ℕ) (By : E → List R → M → M → Type 0) (IsFault : E → Type 0) where
  -- What was done of items from state s, where a run of them ends by itself or with one of these ends: all of them, and Keeps
  -- holds of the state after them; or some. By says of each end what it stops, and IsFault at which the count of faults rose.
  pub record ServesOf {T : Type 0} (Keeps : S → Type 0) (s : S) (all : List I) (from to : M) (faults faults' : ℕ) (old new : Option (List ℕ)) (result : Result T E) : Type 0 where
    pub whole : OnOk result ((left : S) × ServedOf Step line s left all [] old new from to × Keeps left)
    pub stopped : IfErr result (λ end. StoppedWhere Step Begun line (By end) s all old new from to)
    pub later : faults ≤ faults'
    pub fault : (end : E) → result ≡ Err end → IsFault end → Rose faults faults'
