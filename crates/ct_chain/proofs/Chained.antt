-- Runs one after another, with what they write.
use Rattle.std.proofs.Common.{◌≡◌, ◌∙◌, ℕ, ◌<◌, ◌≤◌, Bool, true, false, arith, List, [], ◌∷◌, ◌++◌, length, take, refl, sym, ap, subst, append_assoc, append-nil, Option, Result, Ok, Err, inl, inr, ◌⊎◌}
use Rattle.std.specs.Prelude.{nat_lt}
use Rattle.std.proofs.lemmas.Bool.Decides.{nat_tests}
use Rattle.std.proofs.lemmas.List.{take_all}
use Rattle.std.specs.List.{flat_map}
use Rattle.std.specs.Io.KnownBytes.{Appends}
use Rattle.ct_base.specs.Bytes.{PutAppends}
use Rattle.ct_base.specs.Causes.{Rose}
use Rattle.ct_script.proofs.Puts.{appends_nil, appends_then, rose_after}
use Rattle.ct_chain.specs.Chains.{Chain, HasBegun, RanOf, ServedOf, ServesOf, StoppedOf, StoppedWhere}

texts_append : {R : Type 0} (line : R → List ℕ) (rs ss : List R) → flat_map line (rs ++ ss) ≡ flat_map line rs ++ flat_map line ss
texts_append line [] ss = refl
texts_append line (r ∷ rs) ss = ap (λ w. line r ++ w) (texts_append line rs ss) ∙ sym (append_assoc (line r) (flat_map line rs) (flat_map line ss))

module _ {S I R M : Type 0} (Step : S → I → R → S → M → M → Type 0) where
  chain_then : (s m u : S) (is js : List I) (rs ss : List R) (f g h : M) → Chain Step s is rs m f g → Chain Step m js ss u g h → Chain Step s (is ++ js) (rs ++ ss) u f h
  chain_then s m u [] js [] ss f g h p q = subst (λ z. Chain Step z js ss u f h) p.0 (subst (λ o. Chain Step m js ss u o h) p.1 q)
  chain_then s m u [] js (r ∷ rs) ss f g h p q = absurd p
  chain_then s m u (i ∷ is) js [] ss f g h p q = absurd p
  chain_then s m u (i ∷ is) js (r ∷ rs) ss f g h p q = (p.0, p.1, p.2, chain_then p.0 m u is js rs ss p.1 g h p.3 q)

  -- items, and then others
  ran_then : (s t u : S) (all xs more rest : List I) (rs ss : List R) (f g h : M) → RanOf Step s t all (xs ++ more) rs f g → RanOf Step t u xs rest ss g h → RanOf Step s u all (rest ++ more) (rs ++ ss) f h
  ran_then s t u all xs more rest rs ss f g h one two = record {
    done = one.done ++ two.done;
    split = one.split ∙ ap (λ ys. one.done ++ (ys ++ more)) two.split ∙ ap (λ ys. one.done ++ ys) (append_assoc two.done rest more) ∙ sym (append_assoc one.done two.done (rest ++ more));
    passes = chain_then s t u one.done two.done rs ss f g h one.passes two.passes;
  }

  pub ran_none : (s : S) (all : List I) (f : M) → RanOf Step s s all all [] f f
  ran_none s all f = record { done = []; split = refl; passes = (refl, refl) }

  pub ran_one : (s t : S) (item : I) (rest : List I) (reply : R) (f g : M) → Step s item reply t f g → RanOf Step s t (item ∷ rest) rest (reply ∷ []) f g
  ran_one s t item rest reply f g passed = record { done = item ∷ []; split = refl; passes = (t, g, passed, (refl, refl)) }

  -- one item more
  pub ran_more : (s t u : S) (all rest : List I) (item : I) (rs : List R) (reply : R) (f g h : M) → RanOf Step s t all (item ∷ rest) rs f g → Step t item reply u g h → RanOf Step s u all rest (rs ++ reply ∷ []) f h
  ran_more s t u all rest item rs reply f g h had passed = ran_then s t u all (item ∷ []) rest [] rs (reply ∷ []) f g h had (ran_one t u item [] reply g h passed)

module _ {S I M : Type 0} (Begun : S → I → M → M → Type 0) where
  -- what was begun is so with more items after it
  pub begun_more : (s : S) (is js : List I) (f g : M) → HasBegun Begun s is f g → HasBegun Begun s (is ++ js) f g
  begun_more s [] js f g begun = absurd begun
  begun_more s (i ∷ is) js f g begun = begun

  begun_or_more : {R : Type 0} {torn : List R} (s : S) (is js : List I) (f g : M) → (g ≡ f) ⊎ ((torn ≡ []) × HasBegun Begun s is f g) → (g ≡ f) ⊎ ((torn ≡ []) × HasBegun Begun s (is ++ js) f g)
  begun_or_more s is js f g (inl same) = inl same
  begun_or_more s is js f g (inr begun) = inr (begun.0, begun_more s is js f g begun.1)

module _ {S I R M : Type 0} (Step : S → I → R → S → M → M → Type 0) (Begun : S → I → M → M → Type 0) (line : R → List ℕ) where
  abbrev no_replies : List R
  no_replies = []

  -- nothing was served
  pub served_nothing : (s : S) (all : List I) (a : Option (List ℕ)) (f : M) → [] ≡ all → ServedOf Step line s s all [] a a f f
  served_nothing s all a f is = record { replies = []; ran = subst (λ (xs : List I). RanOf Step s s xs [] [] f f) is (ran_none Step s [] f); wrote = appends_nil a }

  pub served_none : (s : S) (all : List I) (a : Option (List ℕ)) (f : M) → ServedOf Step line s s all all a a f f
  served_none s all a f = record { replies = []; ran = ran_none Step s all f; wrote = appends_nil a }

  -- items that were all served, before others
  pub served_before : (s t : S) (xs more : List I) (a b : Option (List ℕ)) (f g : M) → ServedOf Step line s t xs [] a b f g → ServedOf Step line s t (xs ++ more) more a b f g
  served_before s t xs more a b f g had = record {
    replies = had.replies;
    ran = record { done = had.ran.done; split = ap (λ (z : List I). z ++ more) (had.ran.split ∙ append-nil had.ran.done); passes = had.ran.passes };
    wrote = had.wrote;
  }

  stopped_at : (s : S) (all : List I) (a : Option (List ℕ)) (f g : M) → (g ≡ f) ⊎ ((no_replies ≡ []) × HasBegun Begun s all f g) → StoppedOf Step Begun line s all a a f g
  stopped_at s all a f g begun = record {
    rest = all;
    whole = [];
    torn = [];
    part = 0;
    left = s;
    moment = f;
    ran = ran_none Step s all f;
    one = omega arith;
    short = omega arith;
    wrote = appends_nil a;
    begun = begun;
  }

  -- nothing was answered
  pub stopped_still : (s : S) (all : List I) (a : Option (List ℕ)) (f : M) → StoppedOf Step Begun line s all a a f f
  stopped_still s all a f = stopped_at s all a f f (inl refl)

  -- an item was begun, and then it stopped with no reply in part
  pub stopped_begun : (By : List R → M → M → Type 0) (s : S) (all : List I) (a : Option (List ℕ)) (f g : M) → By [] f g → HasBegun Begun s all f g → StoppedWhere Step Begun line By s all a a f g
  unfolding stopped_at
  stopped_begun By s all a f g by begun = record { stopped = stopped_at s all a f g (inr (refl, begun)); by = by }

  module _ (s t : S) (item : I) (reply : R) (a b : Option (List ℕ)) (f g : M) (passed : Step s item reply t f g) where
    pub served_one : Appends a b (line reply) → ServedOf Step line s t (item ∷ []) [] a b f g
    served_one w = record { replies = reply ∷ []; ran = ran_one Step s t item [] reply f g passed; wrote = subst (Appends a b) (sym (append-nil (line reply))) w }

    -- a part of the line, which may be all of it; nothing was done since
    pub stopped_one : (By : List R → M → M → Type 0) → ((torn : List R) → By torn g g) → (k : ℕ) × Appends a b (take k (line reply)) → StoppedWhere Step Begun line By s (item ∷ []) a b f g
    stopped_one By by w = at (nat_lt w.0 (length (line reply))) refl
      where
        at : (less : Bool) → nat_lt w.0 (length (line reply)) ≡ less → StoppedWhere Step Begun line By s (item ∷ []) a b f g
        at true e = record {
          stopped = record {
            rest = [];
            whole = [];
            torn = reply ∷ [];
            part = w.0;
            left = t;
            moment = g;
            ran = ran_one Step s t item [] reply f g passed;
            begun = inl refl;
            one = omega arith;
            short =
                let below : w.0 < length (line reply) = grind (arith, nat_tests) in
                let same : length (flat_map line (reply ∷ [])) ≡ length (line reply) = ap length (append-nil (line reply)) in omega (arith, below, same);
            wrote = subst (λ text. Appends a b (take w.0 text)) (sym (append-nil (line reply))) w.1;
          };
          by = by (reply ∷ []);
        }
        at false e = record {
          stopped = record {
            rest = [];
            whole = reply ∷ [];
            torn = [];
            part = 0;
            left = t;
            moment = g;
            ran = ran_one Step s t item [] reply f g passed;
            begun = inl refl;
            one = omega arith;
            short = omega arith;
            wrote = let above : length (line reply) ≤ w.0 = grind (arith, nat_tests) in subst (Appends a b) (take_all w.0 (line reply) above ∙ sym (append-nil (line reply)) ∙ sym (append-nil (line reply ++ []))) w.1;
          };
          by = by [];
        }

  -- items that were served, and then others
  module _ (s t : S) (all rest xs more : List I) (a b d : Option (List ℕ)) (f g h : M) (had : ServedOf Step line s t all rest a b f g) (splits : rest ≡ xs ++ more) where
    ran_here : RanOf Step s t all (xs ++ more) had.replies f g
    ran_here = subst (λ (items : List I). RanOf Step s t all items had.replies f g) splits had.ran

    pub served_more : (u : S) → ServedOf Step line t u xs [] b d g h → ServedOf Step line s u all more a d f h
    served_more u on = record {
      replies = had.replies ++ on.replies;
      ran = ran_then Step s t u all xs more [] had.replies on.replies f g h ran_here on.ran;
      wrote = subst (Appends a d) (sym (texts_append line had.replies on.replies)) (appends_then a b d (flat_map line had.replies) (flat_map line on.replies) had.wrote on.wrote);
    }

    stopped_more : StoppedOf Step Begun line t xs b d g h → StoppedOf Step Begun line s all a d f h
    stopped_more on = record {
      rest = on.rest ++ more;
      whole = had.replies ++ on.whole;
      torn = on.torn;
      part = on.part;
      left = on.left;
      moment = on.moment;
      ran = subst (λ rs. RanOf Step s on.left all (on.rest ++ more) rs f on.moment) (sym (append_assoc had.replies on.whole on.torn)) (ran_then Step s t on.left all xs more on.rest had.replies (on.whole ++ on.torn) f g on.moment ran_here on.ran);
      one = on.one;
      short = on.short;
      wrote =
          subst (Appends a d) (sym (append_assoc (flat_map line had.replies) (flat_map line on.whole) (take on.part (flat_map line on.torn))) ∙ ap (λ w. w ++ take on.part (flat_map line on.torn)) (sym (texts_append line had.replies on.whole)))
          (appends_then a b d (flat_map line had.replies) (flat_map line on.whole ++ take on.part (flat_map line on.torn)) had.wrote on.wrote);
      begun = begun_or_more Begun on.left on.rest more on.moment h on.begun;
    }

    pub stopped_where_more : {By : List R → M → M → Type 0} → StoppedWhere Step Begun line By t xs b d g h → StoppedWhere Step Begun line By s all a d f h
    unfolding stopped_more
    stopped_where_more on = record { stopped = stopped_more on.stopped; by = on.by }

module _ {S I R M E : Type 0} (Step : S → I → R → S → M → M → Type 0) (Begun : S → I → M → M → Type 0) (line : R → List ℕ) (By : E → List R → M → M → Type 0) (IsFault : E → Type 0) where
  -- nothing was to be served
  pub serves_nothing : {T : Type 0} (Keeps : S → Type 0) (s : S) (f : M) (n : ℕ) (a : Option (List ℕ)) (value : T) → Keeps s → ServesOf Step Begun line By IsFault {T = T} Keeps s [] f f n n a a (Ok value)
  serves_nothing Keeps s f n a value keeps = record {
    whole = (s, served_nothing Step Begun line s [] a f refl, keeps);
    stopped = tt;
    later = omega arith;
    fault = λ end is. absurd (cc);
  }

  module _ {T : Type 0} (Keeps : S → Type 0) (s : S) (item : I) (f g : M) (n k : ℕ) (a b : Option (List ℕ)) (later : n ≤ k) where
    -- a reply is put: it is written whole, or in part
    pub serves_put : (result : Result T E) (reply : R) (t : S) → Step s item reply t f g → Keeps t → PutAppends a b result (line reply) → ((end : E) → result ≡ Err end → (IsFault end → ⊥) × ((torn : List R) → By end torn g g))
        → ServesOf Step Begun line By IsFault Keeps s (item ∷ []) f g n k a b result
    serves_put (Ok value) reply t passed keeps put by = record {
      whole = (t, served_one Step Begun line s t item reply a b f g passed put, keeps);
      stopped = tt;
      later = later;
      fault = λ end is. absurd (cc);
    }
    serves_put (Err end) reply t passed keeps put by = record {
      whole = tt;
      stopped = stopped_one Step Begun line s t item reply a b f g passed (By end) (by end refl).1 put;
      later = later;
      fault = λ other is fault. absurd ((by other is).0 fault);
    }

    -- nothing is put where the item was only begun
    pub serves_begun : (end : E) → Rose n k → b ≡ a → By end [] f g → Begun s item f g → ServesOf Step Begun line By IsFault {T = T} Keeps s (item ∷ []) f g n k a b (Err end)
    serves_begun end rose same by begun = record {
      whole = tt;
      stopped = subst (λ (o : Option (List ℕ)). StoppedWhere Step Begun line (By end) s (item ∷ []) a o f g) (sym same) (stopped_begun Step Begun line (By end) s (item ∷ []) a f g by begun);
      later = later;
      fault = λ other is fault. rose;
    }

  -- items that were served, and then others
  module _ {T : Type 0} (Keeps : S → Type 0) (s t : S) (all rest xs more : List I) (f g h : M) (n m k : ℕ) (a b d : Option (List ℕ)) (had : ServedOf Step line s t all rest a b f g) (splits : rest ≡ xs ++ more) (before : n ≤ m) where
    -- the last of them
    pub serves_last : (result : Result T E) (value : T) → result ≡ Ok value → more ≡ [] → ServesOf Step Begun line By IsFault Keeps t xs g h m k b d result → ServesOf Step Begun line By IsFault Keeps s all f h n k a d result
    serves_last (Ok done) value is none on = record {
      whole = (on.whole.0, subst (λ (items : List I). ServedOf Step line s on.whole.0 all items a d f h) none (served_more Step Begun line s t all rest xs more a b d f g h had splits on.whole.0 on.whole.1), on.whole.2);
      stopped = tt;
      later = let on_later = on.later in omega (arith, before, on_later);
      fault = λ end is. absurd (cc);
    }
    serves_last (Err end) value is none on = absurd (cc)

    -- those that stop
    pub serves_torn : (end : E) (result : Result T E) → result ≡ Err end → ServesOf Step Begun line By IsFault Keeps t xs g h m k b d result → ServesOf Step Begun line By IsFault {T = T} Keeps s all f h n k a d (Err end)
    serves_torn end (Ok done) is on = absurd (cc)
    serves_torn end (Err other) is on =
        let same : other ≡ end = cc in
        subst (λ (e : E). ServesOf Step Begun line By IsFault {T = T} Keeps s all f h n k a d (Err e)) same
        (record {
          whole = tt;
          stopped = stopped_where_more Step Begun line s t all rest xs more a b d f g h had splits on.stopped;
          later = let on_later = on.later in omega (arith, before, on_later);
          fault = λ e at fault. rose_after _ _ _ before (on.fault e at fault);
        })
