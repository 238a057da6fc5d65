-- The counts with one reply more, and how many there may be.
use Rattle.std.proofs.Common.{◌≡◌, ◌∙◌, ℕ, zero, suc, ◌+◌, ◌-◌, ◌^◌, ◌<◌, ◌≤◌, Bool, List, [], ◌∷◌, ◌++◌, length, cond, refl, sym, ap, arith, length-append}
use Rattle.std.specs.Prelude.{count_by}
use Rattle.std.proofs.lemmas.List.Sums.{sum_by-append}
use Rattle.ct_gen.specs.Made.{creations, draws, made, next_state}
use Rattle.ct_tree.specs.Resolve.{entries_in}
use Rattle.ct_tree.specs.Step.{count}
use Rattle.ct_tree.specs.Tree.{Tree}
use Rattle.ct_tree.specs.declared.call.Reply.{Reply}
use Rattle.ct_tree.specs.declared.call.Reply.TheVariants.{Done, Data, File, Dir, Names, At, Refused, BadLine}
use Rattle.ct_tally.specs.Tallies.{CanCount, bytes_below, counts_of, is_data, is_done, is_refused, tally_of, with_reply}
use Rattle.ct_tally.specs.declared.counts.Counts.{Counts}
use Rattle.ct_tally.specs.declared.tally.Tally.{Tally}

abbrev counts : ℕ → ℕ → ℕ → ℕ → Counts
counts calls done reads refused = record { calls = calls; done = done; reads = reads; refused = refused }

abbrev tally : Counts → ℕ → ℕ → Tally
tally counts files bytes = record { counts = counts; files = files; bytes = bytes }

counts_are : (calls calls' done done' reads reads' refused refused' : ℕ) → calls ≡ calls' → done ≡ done' → reads ≡ reads' → refused ≡ refused' → counts calls done reads refused ≡ counts calls' done' reads' refused'
counts_are calls calls' done done' reads reads' refused refused' a b c d =
    ap (λ n. counts n done reads refused) a ∙ ap (λ n. counts calls' n reads refused) b ∙ ap (λ n. counts calls' done' n refused) c ∙ ap (λ n. counts calls' done' reads' n) d

count_more : (p : Reply → Bool) (rs : List Reply) (r : Reply) → count_by p (rs ++ r ∷ []) ≡ count_by p rs + count_by p (r ∷ [])
count_more p rs r = sum_by-append (λ x. cond (p x) 1 0) rs (r ∷ [])

-- so many more of each kind
counted_by : (rs : List Reply) (r : Reply) (k : Counts) → k.calls ≡ length rs + 1 → k.done ≡ count_by is_done rs + count_by is_done (r ∷ []) → k.reads ≡ count_by is_data rs + count_by is_data (r ∷ [])
    → k.refused ≡ count_by is_refused rs + count_by is_refused (r ∷ []) → counts_of (rs ++ r ∷ []) ≡ k
counted_by rs r k calls done reads refused =
    counts_are (length (rs ++ r ∷ [])) k.calls (count_by is_done (rs ++ r ∷ [])) k.done (count_by is_data (rs ++ r ∷ [])) k.reads (count_by is_refused (rs ++ r ∷ [])) k.refused
    (let e = length-append rs (r ∷ []) in omega (arith, e, calls))
    (count_more is_done rs r ∙ sym done)
    (count_more is_data rs r ∙ sym reads)
    (count_more is_refused rs r ∙ sym refused)

pub counts_push : (rs : List Reply) (r : Reply) → counts_of (rs ++ r ∷ []) ≡ with_reply (counts_of rs) r
counts_push rs Done = counted_by rs Done (with_reply (counts_of rs) Done) refl (omega arith) (omega arith) (omega arith)
counts_push rs (Data bytes) = counted_by rs (Data bytes) (with_reply (counts_of rs) (Data bytes)) refl (omega arith) (omega arith) (omega arith)
counts_push rs (File size) = counted_by rs (File size) (with_reply (counts_of rs) (File size)) refl (omega arith) (omega arith) (omega arith)
counts_push rs (Dir count) = counted_by rs (Dir count) (with_reply (counts_of rs) (Dir count)) refl (omega arith) (omega arith) (omega arith)
counts_push rs (Names names) = counted_by rs (Names names) (with_reply (counts_of rs) (Names names)) refl (omega arith) (omega arith) (omega arith)
counts_push rs (At base level) = counted_by rs (At base level) (with_reply (counts_of rs) (At base level)) refl (omega arith) (omega arith) (omega arith)
counts_push rs (Refused r) = counted_by rs (Refused r) (with_reply (counts_of rs) (Refused r)) refl (omega arith) (omega arith) (omega arith)
counts_push rs BadLine = counted_by rs BadLine (with_reply (counts_of rs) BadLine) refl (omega arith) (omega arith) (omega arith)

-- no kind has more than there are
pub record IsSmall (counts : Counts) : Type 0 where
  pub done : counts.done ≤ counts.calls
  pub reads : counts.reads ≤ counts.calls
  pub refused : counts.refused ≤ counts.calls

-- and so it is with one more
pub record IsMore (counts next : Counts) : Type 0 where
  pub calls : next.calls ≡ counts.calls + 1
  pub small : IsSmall next

module _ (counts : Counts) (small : IsSmall counts) where
  more : (next : Counts) → next.calls ≡ counts.calls + 1 → next.done ≤ counts.done + 1 → next.reads ≤ counts.reads + 1 → next.refused ≤ counts.refused + 1 → IsMore counts next
  more next calls done reads refused =
      let d = small.done in
      let r = small.reads in
      let f = small.refused in
      record { calls = calls; small = record { done = omega (arith, calls, done, d); reads = omega (arith, calls, reads, r); refused = omega (arith, calls, refused, f) } }

  pub small_more : (r : Reply) → IsMore counts (with_reply counts r)
  small_more Done = more (with_reply counts Done) refl (omega arith) (omega arith) (omega arith)
  small_more (Data bytes) = more (with_reply counts (Data bytes)) refl (omega arith) (omega arith) (omega arith)
  small_more (File size) = more (with_reply counts (File size)) refl (omega arith) (omega arith) (omega arith)
  small_more (Dir count) = more (with_reply counts (Dir count)) refl (omega arith) (omega arith) (omega arith)
  small_more (Names names) = more (with_reply counts (Names names)) refl (omega arith) (omega arith) (omega arith)
  small_more (At base level) = more (with_reply counts (At base level)) refl (omega arith) (omega arith) (omega arith)
  small_more (Refused r) = more (with_reply counts (Refused r)) refl (omega arith) (omega arith) (omega arith)
  small_more BadLine = more (with_reply counts BadLine) refl (omega arith) (omega arith) (omega arith)

  pub can_count : counts.calls < 2 ^ 64 - 1 → CanCount counts
  can_count few =
      let d = small.done in
      let r = small.reads in
      let f = small.refused in
      record { calls = few; done = omega (arith, few, d); reads = omega (arith, few, r); refused = omega (arith, few, f) }

-- how many calls a number gives
creations_long : (n f : ℕ) → length (creations n f) ≡ n
unfolding creations
creations_long zero f = refl
creations_long (suc n) f = ap suc (creations_long n (f + 1))

draws_long : (n x : ℕ) → length (draws n x) ≡ n
unfolding draws
draws_long zero x = refl
draws_long (suc n) x = ap suc (draws_long n (next_state x))

pub length_made : (number count : ℕ) → length (made number count) ≡ 16 + count
length_made number count =
    let one = creations_long 16 0 in
    let more = draws_long count number in
    let both = length-append (creations 16 0) (draws count number) in
    omega (arith, one, more, both)

-- what is known of the parts of a tally
pub tally_is : (replies : List Reply) (t : Tree) (k : Counts) (files bytes : ℕ) → k ≡ counts_of replies → files ≡ count (entries_in t) → bytes ≡ bytes_below (entries_in t) → tally k files bytes ≡ tally_of replies t
tally_is replies t k files bytes a b c =
    ap (λ x. tally x files bytes) a ∙ ap (λ x. tally (counts_of replies) x bytes) b ∙ ap (λ x. tally (counts_of replies) (count (entries_in t)) x) c
