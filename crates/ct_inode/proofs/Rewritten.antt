-- Words by address became other values: the bytes that are looked at.
use Rattle.std.proofs.Common.{◌≡◌, ℕ, ◌+◌, ◌-◌, ◌*◌, ◌/◌, ◌%◌, ◌^◌, ◌<◌, ◌≤◌, ◌⊎◌, true, List, length, refl, sym, ap, ◌∙◌, inl, inr, arith}
use Rattle.std.specs.Prelude.{nat_le, nat_lt, slice_index}
use Rattle.std.proofs.lemmas.Bool.{cases_Bool, le-leb, lt-leb, lt-ltb, le-ltb, and_from, and_left, and_right}
use Rattle.ct_base.specs.declared.inode.Inode.{Inode}
use Rattle.ct_base.specs.Inode.{inode}
use Rattle.ct_base.specs.View.{is_seen, view}
use Rattle.ct_base.specs.Words.{word_at, with_words, Rewrites}
use Rattle.ct_state.proofs.Carry.{view-seen, view-other}
use Rattle.ct_words.proofs.Shown.{byte-shown, shown-fits}
use Rattle.ct_inode.specs.Drafted.{inode_words}
use Rattle.ct_inode.proofs.Loaded.{inode_shown}

with_inside : (words : ℕ → ℕ) (at : ℕ) (values : List ℕ) (a : ℕ) → at ≤ a → a < at + 8 * length values → with_words words at values a ≡ slice_index values ((a - at) / 8)
with_inside words at values a low high = rw (and_from (nat_le at a) (nat_lt a (at + 8 * length values)) (le-leb at a low) (lt-ltb a (at + 8 * length values) high)) refl

with_outside : (words : ℕ → ℕ) (at : ℕ) (values : List ℕ) (a : ℕ) → (a < at) ⊎ (at + 8 * length values ≤ a) → with_words words at values a ≡ words a
with_outside words at values a (inl before) = rw (and_left (nat_le at a) (nat_lt a (at + 8 * length values)) (lt-leb at a before)) refl
with_outside words at values a (inr past) = rw (and_right (nat_le at a) (nat_lt a (at + 8 * length values)) (le-ltb a (at + 8 * length values) past)) refl

module _ {old new : List ℕ} {at : ℕ} {values : List ℕ} (r : Rewrites old new at values) (aligned : at % 8 ≡ 0) where
  -- the words
  pub word_inside : (k : ℕ) → k < length values → word_at new (at + 8 * k) ≡ slice_index values k
  word_inside k lt = r.words (at + 8 * k) ∙ with_inside (word_at old) at values (at + 8 * k) (omega arith) (omega arith) ∙ ap (slice_index values) (omega arith)

  pub word_outside : (a : ℕ) → (a < at) ⊎ (at + 8 * length values ≤ a) → word_at new a ≡ word_at old a
  word_outside a out = r.words a ∙ with_outside (word_at old) at values a out

  -- a byte of one of the values
  pub view_inside : (v : ℕ) → is_seen v ≡ true → at ≤ v → v < at + 8 * length values → view new v ≡ slice_index values ((v - at) / 8) % 2 ^ 64 / 256 ^ (v % 8) % 256
  view_inside v seen low high =
      let k : ℕ = (v - at) / 8 in
      let a : 8 * (v / 8) ≡ at + 8 * ((v - at) / 8) = omega arith in
      view-seen new v seen ∙ byte-shown new v seen
      ∙ ap (λ x. x % 18446744073709551616 / 256 ^ (v % 8) % 256) (ap (word_at new) a ∙ word_inside ((v - at) / 8) (omega arith))

  -- each other byte stays
  pub view_outside : (v : ℕ) → (v < at) ⊎ (at + 8 * length values ≤ v) → view new v ≡ view old v
  view_outside v out =
      elim (cases_Bool (is_seen v)) [
        | inl seen ↦
            view-seen new v seen ∙ byte-shown new v seen
            ∙ ap (λ x. x % 18446744073709551616 / 256 ^ (v % 8) % 256) (word_outside (8 * (v / 8)) (elim out [ inl before ↦ inl (omega arith) | inr past ↦ inr (omega arith) ]))
            ∙ sym (byte-shown old v seen) ∙ sym (view-seen old v seen)
        | inr other ↦ view-other new v other ∙ sym (view-other old v other)
      ]

-- The eight words from an address on are those of an inode.
pub inode_put : {old new : List ℕ} (n at : ℕ) (f : Inode) → Rewrites old new at (inode_words f) → at ≡ 64 * n → n ≤ 1048576
    → f.kind < 2 ^ 64 → f.size < 2 ^ 64 → f.base < 2 ^ 64 → f.level < 2 ^ 64 → inode (view new) n ≡ f
inode_put {new = new} n at f r is few kind size base level =
    let aligned : at % 8 ≡ 0 = omega (arith, is) in
    sym (inode_shown new n f.kind f.size f.base f.level few
    (shown-fits new (64 * n + 8 * 0) f.kind kind (sym (word_inside r aligned 0 (omega arith)) ∙ ap (λ a. word_at new (a + 8 * 0)) is))
    (shown-fits new (64 * n + 8 * 1) f.size size (sym (word_inside r aligned 1 (omega arith)) ∙ ap (λ a. word_at new (a + 8 * 1)) is))
    (shown-fits new (64 * n + 8 * 2) f.base base (sym (word_inside r aligned 2 (omega arith)) ∙ ap (λ a. word_at new (a + 8 * 2)) is))
    (shown-fits new (64 * n + 8 * 3) f.level level (sym (word_inside r aligned 3 (omega arith)) ∙ ap (λ a. word_at new (a + 8 * 3)) is)))
