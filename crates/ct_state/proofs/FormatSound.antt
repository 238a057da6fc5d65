-- The image of an empty tree is sound and stands for the empty tree.
use Rattle.std.proofs.Common.{◌≡◌, ◌≢◌, ℕ, zero, suc, ◌+◌, ◌-◌, ◌*◌, ◌^◌, ◌<◌, ◌≤◌, false, List, [], refl, sym, ap, ◌∙◌, subst, inl, inr, arith}
use Rattle.std.proofs.Math.Nat.{pow-le-pow_right}
use Rattle.std.proofs.lemmas.Bool.{cases_eq, cases_lt, eq-eqb, ne_eqb, lt-ltb, le-ltb}
use Rattle.ct_base.specs.Walk.{page_at}
use Rattle.ct_base.specs.View.{view, inode_count}
use Rattle.ct_base.specs.Inode.{little, inode, inode_word, has_part, live_parts}
use Rattle.ct_base.specs.Objects.{Object, objects}
use Rattle.ct_base.specs.Headers.{byte_place, ranges, HeadersStand}
use Rattle.ct_base.specs.Slots.{IsSlot, Steps}
use Rattle.ct_tree.specs.Tree.{Dir, none}
use Rattle.ct_tree.specs.Stands.{Stands}
use Rattle.ct_tree.specs.Lands.{files}
use Rattle.ct_base.specs.Format.{IsFormatted}
use Rattle.ct_base.specs.Rules.{entries, once, inodes, placed, apart, tails, mapped, headers, rest, slots, names, named, reached, Sound, AreInodes, ArePlaced, ArePartsApart, AreTailsZero, AreHeaders, IsRestZero, AreEntries, AreNamesApart, AreNamed, AreReached, Owns}
use Rattle.ct_state.proofs.Bytes.{little-zero, objects-cases}
use Rattle.ct_parts.proofs.Local.{byte-empty}
use Rattle.ct_state.proofs.FormatView.{format_bytes, fresh-slots, fresh-zero, format_view}
use Rattle.ct_state.proofs.FormatCells.{known}

-- the words of the inodes
word_none : (i k : ℕ) → 1 ≤ i → i ≤ 1048576 → k < 8 → (i ≡ 1 → k ≢ 0) → (i ≡ 1 → k ≢ 3) → inode_word format_bytes i k ≡ 0
word_none i k from to lt p q =
    little-zero format_bytes (64 * i + 8 * k) 8 (λ j small. fresh-zero (64 * i + 8 * k + j) (λ is. p (omega arith) (omega arith)) (λ is. q (omega arith) (omega arith)) (λ le. omega arith))

root-kind : (inode format_bytes 1).kind ≡ 2
unfolding little format_bytes
root-kind = refl

root-level : (inode format_bytes 1).level ≡ 15
unfolding little format_bytes
root-level = refl

-- no other inode is live
only_root : (i : ℕ) → 1 ≤ i → i ≤ 1048576 → (inode format_bytes i).kind ≢ 0 → i ≡ 1
only_root i from to used = elim (cases_eq i 1) [
  | inl is ↦ is
  | inr other ↦ absurd (used (word_none i 0 from to (omega arith) (λ is. absurd (other is)) (λ is. absurd (other is))))
]

module _ (n : ℕ) (two : 2 ≤ n) (most : n ≤ 1048576) where
  -- nothing has a size, and inode 1 alone has a kind
  no_size : (i : ℕ) → (objects format_bytes n i).size ≡ 0
  no_size i = elim (objects-cases format_bytes n i) [
    | inl k ↦ ap (λ (f : Object). f.size) k.1 ∙ word_none i 1 k.0.from (omega (arith, k.0.to)) (omega arith) (λ e. omega arith) (λ e. omega arith)
    | inr k ↦ ap (λ (f : Object). f.size) k.1
  ]

  no_slot : (i o : ℕ) → IsSlot (objects format_bytes n i) o → ⊥
  no_slot i o slot = omega (arith, slot.below, no_size i)

  root_is : (objects format_bytes n 1).kind ≡ 2
  root_is = elim (objects-cases format_bytes n 1) [
    | inl k ↦ ap (λ (f : Object). f.kind) k.1 ∙ root-kind
    | inr k ↦ absurd (k.0 (record { from = omega arith; to = omega arith }))
  ]

  live_is : (i : ℕ) → (objects format_bytes n i).kind ≢ 0 → i ≡ 1
  live_is i used = elim (objects-cases format_bytes n i) [
    | inl k ↦ only_root i k.0.from (omega (arith, k.0.to)) (λ z. used (ap (λ (f : Object). f.kind) k.1 ∙ z))
    | inr k ↦ absurd (used (ap (λ (f : Object). f.kind) k.1))
  ]

  no_owner : (i : ℕ) → Owns format_bytes n i → ⊥
  no_owner i owns =
      let is = only_root i owns.live.number.from (omega (arith, owns.live.number.to)) owns.live.used in
      omega (arith, owns.level, ap (λ j. (inode format_bytes j).level) is, root-level)

  no_part : (i : ℕ) → i ≤ 1048576 → 1 ≤ i → has_part (inode format_bytes i) ≡ false
  no_part i le from = elim (cases_eq i 1) [
    | inl is ↦ ap (λ j. has_part (inode format_bytes j)) is ∙ rw (root-kind, root-level) refl
    | inr other ↦
        let z : (inode format_bytes i).kind ≡ 0 = word_none i 0 from le (omega arith) (λ e. absurd (other e)) (λ e. absurd (other e)) in
        rw z refl
  ]

  no_parts : (m : ℕ) → m ≤ 1048576 → live_parts format_bytes m ≡ []
  unfolding live_parts
  no_parts zero le = refl
  no_parts (suc m) le = rw (no_part (suc m) le (omega arith)) (no_parts m (omega arith))

  inodes_hold : AreInodes format_bytes n
  inodes_hold i number =
      let top : i ≤ 1048576 = omega (arith, number.to) in
      elim (cases_eq i 1) [
        | inl is ↦ record {
          kind = omega (arith, ap (λ j. (inode format_bytes j).kind) is, root-kind);
          free = λ k lt z. absurd (omega (arith, z, ap (λ j. (inode format_bytes j).kind) is, root-kind));
          spare = λ k four lt. word_none i k number.from top lt (λ e. omega arith) (λ e. omega arith);
          root = λ e. ap (λ j. (inode format_bytes j).kind) is ∙ root-kind;
        }
        | inr other ↦
            let all : (k : ℕ) → k < 8 → inode_word format_bytes i k ≡ 0 = λ k lt. word_none i k number.from top lt (λ e. absurd (other e)) (λ e. absurd (other e)) in
            record { kind = omega (arith, all 0 (omega arith)); free = λ k lt z. all k lt; spare = λ k four lt. all k lt; root = λ e. absurd (other e) }
      ]

  placed_hold : ArePlaced format_bytes n
  placed_hold i live =
      let is = only_root i live.number.from (omega (arith, live.number.to)) live.used in
      let top : i ≤ 1048576 = omega (arith, live.number.to) in
      let size : (inode format_bytes i).size ≡ 0 = word_none i 1 live.number.from top (omega arith) (λ e. omega arith) (λ e. omega arith) in
      record {
        place = inl (record {
          level = ap (λ j. (inode format_bytes j).level) is ∙ root-level;
          base = word_none i 2 live.number.from top (omega arith) (λ e. omega arith) (λ e. omega arith);
          size = size;
        });
        slots = λ dir. omega (arith, size);
      }

headers_none : HeadersStand format_bytes []
headers_none = record {
  bytes = λ m j le lt. elim (cases_eq m 9) [
    | inl top ↦ elim (cases_lt j 10) [
      | inl low ↦ ap format_bytes (ap (λ k. byte_place k j) top ∙ omega arith) ∙ fresh-slots j low ∙ sym (rw (eq-eqb m 9 top, lt-ltb j 10 low) refl)
      | inr high ↦
          ap format_bytes (ap (λ k. byte_place k j) top) ∙ fresh-zero (byte_place 9 j) (λ e. omega arith) (λ e. omega arith) (λ le. omega arith)
          ∙ sym (rw (le-ltb j 10 high, eq-eqb m 9 top) (byte-empty m j))
    ]
    | inr low ↦ lower m j (omega arith) lt ∙ sym (rw (ne_eqb m 9 low) (byte-empty m j))
  ];
  rest = λ v from to other. fresh-zero v (λ e. omega arith) (λ e. omega arith)
      (λ le. elim (cases_lt v (2 ^ 39 + 2 ^ 37 + 10)) [
        | inl lt ↦ absurd (other 9 (v - (2 ^ 39 + 2 ^ 37)) (omega arith) (omega arith) (omega arith))
        | inr ge ↦ ge
      ]);
}
  where
    lower : (m j : ℕ) → m ≤ 8 → j < ranges m → format_bytes (byte_place m j) ≡ 0
    lower zero j few lt = fresh-zero (2 ^ 39 + j) (λ e. omega arith) (λ e. omega arith) (λ le. omega arith)
    lower (suc m) j few lt =
        let small : 8 ^ (12 - suc m) ≤ 8 ^ 11 = pow-le-pow_right {n = 8} (omega arith) {i = 12 - suc m} {j = 11} (omega arith) in
        fresh-zero (2 ^ 39 + (2 ^ 36 + m * 2 ^ 33 + j)) (λ e. omega arith) (λ e. omega arith) (λ le. omega arith)

steps_none : (fs : ℕ → Object) (c : ℕ) → c ≡ 1 → Steps fs 0 c
unfolding Steps
steps_none fs c is = is

module _ {img : List ℕ} {pages n : ℕ} (f : IsFormatted img pages n) (many : 256 ≤ pages) (two : 2 ≤ n) (most : n ≤ 1048576) where
  by_bytes : (P : (ℕ → ℕ) → ℕ → Type 0) → P format_bytes n → P (view img) (inode_count img)
  by_bytes P h = subst (λ b. P b (inode_count img)) (sym (format_view f many)) (subst (λ k. P format_bytes k) (sym f.inodes) h)

  pub format_sound : Sound img
  format_sound entries = λ d x i le lt seen. Rattle.ct_state.proofs.FormatCells.entries f many d x i le lt
  format_sound once = λ d x e y le lf seen seen'. Rattle.ct_state.proofs.FormatCells.once f many d x e y le lf
  format_sound inodes = by_bytes (λ b k. AreInodes b k) (inodes_hold n two most)
  format_sound placed = by_bytes (λ b k. ArePlaced b k) (placed_hold n two most)
  format_sound apart = by_bytes (λ b k. ArePartsApart b k) (λ i j p q. absurd (no_owner n two most i p))
  format_sound tails = by_bytes (λ b k. AreTailsZero b k) (λ i p. absurd (no_owner n two most i p))
  format_sound mapped = λ p low out. elim (cases_eq (page_at img 4 p) 0) [
    | inl z ↦ z
    | inr ne ↦ elim (known f many 4 p (omega arith) ne) [ inl k ↦ absurd (omega (arith, k.1)) | inr k ↦ absurd (omega (arith, k.2)) ]
  ]
  format_sound headers = by_bytes (λ b k. AreHeaders b k) (subst (λ ps. HeadersStand format_bytes ps) (sym (no_parts n two most n most)) headers_none)
  format_sound rest = by_bytes (λ b k. IsRestZero b k) (λ v lt out. fresh-zero v (λ e. elim out [ inl l ↦ omega arith | inr r ↦ omega arith ]) (λ e. elim out [ inl l ↦ omega arith | inr r ↦ omega arith ]) (λ le. omega arith))
  format_sound slots = by_bytes (λ b k. AreEntries (objects b k)) (λ i o s. absurd (no_slot n two most i o s))
  format_sound names = by_bytes (λ b k. AreNamesApart (objects b k)) (λ i o k s. absurd (no_slot n two most i o s))
  format_sound named = by_bytes (λ b k. AreNamed (objects b k)) (record {
    root = λ i o s. no_slot n two most i o s.slot;
    others = λ c live other. absurd (other (live_is n two most c live));
  })
  format_sound reached = by_bytes (λ b k. AreReached (objects b k)) (λ c live. (0, steps_none (objects format_bytes n) c (live_is n two most c live)))

  pub format_stands : Stands (files img) 1 (Dir none)
  format_stands = by_bytes (λ b k. Stands (objects b k) 1 (Dir none)) (record { kind = root_is n two most; names = λ o s. absurd (no_slot n two most 1 o s) }, tt)
