-- Where the root's partition alone is live: its header words have pages, and so has the root once it has an entry.
use Rattle.std.proofs.Common.{◌≡◌, ◌≢◌, ℕ, suc, ◌+◌, ◌*◌, ◌/◌, ◌%◌, ◌^◌, ◌<◌, ◌≤◌, Bool, true, false, List, [], ◌∷◌, refl, sym, ap, subst, ◌∙◌, inl, inr, arith}
use Rattle.std.specs.Prelude.{◌==◌, ◌&&◌, not, nat_lt, nat_le}
use Rattle.std.proofs.Math.Nat.{div-add-mod}
use Rattle.std.proofs.lemmas.Bool.{cases_Bool, ne_eqb, eqb-true, and_parts, and_from, or_cases, false≢true, le-leb, ltb-true}
use Rattle.ct_base.specs.Headers.{byte_place, ranges, is_one, header_byte, HeadersStand}
use Rattle.ct_base.specs.Inode.{inode, Partition, part_bytes, live_parts, IsLive}
use Rattle.ct_base.specs.Named.{Leads}
use Rattle.ct_base.specs.Objects.{Object, object, content}
use Rattle.ct_base.specs.Published.{words_above, header_words}
use Rattle.ct_base.specs.Ranges.{header_at, summary, byte as range_byte}
use Rattle.ct_base.specs.Rules.{placed, headers}
use Rattle.ct_base.specs.Slots.{IsSlot}
use Rattle.ct_base.specs.View.{is_seen, view, inode_count}
use Rattle.ct_base.specs.Walk.{page_at, byte_in}
use Rattle.ct_image.proofs.Steps.{walk-cell}
use Rattle.ct_state.proofs.Bytes.{little-zero, objects-cases}
use Rattle.ct_state.proofs.Carry.{view-seen, view-other}
use Rattle.ct_state.proofs.Owners.{Owner, owner_one}
use Rattle.ct_tree.specs.Lands.{files}
use Rattle.ct_laws.specs.Plans.{first_part, OnlyRootIsPlaced}

-- each address has a page
abbrev pub HavePages : List ℕ → List ℕ → Type 0
HavePages img [] = Unit {0}
HavePages img (v ∷ vs) = (page_at img 4 (v / 4096) ≢ 0) × HavePages img vs

-- nothing is seen where there is no page
unseen : (img : List ℕ) (v : ℕ) → v < 2 ^ 48 → page_at img 4 (v / 4096) ≡ 0 → view img v ≡ 0
unseen img v lt none = elim (cases_Bool (is_seen v)) [
  | inl seen ↦ view-seen img v seen ∙ ap (λ t. byte_in img t (v % 4096)) (walk-cell img v lt ∙ none)
  | inr other ↦ view-other img v other
]

-- ---- the header words

-- a range whose first child has a byte that is not 0 has one
around : (live : ℕ → ℕ → Bool) (n j : ℕ) → range_byte live n (8 * j + 0) ≢ 0 → range_byte live (suc n) j ≢ 0
unfolding range_byte summary
around live n j ne = elim (cases_Bool (live (suc n) j)) [
  | inl t ↦ rw t (λ z. absurd (omega (arith, z)))
  | inr f ↦ rw (f, ne_eqb (range_byte live n (8 * j + 0)) 0 ne) (λ z. absurd (omega (arith, z)))
]

itself : range_byte (is_one (first_part ∷ [])) 0 (10 * 8 ^ 9) ≢ 0
unfolding range_byte
itself = λ z. absurd (omega (arith, z))

module _ {img : List ℕ} (h : OnlyRootIsPlaced img) where
  stand : HeadersStand (view img) (first_part ∷ [])
  stand = subst (λ (ps : List Partition). HeadersStand (view img) ps) h.live (h.sound headers)

  seen_page : (n j : ℕ) → n ≤ 9 → j < ranges n → byte_place n j < 2 ^ 48 → header_byte (first_part ∷ []) n j ≢ 0 → page_at img 4 (byte_place n j / 4096) ≢ 0
  seen_page n j le lt low ne = λ none. ne (sym (stand.bytes n j le lt) ∙ unseen img (byte_place n j) low none)

  pub header_pages : HavePages img (header_words first_part)
  unfolding words_above header_at
  header_pages =
      let live = is_one (first_part ∷ []) in
      let one = around live 0 (10 * 8 ^ 8) itself in
      let two = around live 1 (10 * 8 ^ 7) one in
      let three = around live 2 (10 * 8 ^ 6) two in
      let four = around live 3 (10 * 8 ^ 5) three in
      let five = around live 4 (10 * 8 ^ 4) four in
      let six = around live 5 (10 * 8 ^ 3) five in
      let seven = around live 6 (10 * 8 ^ 2) six in
      let eight = around live 7 (10 * 8 ^ 1) seven in
      let nine = around live 8 10 eight in (
        seen_page 0 (10 * 8 ^ 9) (omega arith) (omega arith) (omega arith) itself,
        (
          seen_page 1 (10 * 8 ^ 8) (omega arith) (omega arith) (omega arith) one,
          (
            seen_page 2 (10 * 8 ^ 7) (omega arith) (omega arith) (omega arith) two,
            (
              seen_page 3 (10 * 8 ^ 6) (omega arith) (omega arith) (omega arith) three,
              (
                seen_page 4 (10 * 8 ^ 5) (omega arith) (omega arith) (omega arith) four,
                (
                  seen_page 5 (10 * 8 ^ 4) (omega arith) (omega arith) (omega arith) five,
                  (
                    seen_page 6 (10 * 8 ^ 3) (omega arith) (omega arith) (omega arith) six,
                    (
                      seen_page 7 (10 * 8 ^ 2) (omega arith) (omega arith) (omega arith) seven,
                      (
                        seen_page 8 (10 * 8 ^ 1) (omega arith) (omega arith) (omega arith) eight,
                        (seen_page 9 10 (omega arith) (omega arith) (omega arith) nine, tt),
                      ),
                    ),
                  ),
                ),
              ),
            ),
          ),
        ),
      )

  -- ---- the root's page

  place_is : (level base : ℕ) → is_one (live_parts (view img) (inode_count img)) level (base / part_bytes level) ≡ true → (level ≡ 0) × (base / part_bytes level * part_bytes level ≡ 10 * 2 ^ 39)
  place_is level base one =
      elim (or_cases ((first_part.level == level) && (first_part.base == base / part_bytes level * part_bytes level)) false (sym (ap (λ (ps : List Partition). is_one ps level (base / part_bytes level)) h.live) ∙ one)) [
        | inl is ↦
            let both = and_parts (first_part.level == level) (first_part.base == base / part_bytes level * part_bytes level) is in
            (sym (eqb-true first_part.level level both.0), sym (eqb-true first_part.base (base / part_bytes level * part_bytes level) both.1))
        | inr none ↦ absurd (false≢true none)
      ]

  slot_page : (o : ℕ) → IsSlot (files img 1) o → page_at img 4 (10 * 2 ^ 27) ≢ 0
  slot_page o slot = elim (objects-cases (view img) (inode_count img) 1) [
    | inr k ↦ let kind = ap (λ (g : Object). g.kind) k.1 in absurd (omega (arith, slot.dir, kind))
    | inl k ↦
        let s : IsSlot (object (view img) 1) o = subst (λ (g : Object). IsSlot g o) k.1 slot in
        let f = inode (view img) 1 in
        let live : IsLive (view img) (inode_count img) 1 = record { number = k.0; used = λ z. absurd (omega (arith, z, s.dir)) } in
        elim (h.sound placed 1 live).place [
          | inl none ↦ absurd (omega (arith, s.below, none.size))
          | inr room ↦
              let whole = div-add-mod (inode (view img) 1).base (part_bytes (inode (view img) 1).level) in
              let owner : Owner (view img) (inode_count img) (inode (view img) 1).level ((inode (view img) 1).base / part_bytes (inode (view img) 1).level) =
              record {
                inode_number = 1;
                from = k.0.from;
                to = k.0.to;
                has = and_from (not ((inode (view img) 1).kind == 0)) (nat_le (inode (view img) 1).level 9)
                    (ap not (ne_eqb (inode (view img) 1).kind 0 live.used)) (le-leb (inode (view img) 1).level 9 room.part.level);
                level = refl;
                base = omega (arith, whole, room.part.aligned);
              }
              in
              let at = place_is (inode (view img) 1).level (inode (view img) 1).base (owner_one (view img) (inode_count img) _ _ owner) in
              let long : part_bytes (inode (view img) 1).level ≡ 4096 = ap part_bytes at.0 in
              let start : (inode (view img) 1).base ≡ 10 * 2 ^ 39 = owner.base ∙ at.1 in
              λ none. s.used (little-zero (content (view img) (inode (view img) 1).base (inode (view img) 1).size) o 256 (λ k lt.
              elim (cases_Bool (nat_lt (o + k) (inode (view img) 1).size)) [
                | inr past ↦ rw past refl
                | inl below ↦
                    let fits = ltb-true (o + k) (inode (view img) 1).size below in
                    let small : o + k < 4096 = omega (arith, fits, room.size, long) in
                    rw below (unseen img ((inode (view img) 1).base + (o + k)) (omega (arith, start, small)) (ap (page_at img 4) (omega (arith, start, small)) ∙ none))
              ]))
        ]
  ]

  pub root_page : (xs : List (List ℕ)) (i : ℕ) → i ≢ 1 → Leads (files img) 1 xs i → page_at img 4 (10 * 2 ^ 27) ≢ 0
  unfolding Leads
  root_page [] i other leads = absurd (other (sym leads))
  root_page (x ∷ xs) i other leads = slot_page leads.0.offset leads.0.slot
