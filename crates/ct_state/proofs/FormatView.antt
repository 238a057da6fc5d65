-- The bytes of the image of an empty tree.
use Rattle.std.proofs.Common.{◌≡◌, ◌≢◌, ℕ, zero, suc, ◌+◌, ◌*◌, ◌/◌, ◌%◌, ◌^◌, ◌<◌, ◌≤◌, true, List, refl, sym, ap, ◌∙◌, ◌⊎◌, inl, inr, arith}
use Rattle.std.specs.Prelude.{◌==◌, if◌then◌else◌, nat_le, nat_lt, ◌&&◌}
use Rattle.std.proofs.Math.Nat.{div-eq_of_lt, pow-le-pow_right}
use Rattle.std.proofs.lemmas.Bool.{cases_Bool, cases_eq, cases_lt, ne_eqb, and_parts, leb-true, ltb-true, le-leb, lt-ltb}
use Rattle.ct_base.specs.Walk.{word, page_at, byte, byte_in}
use Rattle.ct_image.proofs.Steps.{walk-cell, byte_in-zeros}
use Rattle.ct_base.specs.View.{is_seen, view}
use Rattle.ct_base.specs.Format.{IsFormatted}
use Rattle.ct_state.proofs.FormatCells.{none, made, known}
use Rattle.ct_state.proofs.Carry.{view-seen, view-other}

-- the bytes of a formatted image by address
unfoldable pub format_bytes : ℕ → ℕ
format_bytes v =
    if v == 64 then 2 else (if v == 88 then 15 else (if nat_le (2 ^ 39 + 2 ^ 37) v && nat_lt v (2 ^ 39 + 2 ^ 37 + 10) then 48 else 0))

pub fresh-kind : format_bytes 64 ≡ 2
unfolding format_bytes
fresh-kind = refl

pub fresh-level : format_bytes 88 ≡ 15
unfolding format_bytes
fresh-level = refl

pub fresh-slots : (k : ℕ) → k < 10 → format_bytes (2 ^ 39 + 2 ^ 37 + k) ≡ 48
unfolding format_bytes
fresh-slots k lt =
    let v = 2 ^ 39 + 2 ^ 37 + k in
    rw (ne_eqb v 64 (λ is. omega arith), ne_eqb v 88 (λ is. omega arith), le-leb (2 ^ 39 + 2 ^ 37) v (omega arith), lt-ltb v (2 ^ 39 + 2 ^ 37 + 10) (omega arith)) refl

pub fresh-zero : (v : ℕ) → v ≢ 64 → v ≢ 88 → (2 ^ 39 + 2 ^ 37 ≤ v → 2 ^ 39 + 2 ^ 37 + 10 ≤ v) → format_bytes v ≡ 0
unfolding format_bytes
fresh-zero v p q past =
    rw (ne_eqb v 64 p, ne_eqb v 88 q) (elim (cases_Bool (nat_le (2 ^ 39 + 2 ^ 37) v && nat_lt v (2 ^ 39 + 2 ^ 37 + 10))) [
      | inl t ↦
          let both : (nat_le (2 ^ 39 + 2 ^ 37) v ≡ true) × (nat_lt v (2 ^ 39 + 2 ^ 37 + 10) ≡ true) = and_parts _ _ t in
          absurd (omega (arith, past (leb-true _ _ both.0), ltb-true _ _ both.1))
      | inr f ↦ rw f refl
    ])

-- a byte but the first of a small number is 0
pub upper : (x k : ℕ) → x < 256 → 1 ≤ k → x / 256 ^ k % 256 ≡ 0
upper x k small pos =
    let width : 256 ^ 1 ≤ 256 ^ k = pow-le-pow_right {n = 256} (omega arith) pos in
    let none : x / 256 ^ k ≡ 0 = div-eq_of_lt (omega arith) in
    ap (λ q. q % 256) none

-- each byte of these numbers is 48
eights : (k : ℕ) → k < 8 → 0x3030303030303030 / 256 ^ k % 256 ≡ 48
eights zero lt = refl
eights (suc zero) lt = refl
eights (suc (suc zero)) lt = refl
eights (suc (suc (suc zero))) lt = refl
eights (suc (suc (suc (suc zero)))) lt = refl
eights (suc (suc (suc (suc (suc zero))))) lt = refl
eights (suc (suc (suc (suc (suc (suc zero)))))) lt = refl
eights (suc (suc (suc (suc (suc (suc (suc zero))))))) lt = refl
eights (suc (suc (suc (suc (suc (suc (suc (suc k)))))))) lt = absurd (omega arith)

last : (k : ℕ) → k < 8 → ((k < 2) × (0x3030 / 256 ^ k % 256 ≡ 48)) ⊎ ((2 ≤ k) × (0x3030 / 256 ^ k % 256 ≡ 0))
last zero lt = inl (omega arith, refl)
last (suc zero) lt = inl (omega arith, refl)
last (suc (suc k)) lt =
    let width : 256 ^ 2 ≤ 256 ^ suc (suc k) = pow-le-pow_right {n = 256} (omega arith) {i = 2} {j = suc (suc k)} (omega arith) in
    let none : 0x3030 / 256 ^ suc (suc k) ≡ 0 = div-eq_of_lt (omega arith) in
    inr (omega arith, ap (λ q. q % 256) none)

module _ {img : List ℕ} {pages n : ℕ} (f : IsFormatted img pages n) (many : 256 ≤ pages) where
  at_inodes : page_at img 4 0 ≡ 37
  unfolding page_at
  at_inodes =
      rw (
        made f many 33 0 34 (omega arith) (omega arith) (omega arith) (f.words 16896 (omega arith) (omega arith)),
        made f many 34 0 35 (omega arith) (omega arith) (omega arith) (f.words 17408 (omega arith) (omega arith)),
        made f many 35 0 36 (omega arith) (omega arith) (omega arith) (f.words 17920 (omega arith) (omega arith)),
      ) (made f many 36 0 37 (omega arith) (omega arith) (omega arith) (f.words 18432 (omega arith) (omega arith)))

  at_headers : page_at img 4 167772160 ≡ 41
  unfolding page_at
  at_headers =
      rw (
        made f many 33 1 38 (omega arith) (omega arith) (omega arith) (f.words 16897 (omega arith) (omega arith)),
        made f many 38 128 39 (omega arith) (omega arith) (omega arith) (f.words 19584 (omega arith) (omega arith)),
        made f many 39 0 40 (omega arith) (omega arith) (omega arith) (f.words 19968 (omega arith) (omega arith)),
      ) (made f many 40 0 41 (omega arith) (omega arith) (omega arith) (f.words 20480 (omega arith) (omega arith)))

  -- the page of the inodes
  in_inodes : (o : ℕ) → o < 4096 → byte_in img 37 o ≡ format_bytes o
  in_inodes o lt = elim (cases_eq (o / 8) 8) [
    | inl kind ↦
        let is : word img (37 * 512 + o / 8) ≡ 2 = ap (λ k. word img (37 * 512 + k)) kind ∙ f.words 18952 (omega arith) (omega arith) in
        ap (λ k. k / 256 ^ (o % 8) % 256) is ∙ elim (cases_eq (o % 8) 0) [
          | inl first ↦ ap (λ k. 2 / 256 ^ k % 256) first ∙ sym (ap format_bytes (omega arith) ∙ fresh-kind)
          | inr other ↦ upper 2 (o % 8) (omega arith) (omega arith) ∙ sym (fresh-zero o (λ e. omega arith) (λ e. omega arith) (λ le. omega arith))
        ]
    | inr not_kind ↦ elim (cases_eq (o / 8) 11) [
      | inl level ↦
          let is : word img (37 * 512 + o / 8) ≡ 15 = ap (λ k. word img (37 * 512 + k)) level ∙ f.words 18955 (omega arith) (omega arith) in
          ap (λ k. k / 256 ^ (o % 8) % 256) is ∙ elim (cases_eq (o % 8) 0) [
            | inl first ↦ ap (λ k. 15 / 256 ^ k % 256) first ∙ sym (ap format_bytes (omega arith) ∙ fresh-level)
            | inr other ↦ upper 15 (o % 8) (omega arith) (omega arith) ∙ sym (fresh-zero o (λ e. omega arith) (λ e. omega arith) (λ le. omega arith))
          ]
      | inr not_level ↦
          byte_in-zeros img 37 o (none f many 37 (o / 8) (omega arith) (omega arith) (omega arith) (λ key. grind arith))
          ∙ sym (fresh-zero o (λ e. omega arith) (λ e. omega arith) (λ le. omega arith))
    ]
  ]

  -- the page of the headers of root slots
  in_headers : (o : ℕ) → o < 4096 → byte_in img 41 o ≡ format_bytes (2 ^ 39 + 2 ^ 37 + o)
  in_headers o lt = elim (cases_eq (o / 8) 0) [
    | inl first ↦
        let is : word img (41 * 512 + o / 8) ≡ 0x3030303030303030 = ap (λ k. word img (41 * 512 + k)) first ∙ f.words 20992 (omega arith) (omega arith) in
        ap (λ k. k / 256 ^ (o % 8) % 256) is ∙ eights (o % 8) (omega arith) ∙ sym (fresh-slots o (omega arith))
    | inr not_first ↦ elim (cases_eq (o / 8) 1) [
      | inl second ↦
          let is : word img (41 * 512 + o / 8) ≡ 0x3030 = ap (λ k. word img (41 * 512 + k)) second ∙ f.words 20993 (omega arith) (omega arith) in
          ap (λ k. k / 256 ^ (o % 8) % 256) is ∙ elim (last (o % 8) (omega arith)) [
            | inl l ↦ l.1 ∙ sym (fresh-slots o (omega (arith, l.0)))
            | inr l ↦ l.1 ∙ sym (fresh-zero (2 ^ 39 + 2 ^ 37 + o) (λ e. omega arith) (λ e. omega arith) (λ le. omega (arith, l.0)))
          ]
      | inr not_second ↦
          byte_in-zeros img 41 o (none f many 41 (o / 8) (omega arith) (omega arith) (omega arith) (λ key. grind arith))
          ∙ sym (fresh-zero (2 ^ 39 + 2 ^ 37 + o) (λ e. omega arith) (λ e. omega arith) (λ le. omega arith))
    ]
  ]

  fresh_byte : (v : ℕ) → v < 2 ^ 48 → byte img v ≡ format_bytes v
  fresh_byte v lt =
      let p = v / 4096 in
      let o = v % 4096 in
      ap (λ t. byte_in img t o) (walk-cell img v lt) ∙ elim (cases_eq p 0) [
        | inl low ↦
            ap (λ t. byte_in img t o) (ap (page_at img 4) low ∙ at_inodes) ∙ in_inodes o (omega arith) ∙ ap format_bytes (omega arith)
        | inr not_low ↦ elim (cases_eq p 167772160) [
          | inl high ↦
              ap (λ t. byte_in img t o) (ap (page_at img 4) high ∙ at_headers) ∙ in_headers o (omega arith) ∙ ap format_bytes (omega arith)
          | inr not_high ↦
              let gone : page_at img 4 p ≡ 0 = elim (cases_eq (page_at img 4 p) 0) [
                | inl z ↦ z
                | inr ne ↦ elim (known f many 4 p (omega arith) ne) [ inl k ↦ absurd (not_low k.1) | inr k ↦ absurd (not_high k.2) ]
              ] in
              ap (λ t. byte_in img t o) gone ∙ sym (fresh-zero v (λ e. omega arith) (λ e. omega arith) (λ le. omega arith))
        ]
      ]

  -- the view is that of the bytes
  pub format_view : view img ≡ format_bytes
  format_view = λ i v. at v i
    where
      at : (v : ℕ) → view img v ≡ format_bytes v
      at v = elim (cases_Bool (is_seen v)) [
        | inl seen ↦ view-seen img v seen ∙ elim (cases_lt v (2 ^ 48)) [ inl lt ↦ fresh_byte v lt | inr ge ↦ absurd (grind arith) ]
        | inr other ↦ view-other img v other ∙ sym (fresh-zero v (λ e. grind arith) (λ e. grind arith) (λ le. grind arith))
      ]
