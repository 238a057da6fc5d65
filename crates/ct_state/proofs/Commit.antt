-- What the record of a write changes: a range of a file and its staging change places, and the size becomes another.
use Rattle.std.proofs.Common.{◌≡◌, ℕ, ◌+◌, ◌*◌, ◌/◌, ◌%◌, ◌^◌, ◌<◌, ◌≤◌, List, refl, sym, ap, ◌∙◌, subst, ◌⊎◌, inl, inr, arith}
use Rattle.std.proofs.lemmas.Bool.{cases_Bool, cases_lt}
use Rattle.ct_base.specs.Walk.{page_at, byte, byte_in, AreTables}
use Rattle.ct_image.proofs.Steps.{walk-cell, byte_in-same}
use Rattle.ct_base.specs.View.{is_seen, view, inode_count}
use Rattle.ct_base.specs.Inode.{inode, part_bytes, part_end, IsIn}
use Rattle.ct_base.specs.Objects.{objects}
use Rattle.ct_base.specs.Exchange.{partner, Outside, Exchanged}
use Rattle.ct_base.specs.Rules.{entries, once, inodes, placed, apart, tails, mapped, headers, rest, slots, names, named, reached, Sound, Owns, part_of, HasRoom, AreInodes, ArePlaced, ArePartsApart, AreTailsZero, AreHeaders, IsRestZero, AreEntries, AreNamesApart, AreNamed, AreReached}
use Rattle.ct_state.specs.Alike.{IsWhole}
use Rattle.ct_state.proofs.Carry.{view-seen, view-other}
use Rattle.ct_state.proofs.Neutral.{seen-bounds}
use Rattle.ct_image.proofs.Partner.{partner-other}
use Rattle.ct_state.proofs.Written.{entries_stay, names_apart_stay, named_stay, reached_stay}
use Rattle.ct_state.proofs.Write.{HasSpace, WritesFile, space_stays, written, owns_on, part-same}

-- but for the bytes of one size the image is as it was
pub record SizeOnly (old new : List ℕ) (i : ℕ) : Type 0 where
  pub tables : AreTables new
  pub pages : (p : ℕ) → page_at new 4 p ≡ page_at old 4 p
  pub bytes : (v : ℕ) → v < 2 ^ 48 → (v < 64 * i + 8) ⊎ (64 * i + 16 ≤ v) → byte new v ≡ byte old v
  pub inodes : inode_count new ≡ inode_count old

pub no_size : (img : List ℕ) (i : ℕ) → AreTables img → SizeOnly img img i
no_size img i tables = record { tables = tables; pages = λ p. refl; bytes = λ v lt off. refl; inodes = refl }

-- bytes of pages outside both ranges stay, the others are those of the partner
pub exchanged_byte : {old new : List ℕ} {a b n : ℕ} → Exchanged old new a b n → (v : ℕ) → v < 2 ^ 48 → byte new v ≡ byte_in old (page_at old 4 (partner a b n (v / 4096))) (v % 4096)
exchanged_byte {old} {new} {a} {b} {n} ex v lt =
    let p = partner a b n (v / 4096) in
    ap (λ t. byte_in new t (v % 4096)) (walk-cell new v lt ∙ ex.pages (v / 4096))
    ∙ byte_in-same old new (page_at old 4 p) (v % 4096) (λ ne. ex.contents p (v % 4096 / 8) (omega arith) ne)

pub outside_byte : {old new : List ℕ} {a b n : ℕ} → Exchanged old new a b n → (v : ℕ) → v < 2 ^ 48 → Outside a b n (v / 4096) → byte new v ≡ byte old v
outside_byte {old} {new} {a} {b} {n} ex v lt out =
    exchanged_byte ex v lt ∙ ap (λ p. byte_in old (page_at old 4 p) (v % 4096)) (partner-other a b n (v / 4096) out) ∙ sym (ap (λ t. byte_in old t (v % 4096)) (walk-cell old v lt))

pub record Commits (old mid new : List ℕ) (i a b n : ℕ) : Type 0 where
  pub whole : IsWhole old
  pub space : HasSpace (view old) (inode_count old)
  pub owns : Owns (view old) (inode_count old) i
  pub file : (inode (view old) i).kind ≡ 1
  pub from : (inode (view old) i).base ≤ a * 4096
  pub to : (a + n) * 4096 ≤ part_end (part_of (view old) i)
  pub staging_from : 2 * 2 ^ 27 ≤ b
  pub staging_to : b + n ≤ 10 * 2 ^ 27
  pub exchange : Exchanged old mid a b n
  pub inodes : inode_count mid ≡ inode_count old
  pub size : SizeOnly mid new i
  pub fits : (inode (view new) i).size ≤ part_bytes (inode (view old) i).level
  pub tail : (k : ℕ) → (inode (view new) i).size ≤ k → k < part_bytes (inode (view old) i).level → view new ((inode (view old) i).base + k) ≡ 0

module _ {old mid new : List ℕ} {i a b n : ℕ} (c : Commits old mid new i a b n) where
  other_byte : (v : ℕ) → (IsIn (part_of (view old) i) v → ⊥) → (v < 64 * i + 8) ⊎ (64 * i + 16 ≤ v) → view new v ≡ view old v
  other_byte v out off = elim (cases_Bool (is_seen v)) [
    | inl seen ↦
        let bounds = seen-bounds v seen in
        let outside : Outside a b n (v / 4096) = record {
          first = λ low. elim (cases_lt (v / 4096) (a + n)) [
            | inl lt ↦ absurd (out (record { from = omega (arith, c.from); to = omega (arith, c.to) }))
            | inr ge ↦ ge
          ];
          second = λ low. elim bounds.1 [ inl l ↦ absurd (omega (arith, c.staging_from)) | inr r ↦ omega (arith, c.staging_to) ];
        } in
        view-seen new v seen ∙ c.size.bytes v bounds.0 off ∙ outside_byte c.exchange v bounds.0 outside ∙ sym (view-seen old v seen)
    | inr other ↦ view-other new v other ∙ sym (view-other old v other)
  ]

  inodes-same : inode_count new ≡ inode_count old
  inodes-same = c.size.inodes ∙ c.inodes

  pub writes : WritesFile (view old) (view new) (inode_count old) i
  writes = record { space = c.space; owns = c.owns; file = c.file; others = other_byte; fits = c.fits; tail = c.tail }

  room : HasRoom (inode (view old) i)
  room = elim (c.space.placed i c.owns.live).place [ inl none ↦ absurd (omega (arith, none.level, c.owns.level)) | inr r ↦ r ]

  pub whole : IsWhole new
  whole = record {
    tables = c.size.tables;
    mapped = λ p low out.
        let not_in : (j : ℕ) → Owns (view old) (inode_count old) j → IsIn (part_of (view old) j) (p * 4096) → ⊥ =
        λ j owns inside. out j (subst (λ k. Owns (view new) k j) (sym inodes-same) (owns_on writes j owns))
        (subst (λ q. IsIn q (p * 4096)) (sym (part-same writes j owns.live.number)) inside) in
        let outside : Outside a b n p = record {
          first = λ le. elim (cases_lt p (a + n)) [ inl lt ↦ absurd (not_in i c.owns (record { from = omega (arith, c.from); to = omega (arith, c.to) })) | inr ge ↦ ge ];
          second = λ le. omega (arith, c.staging_to);
        } in
        c.size.pages p ∙ c.exchange.pages p ∙ ap (page_at old 4) (partner-other a b n p outside) ∙ c.whole.mapped p low not_in;
  }

  back : (P : (ℕ → ℕ) → ℕ → Type 0) → P (view new) (inode_count old) → P (view new) (inode_count new)
  back P h = subst (λ k. P (view new) k) (sym inodes-same) h

  pub sound_after : Sound old → Sound new
  sound_after sound entries = λ d x j le lt seen. c.size.tables.entries d x j le lt
  sound_after sound once = λ d x e y le lf seen seen'. c.size.tables.once d x e y le lf
  sound_after sound mapped = whole.mapped
  sound_after sound inodes = back (λ b k. AreInodes b k) (space_stays writes).inodes
  sound_after sound placed = back (λ b k. ArePlaced b k) (space_stays writes).placed
  sound_after sound apart = back (λ b k. ArePartsApart b k) (space_stays writes).apart
  sound_after sound tails = back (λ b k. AreTailsZero b k) (space_stays writes).tails
  sound_after sound headers = back (λ b k. AreHeaders b k) (space_stays writes).headers
  sound_after sound rest = back (λ b k. IsRestZero b k) (space_stays writes).rest
  sound_after sound slots = back (λ b k. AreEntries (objects b k)) (entries_stay (written writes) (sound slots))
  sound_after sound names = back (λ b k. AreNamesApart (objects b k)) (names_apart_stay (written writes) (sound names))
  sound_after sound named = back (λ b k. AreNamed (objects b k)) (named_stay (written writes) (sound named))
  sound_after sound reached = back (λ b k. AreReached (objects b k)) (reached_stay (written writes) (sound reached))
