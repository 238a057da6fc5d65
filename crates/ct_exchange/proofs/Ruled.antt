-- After an exchange none of the rules fails.
use Rattle.std.proofs.Common.{◌≡◌, ℕ, ◌+◌, ◌*◌, ◌/◌, ◌<◌, ◌≤◌, List, sym, ap, subst, ◌∙◌, inl, inr, arith}
use Rattle.std.proofs.lemmas.Bool.{cases_lt}
use Rattle.ct_base.specs.declared.inode.Inode.{Inode}
use Rattle.ct_base.specs.Exchange.{Apart, Exchanged, Outside, partner}
use Rattle.ct_base.specs.Inode.{inode, part, IsIn}
use Rattle.ct_base.specs.Objects.{objects}
use Rattle.ct_base.specs.Rules.{entries, once, inodes, placed, apart, tails, mapped, headers, rest, slots, names, named, reached, Owns, part_of, IsMappedInParts, Sound, AreInodes, ArePlaced, ArePartsApart, AreTailsZero, AreHeaders, IsRestZero, AreEntries, AreNamesApart, AreNamed, AreReached}
use Rattle.ct_base.specs.View.{view, inode_count}
use Rattle.ct_base.specs.Walk.{word, page_at}
use Rattle.ct_image.proofs.Partner.{partner-other}
use Rattle.ct_state.proofs.Write.{HasSpace, WritesFile, owns_on, space_stays, written}
use Rattle.ct_state.proofs.Written.{Written, entries_stay, names_apart_stay, named_stay, reached_stay}
use Rattle.ct_exchange.specs.Ranges.{CanExchange, page_of}
use Rattle.ct_exchange.proofs.Changed.{Swaps, swapped_view}
use Rattle.ct_exchange.proofs.Contents.{between, first_writes, second_writes, inode_after, places, room_of}

-- the rules that speak of bytes by address
pub space_of : (img : List ℕ) → Sound img → inode_count img ≤ 1048576 → HasSpace (view img) (inode_count img)
space_of img sound few = record { few = few; inodes = sound inodes; placed = sound placed; apart = sound apart; tails = sound tails; headers = sound headers; rest = sound rest }

module _ {old : List ℕ} {i off j other len : ℕ} (can : CanExchange old i off j other len) (space : HasSpace (view old) (inode_count old)) where
  abbrev f : Inode
  f = inode (view old) i

  abbrev g : Inode
  g = inode (view old) j

  pub pages_apart : Apart (page_of f off) (page_of g other) (len / 4096)
  pages_apart =
      let p = places can space in
      elim p.apart [ inl before ↦ inl (omega (arith, before, p.first, p.second, p.count)) | inr after ↦ inr (omega (arith, after, p.first, p.second, p.count)) ]

  -- as the record leaves it
  pub swaps_of : {new : List ℕ} → Exchanged old new (page_of f off) (page_of g other) (len / 4096) → ((w : ℕ) → w < 512 → word new w ≡ word old w) → Swaps old new (page_of f off) (page_of g other) (len / 4096)
  swaps_of exchanged head =
      let p = places can space in
      record {
        exchanged = exchanged;
        head = head;
        first_from = p.first_low;
        first_to = p.first_high;
        second_from = p.second_low;
        second_to = p.second_high;
        apart = pages_apart;
      }

module _ {old new : List ℕ} {i off j other len : ℕ} (can : CanExchange old i off j other len) (space : HasSpace (view old) (inode_count old))
    (s : Swaps old new (page_of (inode (view old) i) off) (page_of (inode (view old) j) other) (len / 4096)) where
  pub swapped_bytes : (v : ℕ) → view new v ≡ view old (partner ((inode (view old) i).base + off) ((inode (view old) j).base + other) len v)
  swapped_bytes v =
      let p = places can space in
      swapped_view s v
      ∙ ap (λ k. view old (partner k (page_of (inode (view old) j) other * 4096) (len / 4096 * 4096) v)) p.first
      ∙ ap (λ k. view old (partner ((inode (view old) i).base + off) k (len / 4096 * 4096) v)) p.second
      ∙ ap (λ k. view old (partner ((inode (view old) i).base + off) ((inode (view old) j).base + other) k v)) p.count

  pub count_stays : inode_count new ≡ inode_count old
  count_stays = s.head 3 (omega arith)

  first_done : WritesFile (view old) (between can space) (inode_count old) i
  first_done = first_writes can space

  second_done : WritesFile (between can space) (view new) (inode_count old) j
  second_done = second_writes can space swapped_bytes

  pub inode_stays : (k : ℕ) → k ≤ 1048576 → inode (view new) k ≡ inode (view old) k
  inode_stays k few = inode_after can space swapped_bytes k few

  pub owns_after : (k : ℕ) → Owns (view old) (inode_count old) k → Owns (view new) (inode_count old) k
  owns_after k owns = owns_on second_done k (owns_on first_done k owns)

  -- an address of no partition lies in neither range
  outside : (p : ℕ) → ((k : ℕ) → Owns (view old) (inode_count old) k → IsIn (part_of (view old) k) (p * 4096) → ⊥) → Outside (page_of (inode (view old) i) off) (page_of (inode (view old) j) other) (len / 4096) p
  outside p out =
      let q = places can space in
      let one = room_of space can.first in
      let two = room_of space can.second in
      record {
        first = λ le. elim (cases_lt p (page_of (inode (view old) i) off + len / 4096)) [
          | inr past ↦ past
          | inl lt ↦ absurd (out i can.first (record { from = omega (arith, le, q.first); to = omega (arith, lt, q.first, q.count, can.fits, one.size) }))
        ];
        second = λ le. elim (cases_lt p (page_of (inode (view old) j) other + len / 4096)) [
          | inr past ↦ past
          | inl lt ↦ absurd (out j can.second (record { from = omega (arith, le, q.second); to = omega (arith, lt, q.second, q.count, can.other_fits, two.size) }))
        ];
      }

  mapped_after : IsMappedInParts old (view old) (inode_count old) → IsMappedInParts new (view new) (inode_count old)
  mapped_after was p low out =
      let not_in : (k : ℕ) → Owns (view old) (inode_count old) k → IsIn (part_of (view old) k) (p * 4096) → ⊥ =
      λ k owns inside. out k (owns_after k owns) (subst (λ (x : Inode). IsIn (part x) (p * 4096)) (sym (inode_stays k (omega (arith, owns.live.number.to, space.few)))) inside) in
      s.exchanged.pages p ∙ ap (page_at old 4) (partner-other (page_of (inode (view old) i) off) (page_of (inode (view old) j) other) (len / 4096) p (outside p not_in)) ∙ was p low not_in

  space_after : HasSpace (view new) (inode_count old)
  space_after = space_stays second_done

  first_object : Written (objects (view old) (inode_count old)) (objects (between can space) (inode_count old)) i
  first_object = written first_done

  second_object : Written (objects (between can space) (inode_count old)) (objects (view new) (inode_count old)) j
  second_object = written second_done

  back : (P : (ℕ → ℕ) → ℕ → Type 0) → P (view new) (inode_count old) → P (view new) (inode_count new)
  back P h = subst (λ (k : ℕ). P (view new) k) (sym count_stays) h

  pub sound_after : Sound old → Sound new
  sound_after sound entries = λ d x k le lt seen. s.exchanged.tables.entries d x k le lt
  sound_after sound once = λ d x e y le lf seen seen'. s.exchanged.tables.once d x e y le lf
  sound_after sound mapped = back (λ b k. IsMappedInParts new b k) (mapped_after (sound mapped))
  sound_after sound inodes = back (λ b k. AreInodes b k) space_after.inodes
  sound_after sound placed = back (λ b k. ArePlaced b k) space_after.placed
  sound_after sound apart = back (λ b k. ArePartsApart b k) space_after.apart
  sound_after sound tails = back (λ b k. AreTailsZero b k) space_after.tails
  sound_after sound headers = back (λ b k. AreHeaders b k) space_after.headers
  sound_after sound rest = back (λ b k. IsRestZero b k) space_after.rest
  sound_after sound slots = back (λ b k. AreEntries (objects b k)) (entries_stay second_object (entries_stay first_object (sound slots)))
  sound_after sound names = back (λ b k. AreNamesApart (objects b k)) (names_apart_stay second_object (names_apart_stay first_object (sound names)))
  sound_after sound named = back (λ b k. AreNamed (objects b k)) (named_stay second_object (named_stay first_object (sound named)))
  sound_after sound reached = back (λ b k. AreReached (objects b k)) (reached_stay second_object (reached_stay first_object (sound reached)))
