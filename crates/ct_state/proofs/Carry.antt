-- Images with the same view are alike.
use Rattle.std.proofs.Common.{◌≡◌, ℕ, true, false, List, refl, sym, ap, ◌∙◌, subst, inl, inr}
use Rattle.std.proofs.lemmas.Bool.{cases_Bool}
use Rattle.ct_base.specs.Walk.{byte}
use Rattle.ct_base.specs.View.{is_seen, view, inode_count}
use Rattle.ct_base.specs.Objects.{objects}
use Rattle.ct_tree.specs.Lands.{files}
use Rattle.ct_state.specs.Alike.{Alike, IsWhole}
use Rattle.ct_base.specs.Rules.{Rule, entries, once, inodes, placed, apart, tails, mapped, headers, rest, slots, names, named, reached, HoldsAt, Sound, FailsFirst, AreInodes, ArePlaced, ArePartsApart, AreTailsZero, AreHeaders, IsRestZero, AreEntries, AreNamesApart, AreNamed, AreReached}

pub view-seen : (img : List ℕ) (v : ℕ) → is_seen v ≡ true → view img v ≡ byte img v
unfolding view
view-seen img v seen = rw seen refl

pub view-other : (img : List ℕ) (v : ℕ) → is_seen v ≡ false → view img v ≡ 0
unfolding view
view-other img v not_seen = rw not_seen refl

-- equal bytes at all addresses that are looked at
pub view-same : (f g : List ℕ) → ((v : ℕ) → is_seen v ≡ true → byte g v ≡ byte f v) → view g ≡ view f
view-same f g same = λ i v. at v i
  where
    at : (v : ℕ) → view g v ≡ view f v
    at v = elim (cases_Bool (is_seen v)) [
      | inl seen ↦ view-seen g v seen ∙ same v seen ∙ sym (view-seen f v seen)
      | inr other ↦ view-other g v other ∙ sym (view-other f v other)
    ]

move : (P : (ℕ → ℕ) → ℕ → Type 0) {b c : ℕ → ℕ} {m n : ℕ} → b ≡ c → m ≡ n → P b m → P c n
move P {b} {c} {m} {n} p q h = subst (λ k. P c k) q (subst (λ x. P x m) p h)

pub alike_back : {f g : List ℕ} → Alike f g → Alike g f
alike_back a = record { bytes = sym a.bytes; inodes = sym a.inodes }

pub files-same : {f g : List ℕ} → Alike f g → files g ≡ files f
files-same {f} {g} a = ap (λ b. objects b (inode_count g)) a.bytes ∙ ap (objects (view f)) a.inodes

-- a rule that holds on one holds on the other
pub carry : {f g : List ℕ} (r : Rule) → Alike f g → IsWhole g → HoldsAt f r → HoldsAt g r
carry entries a w h = λ d x i le lt seen. w.tables.entries d x i le lt
carry once a w h = λ d x e y le lf seen seen'. w.tables.once d x e y le lf
carry mapped a w h = w.mapped
carry inodes a w h = move (λ b n. AreInodes b n) (sym a.bytes) (sym a.inodes) h
carry placed a w h = move (λ b n. ArePlaced b n) (sym a.bytes) (sym a.inodes) h
carry apart a w h = move (λ b n. ArePartsApart b n) (sym a.bytes) (sym a.inodes) h
carry tails a w h = move (λ b n. AreTailsZero b n) (sym a.bytes) (sym a.inodes) h
carry headers a w h = move (λ b n. AreHeaders b n) (sym a.bytes) (sym a.inodes) h
carry rest a w h = move (λ b n. IsRestZero b n) (sym a.bytes) (sym a.inodes) h
carry slots a w h = move (λ b n. AreEntries (objects b n)) (sym a.bytes) (sym a.inodes) h
carry names a w h = move (λ b n. AreNamesApart (objects b n)) (sym a.bytes) (sym a.inodes) h
carry named a w h = move (λ b n. AreNamed (objects b n)) (sym a.bytes) (sym a.inodes) h
carry reached a w h = move (λ b n. AreReached (objects b n)) (sym a.bytes) (sym a.inodes) h

pub sound-same : {f g : List ℕ} → Alike f g → IsWhole g → Sound f → Sound g
sound-same a w sound = λ r. carry r a w (sound r)

pub fails-same : {f g : List ℕ} (r : Rule) → Alike f g → IsWhole f → IsWhole g → FailsFirst f r → FailsFirst g r
fails-same r a wf wg first =
    record { fails = λ h. first.fails (carry r (alike_back a) wf h); before = λ s less. carry s a wg (first.before s less) }
