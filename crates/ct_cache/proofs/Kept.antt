-- What is known stays so, where it is learnt from the device or is forgotten.
use Rattle.std.proofs.Common.{◌≡◌, ◌≢◌, ℕ, ◌*◌, ◌/◌, ◌^◌, ◌<◌, Bool, true, false, List, Option, Some, None, refl, sym, ap, ◌∙◌, subst, ◌⊎◌, inl, inr, arith, true≢false}
use Rattle.std.specs.Prelude.{IfSome, if◌then◌else◌}
use Rattle.std.proofs.lemmas.Bool.{cases_Bool, cases_eq, cases_lt}
use Rattle.std.proofs.lemmas.Option.{none-some, same_Some}
use Rattle.ct_base.specs.declared.inode.Inode.{Inode}
use Rattle.ct_base.specs.Inode.{IsLive, inode}
use Rattle.ct_base.specs.Named.{Named}
use Rattle.ct_base.specs.Objects.{Object, objects}
use Rattle.ct_base.specs.Slots.{slot_inode}
use Rattle.ct_base.specs.View.{inode_count, view}
use Rattle.ct_base.specs.Walk.{walk}
use Rattle.ct_image.proofs.Steps.{walk-cell}
use Rattle.ct_state.proofs.Bytes.{objects-in}
use Rattle.ct_dir.specs.Directory.{IsFirst, dir_of}
use Rattle.ct_dir.specs.declared.lookup.Found.{Found}
use Rattle.ct_cache.specs.Agrees.{Agrees, IsKnown}
use Rattle.ct_cache.specs.Cells.{same_name}
use Rattle.ct_cache.specs.Known.{Forgets, Known, Learns}
use Rattle.ct_cache.specs.Seen.{known_in}
use Rattle.ct_cache.specs.declared.caches.Caches.{Caches}
use Rattle.ct_cache.proofs.Told.{name_decides}

-- the walk is that of the virtual page
pub walk_page : (w : List ℕ) (v : ℕ) → v < 2 ^ 48 → walk w (v / 4096 * 4096) ≡ walk w v
walk_page w v low = walk-cell w (v / 4096 * 4096) (omega arith) ∙ ap (Rattle.ct_base.specs.Walk.page_at w 4) (omega arith) ∙ sym (walk-cell w v low)

-- what was known, or is the one that was learnt
old_or : {K V : Type 0} {old new : K → Option V} {k : K} {v : V} → Learns old new k v → (j : K) (x : V) → j ≢ k → new j ≡ Some x → old j ≡ Some x
old_or l j x other is = elim (l.others j other) [
  | inl stays ↦ sym stays ∙ is
  | inr gone ↦ absurd (none-some x (sym gone ∙ is))
]

left : {V : Type 0} (b : Bool) (o : Option V) (x : V) → (if b then None else o) ≡ Some x → o ≡ Some x
left true o x is = absurd (none-some x is)
left false o x is = is

-- what is known is no more than was
pub agrees_less : {old new : Known} → ((p page : ℕ) → new.pages p ≡ Some page → old.pages p ≡ Some page) → ((k : ℕ × List ℕ) (found : Found) → new.names k ≡ Some found → old.names k ≡ Some found)
    → (w : List ℕ) → Agrees old w → Agrees new w
agrees_less pages names w a = record { pages = λ p page is. a.pages p page (pages p page is); names = λ k found is. a.names k found (names k found is) }

pub forgets_pages : {old new : Known} (gone : ℕ → Bool) → Forgets gone old.pages new.pages → new.names ≡ old.names → (w : List ℕ) → Agrees old w → Agrees new w
forgets_pages {old = old} gone forgets same w a =
    agrees_less {old = old} (λ p page is. left (gone p) (old.pages p) page (sym (forgets p) ∙ is)) (λ k found is. ap (λ names. names k) (sym same) ∙ is) w a

pub forgets_names : {old new : Known} (gone : ℕ × List ℕ → Bool) → Forgets gone old.names new.names → new.pages ≡ old.pages → (w : List ℕ) → Agrees old w → Agrees new w
forgets_names {old = old} gone forgets same w a =
    agrees_less {old = old} (λ p page is. ap (λ pages. pages p) (sym same) ∙ is) (λ k found is. left (gone k) (old.names k) found (sym (forgets k) ∙ is)) w a

pub learns_page : {old new : Known} (w : List ℕ) (v : ℕ) → v < 2 ^ 48 → walk w v ≢ 0 → Learns old.pages new.pages (v / 4096) (walk w v) → new.names ≡ old.names → Agrees old w → Agrees new w
learns_page {old = old} {new = new} w v low some l same a = record {
  pages = λ p page is. elim (cases_eq p (v / 4096)) [
    | inl here ↦
        let e : walk w v ≡ page = same_Some (walk w v) page (sym l.is ∙ ap new.pages (sym here) ∙ is) in
        (λ none. some (e ∙ none), ap (λ n. walk w (n * 4096)) here ∙ walk_page w v low ∙ e)
    | inr other ↦ a.pages p page (old_or l p page other is)
  ];
  names = λ k found is. a.names k found (ap (λ names. names k) (sym same) ∙ is);
}

pub learns_name : {old new : Known} (w : List ℕ) (k : ℕ × List ℕ) (found : Found) → IsKnown (objects (view w) (inode_count w) k.0) k.1 found → Learns old.names new.names k found → new.pages ≡ old.pages
    → Agrees old w → Agrees new w
learns_name {old = old} {new = new} w k found known l same a = record {
  pages = λ p page is. a.pages p page (ap (λ pages. pages p) (sym same) ∙ is);
  names = λ j other is. elim (cases_Bool (same_name j k)) [
    | inl e ↦
        let here : j ≡ k = (name_decides j k).0 e in
        let same_entry : found ≡ other = same_Some found other (sym l.is ∙ ap new.names (sym here) ∙ is) in
        subst (λ i. IsKnown (objects (view w) (inode_count w) i.0) i.1 other) (sym here) (subst (λ f. IsKnown (objects (view w) (inode_count w) k.0) k.1 f) same_entry known)
    | inr off ↦ a.names j other (old_or l j other (λ here. true≢false (sym ((name_decides j k).1 here) ∙ off)) is)
  ];
}

-- the first slot with a name is one
pub one_first : {f : Object} {x : List ℕ} (a b : Found) → IsFirst f x a → IsFirst f x b → a ≡ b
one_first {f = f} a b one two = elim (cases_lt a.offset b.offset) [
  | inl lt ↦ absurd (two.first a.offset lt one.slot one.name)
  | inr ge ↦ elim (cases_lt b.offset a.offset) [
    | inl lt ↦ absurd (one.first b.offset lt two.slot two.name)
    | inr le ↦
        let same : a.offset ≡ b.offset = omega (arith, ge, le) in
        let child : a.inode ≡ b.inode = sym one.inode ∙ ap (slot_inode f) same ∙ two.inode in
        ap (λ o. record { offset = o; inode = a.inode }) same ∙ ap (λ i. record { offset = b.offset; inode = i }) child
  ]
]

-- the page that is known of an address is that of its walk
pub page_known : {known : Known} {w : List ℕ} → Agrees known w → (v page : ℕ) → v < 2 ^ 48 → known.pages (v / 4096) ≡ Some page → (page ≢ 0) × (walk w v ≡ page)
page_known {w = w} a v page low is = let p = a.pages (v / 4096) page is in (p.0, sym (walk_page w v low) ∙ p.1)

-- so it is for all words with which the caches agree
pub page_remembered : (caches : Caches) (v : ℕ) (found : Option ℕ) → v < 2 ^ 48 → found ≡ (known_in caches).pages (v / 4096)
    → IfSome found (λ page. (words : List ℕ) → Agrees (known_in caches) words → (page ≢ 0) × (walk words v ≡ page))
page_remembered caches v None low is = tt
page_remembered caches v (Some page) low is = λ words a. page_known a v page low (sym is)

-- a live inode's directory is the object with its number
pub dir_object : (w : List ℕ) (number : ℕ) (dir : Inode) → IsLive (view w) (inode_count w) number → dir ≡ inode (view w) number → dir_of w dir ≡ objects (view w) (inode_count w) number
dir_object w number dir live is = ap (dir_of w) is ∙ sym (objects-in (view w) (inode_count w) number live.number)

pub named : {f : Object} {x : List ℕ} {found : Found} → IsFirst f x found → Named f x
named {found = found} first = record { offset = found.offset; slot = first.slot; name = first.name }
