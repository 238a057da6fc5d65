-- One level of a way is there, or is made.
use Rattle.std.proofs.Common.{◌≡◌, ◌≢◌, ℕ, zero, suc, ◌+◌, ◌-◌, ◌*◌, ◌/◌, ◌%◌, ◌^◌, ◌<◌, ◌≤◌, true, List, ◌∷◌, length, set, refl, sym, ap, subst, ◌∙◌, ◌⊎◌, inl, inr, arith}
use Rattle.std.specs.Prelude.{Contains, Option, Result, Ok, Err, OnOk}
use Rattle.std.proofs.lemmas.Bool.{cases_eq, both_ways}
use Rattle.std.proofs.lemmas.List.{get_or-set_same, get_or-set_other, length-set}
use Rattle.std.proofs.Math.Nat.{div-div-eq-div-mul, pow-suc}
use Rattle.ct_base.specs.Walk.{word, page_at, next, IsFresh, AreTables}
use Rattle.ct_base.specs.Wants.{Want, is_wanted, missing}
use Rattle.ct_image.proofs.Steps.{page_at-low}
use Rattle.ct_image.proofs.Unreached.{Unreached, unreached_at}
use Rattle.ct_image.proofs.Unreached.{tables_new as tables_unreached, view_stays as bytes_unreached, fresh_stays as fresh_unreached, same_count as count_unreached}
use Rattle.ct_image.proofs.Link.{Links, link_at, linked, stays}
use Rattle.ct_image.proofs.Link.{tables_new as tables_linked, view_stays as bytes_linked, fresh_stays as fresh_linked, same_count as count_linked}
use Rattle.ct_image.proofs.MissingLess.{missing_link, missing_unreached}
use Rattle.ct_frames.specs.Free.{FreePages}
use Rattle.ct_frames.specs.Agrees.{Agrees}
use Rattle.ct_pm.specs.Images.{History}
use Rattle.ct_pm.specs.Device.{LeavesOnly, MakesOnly, NothingPending, SameOff, IsIn}
use Rattle.ct_pm.proofs.Told.{and_then, weaker}
use Rattle.ct_pm.proofs.Made.{makes_then, makes_weaker}
use Rattle.ct_walk.specs.Growth.{IsTaken, IsGap, Grown, MayGrow, Extends, IsDone}
use Rattle.ct_walk.specs.Pages.{on_way, IsSomeTable}
use Rattle.ct_walk.proofs.Entries.{entries_stand, entry_there, entry_none, entry_some, page_at-way}

-- The table on the way to virtual page n after d index steps is there, and w is the word of the entry of the next one.
pub record Place (img : List ℕ) (n d w : ℕ) : Type 0 where
  pub tables : AreTables img
  pub depth : d ≤ 3
  pub there : on_way img n d ≢ 0
  pub word_is : w ≡ on_way img n d * 512 + n / 512 ^ (3 - d) % 512

module _ {img : List ℕ} {n d w : ℕ} (p : Place img n d w) where
  some_table : IsSomeTable img (on_way img n d)
  some_table = record { depth = d; low = p.depth; table = record { cell = n / 512 ^ (4 - d); is = refl; there = p.there } }

  next_is : on_way img n (suc d) ≡ next img (on_way img n d) (n / 512 ^ (3 - d) % 512)
  next_is =
      let depth = p.depth in
      let less : 4 - suc d ≡ 3 - d = omega arith in
      page_at-way img (suc d) d n (omega arith) refl ∙ ap (λ k. next img (on_way img n d) (n / 512 ^ k % 512)) less

  pub on_device : w < length img
  on_device = omega (arith, p.word_is, entry_there img (on_way img n d) (n / 512 ^ (3 - d) % 512) (entries_stand p.tables) some_table (omega arith))

  pub absent : word img w ≡ 0 → on_way img n (suc d) ≡ 0
  absent none = next_is ∙ entry_none img (on_way img n d) _ some_table (ap (word img) (sym p.word_is) ∙ none)

  pub present : word img w ≢ 0 → on_way img n (suc d) ≢ 0
  present ne none =
      (entry_some img (on_way img n d) (n / 512 ^ (3 - d) % 512) (entries_stand p.tables) some_table (omega arith) (λ z. ne (ap (word img) p.word_is ∙ z))).0 (sym next_is ∙ none)

in_rest : (p q : ℕ) (qs : List ℕ) → Contains (p ∷ qs) q → q ≢ p → Contains qs q
in_rest p q qs (zero, lt, e) other = absurd (other (sym e))
in_rest p q qs (suc k, lt, e) other = (k, omega arith, e)

in_more : (p q : ℕ) (qs : List ℕ) → Contains qs q → Contains (p ∷ qs) q
in_more p q qs c = (suc c.0, omega (arith, c.1), c.2)

-- The entry is 0, and the lowest free page is taken for it.
pub record Takes (img : List ℕ) (before after : FreePages) (n d w page : ℕ) : Type 0 where
  pub place : Place img n d w
  pub none : word img w ≡ 0
  pub agrees : Agrees img before
  pub takes : before.free ≡ page ∷ after.free
  pub least : (q : ℕ) → Contains after.free q → page < q
  pub low : 34 ≤ page
  pub high : page < before.pages
  pub same_pages : after.pages ≡ before.pages

module _ {img : List ℕ} {before after : FreePages} {n d w page : ℕ} (t : Takes img before after n d w page) where
  was : Contains before.free page
  was = subst (λ (xs : List ℕ). Contains xs page) (sym t.takes) (0, omega arith, refl)

  taken : IsTaken before after page
  taken = record { was = was; gone = λ c. omega (arith, t.least page c) }

  pub left : (q : ℕ) → Contains after.free q → Contains before.free q
  left q c = subst (λ (xs : List ℕ). Contains xs q) (sym t.takes) (in_more page q after.free c)

  page_fresh : IsFresh img page
  page_fresh = t.agrees.free page was

  pub page_fits : page * 512 + 512 ≤ length img
  page_fits = omega (arith, t.high, t.agrees.pages, t.place.tables.there)

  -- ---- the page is filled

  unreached : (image : List ℕ) → SameOff (IsIn (page * 512) 512) image img → Unreached img image page
  unreached image same =
      record {
        tables = t.place.tables;
        low = t.low;
        fresh = page_fresh;
        others = λ k ne. same.others k (λ inside. ne (omega (arith, inside.0, inside.1)));
        size = same.size;
      }

  grown_filled : (wants : List Want) (image : List ℕ) → SameOff (IsIn (page * 512) 512) image img → Grown img image wants before after
  grown_filled wants image same =
      let u = unreached image same in
      record {
        tables = tables_unreached u;
        walks = λ e y le ne. unreached_at u e y le;
        cells = λ e y le not. unreached_at u e y le;
        fresh = λ e y le none ne. absurd (ne (unreached_at u e y le ∙ none));
        bytes = bytes_unreached u;
        low = λ k lt. u.others k (λ is. omega (arith, is, t.low));
        rest = λ k nt ng. u.others k (λ is. nt (subst (λ (q : ℕ). IsTaken before after q) (sym is) taken));
        size = u.size;
      }

  -- ---- and linked

  way : n / 512 ^ (4 - d) * 512 + n / 512 ^ (3 - d) % 512 ≡ n / 512 ^ (3 - d)
  way =
      let depth = t.place.depth in
      let width : 512 ^ (3 - d) * 512 ≡ 512 ^ (4 - d) = sym (pow-suc 512 (3 - d)) ∙ ap (λ k. 512 ^ k) (omega arith) in
      let up : n / 512 ^ (3 - d) / 512 ≡ n / 512 ^ (4 - d) = div-div-eq-div-mul n (512 ^ (3 - d)) 512 ∙ ap (λ k. n / k) width in
      omega (arith, up)

  less : 4 - suc d ≡ 3 - d
  less = let depth = t.place.depth in omega arith

  cell_is : (image : List ℕ) → on_way image n (suc d) ≡ page_at image (suc d) (n / 512 ^ (4 - d) * 512 + n / 512 ^ (3 - d) % 512)
  cell_is image = ap (λ k. page_at image (suc d) (n / 512 ^ k)) less ∙ ap (page_at image (suc d)) (sym way)

  gap : (wants : List Want) → is_wanted wants (suc d) (n / 512 ^ (3 - d)) ≡ true → IsGap img wants w
  gap wants wanted =
      record {
        depth = d;
        number = n / 512 ^ (4 - d);
        index = n / 512 ^ (3 - d) % 512;
        few = t.place.depth;
        small = omega arith;
        there = t.place.there;
        wanted = ap (is_wanted wants (suc d)) way ∙ wanted;
        is = t.place.word_is;
        none = t.none;
      }

  module _ {mid new : List ℕ} (same : SameOff (IsIn (page * 512) 512) mid img) (zeros : (k : ℕ) → k < 512 → word mid (page * 512 + k) ≡ 0) (is : new ≡ set mid w (page * 4096 + 1)) where
    u : Unreached img mid page
    u = unreached mid same

    same_table : page_at mid d (n / 512 ^ (4 - d)) ≡ on_way img n d
    same_table = let depth = t.place.depth in unreached_at u d (n / 512 ^ (4 - d)) (omega arith)

    word_is : w ≡ page_at mid d (n / 512 ^ (4 - d)) * 512 + n / 512 ^ (3 - d) % 512
    word_is = t.place.word_is ∙ ap (λ q. q * 512 + n / 512 ^ (3 - d) % 512) (sym same_table)

    links : Links mid new d (n / 512 ^ (4 - d)) (n / 512 ^ (3 - d) % 512) page
    links =
        let depth = t.place.depth in
        let value = page * 4096 + 1 in
        record {
          tables = tables_unreached u;
          depth = depth;
          index = omega arith;
          table = λ none. t.place.there (sym same_table ∙ none);
          absent = unreached_at u (suc d) _ (omega arith) ∙ sym (cell_is img) ∙ absent t.place t.none;
          low = t.low;
          high = omega (arith, t.high, t.agrees.pages, count_unreached u);
          fresh = fresh_unreached u page page_fresh;
          zeros = zeros;
          entry = ap (λ (xs : List ℕ). word xs (page_at mid d (n / 512 ^ (4 - d)) * 512 + n / 512 ^ (3 - d) % 512)) is ∙ ap (word (set mid w value)) (sym word_is)
              ∙ get_or-set_same mid w value 0 (omega (arith, on_device t.place, same.size));
          others = λ k ne. ap (λ (xs : List ℕ). word xs k) is ∙ get_or-set_other mid w k value 0 (λ here. ne (here ∙ word_is));
          size = ap length is ∙ length-set mid w value;
        }

    linked_is : on_way new n (suc d) ≡ page
    linked_is = cell_is new ∙ linked links

    pub there_now : on_way new n (suc d) ≢ 0
    there_now none = omega (arith, linked_is, none, t.low)

    pub grown_linked : (wants : List Want) → is_wanted wants (suc d) (n / 512 ^ (3 - d)) ≡ true → Grown img new wants before after
    grown_linked wants wanted =
        record {
          tables = tables_linked links;
          walks = λ e y le ne. stays links e y le (λ none. ne (sym (unreached_at u e y le) ∙ none)) ∙ unreached_at u e y le;
          cells = λ e y le not. elim (link_at links e y le) [
            | inl kept ↦ kept ∙ unreached_at u e y le
            | inr cell ↦
                let it : is_wanted wants e y ≡ true = ap (λ k. is_wanted wants k y) cell.0 ∙ ap (is_wanted wants (suc d)) (cell.1 ∙ way) ∙ wanted in
                absurd (both_ways _ not it)
          ];
          fresh = λ e y le none ne. elim (link_at links e y le) [
            | inl kept ↦ absurd (ne (kept ∙ unreached_at u e y le ∙ none))
            | inr cell ↦ subst (λ (q : ℕ). IsTaken before after q) (sym cell.3) taken
          ];
          bytes = λ v lt. bytes_linked links v lt ∙ bytes_unreached u v lt;
          low = λ k lt. links.others k (λ here. omega (arith, here, page_at-low mid d (n / 512 ^ (4 - d)) links.table)) ∙ u.others k (λ here. omega (arith, here, t.low));
          rest = λ k nt ng.
              links.others k (λ here. ng (subst (IsGap img wants) (word_is ∙ sym here) (gap wants wanted)))
              ∙ u.others k (λ here. nt (subst (λ (q : ℕ). IsTaken before after q) (sym here) taken));
          size = links.size ∙ u.size;
        }

    agrees_linked : Agrees new after
    agrees_linked =
        record {
          pages = t.same_pages ∙ t.agrees.pages ∙ sym (count_linked links ∙ count_unreached u);
          free = λ q in_after.
              let other : q ≢ page = λ here. omega (arith, here, t.least q in_after) in
              fresh_linked links q other (fresh_unreached u q (t.agrees.free q (left q in_after)));
          all = λ q low high.
              let depth = t.place.depth in
              elim (t.agrees.all q low (omega (arith, high, count_linked links, count_unreached u))) [
                | inl free ↦ elim (cases_eq q page) [
                  | inl here ↦ inr (record { depth = suc d; number = n / 512 ^ (4 - suc d); few = omega arith; is = linked_is ∙ sym here })
                  | inr other ↦ inl (in_rest page q after.free (subst (λ (xs : List ℕ). Contains xs q) t.takes free) other)
                ]
                | inr reached ↦
                    let there : page_at mid reached.depth reached.number ≡ q = unreached_at u reached.depth reached.number reached.few ∙ reached.is in
                    inr (record {
                      depth = reached.depth;
                      number = reached.number;
                      few = reached.few;
                      is = stays links reached.depth reached.number reached.few (λ none. omega (arith, there, none, low)) ∙ there;
                    })
              ];
        }

    taken_linked : (wants : List Want) → is_wanted wants (suc d) (n / 512 ^ (3 - d)) ≡ true → length after.free + missing img wants ≡ length before.free + missing new wants
    taken_linked wants wanted =
        omega (arith, missing_unreached u wants, missing_link links wants (ap (is_wanted wants (suc d)) way ∙ wanted), ap length t.takes)

    pub done_linked : {told now : Option History} → (NothingPending told → NothingPending now) → (wants : List Want) → is_wanted wants (suc d) (n / 512 ^ (3 - d)) ≡ true
        → IsDone wants img new told now before after
    done_linked settled wants wanted = record { agrees = agrees_linked; taken = taken_linked wants wanted; settled = settled }

  -- ---- the work and its images

  made_filled : (wants : List Want) {told now : Option History} → MakesOnly (λ at put. IsIn (page * 512) 512 at) told now → MakesOnly (λ at put. MayGrow img wants before after at) told now
  made_filled wants made =
      makes_weaker (λ at put. MayGrow img wants before after at)
      (λ at put inside. inl (let here : page ≡ at / 512 = omega (arith, inside.0, inside.1) in subst (λ (q : ℕ). IsTaken before after q) here taken)) made

  pub extends_filled : {mid : List ℕ} {told now : Option History} → SameOff (IsIn (page * 512) 512) mid img
      → (NothingPending told → LeavesOnly told now (λ image. SameOff (IsIn (page * 512) 512) image img)) → MakesOnly (λ at put. IsIn (page * 512) 512 at) told now
      → (wants : List Want) → Extends wants img mid told now before after
  extends_filled {mid} same images made wants =
      record {
        grown = grown_filled wants mid same;
        images = λ settled. weaker (λ image. Grown img image wants before after) (λ image alike. grown_filled wants image alike) (images settled);
        made = made_filled wants made;
        left = left;
      }

  pub extends_linked : {mid new : List ℕ} {told then now : Option History} → SameOff (IsIn (page * 512) 512) mid img → ((k : ℕ) → k < 512 → word mid (page * 512 + k) ≡ 0)
      → (NothingPending told → LeavesOnly told then (λ image. SameOff (IsIn (page * 512) 512) image img)) → (NothingPending told → NothingPending then)
      → MakesOnly (λ at put. IsIn (page * 512) 512 at) told then
      → (new ≡ mid) ⊎ (new ≡ set mid w (page * 4096 + 1))
      → (NothingPending then → LeavesOnly then now (λ image. (image ≡ mid) ⊎ (image ≡ set mid w (page * 4096 + 1)))) → MakesOnly (λ at put. (at ≡ w) × (put ≡ page * 4096 + 1)) then now
      → (wants : List Want) → is_wanted wants (suc d) (n / 512 ^ (3 - d)) ≡ true → Extends wants img new told now before after
  extends_linked {mid} {new} {told} {then} {now} same zeros images settled made either images' made' wants wanted =
      record {
        grown = grown_either new either;
        images = λ quiet. and_then
            (weaker (λ image. Grown img image wants before after) (λ image alike. grown_filled wants image alike) (images quiet))
            (weaker (λ image. Grown img image wants before after) grown_either (images' (settled quiet)));
        made = makes_then (made_filled wants made)
            (makes_weaker (λ at put. MayGrow img wants before after at) (λ at put it. inr (subst (IsGap img wants) (sym it.0) (gap wants wanted))) made');
        left = left;
      }
    where
      grown_either : (image : List ℕ) → (image ≡ mid) ⊎ (image ≡ set mid w (page * 4096 + 1)) → Grown img image wants before after
      grown_either image (inl is) = subst (λ (l : List ℕ). Grown img l wants before after) (sym is) (grown_filled wants mid same)
      grown_either image (inr is) = grown_linked same zeros is wants wanted

  -- ---- as the function states it

  step_is : d + 1 ≡ suc d
  step_is = omega arith

  pub wanted_step : (wants : List Want) → is_wanted wants (d + 1) (n / 512 ^ (3 - d)) ≡ true → is_wanted wants (suc d) (n / 512 ^ (3 - d)) ≡ true
  wanted_step wants wanted = ap (λ k. is_wanted wants k (n / 512 ^ (3 - d))) (sym step_is) ∙ wanted

  pub there_result : {T E : Type 0} (r : Result T E) {mid : List ℕ} (new : List ℕ) → SameOff (IsIn (page * 512) 512) mid img → ((k : ℕ) → k < 512 → word mid (page * 512 + k) ≡ 0)
      → OnOk r (new ≡ set mid w (page * 4096 + 1)) → OnOk r (on_way new n (d + 1) ≢ 0)
  there_result (Ok x) new same zeros is = subst (λ (k : ℕ). on_way new n k ≢ 0) (sym step_is) (there_now same zeros is)
  there_result (Err e) new same zeros is = tt

  pub done_result : {T E : Type 0} (r : Result T E) {mid : List ℕ} (new : List ℕ) (told then now : Option History) → SameOff (IsIn (page * 512) 512) mid img → ((k : ℕ) → k < 512 → word mid (page * 512 + k) ≡ 0)
      → OnOk r (new ≡ set mid w (page * 4096 + 1)) → (NothingPending told → NothingPending then) → OnOk r (NothingPending then → NothingPending now)
      → OnOk r ((wants : List Want) → is_wanted wants (d + 1) (n / 512 ^ (3 - d)) ≡ true → IsDone wants img new told now before after)
  done_result (Ok x) new told then now same zeros is settled more = λ wants wanted. done_linked same zeros is (λ s. more (settled s)) wants (wanted_step wants wanted)
  done_result (Err e) new told then now same zeros is settled more = tt
