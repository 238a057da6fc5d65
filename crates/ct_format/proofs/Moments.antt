-- What a crash leaves at each moment of a format.
use Rattle.std.proofs.Common.{◌≡◌, ◌≢◌, ◌∙◌, ◌⊎◌, ℕ, ◌*◌, ◌≤◌, List, length, set, Option, Some, None, Result, Ok, Err, refl, sym, ap, subst, inl, inr, arith}
use Rattle.std.specs.Prelude.{IfSome, OnOk}
use Rattle.std.proofs.lemmas.Bool.{ne_eqb}
use Rattle.std.proofs.lemmas.List.{get_or-set_same, get_or-set_other, length-set}
use Rattle.std.proofs.lemmas.Option.{none-some}
use Rattle.ct_base.specs.Format.{IsFormatted, value, format_words}
use Rattle.ct_base.specs.Walk.{word}
use Rattle.ct_pm.specs.Images.{History, reads}
use Rattle.ct_pm.specs.Device.{EachNow, LeavesOnly, MakesOnly, NothingPending, SameOff}
use Rattle.ct_pm.proofs.Made.{no_steps, makes_then, makes_weaker}
use Rattle.ct_pm.proofs.Quiet.{quiet_settled}
use Rattle.ct_pm.proofs.Told.{and_then, at_end, started, weaker}
use Rattle.ct_state.proofs.FormatCells.{value-zero}
use Rattle.ct_state.proofs.FormatLands.{format_lands}
use Rattle.ct_tree.specs.Lands.{Lands}
use Rattle.ct_tree.specs.Tree.{Dir, none}
use Rattle.ct_format.specs.Formatting.{IsLaidOut, IsFormatWord, IsRefused, IsStartOrRefused, IsEmptyOrRefused, IsFormatImage, HasWords, Lays, Formats, GoesOnFenced, format_word, magic_steps}

abbrev pub magic_word : ℕ
magic_word = 0x3130534654435452

-- word 0 is not laid out
apart : (w : ℕ) → IsLaidOut w → w ≢ 0
apart w (inl is) z = omega (arith, is.0, z)
apart w (inr (inl (inl is))) z = omega (arith, is, z)
apart w (inr (inl (inr is))) z = omega (arith, is, z)
apart w (inr (inr is)) z = omega (arith, is.0, z)

-- the words of the table, where a word is none of the first
past : (pages n w : ℕ) → 4 ≤ w → format_word pages n w ≡ value format_words w
unfolding format_word
past pages n w le = rw (ne_eqb w 1 (λ is. omega arith), ne_eqb w 2 (λ is. omega arith), ne_eqb w 3 (λ is. omega arith)) refl

module _ (pages n : ℕ) (words : List ℕ) (has : HasWords pages n words) (size : length words ≡ 512 * pages) (least : 256 ≤ pages) where
  marked : List ℕ
  marked = set words 0 magic_word

  kept : (w : ℕ) → IsLaidOut w → word (set words 0 magic_word) w ≡ format_word pages n w
  kept w is = get_or-set_other words 0 w magic_word 0 (apart w is) ∙ has w is

  -- once word 0 has the magic, the image is formatted
  pub formatted : IsFormatted (set words 0 magic_word) pages n
  unfolding format_word
  formatted = record {
    magic = get_or-set_same words 0 magic_word 0 (omega (arith, size));
    version = kept 1 (inl (omega arith, omega arith));
    count = kept 2 (inl (omega arith, omega arith));
    inodes = kept 3 (inl (omega arith, omega arith));
    spare = λ w low high. kept w (inl (omega arith, omega arith)) ∙ past pages n w low ∙ value-zero format_words w (λ key. grind arith);
    long = kept 512 (inr (inl (inl refl)));
    short = kept 527 (inr (inl (inr refl)));
    words = λ w low high. kept w (inr (inr (omega arith, omega arith))) ∙ past pages n w (omega arith);
  }

module _ (pages : ℕ) (least : 256 ≤ pages) (most : pages ≤ 262144) where
  refused : (img : List ℕ) → length img ≡ 512 * pages → word img 0 ≡ 0 → IsRefused img
  refused img size zero_word = record { sized = (omega (arith, size), omega (arith, size)); other = λ is. omega (arith, is, zero_word) }

  module _ (w : List ℕ) (size : length w ≡ 512 * pages) where
    -- word 0 is cleared, or not yet
    unmarked : (image : List ℕ) → (image ≡ w) ⊎ (image ≡ set w 0 0) → IsStartOrRefused w image
    unmarked image (inl is) = inl is
    unmarked image (inr is) = inr (subst IsRefused (sym is) (refused (set w 0 0) (length-set w 0 0 ∙ size) (get_or-set_same w 0 0 0 (omega (arith, size)))))

    -- it stays cleared while the other words are laid out
    cleared : (words image : List ℕ) → words ≡ set w 0 0 → SameOff IsLaidOut image words → (length image ≡ 512 * pages) × (word image 0 ≡ 0)
    cleared words image is same = (
      same.size ∙ ap length is ∙ length-set w 0 0 ∙ size,
      same.others 0 (λ out. apart 0 out refl) ∙ ap (λ l. word l 0) is ∙ get_or-set_same w 0 0 0 (omega (arith, size)),
    )

    pub cleared_words : {words after : List ℕ} {told new : Option History} → words ≡ set w 0 0 → Lays IsLaidOut words after told new → (length after ≡ 512 * pages) × (word after 0 ≡ 0)
    cleared_words {words = words} {after = after} is lays = cleared words after is lays.same

    laying : (words image : List ℕ) → words ≡ set w 0 0 → SameOff IsLaidOut image words → IsRefused image
    laying words image is same = let c = cleared words image is same in refused image c.0 c.1

  -- the magic is there, or not yet
  marking : (n : ℕ) → 2 ≤ n → n ≤ 1048576 → (words : List ℕ) → length words ≡ 512 * pages → word words 0 ≡ 0 → HasWords pages n words → (image : List ℕ) → (image ≡ words) ⊎ (image ≡ set words 0 magic_word) → IsEmptyOrRefused image
  marking n two few words size zero_word has image (inl is) = inl (subst IsRefused (sym is) (refused words size zero_word))
  marking n two few words size zero_word has image (inr is) =
      let marked = set words 0 magic_word in
      let fits : length marked ≡ 512 * pages = length-set words 0 magic_word ∙ size in
      inr (subst (λ l. Lands l (Dir none)) (sym is) (format_lands (formatted pages n words has size least) least (omega (arith, fits)) (omega (arith, fits)) two few))

  module _ (w : List ℕ) (size : length w ≡ 512 * pages) {old new : Option History} where
    pub start_images : LeavesOnly old new (λ image. (image ≡ w) ⊎ (image ≡ set w 0 0)) → LeavesOnly old new (IsStartOrRefused w)
    start_images run = weaker (IsStartOrRefused w) (unmarked w size) run

    pub between_images : (words : List ℕ) → words ≡ set w 0 0 → IfSome old (λ h. words ≡ reads h) → NothingPending old → {after : List ℕ} → Lays IsLaidOut words after old new → LeavesOnly old new IsRefused
    between_images words is reads_now settled lays = weaker IsRefused (λ image same. laying w size words image is same) (quiet_settled reads_now settled lays.quiet)

  pub end_images : (n : ℕ) → 2 ≤ n → n ≤ 1048576 → (words : List ℕ) → length words ≡ 512 * pages → word words 0 ≡ 0 → HasWords pages n words → {old new : Option History} →
      LeavesOnly old new (λ image. (image ≡ words) ⊎ (image ≡ set words 0 magic_word)) → LeavesOnly old new IsEmptyOrRefused
  end_images n two few words size zero_word has run = weaker IsEmptyOrRefused (marking n two few words size zero_word has) run

-- what holds at each moment holds now
now_of : {old new : Option History} {P : List ℕ → Type 0} → LeavesOnly old new P → EachNow new P
now_of {old = None} {new = None} run = tt
now_of {old = None} {new = Some h} run = absurd (none-some _ (sym run.goes_on.1))
now_of {old = Some past} run = at_end run

-- where the work stops before the magic is stored
pub stops_fenced : {start : List ℕ} {old fenced new : Option History} → fenced ≡ Rattle.ct_pm.specs.Device.with_steps (magic_steps 0) old → LeavesOnly old fenced (IsStartOrRefused start) → LeavesOnly fenced new IsRefused → GoesOnFenced start old new
stops_fenced {fenced = fenced} {new = new} unmark before between = record {
  fenced = fenced;
  laid = new;
  unmark = unmark;
  before = before;
  between = between;
  mark = (0, omega arith, no_steps new);
  after = started new IsEmptyOrRefused (now_of (weaker IsEmptyOrRefused (λ image is. inl is) between));
}

pub on_formatted : {T E : Type 0} (r : Result T E) (pages n : ℕ) (words after : List ℕ) → IsFormatted (set words 0 magic_word) pages n → OnOk r (after ≡ set words 0 magic_word) → OnOk r (IsFormatted after pages n)
on_formatted (Ok done) pages n words after f is = subst (λ l. IsFormatted l pages n) (sym is) f
on_formatted (Err error) pages n words after f is = tt

-- each step stores one of the words of the image
pub makes_zero : {old new : Option History} (v : ℕ) → MakesOnly (λ at put. (at ≡ 0) × (put ≡ v)) old new → MakesOnly (λ at put. IsFormatWord at) old new
makes_zero v made = makes_weaker (λ at put. IsFormatWord at) (λ at put is. inl is.0) made

pub makes_out : {old told new : Option History} (v : ℕ) → MakesOnly (λ at put. (at ≡ 0) × (put ≡ v)) old told → MakesOnly (λ at put. IsLaidOut at) told new → MakesOnly (λ at put. IsFormatWord at) old new
makes_out v first more = makes_then (makes_zero v first) (makes_weaker (λ at put. IsFormatWord at) (λ at put is. inr is) more)

-- where nothing was done
pub none_made : (start : List ℕ) (told : Option History) → IfSome told (λ h. start ≡ reads h) → NothingPending told → Formats start told told
none_made start told reads_now settled = inl (record { steps = (0, omega arith, no_steps told); images = started told (IsStartOrRefused start) (all_start start told reads_now settled) })
  where
    all_start : (start : List ℕ) (told : Option History) → IfSome told (λ h. start ≡ reads h) → NothingPending told → EachNow told (IsStartOrRefused start)
    all_start start None reads_now settled = tt
    all_start start (Some h) reads_now settled = λ image allowed. inl (settled image allowed ∙ sym reads_now)

start_or : (start image : List ℕ) → IsStartOrRefused start image → IsFormatImage start image
start_or start image (inl is) = inl is
start_or start image (inr is) = inr (inl is)

-- the moments together
pub any_moment : (start : List ℕ) (old new : Option History) → Formats start old new → LeavesOnly old new (IsFormatImage start)
any_moment start old new (inl s) = weaker (IsFormatImage start) (start_or start) s.images
any_moment start old new (inr f) =
    and_then (and_then (weaker (IsFormatImage start) (start_or start) f.before) (weaker (IsFormatImage start) (λ image is. inr (inl is)) f.between)) (weaker (IsFormatImage start) (λ image is. inr is) f.after)

-- the words as they read, where the work stopped
module _ (pages : ℕ) (least : 256 ≤ pages) (most : pages ≤ 262144) (w : List ℕ) (size : length w ≡ 512 * pages) where
  pub start_reads : (now : List ℕ) → (now ≡ w) ⊎ (now ≡ set w 0 0) → IsFormatImage w now
  start_reads now is = start_or w now (unmarked pages least most w size now is)

  pub laid_reads : (words now : List ℕ) → words ≡ set w 0 0 → SameOff IsLaidOut now words → IsFormatImage w now
  laid_reads words now is same = inr (inl (laying pages least most w size words now is same))

  pub end_reads : (n : ℕ) → 2 ≤ n → n ≤ 1048576 → (words : List ℕ) → length words ≡ 512 * pages → word words 0 ≡ 0 → HasWords pages n words → (now : List ℕ) → (now ≡ words) ⊎ (now ≡ set words 0 magic_word) → IsFormatImage w now
  end_reads n two few words fits zero_word has now is = inr (marking pages least most n two few words fits zero_word has now is)
