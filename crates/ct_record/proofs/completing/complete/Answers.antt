use Rattle.std.proofs.Common.{◌≡◌, ◌⊎◌, ◌∙◌, List, Option, ℕ, ap, inl, inr, subst, sym}
use Rattle.std.specs.Prelude.{slice_index}
use Rattle.ct_base.specs.Settled.{Pair, Gives, HasFewPairs, open_pairs, with_pairs}
use Rattle.ct_pm.specs.Images.{History}
use Rattle.ct_pm.specs.Device.{LeavesOnly}
use Rattle.ct_pm.proofs.Made.{makes_then, makes_weaker}
use Rattle.ct_pm.proofs.Told.{and_then, weaker}
use Rattle.ct_record.specs.Record.{InRecord, IsNoneOrAll, OpensOnly, SettlesTo, SettlesToEither}
use Rattle.ct_record.specs.Seen.{count_of, pairs_of, words_under, told_under, after_finish}
use Rattle.ct_record.proofs.Lawful.{few_more}
use Rattle.ct_record.proofs.Opens.{armed_opens, opens_as}
use Rattle.ct_record.proofs.Settles.{same_then}
use Rattle.ct_record.proofs.Drafts.{ok_of}
use Rattle.ct_record.proofs.Applying.{applied_gates, applied_pairs, applied_same}
use Rattle.ct_record.proofs.Whole.{either_armed, either_later, words_at_end}
use Rattle.ct_record.proofs.Chain.{begun, apart_of}
use Rattle.ct_record.proofs.completing.complete.Goals as goal
use Rattle.ct_record.proofs.completing.complete.Goals.{After-finish}

-- what the whole record stores
abbrev Stores : List Pair → ℕ → ℕ → Type 0
Stores pairs word value = InRecord word ⊎ Gives pairs word value

pub returns-in-Err-clause-any_moment : goal.returns-in-Err-clause-any_moment
returns-in-Err-clause-any_moment g c =
    let draft = c.args.draft in either_armed (begun draft) (pairs_of draft) (apart_of draft) c.in-Err.ensures.any_moment

pub returns-in-Err-clause-made : goal.returns-in-Err-clause-made
returns-in-Err-clause-made g c = makes_weaker (Stores (pairs_of c.args.draft)) (λ word value inside. inl inside) c.in-Err.ensures.made

pub returns-in-Err-apply-clause-any_moment : goal.returns-in-Err-apply-clause-any_moment
returns-in-Err-apply-clause-any_moment g c =
    let draft = c.args.draft in
    let pairs = pairs_of draft in
    either_later (begun draft) pairs (apart_of draft) (g.D.Pm.words c.in-Ok.armed.dev) c.in-Ok.ensures.all.1 (either_armed (begun draft) pairs (apart_of draft) c.in-Ok.ensures.any_moment)
    c.in-Err-apply.ensures.any_moment

pub returns-in-Err-apply-clause-made : goal.returns-in-Err-apply-clause-made
returns-in-Err-apply-clause-made g c =
    let pairs = pairs_of c.args.draft in
    makes_then (makes_weaker (Stores pairs) (λ word value inside. inl inside) c.in-Ok.ensures.made)
    (makes_weaker (Stores pairs) (λ word value gives. inr (subst (λ (ps : List Pair). Gives ps word value) c.in-Ok.ensures.all.0 gives)) c.in-Err-apply.ensures.made)

applied : (g : _) (c : After-finish g) → LeavesOnly (told_under c.args.draft) (g.D.Pm.told c.in-Ok-apply.applied.dev) (SettlesToEither (pairs_of c.args.draft) (words_under c.args.draft))
applied g c =
    let draft = c.args.draft in
    let pairs = pairs_of draft in
    either_later (begun draft) pairs (apart_of draft) (g.D.Pm.words c.in-Ok.armed.dev) c.in-Ok.ensures.all.1 (either_armed (begun draft) pairs (apart_of draft) c.in-Ok.ensures.any_moment)
    c.in-Ok-apply.ensures.any_moment

stands : (g : _) (c : After-finish g) → SettlesTo (with_pairs (pairs_of c.args.draft) (words_under c.args.draft)) (g.D.Pm.words c.in-Ok-apply.applied.dev)
stands g c =
    let armed = c.in-Ok.armed in
    subst (SettlesTo (with_pairs (pairs_of c.args.draft) (words_under c.args.draft))) (sym c.in-Ok-apply.ensures.words)
    (same_then (applied_same armed.record armed.pages) c.in-Ok.ensures.all.1)

pub returns-clause-words : goal.returns-clause-words
returns-clause-words g c =
    let draft = c.args.draft in
    ok_of c.finish.result
    (words_at_end (begun draft) (pairs_of draft) (apart_of draft) (g.D.Pm.words c.in-Ok.armed.dev) (g.D.Pm.words c.in-Ok-apply.applied.dev) (g.D.Pm.words (after_finish c.finish.result))
    c.in-Ok.ensures.same c.in-Ok.ensures.all.0 c.in-Ok-apply.ensures.words c.finish.ensures.same)

pub returns-clause-any_moment : goal.returns-clause-any_moment
returns-clause-any_moment g c =
    let draft = c.args.draft in
    either_later (begun draft) (pairs_of draft) (apart_of draft) (g.D.Pm.words c.in-Ok-apply.applied.dev) (stands g c) (applied g c) c.finish.ensures.any_moment

pub returns-clause-made : goal.returns-clause-made
returns-clause-made g c =
    let pairs = pairs_of c.args.draft in
    makes_then
    (makes_then (makes_weaker (Stores pairs) (λ word value inside. inl inside) c.in-Ok.ensures.made)
    (makes_weaker (Stores pairs) (λ word value gives. inr (subst (λ (ps : List Pair). Gives ps word value) c.in-Ok.ensures.all.0 gives)) c.in-Ok-apply.ensures.made))
    (makes_weaker (Stores pairs) (λ word value inside. inl inside) c.finish.ensures.made)

-- after arm, and after what keeps to the record that is open then
pub returns-in-Err-apply-clause-lawful : goal.returns-in-Err-apply-clause-lawful
returns-in-Err-apply-clause-lawful g c =
    and_then c.in-Ok.ensures.lawful (weaker (HasFewPairs (count_of c.args.draft)) (λ image few. few_more image c.in-Ok.ensures.reads_lawful.few few) c.in-Err-apply.ensures.lawful)

pub returns-in-Err-apply-clause-reads_lawful : goal.returns-in-Err-apply-clause-reads_lawful
returns-in-Err-apply-clause-reads_lawful g c = few_more (g.D.Pm.words c.in-Err-apply.broken.dev) c.in-Ok.ensures.reads_lawful.few c.in-Err-apply.ensures.reads_lawful

applied_lawful : (g : _) (c : After-finish g) → LeavesOnly (told_under c.args.draft) (g.D.Pm.told c.in-Ok-apply.applied.dev) (HasFewPairs (count_of c.args.draft))
applied_lawful g c =
    and_then c.in-Ok.ensures.lawful (weaker (HasFewPairs (count_of c.args.draft)) (λ image few. few_more image c.in-Ok.ensures.reads_lawful.few few) c.in-Ok-apply.ensures.lawful)

applied_few : (g : _) (c : After-finish g) → HasFewPairs (count_of c.args.draft) (g.D.Pm.words c.in-Ok-apply.applied.dev)
applied_few g c = few_more (g.D.Pm.words c.in-Ok-apply.applied.dev) c.in-Ok.ensures.reads_lawful.few c.in-Ok-apply.ensures.reads_lawful

pub returns-clause-lawful : goal.returns-clause-lawful
returns-clause-lawful g c =
    and_then (applied_lawful g c) (weaker (HasFewPairs (count_of c.args.draft)) (λ image few. few_more image (applied_few g c).few few) c.finish.ensures.lawful)

pub returns-clause-reads_lawful : goal.returns-clause-reads_lawful
returns-clause-reads_lawful g c = few_more (g.D.Pm.words (after_finish c.finish.result)) (applied_few g c).few c.finish.ensures.reads_lawful

arming_opens : (pairs : List Pair) (words : List ℕ) {old new : Option History} → LeavesOnly old new (IsNoneOrAll pairs words) → LeavesOnly old new (OpensOnly pairs)
arming_opens pairs words moments = weaker (OpensOnly pairs) (λ image is. armed_opens pairs words image is) moments

pub returns-in-Err-clause-opens : goal.returns-in-Err-clause-opens
returns-in-Err-clause-opens g c = arming_opens (pairs_of c.args.draft) (words_under c.args.draft) c.in-Err.ensures.any_moment

pub returns-in-Err-clause-reads_opens : goal.returns-in-Err-clause-reads_opens
returns-in-Err-clause-reads_opens g c = armed_opens (pairs_of c.args.draft) (words_under c.args.draft) (g.D.Pm.words c.in-Err.broken.dev) c.in-Err.ensures.reads

pub returns-in-Err-apply-clause-opens : goal.returns-in-Err-apply-clause-opens
returns-in-Err-apply-clause-opens g c =
    let pairs = pairs_of c.args.draft in
    and_then (arming_opens pairs (words_under c.args.draft) c.in-Ok.ensures.any_moment) (weaker (OpensOnly pairs) (λ image opens. opens_as image c.in-Ok.ensures.all.0 opens) c.in-Err-apply.ensures.opens)

pub returns-in-Err-apply-clause-reads_opens : goal.returns-in-Err-apply-clause-reads_opens
returns-in-Err-apply-clause-reads_opens g c = opens_as (g.D.Pm.words c.in-Err-apply.broken.dev) c.in-Ok.ensures.all.0 c.in-Err-apply.ensures.reads_opens

-- the open pairs are the draft's still
still_open : (g : _) (c : After-finish g) → open_pairs (g.D.Pm.words c.in-Ok-apply.applied.dev) ≡ pairs_of c.args.draft
still_open g c =
    let armed = c.in-Ok.armed in ap open_pairs c.in-Ok-apply.ensures.words ∙ applied_pairs armed.record armed.pages ∙ c.in-Ok.ensures.all.0

pub returns-clause-opens : goal.returns-clause-opens
returns-clause-opens g c =
    let pairs = pairs_of c.args.draft in
    and_then
    (and_then (arming_opens pairs (words_under c.args.draft) c.in-Ok.ensures.any_moment) (weaker (OpensOnly pairs) (λ image opens. opens_as image c.in-Ok.ensures.all.0 opens) c.in-Ok-apply.ensures.opens))
    (weaker (OpensOnly pairs) (λ image opens. opens_as image (still_open g c) opens) c.finish.ensures.opens)

pub returns-clause-reads_opens : goal.returns-clause-reads_opens
returns-clause-reads_opens g c = opens_as (g.D.Pm.words (after_finish c.finish.result)) (still_open g c) c.finish.ensures.reads_opens

pub returns-in-Err-apply-clause-in_line : goal.returns-in-Err-apply-clause-in_line
returns-in-Err-apply-clause-in_line g c = λ short. makes_then (c.in-Ok.ensures.in_line short) c.in-Err-apply.ensures.in_line

pub returns-clause-in_line : goal.returns-clause-in_line
returns-clause-in_line g c = λ short.
    let armed = c.in-Ok.armed in
    let closed : slice_index (g.D.Pm.words c.in-Ok-apply.applied.dev) 512 ≡ 0 =
    ap (λ (l : List ℕ). slice_index l 512) c.in-Ok-apply.ensures.words ∙ (applied_gates armed.record armed.pages).0 ∙ c.in-Ok.ensures.closed short in
    makes_then (makes_then (c.in-Ok.ensures.in_line short) c.in-Ok-apply.ensures.in_line) (c.finish.ensures.in_line closed)
