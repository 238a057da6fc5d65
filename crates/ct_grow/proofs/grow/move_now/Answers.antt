use Rattle.std.proofs.Common.{ℕ, List, ◌∙◌, refl}
use Rattle.std.specs.Prelude.{OnOk}
use Rattle.ct_record.specs.Record.{Concluded}
use Rattle.ct_record.specs.Seen.{device_behind}
use Rattle.ct_commit.specs.Made.{Drafted, IsStable}
use Rattle.ct_commit.proofs.Made.{made_done, made_ends, made_last, made_of, made_phase, state_or}
use Rattle.ct_grow.specs.Drafted.{Moves}
use Rattle.ct_grow.specs.Moments.{IsSpare}
use Rattle.ct_grow.proofs.Placed.{moves_done}
use Rattle.ct_grow.proofs.grow.move_now.Given.{Over}
use Rattle.ct_grow.proofs.grow.move_now.Goals as goal

module _ (g : Over) (c : goal.After-conclude g) where
  abbrev R : List ℕ → List ℕ → Type 0
  R was new = Moves was new c.args.number c.args.old (record { base = c.args.base; level = c.args.level })

  stable : IsStable R
  stable was new done moves same = moves_done refl moves same

  drafted : Drafted R IsSpare 150 c.move_object-drafted.result c.args.dev c.begin-draft.result c.move_object-drafted.new.draft
  drafted = record {
    is = c.begin-draft.ensures.dev ∙ c.of.ensures;
    drafts = c.move_object-drafted.ensures.drafts;
    makes = c.move_object-drafted.ensures.moves;
    named = c.move_object-drafted.ensures.spare;
    few = c.move_object-drafted.ensures.few;
  }

  ends : Concluded (g.D.Pm.words c.args.dev) (g.D.Pm.told c.args.dev) (made_of drafted stable).0 150 (g.D.Pm.words (device_behind c.conclude.result)) (g.D.Pm.told (device_behind c.conclude.result)) c.conclude.result
  ends = made_ends drafted stable c.conclude.ensures.concluded

  moves : OnOk c.conclude.result (R (g.D.Pm.words c.args.dev) (g.D.Pm.words (device_behind c.conclude.result)))
  moves = made_done drafted stable c.conclude.result (g.D.Pm.words (device_behind c.conclude.result)) c.conclude.ensures.done c.conclude.ensures.words

pub returns-clause-moves : goal.returns-clause-moves
returns-clause-moves g c = moves g c

pub returns-clause-shut : goal.returns-clause-shut
returns-clause-shut g c = (ends g c).shut

pub returns-clause-settled : goal.returns-clause-settled
returns-clause-settled g c = (ends g c).settled

pub returns-clause-phase : goal.returns-clause-phase
returns-clause-phase g c = made_phase (made_of (drafted g c) (stable g c)).1.0 c.requires.spares (state_or c.requires.spares) (ends g c)

pub returns-clause-reads_after : goal.returns-clause-reads_after
returns-clause-reads_after g c = made_last (made_of (drafted g c) (stable g c)).1.0 c.requires.spares (state_or c.requires.spares) (ends g c) (moves g c)
