use Rattle.std.proofs.Common.{◌≡◌, ◌/◌, ◌%◌, false, refl, sym, ap, ◌∙◌, arith}
use Rattle.std.proofs.lemmas.Bool.{both_ways}
use Rattle.ct_base.specs.Path.{is_name}
use Rattle.ct_naming.proofs.Meeting.{entry_from, entry_live, entry_name, entry_padded, entry_short}
use Rattle.ct_naming.proofs.entry.is_entry.Goals as goal

pub returns-then-length-gt-NAME_BYTES : goal.returns-then-length-gt-NAME_BYTES
returns-then-length-gt-NAME_BYTES g c =
    let w = g.D.Pm.words c.args.dev.now in
    let s = c.requires.stands in
    (λ on. absurd (both_ways false refl on), λ e. absurd (omega (arith, entry_short w c.args.dir s (c.load-head.result / 4294967296) (ap (λ k. k / 4294967296) c.load-head.ensures) e)))

pub returns-then-not-is_live : goal.returns-then-not-is_live
returns-then-not-is_live g c =
    let w = g.D.Pm.words c.args.dev.now in
    let s = c.requires.stands in
    (λ on. absurd (both_ways false refl on), λ e. c.if-not-is_live.ensures.1 (entry_live w c.args.dir s (c.load-head.result % 4294967296) (ap (λ k. k % 4294967296) c.load-head.ensures) e))

pub returns-then-not-is_name : goal.returns-then-not-is_name
returns-then-not-is_name g c =
    let w = g.D.Pm.words c.args.dev.now in
    let s = c.requires.stands in
    let text : c.deref.result.now ≡ c.name_in-name.result.items = c.deref.ensures.0 in
    let n = ap (λ k. k / 4294967296) c.load-head.ensures in (
      λ on. absurd (both_ways false refl on),
      λ e. absurd (both_ways (is_name c.deref.result.now) (sym c.if-not-is_name.ensures) (ap is_name (text ∙ c.name_in-name.ensures) ∙ entry_name w c.args.dir s (c.load-head.result / 4294967296) n e)),
    )

pub returns : goal.returns
returns g c =
    let w = g.D.Pm.words c.args.dev.now in
    let s = c.requires.stands in
    let text : c.deref.result.now ≡ c.name_in-name.result.items = c.deref.ensures.0 in
    let i = ap (λ k. k % 4294967296) c.load-head.ensures in
    let n = ap (λ k. k / 4294967296) c.load-head.ensures in (
      λ on. entry_from w c.args.dir s (c.load-head.result % 4294967296) (c.load-head.result / 4294967296) i n (c.if-not-is_live.ensures.0 refl) (omega arith)
          (sym (ap is_name (text ∙ c.name_in-name.ensures)) ∙ sym c.if-not-is_name.ensures) (c.is_padded.ensures.0 on),
      λ e. c.is_padded.ensures.1 (entry_padded w c.args.dir s (c.load-head.result / 4294967296) n e),
    )
