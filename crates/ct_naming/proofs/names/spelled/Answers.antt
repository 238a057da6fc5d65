use Rattle.std.proofs.Common.{sym, ap, ◌∙◌, arith}
use Rattle.std.specs.Int.{w64, swap_bytes}
use Rattle.ct_naming.proofs.Spelt.{first_is}
use Rattle.ct_naming.proofs.names.spelled.Goals as goal

pub returns-clause-spelled : goal.returns-clause-spelled
returns-clause-spelled g c =
    let r = c.requires in
    let w = g.D.Pm.words c.args.dev.now in
    let s = r.stands in
    record {
      slot = s.slot;
      first = c.swap_bytes.ensures ∙ ap (swap_bytes w64) (c.load.ensures ∙ s.words 1 (omega arith))
          ∙ sym (first_is r.tables (g.met.D.Pm.words_fit c.args.dev.now) r.placed s.slot);
    }
