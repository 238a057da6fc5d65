use Rattle.std.proofs.Common.{ℕ, refl}
use Rattle.std.specs.Option.{option_map}
use Rattle.arrayvec.specs.declared.array_vec.ArrayVec.{ArrayVec}
use Rattle.ct_dir.specs.Directory.{name_in}
use Rattle.ct_shell.proofs.Kept.{held}
use Rattle.ct_tally.proofs.Root.{next_found, next_refused}
use Rattle.ct_tally.proofs.entries.next_in_root.Goals as goal

pub returns-in-Ok : goal.returns-in-Ok
returns-in-Ok g c n t keeps =
    let h = held n c.args.fs.now.state t keeps in
    next_found t (name_in c.args.after) (option_map (λ name. name.items)) c.in-Ok.next (c.in-Ok.ensures.answer h.0 h.1 t h.2.stands)

pub returns-in-Err : goal.returns-in-Err
returns-in-Err g c n t keeps =
    let h = held n c.args.fs.now.state t keeps in
    next_refused {T = ArrayVec ℕ 248 (Unit {0})} t (name_in c.args.after) (option_map (λ name. name.items)) c.in-Err.field-0 refl (c.in-Err.ensures.answer h.0 h.1 t h.2.stands)
