use Rattle.std.proofs.Common.{◌*◌, ◌∙◌, ap, arith}
use Rattle.ct_check.proofs.Reading.{reads_move, reads_start, level_read, walked_read}
use Rattle.ct_check.proofs.level.next_level.Goals as goal

pub returns-in-Ok-read_tables-clause-level : goal.returns-in-Ok-read_tables-clause-level
returns-in-Ok-read_tables-clause-level g c = λ d deep l was.
    let start = reads_start deep (c.in-Ok.ensures.length ∙ c.requires.pages) c.in-Ok.ensures.blank was in
    level_read (omega (arith, c.requires.some, c.requires.pages)) (reads_move (ap (λ n. 512 * n) c.requires.pages) (c.in-Ok-read_tables.ensures.reads d l start))

pub returns-in-Ok-read_tables-clause-walked : goal.returns-in-Ok-read_tables-clause-walked
returns-in-Ok-read_tables-clause-walked g c = λ d deep l was.
    let start = reads_start deep (c.in-Ok.ensures.length ∙ c.requires.pages) c.in-Ok.ensures.blank was in
    walked_read (omega (arith, c.requires.some, c.requires.pages)) (reads_move (ap (λ n. 512 * n) c.requires.pages) (c.in-Ok-read_tables.ensures.reads d l start))
