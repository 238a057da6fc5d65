use Rattle.std.proofs.Common.{sym, ◌∙◌}
use Rattle.std.proofs.lemmas.Bool.{eqb-true, eq-eqb}
use Rattle.ct_inode.proofs.Loaded.{word_shown}
use Rattle.ct_placing.proofs.inodes.is_word_zero.Goals as goal

pub returns : goal.returns
returns g c =
    let is = word_shown (g.D.Pm.words c.args.dev.now) c.args.n c.args.k c.requires.few c.requires.word ∙ sym c.load_word.ensures in
    (λ on. is ∙ eqb-true c.load_word.result 0 on, λ none. eq-eqb c.load_word.result 0 (sym is ∙ none))
