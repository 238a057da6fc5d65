use Rattle.std.proofs.Common.{sym, subst}
use Rattle.ct_find.proofs.Both.{first_is_dir, none_too, second_is_dir}
use Rattle.ct_find.proofs.Leading.{file_at}
use Rattle.ct_find.specs.Files.{IsFileAt}
use Rattle.ct_find.proofs.file.find_files.Goals as goal

pub returns-in-None : goal.returns-in-None
returns-in-None g c = λ t st more. none_too c.args.path.now c.args.other.now t more c.in-Err.refusal (c.in-Err.ensures t st) c.in-None.ensures

pub returns-then-one-eq-DIRECTORY_KIND : goal.returns-then-one-eq-DIRECTORY_KIND
returns-then-one-eq-DIRECTORY_KIND g c = λ t st more. first_is_dir c.requires.rest c.in-Ok.ensures c.in-Ok-find_node_by.ensures t st more c.if-one-eq-DIRECTORY_KIND.true

pub returns-then-two-eq-DIRECTORY_KIND : goal.returns-then-two-eq-DIRECTORY_KIND
returns-then-two-eq-DIRECTORY_KIND g c = λ t st more.
    second_is_dir c.requires.rest c.in-Ok.ensures c.in-Ok-find_node_by.ensures t st more c.if-one-eq-DIRECTORY_KIND.false c.if-two-eq-DIRECTORY_KIND.true

pub returns : goal.returns
returns g c =
    let w = g.D.Pm.words c.args.dev.now in (
      subst (IsFileAt w c.args.path.now c.in-Ok.node.0) (sym c.in-Ok.ensures.is) (file_at c.requires.rest c.in-Ok.ensures c.if-one-eq-DIRECTORY_KIND.false),
      subst (IsFileAt w c.args.other.now c.in-Ok-find_node_by.node.0) (sym c.in-Ok-find_node_by.ensures.is) (file_at c.requires.rest c.in-Ok-find_node_by.ensures c.if-two-eq-DIRECTORY_KIND.false),
    )
