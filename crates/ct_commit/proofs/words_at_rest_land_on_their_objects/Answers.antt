use Rattle.ct_commit.proofs.Landed.{rest_as}
use Rattle.ct_commit.proofs.words_at_rest_land_on_their_objects.Goals as goal

pub returns : goal.returns
returns c = λ words rest. rest_as rest
