use Rattle.ct_state.proofs.FormatLands.{format_lands}
use Rattle.ct_state.proofs.laws.a_formatted_image_is_an_empty_tree.Goals as goal

pub returns : goal.returns
returns c = λ img pages n f many fits device two most. format_lands f many fits device two most
