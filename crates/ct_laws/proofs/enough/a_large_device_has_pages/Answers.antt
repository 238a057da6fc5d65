use Rattle.ct_laws.proofs.Taken.{format_suffices, free_suffice}
use Rattle.ct_laws.proofs.enough.a_large_device_has_pages.Goals as goal

pub returns : goal.returns
returns c = record {
  free = λ c free t left items replies from to. free_suffice c free t left items replies from to;
  formatted = λ c pages left items replies from to. format_suffices c pages left items replies from to;
}
