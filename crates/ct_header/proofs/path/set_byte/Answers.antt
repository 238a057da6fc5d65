use Rattle.std.proofs.Common.{◌∙◌}
use Rattle.ct_header.proofs.Chained.{places_apart}
use Rattle.ct_header.proofs.path.set_byte.Goals as goal

pub returns-clause-maps : goal.returns-clause-maps
returns-clause-maps g c = c.in_ok-store_at.ensures.maps 1 c.requires.maps

pub returns-clause-others : goal.returns-clause-others
returns-clause-others g c a aligned off =
    search (c.in_ok-store_at.ensures.others a (places_apart a c.header_address-address.result aligned c.header_address-address.ensures.aligned (λ e. off (e ∙ c.header_address-address.ensures.value))))
