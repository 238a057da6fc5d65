use Rattle.std.proofs.Common.{◌≡◌}
use Rattle.std.specs.List.{list_all}
use Rattle.ct_base.specs.Path.{is_name, parts}
use Rattle.ct_path.proofs.text.are_names.Given as goal

-- the parts so far are names
abbrev pub invariant-loop-name : goal.invariant-loop-name
invariant-loop-name l = list_all is_name l.name-iterator ≡ list_all is_name (parts l.text)
