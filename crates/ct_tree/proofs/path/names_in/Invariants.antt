use Rattle.std.proofs.Common.{◌≡◌, ◌++◌, length, true}
use Rattle.std.specs.List.{list_all}
use Rattle.ct_base.specs.Path.{is_name, parts, texts}
use Rattle.ct_tree.proofs.path.names_in.Given as goal

-- the names so far and the parts of what is left are the parts of the text
abbrev pub invariant-parts : goal.invariant-parts
invariant-parts l = record {
  told : texts l.names.items ++ parts l.rest ≡ parts l.text;
  named : list_all is_name (texts l.names.items) ≡ true;
}

abbrev pub decreases-parts : goal.decreases-parts
decreases-parts l = length l.rest
