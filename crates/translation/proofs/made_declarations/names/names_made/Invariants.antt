-- The names so far are those of the items so far.
use Rattle.std.proofs.Common.{◌≡◌, map, take}
use Rattle.nest.specs.View.{made_of}
use Rattle.translation.specs.made_declarations.Declaring.{declaration_of_made, declaration_of_name}
use Rattle.translation.proofs.made_declarations.names.names_made.Given as goal

abbrev pub invariant-loop-array : goal.invariant-loop-array
invariant-loop-array l =
    map declaration_of_name l.names ≡ map declaration_of_made (map made_of (take l.array-index l.made))
