-- None so far has this name.
use Rattle.std.proofs.Common.{◌≡◌, drop, map}
use Rattle.meaning.specs.Typed.{declared}
use Rattle.translation.specs.made_declarations.Declaring.{declaration_of_name}
use Rattle.translation.proofs.made_declarations.names.made_as.Given as goal

abbrev pub invariant-loop-known : goal.invariant-loop-known
invariant-loop-known l =
    declared (map declaration_of_name l.made) l.name
    ≡ declared (map declaration_of_name (drop l.known-index l.made)) l.name
