-- One made name put among declarations, step by step.
use Rattle.std.proofs.Common.{Bool, cond, List}
use Rattle.tree.specs.Plain.{Declaration}
use Rattle.translation.specs.made_declarations.Declaring.{with_declaration}

-- what remains, with the made name as long as it is missing
abbrev pub remaining : Bool → List Declaration → Declaration → List Declaration
remaining missing ds n = cond missing (with_declaration ds n) ds
