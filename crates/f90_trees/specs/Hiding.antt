-- Which names are functions.
use Rattle.std.specs.Prelude.{ℕ, Option, None, List, if◌then◌else◌}
use Rattle.std.specs.Str.{bytes_eq}
use Rattle.tree.specs.declared.functions.Intrinsic.{Intrinsic}
use Rattle.f90_grammar.specs.Refusals.{functions_but}
use Rattle.f90_trees.specs.declared.functions.Functions.{Functions}

abbrev pub function_in : Functions → List ℕ → Option Intrinsic
function_in functions x = functions_but functions.hidden x

-- the same, but for a name that is none
abbrev pub without : List ℕ → (List ℕ → Option Intrinsic) → List ℕ → Option Intrinsic
without name function x = if bytes_eq x name then None else function x
