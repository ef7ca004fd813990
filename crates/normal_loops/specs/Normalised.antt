-- A nest in which each loop goes from 1 by 1 (Allen and Kennedy, "Optimizing Compilers for Modern Architectures",
-- section 4.2, loop normalization).
use Rattle.std.specs.Prelude.{Option, Some, None, if◌then◌else◌, List, [], ◌∷◌}
use Rattle.std.specs.Option.{option_map}
use Rattle.tree.specs.Plain.{Block}
use Rattle.nest.specs.Allocations.{block_then}
use Rattle.nest.specs.Plain.{Part, Nest}
use Rattle.last_values.specs.ValuesBehind.{values_behind}
use Rattle.last_values.specs.declared.behind.NestedLoop.{NestedLoop}
use Rattle.normal_loops.specs.Bodies.{normal_part}
use Rattle.normal_loops.specs.Loops.{nested_loops}
use Rattle.normal_loops.specs.Normal.{is_normal}

-- another body, and more behind what comes after the nest
unfoldable pub with_body : Nest → Block → Part → Nest
with_body n more p = record n { body = p; after = block_then n.after more }

-- the part where there is just one
abbrev pub only_one : List Part → Option Part
only_one [] = None
only_one (p ∷ []) = Some p
only_one (p ∷ q ∷ ps) = None

-- By its loops. The body is one part: the last value of the outermost variable never stands in place
unfoldable pub with_loops : Nest → List NestedLoop → Option Nest
with_loops n ls =
    option_map (with_body n (values_behind n.symbols n.line ls n.body)) (only_one (normal_part n ls [] n.body))

-- The nest with each loop from 1 by 1, where the forms of each of them are within the limits. The variable of a loop
-- has become a linear form of the counters; it gets its last value after the nest, or in place where this isn't known
-- there or is wanted before
unfoldable pub normalised : Nest → Option Nest
normalised n = if is_normal n.symbols [] n.body then with_loops n (nested_loops n.symbols [] n.body) else None
