-- A nest with other parts.
use Rattle.std.specs.Prelude.{List}
use Rattle.tree.specs.Plain.{Block}
use Rattle.nest.specs.Plain.{Part, Made, Nest}

-- another body, other made arrays, and another block after it
unfoldable pub with_parts : Nest → Part → List Made → Block → Nest
with_parts n p as' b = record n { body = p; made = as'; after = b }
