-- What each converted nest has.
use Rattle.std.specs.Prelude.{◌≡◌, ℕ, Some, All}
use Rattle.nest.specs.Bodies.{nest_loops}
use Rattle.nest.specs.Plain.{Nest}
use Rattle.nest_order.specs.shapes.Shapes.{IsNormal, IsPlain}
use Rattle.if_convert.specs.Converted.{converted_nest}

-- loops from 1 by 1 and statements alone, where the loops of the nest go from 1 by 1
abbrev pub ConvertedIsPlain : Type 0
ConvertedIsPlain = (masks : ℕ) (n m : Nest) → converted_nest masks n ≡ Some m → All IsNormal (nest_loops n)
    → IsPlain m.body
