-- What a prepared nest keeps where private scalars become arrays.
use Rattle.std.specs.Prelude.{◌≡◌, ℕ, List, []}
use Rattle.tree.specs.Plain.{Declaration}
use Rattle.nest.specs.Bodies.{nest_loops}
use Rattle.nest.specs.Plain.{Nest}
use Rattle.nest_order.specs.shapes.Shapes.{IsPlain}
use Rattle.pass_laws.specs.prepared_nests.Loops.{EachLoop, IsPreparedLoop}
use Rattle.pass_laws.specs.prepared_nests.Nests.{IsPrepared}
use Rattle.scalar_expand.specs.Expanded.{expanded}

-- the same loops in the same places, with statements alone in them
pub record HasLoopsOf (es : List Declaration) (m k : Nest) : Type 0 where
  pub line : k.line ≡ m.line
  pub number : k.number ≡ m.number
  pub symbols : k.symbols ≡ m.symbols
  pub plain : IsPlain k.body
  pub loops : EachLoop (IsPreparedLoop es m.symbols) [] k.body
  pub same : nest_loops k ≡ nest_loops m

-- the loops of a prepared nest stay as they are
abbrev pub ExpandedNestKeepsLoops : Type 0
ExpandedNestKeepsLoops = (es : List Declaration) (around : List (List ℕ)) (deepest : ℕ) (m : Nest)
    → IsPrepared es around deepest m → HasLoopsOf es m (expanded m)
