-- Shapes in which no edge that remains leads back.
use Rattle.std.specs.Prelude.{⊤}
use Rattle.std.proofs.Common.{ℕ, suc, List}
use Rattle.nest_order.specs.orders.Lists.{In}
use Rattle.nest_order.specs.orders.Nests.{Edge, Remains}
use Rattle.nest_order.specs.orders.Shapes.{Loop, Shape, Shapes, Single, no_shapes, shape, statements, statements_in}

module _ (edges : List Edge) where
  -- none leads from the shapes behind to the one in front
  abbrev pub NoneBack : ℕ → Shape → Shapes → Type 0
  NoneBack d t ts = (e : Edge) → In e edges → In e.from (statements_in ts) → In e.to (statements t) → ¬ (Remains d e.level)

  abbrev mutual
    pub Forward : ℕ → Shape → Type 0
    Forward d (Single s) = ⊤
    Forward d (Loop l ts) = ForwardIn (suc d) ts

    pub ForwardIn : ℕ → Shapes → Type 0
    ForwardIn d no_shapes = ⊤
    ForwardIn d (shape t ts) = NoneBack d t ts × Forward d t × ForwardIn d ts
