-- Dependences between instances by the vectors of arcs.
use Rattle.std.specs.Prelude.{◌≡◌, ⊤, ℕ, ◌<◌, List, [], ◌∷◌}
use Rattle.nest_order.specs.orders.Lists.{In}
use Rattle.nest_order.specs.orders.Graphs.{Arc, Sign, Just, Any, Less, Same, Greater}
use Rattle.nest_order.specs.orders.Shapes.{Instance}

abbrev pub IsSigned : Sign → ℕ → ℕ → Type 0
IsSigned (Just Less) i j = i < j
IsSigned (Just Same) i j = i ≡ j
IsSigned (Just Greater) i j = j < i
IsSigned Any i j = ⊤

-- the iterations are related as the signs say
abbrev pub AreSigned : List Sign → List ℕ → List ℕ → Type 0
AreSigned [] is js = ⊤
AreSigned (d ∷ ds) [] js = ⊥
AreSigned (d ∷ ds) (i ∷ is) [] = ⊥
AreSigned (d ∷ ds) (i ∷ is) (j ∷ js) = IsSigned d i j × AreSigned ds is js

-- y depends on x by the arc
abbrev pub DependsByArc : Arc → Instance → Instance → Type 0
DependsByArc a x y =
    (a.from.statement ≡ x.statement) × (a.to.statement ≡ y.statement) × AreSigned a.signs x.iterations y.iterations

abbrev pub DependsByArcs : List Arc → Instance → Instance → Type 0
DependsByArcs arcs x y = (a : Arc) × In a arcs × DependsByArc a x y

-- all directions are `=`
abbrev pub AllSame : List Sign → Type 0
AllSame [] = ⊤
AllSame (d ∷ ds) = (d ≡ Just Same) × AllSame ds
