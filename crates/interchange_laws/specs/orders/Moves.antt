-- Loops in another order, as exchanges of neighbours.
use Rattle.std.specs.Prelude.{ℕ, zero, suc, ◌+◌, List, [], ◌∷◌}
use Rattle.nest_order.specs.orders.Shapes.{Shape, Single, Loop, Shapes, no_shapes, shape, Instance}

-- with the elements at the places p and p + 1 exchanged
abbrev pub swapped : {X : Type 0} → ℕ → List X → List X
swapped zero [] = []
swapped zero (x ∷ []) = x ∷ []
swapped zero (x ∷ y ∷ zs) = y ∷ x ∷ zs
swapped (suc p) [] = []
swapped (suc p) (x ∷ xs) = x ∷ swapped p xs

-- one exchange after another
abbrev pub rearranged : {X : Type 0} → List ℕ → List X → List X
rearranged [] xs = xs
rearranged (p ∷ ps) xs = rearranged ps (swapped p xs)

-- and back
abbrev pub restored : {X : Type 0} → List ℕ → List X → List X
restored [] xs = xs
restored (p ∷ ps) xs = swapped p (restored ps xs)

-- the element at the place p + k moves to the place p, over the k before it
abbrev pub move : ℕ → ℕ → List ℕ
move p zero = []
move p (suc k) = (p + k) ∷ move p k

-- ---- statements in one chain of loops

abbrev pub singles : List ℕ → Shapes
singles [] = no_shapes
singles (s ∷ ss) = shape (Single s) (singles ss)

abbrev pub inner : List ℕ → List ℕ → Shapes
inner [] ss = singles ss
inner (l ∷ ls) ss = shape (Loop l (inner ls ss)) no_shapes

-- the statements ss in the loops ls, from the outside in; there is at least one loop
abbrev pub chain_of : List ℕ → List ℕ → Shape
chain_of [] ss = Single 0
chain_of (l ∷ ls) ss = Loop l (inner ls ss)

-- an instance by the iterations of the loops as they stood before
abbrev pub restored_instance : List ℕ → Instance → Instance
restored_instance ps x = record { statement = x.statement; iterations = restored ps x.iterations }
