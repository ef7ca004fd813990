-- Vectors of directions: that they are candidates, and the iterations that they relate.
use Rattle.std.proofs.Common.{◌≡◌, ℕ, ◌<◌, pos, List, [], ◌∷◌, map, ap, arith}
use Rattle.std.proofs.lemmas.Int.{ints}
use Rattle.nest_order.specs.orders.Graphs.{Direction, Less, Same, Greater, MayBegin, Related}
use Rattle.subscripts.specs.Forms.{AreRelated}
use Rattle.subscripts.specs.declared.affine.Dir.TheVariants.{Any}
use Rattle.dependence_graph.specs.nest_graph.Vectors.{IsPlain, MayComeFirst}
use Rattle.emission.proofs.GraphOrders.Signs.{dir_of}

plain_one : (v : Direction) → dir_of v ≡ Any → ⊥
plain_one Less e = cc
plain_one Same e = cc
plain_one Greater e = cc

pub are_plain : (vs : List Direction) → IsPlain (map dir_of vs)
are_plain [] = tt
are_plain (v ∷ vs) = (plain_one v, are_plain vs)

pub comes_first : (vs : List Direction) (s r : ℕ) → MayBegin vs s r → MayComeFirst s r (map dir_of vs)
comes_first [] s r h = h
comes_first (Less ∷ vs) s r h = tt
comes_first (Same ∷ vs) s r h = comes_first vs s r h
comes_first (Greater ∷ vs) s r h = absurd h

-- ---- iterations that they relate

pub are_related : (vs : List Direction) (is js : List ℕ) → Related vs is js → AreRelated (map dir_of vs) (map pos is) (map pos js)
are_related [] is js h = tt
are_related (Less ∷ vs) [] js h = absurd h
are_related (Less ∷ vs) (i ∷ is) [] h = absurd h
are_related (Less ∷ vs) (i ∷ is) (j ∷ js) h = (let less : i < j = h.0 in omega (arith, ints), are_related vs is js h.1)
are_related (Same ∷ vs) [] js h = absurd h
are_related (Same ∷ vs) (i ∷ is) [] h = absurd h
are_related (Same ∷ vs) (i ∷ is) (j ∷ js) h = (ap pos h.0, are_related vs is js h.1)
are_related (Greater ∷ vs) [] js h = absurd h
are_related (Greater ∷ vs) (i ∷ is) [] h = absurd h
are_related (Greater ∷ vs) (i ∷ is) (j ∷ js) h = (let less : j < i = h.0 in omega (arith, ints), are_related vs is js h.1)
