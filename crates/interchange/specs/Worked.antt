-- Orders of three loops, worked. Trips are numbers, or symbols by their places.
use Rattle.std.specs.Prelude.{◌≡◌, ℕ, pos, List, [], ◌∷◌, ◌++◌, length, map, replicate}
use Rattle.subscripts.specs.declared.affine.Dir.{Dir}
use Rattle.subscripts.specs.declared.affine.Dir.TheVariants.{Lt, Eq, Gt, Any}
use Rattle.linear_forms.specs.Linear.{constant_form}
use Rattle.nest.specs.declared.parts.Trip.{Trip}
use Rattle.dependence_graph.specs.nest_graph.Arcs.{in_places}
use Rattle.dependence_graph.specs.nest_graph.Paired.{affine_of}
use Rattle.dependence_graph.specs.nest_graph.Spans.{span_after}
use Rattle.interchange.specs.Orders.{order_of}

abbrev number : ℕ → Trip
number k = record { top = affine_of 0 (constant_form (pos k)); by = pos 1 }

abbrev symbol : ℕ → Trip
symbol k = record {
  top = affine_of 0 (record { coefficients = replicate k (pos 0) ++ pos 1 ∷ []; constant = pos 0 });
  by = pos 1;
}

abbrev order_for : List Trip → List (List Dir) → List ℕ
order_for trips vectors = order_of trips (map (span_after []) trips) (map in_places vectors) (length trips)

abbrev numbers : List Trip
numbers = number 9 ∷ number 9 ∷ number 9 ∷ []

-- N, M and 8
abbrev mixed : List Trip
mixed = symbol 0 ∷ symbol 1 ∷ number 8 ∷ []

-- C(I,J) = C(I,J) + A(I,K) * B(K,J): K moves outside
abbrev pub ProductIsOrdered : Type 0
ProductIsOrdered = order_for numbers ((Eq ∷ Eq ∷ Lt ∷ []) ∷ []) ≡ 2 ∷ 0 ∷ 1 ∷ []

-- J moves outside, and K behind it
abbrev pub TwoMove : Type 0
TwoMove = order_for numbers ((Eq ∷ Lt ∷ Gt ∷ []) ∷ (Eq ∷ Eq ∷ Lt ∷ []) ∷ []) ≡ 1 ∷ 2 ∷ 0 ∷ []

-- J may not move out over I, and with K there (=, <, >) would become (>, =, <)
abbrev pub BackwardStays : Type 0
BackwardStays = order_for mixed ((Eq ∷ Lt ∷ Gt ∷ []) ∷ (Eq ∷ Eq ∷ Lt ∷ []) ∷ []) ≡ 0 ∷ 1 ∷ 2 ∷ []

-- nor (=, <, *), which may be that
abbrev pub AnyStays : Type 0
AnyStays = order_for mixed ((Eq ∷ Lt ∷ Any ∷ []) ∷ (Eq ∷ Eq ∷ Lt ∷ []) ∷ []) ≡ 0 ∷ 1 ∷ 2 ∷ []

-- J may not move, and K is the first one that does
abbrev pub FitOneMoves : Type 0
FitOneMoves = order_for mixed ((Eq ∷ Lt ∷ Eq ∷ []) ∷ (Eq ∷ Eq ∷ Lt ∷ []) ∷ []) ≡ 2 ∷ 0 ∷ 1 ∷ []

-- the loops go to N, N and N, or to N, N and M
abbrev pub SameTripMoves : Type 0
SameTripMoves = order_for (symbol 0 ∷ symbol 0 ∷ symbol 0 ∷ []) ((Eq ∷ Eq ∷ Lt ∷ []) ∷ []) ≡ 2 ∷ 0 ∷ 1 ∷ []

abbrev pub OtherTripStays : Type 0
OtherTripStays = order_for (symbol 0 ∷ symbol 0 ∷ symbol 1 ∷ []) ((Eq ∷ Eq ∷ Lt ∷ []) ∷ []) ≡ 0 ∷ 1 ∷ 2 ∷ []
