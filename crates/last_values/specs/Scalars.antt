-- A scalar variable, as what is assigned.
use Rattle.std.specs.Prelude.{ℕ, List}
use Rattle.tree.specs.Plain.{Reference, no_subscripts}

abbrev pub scalar : List ℕ → Reference
scalar v = record { name = v; subscripts = no_subscripts }
