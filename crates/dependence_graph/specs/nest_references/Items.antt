-- The references in one that is read, which stands before those of its subscripts.
use Rattle.std.specs.Prelude.{ℕ, List, ◌++◌}
use Rattle.tree.specs.Plain.{Reference}
use Rattle.dependence_graph.specs.nest_graph.References.{own_reference, references_in_subscripts}

abbrev pub references_in_item : List (List ℕ) → Reference → List Reference
references_in_item loops r = own_reference loops r.name r.subscripts ++ references_in_subscripts loops r.subscripts
