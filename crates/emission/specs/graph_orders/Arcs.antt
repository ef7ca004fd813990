-- Listed edges as orders have them.
use Rattle.std.specs.Prelude.{List, map, take}
use Rattle.dependence_graph.specs.declared.graphs.Edge.{Edge}
use Rattle.dependence_graph.specs.declared.graphs.Place.{Place}
use Rattle.nest_order.specs.orders.Graphs as orders
use Rattle.subscripts.specs.declared.affine.Dir.{Dir}
use Rattle.subscripts.specs.declared.affine.Dir.TheVariants.{Lt, Eq, Gt, Any}

abbrev pub place_of : Place → orders.Place
place_of p = record { statement = p.stmt; reference = p.at }

abbrev pub sign_of : Dir → orders.Sign
sign_of Lt = orders.Just orders.Less
sign_of Eq = orders.Just orders.Same
sign_of Gt = orders.Just orders.Greater
sign_of Any = orders.Any

-- with a sign for each of the loops round both statements
abbrev pub arc_of : Edge → orders.Arc
arc_of e = record { from = place_of e.from; to = place_of e.to; signs = map sign_of (take e.dirs.len e.dirs.at) }

abbrev pub arcs_of : List Edge → List orders.Arc
arcs_of es = map arc_of es
