-- Loop interchange (Allen and Kennedy, "Optimizing Compilers for Modern Architectures", section 5.2): the nest with its
-- loops in the order that its dependences ask for.
use Rattle.std.specs.Prelude.{ℕ, ◌==◌, pos, Bool, not, ◌&&◌, if◌then◌else◌, Option, Some, None, List, [], ◌∷◌}
use Rattle.std.specs.Prelude.{filter, length, map, slice_get, slice_index, unwrap_or}
use Rattle.std.specs.List.{filter_map, list_all, list_any, range_with_len}
use Rattle.std.specs.Ordering.{int_eq}
use Rattle.subscripts.specs.declared.affine.Dirs.{Dirs}
use Rattle.linear_forms.specs.Canonical.{canonising}
use Rattle.nest.specs.declared.parts.Trip.{Trip}
use Rattle.nest.specs.Plain.{Loop, Nest, Part}
use Rattle.nest_rewrite.specs.Rewritten.{rewritten}
use Rattle.dependence_graph.specs.declared.graphs.Dep.{Dep}
use Rattle.dependence_graph.specs.declared.graphs.Dep.TheVariants.{Flow, Anti, Output}
use Rattle.dependence_graph.specs.declared.graphs.Edge.{Edge}
use Rattle.dependence_graph.specs.nest_graph.Spans.{spans_of}
use Rattle.interchange.specs.Chains.{Chain, chain_of, part_in_loops}
use Rattle.interchange.specs.Orders.{order_of}
use Rattle.interchange.specs.Reads.{read_own_elements}

-- ---- which dependences count

abbrev pub is_antidependence : Dep → Bool
is_antidependence Flow = Bool.false
is_antidependence Anti = Bool.true
is_antidependence Output = Bool.false

-- an antidependence of a statement on itself
abbrev pub is_own_antidependence : Edge → Bool
is_own_antidependence e = is_antidependence e.kind && (e.from.stmt == e.to.stmt)

-- the vectors of all other edges
abbrev pub vectors_of : List Edge → List Dirs
vectors_of es = map (λ (e : Edge). e.dirs) (filter (λ e. not (is_own_antidependence e)) es)

-- ---- trips

-- no loop's variable stands in it
abbrev pub is_loop_free : Trip → Bool
is_loop_free t = list_all (λ a. int_eq a (pos 0)) t.top.loops

abbrev pub if_loop_free : Option Trip → Option Trip
if_loop_free None = None
if_loop_free (Some t) = if is_loop_free t then Some t else None

abbrev pub with_free_trip : Option Trip → Option (List Trip) → Option (List Trip)
with_free_trip None ts = None
with_free_trip (Some t) None = None
with_free_trip (Some t) (Some ts) = Some (t ∷ ts)

-- the trips of loops, where each is such
abbrev pub free_trips_of : List Loop → Option (List Trip)
free_trips_of [] = Some []
free_trips_of (l ∷ ls) = with_free_trip (if_loop_free l.trip) (free_trips_of ls)

-- ---- the nest

abbrev pub in_order : List Loop → List ℕ → List Loop
in_order loops order = filter_map (slice_get loops) order

-- the loops in this order, and in them the statements, which are brought into canonical text again
abbrev pub body_in : Nest → Chain → List ℕ → Part
body_in n c order =
    let loops = in_order c.loops order in
    rewritten (canonising (map (λ (l : Loop). l.variable) loops) n.symbols) (part_in_loops n.body loops c.body)

-- another order than at first
abbrev pub is_changed : List ℕ → Bool
is_changed order = list_any (λ p. not (slice_index order p == p)) (range_with_len 0 (length order))

abbrev pub with_order : Nest → Chain → List ℕ → Option Nest
with_order n c order = if is_changed order then Some (record n { body = body_in n c order }) else None

abbrev pub arranged_chain : Nest → List Dirs → Chain → Option (List Trip) → Option Nest
arranged_chain n vectors c None = None
arranged_chain n vectors c (Some trips) =
    with_order n c (order_of trips (spans_of [] c.loops) vectors (length c.loops))

abbrev pub arranged_by : Nest → List Dirs → Option Chain → Option Nest
arranged_by n vectors None = None
arranged_by n vectors (Some c) =
    if read_own_elements n then arranged_chain n vectors c (free_trips_of c.loops) else None

-- Where a loop moves, the nest in which it has: all statements stand in the innermost loop of one chain, no trip has a
-- loop's variable in it, and no statement reads of the array that it writes another element than it writes
unfoldable pub with_moved_loops : Nest → List Dirs → Option Nest
with_moved_loops n vectors = arranged_by n vectors (chain_of n.body)

abbrev pub arranged : Nest → List Dirs → Nest
arranged n vectors = unwrap_or (with_moved_loops n vectors) n
