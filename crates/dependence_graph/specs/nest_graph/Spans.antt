-- The span of a loop: up to which iteration it goes, as far as that is known before its nest is run. A trip that varies
-- with the loops round it alone is greatest at a corner of their iterations.
use Rattle.std.specs.Prelude.{ℤ, pos, negsuc, ◌+ℤ◌, ◌*ℤ◌, int_div}
use Rattle.std.specs.Prelude.{Bool, true, false, not, ◌&&◌, if◌then◌else◌, Option, Some, None, is_none}
use Rattle.std.specs.Prelude.{List, [], ◌∷◌, ◌++◌, unwrap_or}
use Rattle.std.specs.List.{list_any}
use Rattle.subscripts.specs.declared.affine.Span.{Span}
use Rattle.nest.specs.declared.parts.Trip.{Trip}
use Rattle.nest.specs.Plain.{Loop}
pub use Rattle.dependence_graph.specs.nest_graph.Trips.{capped, ends_early, has_no_symbol, is_below_one}
pub use Rattle.dependence_graph.specs.nest_graph.Trips.{has_constant_top}

-- ---- trips and ends

abbrev pub is_open : Span → Bool
is_open s = is_none s.last

abbrev pub has_no_turn : Span → Bool
has_no_turn s = ends_early s.last

-- ---- the greatest trip

-- the last iteration where the coefficient isn't negative, else the first
abbrev pub corner : ℤ → Span → ℤ
corner (pos a) s = unwrap_or s.last (pos 1)
corner (negsuc a) s = pos 1

abbrev pub greatest_sum : List ℤ → List Span → ℤ
greatest_sum [] ss = pos 0
greatest_sum (a ∷ as') [] = pos 0
greatest_sum (a ∷ as') (s ∷ ss) = a *ℤ corner a s +ℤ greatest_sum as' ss

abbrev pub greatest_trip : List Span → Trip → ℤ
greatest_trip outer t = int_div (greatest_sum t.top.loops outer +ℤ t.top.constant) t.by

-- ---- spans

-- an end that isn't that of a constant trip
abbrev pub ends_at : Option ℤ → Span
ends_at last = record { last = last; fixed = false }

-- the greatest trip, where the trip has no symbol and all loops round it have ends, 0 where one of them is empty; any
-- other is unknown
abbrev pub last_after : List Span → Trip → Option ℤ
last_after outer t =
    if has_no_symbol t && not (list_any is_open outer)
    then (if list_any has_no_turn outer then Some (pos 0) else capped (greatest_trip outer t))
    else None

-- by the spans of the loops round it
abbrev pub span_after : List Span → Trip → Span
span_after outer t =
    if has_constant_top t then record { last = Some (int_div t.top.constant t.by); fixed = true }
    else ends_at (last_after outer t)

abbrev pub span_of : List Span → Option Trip → Span
span_of outer None = ends_at None
span_of outer (Some t) = span_after outer t

-- those of the loops from the outside in
abbrev pub spans_of : List Span → List Loop → List Span
spans_of outer [] = []
spans_of outer (l ∷ ls) = span_of outer l.trip ∷ spans_of (outer ++ span_of outer l.trip ∷ []) ls
