-- In which order the loops of a chain are put, by the direction vectors of the dependences (Allen and Kennedy,
-- "Optimizing Compilers for Modern Architectures", section 5.2): a loop that carries a dependence moves outwards to
-- where none is carried, so that the loops behind it carry less.
use Rattle.std.specs.Prelude.{ℕ, ◌+◌, ◌-◌, ◌==◌, nat_le, ℤ, pos, negsuc, Bool, true, false, not, ◌&&◌, ◌||◌}
use Rattle.std.specs.Prelude.{if◌then◌else◌, Option, Some, None, List, [], ◌∷◌, length, map, slice_get, slice_index}
use Rattle.std.specs.Prelude.{slice_index_or, slice_range}
use Rattle.std.specs.List.{find, fold, insert, list_all, list_any, range_with_len, remove}
use Rattle.std.specs.Ordering.{int_eq}
use Rattle.subscripts.specs.declared.affine.Dir.{Dir}
use Rattle.subscripts.specs.declared.affine.Dir.TheVariants.{Lt, Eq, Gt, Any}
use Rattle.subscripts.specs.declared.affine.Dirs.{Dirs}
use Rattle.subscripts.specs.declared.affine.Span.{Span}
use Rattle.nest.specs.declared.parts.Trip.{Trip}
use Rattle.dependence_graph.specs.nest_graph.Trips.{is_below_one}

-- An order has the loops from the outside in, each by its place in the nest as it is given: at first 0, 1, 2 and so on.
-- Places in it are counted from 0, too

-- ---- vectors

-- a vector's direction in the loop of a place
abbrev pub direction : Dirs → ℕ → Dir
direction d k = slice_index_or d.at k Any

-- its directions in an order of the loops
abbrev pub directions : Dirs → List ℕ → List Dir
directions d order = map (direction d) order

abbrev pub is_equal_direction : Dir → Bool
is_equal_direction Lt = false
is_equal_direction Eq = true
is_equal_direction Gt = false
is_equal_direction Any = false

-- the first entry other than `=` stands at the place p
abbrev pub begins_at : ℕ → List Dir → Bool
begins_at p [] = false
begins_at p (d ∷ ds) = if p == 0 then not (is_equal_direction d) else (is_equal_direction d && begins_at (p - 1) ds)

-- it is `<`, or there is none; `*` may stand for `>`
abbrev pub leads_forward : List Dir → Bool
leads_forward [] = true
leads_forward (Lt ∷ ds) = true
leads_forward (Eq ∷ ds) = leads_forward ds
leads_forward (Gt ∷ ds) = false
leads_forward (Any ∷ ds) = false

-- the loop at the place p carries a dependence
abbrev pub carries : List Dirs → List ℕ → ℕ → Bool
carries vectors order p = list_any (λ d. begins_at p (directions d order)) vectors

-- no dependence leads to an earlier iteration
abbrev pub keeps_all : List Dirs → List ℕ → Bool
keeps_all vectors order = list_all (λ d. leads_forward (directions d order)) vectors

-- ---- trips

-- a trip count that a loop may have
abbrev pub is_count : ℤ → Bool
is_count (pos n) = nat_le n 2147483646
is_count (negsuc n) = true

abbrev pub passes : (ℤ → Bool) → Option ℤ → Bool
passes test None = false
passes test (Some z) = test z

-- the trip is a constant that passes the test
abbrev pub has_constant : (ℤ → Bool) → Option Span → Bool
has_constant test None = false
has_constant test (Some s) = passes test s.last && s.fixed

abbrev pub has_turn : ℤ → Bool
has_turn z = not (is_below_one z)

abbrev pub same_terms : List (ℕ × ℤ) → List (ℕ × ℤ) → Bool
same_terms [] [] = true
same_terms [] (b ∷ bs) = false
same_terms (a ∷ as') [] = false
same_terms (a ∷ as') (b ∷ bs) = (a.0 == b.0) && (int_eq a.1 b.1 && same_terms as' bs)

-- the same symbols and constant, divided by the same; no loop's variable stands in them
abbrev pub same_trip : Option Trip → Option Trip → Bool
same_trip None u = false
same_trip (Some t) None = false
same_trip (Some t) (Some u) =
    same_terms t.top.syms u.top.syms && (int_eq t.top.constant u.top.constant && int_eq t.by u.by)

-- ---- moves

-- the loop at the place q moved outwards to the place p
abbrev pub moved : ℕ → ℕ → List ℕ → List ℕ
moved p q order = insert (remove order q) p (slice_index order q)

abbrev pub moved_if_found : List ℕ → ℕ → Option ℕ → List ℕ
moved_if_found order p None = order
moved_if_found order p (Some q) = moved p q order

module _ (trips : List Trip) (spans : List Span) where
  -- No trip is come to that the nest as given wouldn't count: that of the loop is a constant, or that of the loop whose
  -- place it takes, or each loop that it passes has a turn
  abbrev pub may_move : List ℕ → ℕ → ℕ → Bool
  may_move order p q =
      has_constant is_count (slice_get spans (slice_index order q))
      || (same_trip (slice_get trips (slice_index order p)) (slice_get trips (slice_index order q))
      || list_all (λ k. has_constant has_turn (slice_get spans k)) (slice_range order p q))

  module _ (vectors : List Dirs) where
    -- the loop at the place q carries a dependence, and all dependences are kept where it stands at the place p
    abbrev pub is_fit : List ℕ → ℕ → ℕ → Bool
    is_fit order p q = carries vectors order q && (may_move order p q && keeps_all vectors (moved p q order))

    -- where the loop at the place p carries nothing, the first fit one behind it moves there
    abbrev pub settled_at_place : List ℕ → ℕ → List ℕ
    settled_at_place order p =
        if carries vectors order p then order
        else moved_if_found order p (find (is_fit order p) (range_with_len (p + 1) (length order - (p + 1))))

    -- from the outermost place inwards
    abbrev pub order_of : ℕ → List ℕ
    order_of n = fold settled_at_place (range_with_len 0 n) (range_with_len 0 n)
