-- Scalars that are private to a loop's own body: each turn of the loop gives such a scalar a value before it reads it,
-- so that each may have a place of its own for it (Allen and Kennedy, "Optimizing Compilers for Modern Architectures",
-- section 5.3, scalar expansion).
use Rattle.std.specs.Prelude.{Option, Some, None, ℕ, nat_le, ◌==◌, pos, Bool, true, false, not, ◌&&◌, ◌||◌}
use Rattle.std.specs.Prelude.{if◌then◌else◌, List, [], ◌∷◌, ◌++◌, map, length, codes, decimal}
use Rattle.std.specs.List.{list_all}
use Rattle.std.specs.Str.{bytes_eq}
use Rattle.tree.specs.Plain.{Declaration, Expression, Extent, Given, Later}
use Rattle.tree.specs.declared.ops.Kind.{Kind}
use Rattle.nest.specs.Bodies.{Standing, nest_statements}
use Rattle.nest.specs.Plain.{Guarded, Loop, Made, Nest}
use Rattle.nest.specs.declared.parts.Trip.{Trip}
use Rattle.indexmap.specs.IndexSet.{insert_key}
use Rattle.last_values.specs.Occurrences.{stands_in, stands_in_statement}
use Rattle.last_values.specs.normal_forms.Combinations.{number_form}
use Rattle.last_values.specs.normal_forms.Steps.{◌>>=◌}
use Rattle.scalar_expand.specs.Extents.{extents_of_trips}
use Rattle.scalar_expand.specs.declared.privates.Private.{Private}
use Rattle.scalar_expand.specs.declared.privates.RoundLoop.{RoundLoop}

-- ---- names

-- FORTRAN 77 has the name: at most six bytes, and no underscore
abbrev pub is_source : List ℕ → Bool
is_source x = nat_le (length x) 6 && list_all (λ c. not (c == 95)) x

abbrev pub number_behind : ℕ → List ℕ
number_behind n = if n == 1 then [] else codes "_" ++ decimal n

-- the array for a scalar of the n-th nest of a program; a name that a pass has made stays
abbrev pub expanded_name : ℕ → List ℕ → List ℕ
expanded_name n x = if is_source x then (codes "FV_EXP_" ++ x) ++ number_behind n else x

-- ---- kinds

abbrev pub kind_of_scalar : Extent → Kind → Option Kind
kind_of_scalar (Given []) k = Some k
kind_of_scalar (Given (b ∷ bs)) k = None
kind_of_scalar (Later n) k = None

abbrev pub kind_if_bare : List Expression → Kind → Option Kind
kind_if_bare [] k = Some k
kind_if_bare (e ∷ es) k = None

abbrev pub made_kind : List Made → List ℕ → Option Kind
made_kind [] x = None
made_kind (a ∷ as') x = if bytes_eq a.name x then kind_if_bare a.extents a.kind else made_kind as' x

-- the kind of a declared name, where it is that of a scalar; of one that isn't declared the other one
abbrev pub declared_kind : List Declaration → Option Kind → List ℕ → Option Kind
declared_kind [] other x = other
declared_kind (d ∷ ds) other x = if bytes_eq d.name x then kind_of_scalar d.extent d.kind else declared_kind ds other x

-- the kind of a scalar that is declared or made; None where there is no such scalar
abbrev pub scalar_kind : Nest → List ℕ → Option Kind
scalar_kind m x = declared_kind m.declarations (made_kind m.made x) x

-- ---- loops

-- a loop without a trip has nothing that counts its turns
abbrev pub trip_or_none : Option Trip → Trip
trip_or_none (Some t) = t
trip_or_none None = record { top = number_form (pos 0); by = pos 0 }

abbrev pub round_loop : Loop → RoundLoop
round_loop l = record { number = l.number; variable = l.variable; trip = trip_or_none l.trip }

abbrev pub trips_of : List RoundLoop → List Trip
trips_of ls = map (λ (l : RoundLoop). l.trip) ls

-- loops have numbers of their own
abbrev pub are_same_loops : List Loop → List Loop → Bool
are_same_loops [] [] = true
are_same_loops [] (k ∷ ks) = false
are_same_loops (l ∷ ls) [] = false
are_same_loops (l ∷ ls) (k ∷ ks) = l.number == k.number && are_same_loops ls ks

-- ---- private scalars

abbrev pub has_no_guard : Option Expression → Bool
has_no_guard None = true
has_no_guard (Some e) = false

-- it gives x a value, always, and doesn't read it
abbrev pub begins_anew : List ℕ → Guarded → Bool
begins_anew x g = bytes_eq g.left.name x && (has_no_guard g.guard && not (stands_in x g.right))

-- x stands in these loops' own body, or not at all
abbrev pub stands_only_in : List ℕ → List Loop → Standing → Bool
stands_only_in x ls s = not (stands_in_statement x s.statement) || are_same_loops s.loops ls

-- the scalar x of this kind with an array over these loops
abbrev pub private_over : Nest → List ℕ → List RoundLoop → Option Private
private_over m x ls = do
  kind ← scalar_kind m x
  extents ← extents_of_trips (length m.symbols) (trips_of ls)
  Some (record { name = x; array = expanded_name m.number x; kind = kind; loops = ls; extents = extents })

abbrev pub begun_by : Nest → List ℕ → Standing → List Standing → Option Private
begun_by m x s ss =
    if begins_anew x s.statement && list_all (stands_only_in x s.loops) ss
    then private_over m x (map round_loop s.loops) else None

-- The first of the statements in which x stands begins anew with it, and all further ones in which it stands are in the
-- same loop's own body
abbrev pub private_among : Nest → List ℕ → List Standing → Option Private
private_among m x [] = None
private_among m x (s ∷ ss) = if stands_in_statement x s.statement then begun_by m x s ss else private_among m x ss

-- x as a private scalar of the nest, where it is one
abbrev pub private_scalar : Nest → List ℕ → Option Private
private_scalar m x = private_among m x (nest_statements m)

abbrev pub private_or_none : Option Private → List Private
private_or_none None = []
private_or_none (Some p) = p ∷ []

-- those of these names that are private
abbrev pub privates_named : Nest → List (List ℕ) → List Private
privates_named m [] = []
privates_named m (x ∷ xs) = private_or_none (private_scalar m x) ++ privates_named m xs

-- ---- in the order of the text

-- names, and each that is written besides, where it is written first
abbrev pub names_written : List (List ℕ) → List Standing → List (List ℕ)
names_written xs [] = xs
names_written xs (s ∷ ss) = names_written (insert_key bytes_eq xs s.statement.left.name) ss

-- all private scalars, in the order in which they are written first
abbrev pub private_scalars : Nest → List Private
private_scalars m = privates_named m (names_written [] (nest_statements m))
