-- The inductions of a nest, in byte order of their names.
use Rattle.std.specs.Prelude.{ℕ, ◌+◌, Option, Some, None, neg_ℤ, ℤ, List, [], length, slice_get}
use Rattle.std.specs.List.{filter_map}
use Rattle.std.specs.Option.{option_map}
use Rattle.tree.specs.Plain.{Declaration}
use Rattle.tree.specs.declared.ops.Kind.{Kind}
use Rattle.tree.specs.declared.ops.Kind.TheVariants.{Integer, Logical}
use Rattle.nest.specs.Bodies.{Standing, nest_statements}
use Rattle.nest.specs.Plain.{Nest, Part, Run, Turns, Choice, Label, Jump}
use Rattle.nest.specs.declared.parts.Trip.{Trip}
use Rattle.subscripts.specs.declared.affine.Affine.{Affine}
use Rattle.last_values.specs.normal_forms.NormalLoops.{plus_multiple, symbol_form, trip_form}
use Rattle.last_values.specs.normal_forms.Steps.{◌>>=◌}
use Rattle.statement_passes.specs.MadeNames.{kind_if_scalar}
use Rattle.statement_passes.specs.Symbols.{place_among, shifted_trip}
use Rattle.inductions.specs.Growing.{only_write, step_at}
use Rattle.inductions.specs.declared.found.Induction.{Induction}

-- ---- the last value

-- x + c * trip, exactly and within the limits, where x has come in among the symbols; a divided trip has the place
-- behind all symbols
abbrev pub end_form : List (List ℕ) → Trip → List ℕ → ℤ → Option Affine
end_form symbols t x c =
    plus_multiple (length symbols + 2) (symbol_form (place_among symbols x)) c
    (trip_form (length symbols + 1) (shifted_trip (place_among symbols x) t))

-- ---- inductions

-- by the symbols of the nest, the trip of its outermost loop, and its statements
module _ (symbols : List (List ℕ)) (t : Trip) (ss : List Standing) where
  -- The scalar x is one where its only write lets it grow by a constant, in the outermost loop's own body, and its
  -- forms are within the limits
  abbrev pub induction_named : List ℕ → Option Induction
  induction_named x = do
    k ← only_write ss x
    s ← slice_get ss k
    c ← step_at x s
    a ← end_form symbols t x c
    Some (record { name = x; step = c; less = neg_ℤ c; place = k; end = a })

  abbrev pub if_integer : List ℕ → Option Kind → Option Induction
  if_integer x None = None
  if_integer x (Some Integer) = induction_named x
  if_integer x (Some Logical) = None

  abbrev pub induction_declared : Declaration → Option Induction
  induction_declared d = if_integer d.name (kind_if_scalar d)

-- the counter and the trip of the outermost loop
abbrev pub outermost_trip : Part → Option (List ℕ × Trip)
outermost_trip (Turns l ps) = option_map (λ t. (l.variable, t)) l.trip
outermost_trip (Run g) = None
outermost_trip (Choice bs ps) = None
outermost_trip (Label n) = None
outermost_trip (Jump n) = None

abbrev pub inductions_by : Nest → Option (List ℕ × Trip) → List Induction
inductions_by n None = []
inductions_by n (Some o) = filter_map (induction_declared n.symbols o.1 (nest_statements n)) n.declarations

-- declarations stand in byte order of their names
abbrev pub inductions_of : Nest → List Induction
inductions_of n = inductions_by n (outermost_trip n.body)
