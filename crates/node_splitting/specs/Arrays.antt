-- The arrays of copies: each has an element for each iteration of the loops round its statement.
use Rattle.std.specs.Prelude.{Option, Some, None, ℕ, suc, ◌+◌, List, [], ◌∷◌, ◌++◌}
use Rattle.std.specs.Prelude.{if◌then◌else◌, map, length, reverse, codes, decimal}
use Rattle.std.specs.Str.{bytes_eq}
use Rattle.tree.specs.Plain.{Declaration, Expression, Named, Only, Reference, Subscript, no_subscripts, subscripts}
use Rattle.tree.specs.declared.ops.Kind.{Kind}
use Rattle.tree.specs.declared.ops.Kind.TheVariants.{Integer}
use Rattle.nest.specs.Plain.{Loop, Made, Nest}
use Rattle.nest.specs.declared.parts.Trip.{Trip}
use Rattle.last_values.specs.normal_forms.Steps.{◌>>=◌}
use Rattle.scalar_expand.specs.Extents.{extents_of_trips}
use Rattle.scalar_expand.specs.Texts.{extent_texts}

-- the array of the copy before which there are so many
abbrev pub copy_name : ℕ → List ℕ
copy_name c = codes "FV_COPY_" ++ decimal (c + 1)

abbrev pub variable_subscript : List ℕ → Subscript
variable_subscript x = Only (Named x no_subscripts)

-- the element of the iteration at hand, by the variables of the loops, that of the innermost one first
abbrev pub copy_element : List (List ℕ) → ℕ → Reference
copy_element loops c = record { name = copy_name c; subscripts = subscripts (reverse (map variable_subscript loops)) }

-- ---- kinds

abbrev pub made_kind_or_integer : List Made → List ℕ → Kind
made_kind_or_integer [] x = Integer
made_kind_or_integer (a ∷ as') x = if bytes_eq a.name x then a.kind else made_kind_or_integer as' x

-- the kind of a name that is declared or made
abbrev pub kind_among : List Declaration → List Made → List ℕ → Kind
kind_among [] as' x = made_kind_or_integer as' x
kind_among (d ∷ ds) as' x = if bytes_eq d.name x then d.kind else kind_among ds as' x

abbrev pub kind_in_nest : Nest → List ℕ → Kind
kind_in_nest n x = kind_among n.declarations n.made x

-- ---- extents

abbrev pub with_trip : Option Trip → Option (List Trip) → Option (List Trip)
with_trip None ts = None
with_trip (Some t) None = None
with_trip (Some t) (Some ts) = Some (t ∷ ts)

-- the trips of loops, where each has one
abbrev pub trips_if_all : List Loop → Option (List Trip)
trips_if_all [] = Some []
trips_if_all (l ∷ ls) = with_trip l.trip (trips_if_all ls)

-- The extents of an array over these loops, from the outside in, by the rules of scalar expansion; None where one isn't
-- within the limits. There are n symbols
abbrev pub extents_over : ℕ → List Loop → Option (List Trip)
extents_over n ls = trips_if_all ls >>= extents_of_trips n

-- their texts, that of the innermost loop first
abbrev pub texts_over : List (List ℕ) → Option (List Trip) → List Expression
texts_over symbols None = []
texts_over symbols (Some ts) = reverse (extent_texts symbols ts)

-- ---- arrays

module _ (n : Nest) (ls : List Loop) where
  abbrev pub array : ℕ → Reference → Made
  array c r = record {
    name = copy_name c;
    kind = kind_in_nest n r.name;
    extents = texts_over n.symbols (extents_over (length n.symbols) ls);
  }

  abbrev pub arrays : ℕ → List Reference → List Made
  arrays c [] = []
  arrays c (r ∷ rs) = array c r ∷ arrays (suc c) rs
