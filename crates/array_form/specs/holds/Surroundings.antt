-- What stands round a statement of a nest whose loops go from 1 to their trips by 1, as array forms take it.
use Rattle.std.specs.Prelude.{ℕ, suc, ◌-◌, ℤ, pos, nat_abs, Bool, false, not, ◌||◌, if◌then◌else◌, Option, Some, None}
use Rattle.std.specs.Prelude.{List, [], ◌∷◌, ◌++◌, map, take, length, replicate}
use Rattle.std.specs.List.{list_any}
use Rattle.std.specs.Ordering.{int_eq}
use Rattle.std.specs.Str.{bytes_eq}
use Rattle.tree.specs.Plain.{Declaration}
use Rattle.subscripts.specs.declared.affine.Affine.{Affine}
use Rattle.linear_forms.specs.Linear.{Form}
use Rattle.array_form.specs.forms.Loops as forms
use Rattle.nest.specs.declared.parts.Trip.{Trip}
use Rattle.nest.specs.Plain.{Loop, Nest}
use Rattle.array_form.specs.declared.holds.loops.CountedLoop.{CountedLoop}

-- the coefficients from the place o on, of terms in rising order of their places, which end where one is 0
abbrev pub coefficients_from : ℕ → List (ℕ × ℤ) → List ℤ
coefficients_from o [] = []
coefficients_from o (t ∷ ts) =
    if int_eq t.1 (pos 0) then [] else replicate (t.0 - o) (pos 0) ++ t.1 ∷ coefficients_from (suc t.0) ts

-- the form of an affine form, of which the first n places are those of loops
abbrev pub form_of_affine : ℕ → Affine → Form
form_of_affine n a = record { coefficients = take n a.loops ++ coefficients_from 0 a.syms; constant = a.constant }

abbrev pub form_trip_of : ℕ → Trip → forms.FormTrip
form_trip_of n t = record { form = form_of_affine n t.top; divisor = nat_abs t.by }

-- a loop, where n loops are round the statement
abbrev pub counted_of : ℕ → CountedLoop → forms.FormLoop
counted_of n c = record { variable = c.var; trip = form_trip_of n c.trip }

-- ---- those of a statement of a nest

-- no turn, where no trip is known
abbrev pub no_affine : Affine
no_affine = record { loops = replicate 7 (pos 0); syms = replicate 8 (0, pos 0); constant = pos 0 }

abbrev pub known_trip : Option Trip → Trip
known_trip (Some t) = t
known_trip None = record { top = no_affine; by = pos 1 }

abbrev pub counted_loop : Loop → CountedLoop
counted_loop l = record { var = l.variable; trip = known_trip l.trip }

-- the name of the function, which a program may declare for something else, or bear
abbrev pub spread_name : List ℕ
spread_name = 83 ∷ 80 ∷ 82 ∷ 69 ∷ 65 ∷ 68 ∷ []

abbrev pub is_spread_name : List ℕ → Bool
is_spread_name x = bytes_eq x spread_name

abbrev pub is_titled_spread : Option (List ℕ) → Bool
is_titled_spread None = false
is_titled_spread (Some x) = is_spread_name x

abbrev pub may_spread : Nest → Bool
may_spread n = not (is_titled_spread n.title || list_any (λ (d : Declaration). is_spread_name d.name) n.declarations)

-- these are the loops round the statement, from the outside in
abbrev pub surroundings_of : Nest → List Loop → forms.FormSurroundings
surroundings_of n ls = record {
  loops = map (λ l. counted_of (length ls) (counted_loop l)) ls;
  symbols = n.symbols;
  may_spread = may_spread n;
}
