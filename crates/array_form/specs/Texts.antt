-- Texts of trips, bounds and conditions, as the program has loops.
use Rattle.std.specs.Prelude.{ℤ, pos, Option, Some, None, List, [], ◌∷◌, length}
use Rattle.tree.specs.Plain.{Expression, Number, Binary}
use Rattle.tree.specs.View.{ConstructorLoop}
use Rattle.tree.specs.declared.ops.Op.TheVariants.{And}
use Rattle.linear_forms.specs.Linear.{Form}
use Rattle.array_form.specs.forms.Forms.{form_trip_text, lower_text, upper_text}
use Rattle.array_form.specs.forms.Loops.{form_names_of}
use Rattle.nest.specs.declared.parts.Trip.{Trip}
use Rattle.array_form.specs.holds.Surroundings.{counted_of, form_trip_of}
use Rattle.array_form.specs.holds.View.{surroundings_view}
use Rattle.array_form.specs.declared.holds.loops.CountedLoop.{CountedLoop}
use Rattle.array_form.specs.declared.holds.loops.Surroundings.{Surroundings}

abbrev pub text_of_trip : Surroundings → Trip → Expression
text_of_trip a t = form_trip_text (form_names_of (surroundings_view a)) (form_trip_of (length a.loops) t)

-- the loop of a constructor
abbrev pub turn_over : Surroundings → CountedLoop → ConstructorLoop
turn_over a l = record { variable = l.var; first = Number (pos 1); last = text_of_trip a l.trip }

abbrev pub extent_over : Surroundings → CountedLoop → Expression
extent_over a l = text_of_trip a l.trip

-- ---- bounds of a section

abbrev pub lower_of : Surroundings → CountedLoop → ℤ → Form → Expression
lower_of a l z r =
    lower_text (length a.loops) (form_names_of (surroundings_view a)) (counted_of (length a.loops) l) z r

abbrev pub upper_of : Surroundings → CountedLoop → ℤ → Form → Expression
upper_of a l z r =
    upper_text (length a.loops) (form_names_of (surroundings_view a)) (counted_of (length a.loops) l) z r

-- ---- conditions

-- joined to what stands so far
abbrev pub and_also : Option Expression → Expression → Option Expression
and_also None e = Some e
and_also (Some c) e = Some (Binary And c e)

abbrev pub with_tests : Option Expression → List Expression → Option Expression
with_tests o [] = o
with_tests o (e ∷ es) = with_tests (and_also o e) es
