-- The array form of an expression: with the loops D instead of their iterations, it has at each position the value that
-- the expression has at the iterations of that position (ISO/IEC 1539:1991, sections 4.5, 6.2.2 and 13.13).
use Rattle.std.specs.Prelude.{◌==◌, ℕ, ◌+◌, ℤ, pos, ◌&&◌, if◌then◌else◌, Option, Some, None}
use Rattle.std.specs.Prelude.{List, [], ◌∷◌, ◌++◌, map, length}
use Rattle.tree.specs.Plain.{Expression, Number, Logic, Named, Unary, Binary, Apply, Constructor, Spread, Transpose}
use Rattle.tree.specs.Plain.{Reshape, Expressions, no_expressions, expression, expressions, Subscript, Only, Section}
use Rattle.tree.specs.Plain.{Subscripts, no_subscripts, subscript, Loops, no_loops, loop}
use Rattle.tree.specs.declared.ops.Op.TheVariants.{Mul, Div, Add}
use Rattle.meaning.specs.Reads.{names_in}
use Rattle.linear_forms.specs.Expressed.{with_constant, expressed, variables}
use Rattle.linear_forms.specs.Linear.{Form, sum, multiple, constant_form, is_limited, form_of}
use Rattle.linear_forms.specs.Places.{unit_form}
use Rattle.array_form.specs.forms.Loops.{FormTrip, FormLoop, FormSurroundings, form_variables_of, form_names_of}
use Rattle.array_form.specs.forms.Loops.{is_among, loops_among}
use Rattle.array_form.specs.forms.Loops.{loops_in_order, one_each, same_loops, is_part_of, is_exchange_of, coefficient}
use Rattle.array_form.specs.forms.Loops.{form_without}

-- ---- numbers and trips

abbrev pub number_text : ℤ → Expression
number_text z = with_constant None z

abbrev pub divided_text : ℕ → Expression → Expression
divided_text n e = if n == 1 then e else Binary Div e (Number (pos n))

abbrev pub form_trip_text : List (List ℕ) → FormTrip → Expression
form_trip_text names t = divided_text t.divisor (expressed (variables names) t.form)

-- a divided trip is one more place of a form, behind the names
abbrev pub form_of_trip : List (List ℕ) → FormTrip → Form
form_of_trip names t = if t.divisor == 1 then t.form else unit_form (length names)

-- ---- sections: a linear subscript a * i + r, for i from 1 to the trip

abbrev pub terms_with : List (List ℕ) → FormTrip → List Expression
terms_with names t = variables names ++ form_trip_text names t ∷ []

-- the text of a sum of two forms; past the limits of linear forms it is the sum of two texts
abbrev pub sum_text : ℕ → List Expression → Expression → Form → Form → Expression
sum_text loops terms first f r =
    if is_limited loops (sum f r) then expressed terms (sum f r) else Binary Add first (expressed terms r)

abbrev pub lower_text : ℕ → List (List ℕ) → FormLoop → ℤ → Form → Expression
lower_text loops names l a r = sum_text loops (terms_with names l.trip) (number_text a) (constant_form a) r

abbrev pub upper_text : ℕ → List (List ℕ) → FormLoop → ℤ → Form → Expression
upper_text loops names l a r = sum_text loops (terms_with names l.trip)
    (Binary Mul (number_text a) (form_trip_text names l.trip)) (multiple a (form_of_trip names l.trip)) r

abbrev pub section_from : ℕ → List (List ℕ) → FormLoop → ℤ → Form → Subscript
section_from loops names l a r =
    Section (lower_text loops names l a r) (upper_text loops names l a r) (number_text a)

abbrev pub section : FormSurroundings → FormLoop → Form → Subscript
section a l f =
    section_from (length a.loops) (form_names_of a) l (coefficient (form_names_of a) l.variable f.coefficients)
    (form_without (form_names_of a) l.variable f)

-- a subscript with the loops `here` of D; `formed` is its form over these, of rank one
abbrev pub subscript_with : FormSurroundings → List FormLoop → Expression → Expression → Option Form → Subscript
subscript_with a [] e formed f = Only e
subscript_with a (l ∷ ls) e formed (Some f) = section a l f
subscript_with a (l ∷ ls) e formed None = Only formed

abbrev pub subscript_form : FormSurroundings → List FormLoop → Expression → Expression → Subscript
subscript_form a here e formed = subscript_with a here e formed (form_of (form_variables_of a.loops) a.symbols e)

-- ---- constructors, of which the first loop is the innermost one

abbrev pub loops_over : List (List ℕ) → List FormLoop → Loops
loops_over names [] = no_loops
loops_over names (l ∷ ls) = loop l.variable (Number (pos 1)) (form_trip_text names l.trip) (loops_over names ls)

abbrev pub shaped : List (List ℕ) → List FormLoop → Expression → Expression
shaped names (l ∷ []) e = e
shaped names D e = Reshape e (expressions (map (λ (l : FormLoop). form_trip_text names l.trip) D))

abbrev pub constructed : List (List ℕ) → List FormLoop → Expression → Expression
constructed names D e = shaped names D (Constructor (expression e no_expressions) (loops_over names D))

-- ---- references

-- SPREAD for each loop of D that isn't among the loops `here`, from the lowest place up
abbrev pub spread_over : List (List ℕ) → List FormLoop → ℕ → List FormLoop → Expression → Expression
spread_over names here k [] e = e
spread_over names here k (l ∷ D) e =
    spread_over names here (k + 1) D
    (if is_among (form_variables_of here) l.variable then e else Spread e k (form_trip_text names l.trip))

-- `plain`: a form over the loops `here` alone, in their order; e: what has that form
abbrev pub placed_expression : FormSurroundings → List FormLoop → List FormLoop → Expression → Expression → Expression
placed_expression a D here plain e =
    if same_loops D here then plain
    else if a.may_spread && is_part_of D here then spread_over (form_names_of a) here 1 D plain
    else if is_exchange_of D here then Transpose plain
    else constructed (form_names_of a) D e

-- a name: what has no loop of D stays, and a loop variable is a reference whose only loop it is
abbrev pub name_form : FormSurroundings → List FormLoop → List FormLoop → List ℕ → Subscripts → Subscripts → Expression
name_form a D [] x ps formed = Named x ps
name_form a D (l ∷ ls) x no_subscripts formed =
    placed_expression a D (l ∷ ls) (constructed (form_names_of a) (l ∷ ls) (Named x no_subscripts))
    (Named x no_subscripts)
name_form a D (l ∷ ls) x (subscript p ps) formed =
    if one_each D (subscript p ps)
    then placed_expression a D (loops_in_order D (subscript p ps)) (Named x formed) (Named x (subscript p ps))
    else constructed (form_names_of a) D (Named x (subscript p ps))

module _ (a : FormSurroundings) where
  abbrev mutual
    pub form : List FormLoop → Expression → Expression
    form D (Number n) = Number n
    form D (Logic b) = Logic b
    form D (Named x ps) = name_form a D (loops_among D (names_in (Named x ps))) x ps (subscript_forms D ps)
    form D (Unary o e) = Unary o (form D e)
    form D (Binary o e f) = Binary o (form D e) (form D f)
    form D (Apply f es) = Apply f (forms D es)
    form D e = e

    pub forms : List FormLoop → Expressions → Expressions
    forms D no_expressions = no_expressions
    forms D (expression e es) = expression (form D e) (forms D es)

    pub subscript_forms : List FormLoop → Subscripts → Subscripts
    subscript_forms D no_subscripts = no_subscripts
    subscript_forms D (subscript (Only e) ps) =
        subscript (subscript_form a (loops_among D (names_in e)) e (form (loops_among D (names_in e)) e))
        (subscript_forms D ps)
    subscript_forms D (subscript (Section b c d) ps) = subscript (Section b c d) (subscript_forms D ps)
