-- Which expressions the laws on array forms speak of.
use Rattle.std.specs.Prelude.{pos, Bool, true, false, ◌&&◌, ◌||◌, not, Option, Some, None, List, [], ◌∷◌}
use Rattle.std.specs.Ordering.{int_eq}
use Rattle.tree.specs.Plain.{Expression, Number, Logic, Named, Unary, Binary, Apply}
use Rattle.tree.specs.Plain.{Reduce, Expressions, no_expressions, expression, Only, Section}
use Rattle.tree.specs.Plain.{Subscripts, no_subscripts, subscript}
use Rattle.meaning.specs.Reads.{names_in}
use Rattle.linear_forms.specs.Linear.{Form, form_of}
use Rattle.array_form.specs.forms.Loops.{FormLoop, FormSurroundings, form_variables_of, form_names_of, loops_among}
use Rattle.array_form.specs.forms.Loops.{one_each, coefficient}

abbrev pub has_no_loop : List FormLoop → Bool
has_no_loop [] = true
has_no_loop (l ∷ ls) = false

-- A subscript in which a loop stands moves with the loop where it is linear; `other` says what is asked of one that
-- isn't
abbrev pub is_moved : FormSurroundings → List FormLoop → Option Form → Bool → Bool
is_moved a [] f other = true
is_moved a (l ∷ ls) (Some f) other = not (int_eq (coefficient (form_names_of a) l.variable f.coefficients) (pos 0))
is_moved a (l ∷ ls) None other = other

module _ (a : FormSurroundings) where
  -- each subscript in which a loop stands is linear
  abbrev pub are_moved : List FormLoop → Subscripts → Bool
  are_moved D no_subscripts = true
  are_moved D (subscript (Only e) ps) =
      is_moved a (loops_among D (names_in e)) (form_of (form_variables_of a.loops) a.symbols e) false && are_moved D ps
  are_moved D (subscript (Section b c e) ps) = false

  -- An expression as a nest has it: built by operators and functions of references, without array values. Where no
  -- subscript of a reference has two loops, each has a form of rank one
  abbrev mutual
    pub is_regular : List FormLoop → Expression → Bool
    is_regular D (Number n) = true
    is_regular D (Logic b) = true
    is_regular D (Named x ps) = has_no_loop (loops_among D (names_in (Named x ps)))
        || (not (one_each D ps) || are_regular_subscripts D ps)
    is_regular D (Unary o e) = is_regular D e
    is_regular D (Binary o e f) = is_regular D e && is_regular D f
    is_regular D (Apply f es) = are_regular D es
    is_regular D (Reduce r e) = has_no_loop (loops_among D (names_in e))
    is_regular D _ = false

    pub are_regular : List FormLoop → Expressions → Bool
    are_regular D no_expressions = true
    are_regular D (expression e es) = is_regular D e && are_regular D es

    pub are_regular_subscripts : List FormLoop → Subscripts → Bool
    are_regular_subscripts D no_subscripts = true
    are_regular_subscripts D (subscript (Only e) ps) =
        is_moved a (loops_among D (names_in e)) (form_of (form_variables_of a.loops) a.symbols e)
        (is_regular (loops_among D (names_in e)) e) && are_regular_subscripts D ps
    are_regular_subscripts D (subscript (Section b c e) ps) = false
