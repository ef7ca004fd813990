-- How an expression of Fortran 90 is written by the printer: with the parentheses that the levels of its operators need
-- (ISO/IEC 1539:1991, section 7.3).
use Rattle.std.specs.Prelude.{ℕ, ℤ, pos, negsuc, nat_le, Bool, true, false, Option, Some, None, List, [], codes}
use Rattle.std.specs.Prelude.{decimal, if◌then◌else◌}
use Rattle.std.specs.Ordering.{int_eq}
use Rattle.tree.specs.declared.ops.Op.{Op}
use Rattle.tree.specs.declared.ops.Op.TheVariants.{Not}
use Rattle.tree.specs.Plain as tree
use Rattle.tree.specs.Plain.{Expression, Expressions, Subscript, Subscripts, Loops}
use Rattle.tree.specs.OperatorTable.{Minus, Negation, left_least, right_least}
use Rattle.f90_grammar.specs.Phrases.{Phrase90, Literal, Truth, Name, Listed, Paren, Signed, Joined, Values, Looped}
use Rattle.f90_grammar.specs.Phrases.{ListPart}
use Rattle.f90_grammar.specs.Phrases.{Value, Range, Strided, ListParts, One, Then, Phrases90, Sole, More, Turn}
use Rattle.f90_grammar.specs.Phrases.{Innermost, Round, phrase_level90}
use Rattle.tree.specs.Functions.{name_of_function, name_of_reduction}
use Rattle.tree.specs.declared.functions.Intrinsic.TheVariants.{Spread, Transpose, Reshape}

abbrev pub fit : ℕ → Phrase90 → Phrase90
fit n p = if nat_le n (phrase_level90 p) then p else Paren p

abbrev pub unary_phrase : Op → Phrase90 → Phrase90
unary_phrase Not p = Signed Negation (fit 6 p)
unary_phrase o p = Signed Minus (fit 8 p)

abbrev pub digits_of : ℤ → List ℕ
digits_of (pos n) = decimal n
digits_of (negsuc n) = []

-- a stride of 1 isn't written
abbrev pub is_one : Expression → Bool
is_one (tree.Number n) = int_eq n (pos 1)
is_one e = false

abbrev pub section_part : Bool → Phrase90 → Phrase90 → Phrase90 → ListPart
section_part true a b c = Range a b
section_part false a b c = Strided a b c

abbrev pub listed : List ℕ → Option ListParts → Phrase90
listed x None = Name x
listed x (Some ps) = Listed x ps

abbrev pub values : Option Phrases90 → Phrase90
values None = Truth false
values (Some ps) = Values ps

abbrev pub first_value : Option Phrases90 → Phrase90
first_value (Some (Sole p)) = p
first_value ps = Truth false

abbrev mutual
  pub phrase_of : Expression → Phrase90
  phrase_of (tree.Number n) = Literal (digits_of n)
  phrase_of (tree.Logic b) = Truth b
  phrase_of (tree.Named x ss) = listed x (printed_parts_of ss)
  phrase_of (tree.Unary o a) = unary_phrase o (phrase_of a)
  phrase_of (tree.Binary o a b) =
      Joined o (fit (left_least o) (phrase_of a)) (fit (right_least o) (phrase_of b))
  phrase_of (tree.Apply f es) = listed (name_of_function f) (arguments es)
  phrase_of (tree.Constructor es ls) = constructor_phrase ls (list_of es)
  phrase_of (tree.Spread a d n) =
      Listed (codes "SPREAD") (Then (Then (One (Value (phrase_of a))) (Value (Literal (decimal d)))) (Value
      (phrase_of n)))
  phrase_of (tree.Transpose a) = Listed (codes "TRANSPOSE") (One (Value (phrase_of a)))
  phrase_of (tree.Reshape a es) =
      Listed (codes "RESHAPE") (Then (One (Value (phrase_of a))) (Value (values (list_of es))))
  phrase_of (tree.Reduce r a) = Listed (name_of_reduction r) (One (Value (phrase_of a)))

  pub list_part_of : Subscript → ListPart
  list_part_of (tree.Only e) = Value (phrase_of e)
  list_part_of (tree.Section a b c) = section_part (is_one c) (phrase_of a) (phrase_of b) (phrase_of c)

  pub printed_parts_of : Subscripts → Option ListParts
  printed_parts_of tree.no_subscripts = None
  printed_parts_of (tree.subscript s ss) = Some (more_parts (One (list_part_of s)) ss)

  pub more_parts : ListParts → Subscripts → ListParts
  more_parts ps tree.no_subscripts = ps
  more_parts ps (tree.subscript s ss) = more_parts (Then ps (list_part_of s)) ss

  pub arguments : Expressions → Option ListParts
  arguments tree.no_expressions = None
  arguments (tree.expression e es) = Some (more_arguments (One (Value (phrase_of e))) es)

  pub more_arguments : ListParts → Expressions → ListParts
  more_arguments ps tree.no_expressions = ps
  more_arguments ps (tree.expression e es) = more_arguments (Then ps (Value (phrase_of e))) es

  pub list_of : Expressions → Option Phrases90
  list_of tree.no_expressions = None
  list_of (tree.expression e es) = Some (more_values (Sole (phrase_of e)) es)

  pub more_values : Phrases90 → Expressions → Phrases90
  more_values ps tree.no_expressions = ps
  more_values ps (tree.expression e es) = more_values (More ps (phrase_of e)) es

  pub constructor_phrase : Loops → Option Phrases90 → Phrase90
  constructor_phrase tree.no_loops ps = values ps
  constructor_phrase (tree.loop x a b ls) ps =
      Looped (rounds (Innermost (first_value ps) x (phrase_of a) (phrase_of b)) ls)

  pub rounds : Turn → Loops → Turn
  rounds t tree.no_loops = t
  rounds t (tree.loop x a b ls) = rounds (Round t x (phrase_of a) (phrase_of b)) ls
