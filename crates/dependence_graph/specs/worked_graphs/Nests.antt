-- Nests of one loop and one statement.
use Rattle.std.specs.Prelude.{ℕ, pos, [], Some, None, codes}
use Rattle.tree.specs.Plain.{Expression, Number, Named, Binary, Only, no_subscripts, subscript, no_statements}
use Rattle.tree.specs.Plain.{Reference}
use Rattle.tree.specs.declared.ops.Op.TheVariants.{Add, Mul, Sub}
use Rattle.linear_forms.specs.Linear.{constant_form}
use Rattle.nest.specs.Plain.{Guarded, Loop, Nest, Run, Turns, no_parts, part}
use Rattle.dependence_graph.specs.nest_graph.Paired.{affine_of}
use Prim.Native.String.{String}

-- ---- words

abbrev pub i : Expression
i = Named (codes "I") no_subscripts

abbrev pub number : ℕ → Expression
number k = Number (pos k)

abbrev pub element : String → Expression → Reference
element x e = record { name = codes x; subscripts = subscript (Only e) no_subscripts }

abbrev pub value : String → Expression → Expression
value x e = Named (codes x) (subscript (Only e) no_subscripts)

-- ---- nests

-- I from 1 to this number
abbrev pub loop_to : ℕ → Loop
loop_to last = record {
  number = 1;
  variable = codes "I";
  first = number 1;
  last = number last;
  step = pos 1;
  trip = Some (record { top = affine_of 0 (constant_form (pos last)); by = pos 1 });
}

abbrev pub assignment : Reference → Expression → Guarded
assignment left right = record { line = 2; guard = None; left = left; right = right }

abbrev pub one_loop : ℕ → Reference → Expression → Nest
one_loop last left right = record {
  number = 1;
  line = 1;
  title = None;
  body = Turns (loop_to last) (part (Run (assignment left right)) no_parts);
  declarations = [];
  symbols = [];
  made = [];
  after = no_statements;
  masks = 0;
  copies = 0;
}

-- A(I) = B(I) + 1, I from 1 to 100
abbrev pub elementwise : Nest
elementwise = one_loop 100 (element "A" i) (Binary Add (value "B" i) (number 1))

-- A(I+1) = A(I), I from 1 to 100
abbrev pub recurrence : Nest
recurrence = one_loop 100 (element "A" (Binary Add i (number 1))) (value "A" i)

-- A(I) = A(101-I), I from 1 to 100
abbrev pub crossing : Nest
crossing = one_loop 100 (element "A" i) (value "A" (Binary Sub (number 101) i))

-- A(I+50) = A(I), I from 1 to 50
abbrev pub past_the_trip : Nest
past_the_trip = one_loop 50 (element "A" (Binary Add i (number 50))) (value "A" i)

-- A(I) = A(1), I from 1 to 100
abbrev pub first_element : Nest
first_element = one_loop 100 (element "A" i) (value "A" (number 1))

-- A(I) = A(I), I from 1 to 1
abbrev pub one_turn : Nest
one_turn = one_loop 1 (element "A" i) (value "A" i)

-- A(I) = A(I*I), I from 1 to 100
abbrev pub of_square : Nest
of_square = one_loop 100 (element "A" i) (value "A" (Binary Mul i i))

-- A(I,I*I)
abbrev pub with_square : Reference
with_square = record {
  name = codes "A";
  subscripts = subscript (Only i) (subscript (Only (Binary Mul i i)) no_subscripts);
}

-- A(I,I*I) = B(I), I from 1 to 100
abbrev pub beside_square : Nest
beside_square = one_loop 100 with_square (value "B" i)
