-- Worked nests: a temporary in one loop, and one in a triangle.
use Rattle.std.proofs.Common.{◌≡◌, refl, ℕ, ℤ, pos, List, [], ◌∷◌, Some, None, replicate}
use Rattle.std.specs.Prelude.{codes}
use Rattle.tree.specs.Plain.{Assignment, Block, Declaration, Expression, Given, Number, Named, Binary, Only, Reference, Subscripts, no_statements, statement, no_subscripts, subscript}
use Rattle.tree.specs.declared.ops.Kind.TheVariants.{Integer}
use Rattle.tree.specs.declared.ops.Op.TheVariants.{Add, Mul}
use Rattle.subscripts.specs.declared.affine.Affine.{Affine}
use Rattle.nest.specs.Plain.{Loop, Made, Nest, Part, Run, Turns, no_parts, part}
use Rattle.nest_rewrite.specs.Assembled.{with_parts}
use Rattle.last_values.specs.normal_forms.Combinations.{combination}
use Rattle.last_values.specs.normal_forms.Texts.{trip_text}
use Rattle.scalar_expand.specs.Expanded.{expanded, with_made_arrays}
use Rattle.scalar_expand.specs.Extents.{extent_under, extents_of_trips, greatest, greatest_size, size_under, sized}

name : List ℕ → Expression
name x = Named x no_subscripts

item : List ℕ → Expression → Expression
item x e = Named x (subscript (Only e) no_subscripts)

place : List ℕ → Expression → Reference
place x e = record { name = x; subscripts = subscript (Only e) no_subscripts }

whole : List ℕ → Reference
whole x = record { name = x; subscripts = no_subscripts }

assigned : ℕ → Reference → Expression → Part
assigned line r e = Run (record { line = line; guard = None; left = r; right = e })

form : ℤ → List (ℕ × ℤ) → ℤ → Affine
form loop syms constant = record { loops = loop ∷ replicate 6 (pos 0); syms = syms; constant = constant }

none : List (ℕ × ℤ)
none = replicate 8 (0, pos 0)

first : List (ℕ × ℤ)
first = (0, pos 1) ∷ replicate 7 (0, pos 0)

counting : ℕ → List ℕ → Expression → Affine → Loop
counting number variable last top = record {
  number = number;
  variable = variable;
  first = Number (pos 1);
  last = last;
  step = pos 1;
  trip = Some (record { top = top; by = pos 1 });
}

declared : List Declaration
declared =
    record { name = codes "A"; kind = Integer; extent = Given ((pos 1, pos 10) ∷ []) }
    ∷ record { name = codes "B"; kind = Integer; extent = Given ((pos 1, pos 10) ∷ []) }
    ∷ record { name = codes "N"; kind = Integer; extent = Given [] }
    ∷ record { name = codes "T"; kind = Integer; extent = Given [] } ∷ []

nest : List (List ℕ) → Part → List Made → Block → Nest
nest symbols body made after = record {
  number = 1;
  line = 2;
  title = None;
  body = body;
  declarations = declared;
  symbols = symbols;
  made = made;
  after = after;
  masks = 0;
  copies = 0;
}

outer : List ℕ
outer = codes "FV_LOOP_1"

inner : List ℕ
inner = codes "FV_LOOP_2"

array : List ℕ
array = codes "FV_EXP_T"

-- T = B(I) + 1 and A(I) = T * 2, for I from 1 to 10
pair : Nest
pair = nest []
    (Turns (counting 1 outer (Number (pos 10)) (form (pos 0) none (pos 10)))
    (part (assigned 3 (whole (codes "T")) (Binary Add (item (codes "B") (name outer)) (Number (pos 1))))
    (part (assigned 4 (place (codes "A") (name outer)) (Binary Mul (name (codes "T")) (Number (pos 2)))) no_parts)))
    [] no_statements

-- the array has an element for each turn, and the scalar gets the value of the tenth one behind the loop
expanded-pair : expanded pair ≡ nest []
    (Turns (counting 1 outer (Number (pos 10)) (form (pos 0) none (pos 10)))
    (part (assigned 3 (place array (name outer)) (Binary Add (item (codes "B") (name outer)) (Number (pos 1))))
    (part (assigned 4 (place (codes "A") (name outer)) (Binary Mul (item array (name outer)) (Number (pos 2)))) no_parts)))
    (record { name = array; kind = Integer; extents = Number (pos 10) ∷ [] } ∷ [])
    (statement (Assignment 2 None (whole (codes "T")) (item array (Number (pos 10)))) no_statements)
unfolding with_made_arrays with_parts extents_of_trips extent_under size_under greatest greatest_size sized combination trip_text name item place whole assigned form none first counting declared nest outer inner array pair
expanded-pair = refl

at-both : Subscripts
at-both = subscript (Only (name inner)) (subscript (Only (name outer)) no_subscripts)

-- T = B(J) and A(J) = T, for I from 1 to N and J from 1 to I
triangle : Nest
triangle = nest (codes "N" ∷ [])
    (Turns (counting 1 outer (name (codes "N")) (form (pos 0) first (pos 0)))
    (part (Turns (counting 2 inner (name outer) (form (pos 1) none (pos 0)))
    (part (assigned 4 (whole (codes "T")) (item (codes "B") (name inner)))
    (part (assigned 5 (place (codes "A") (name inner)) (name (codes "T"))) no_parts))) no_parts))
    [] no_statements

-- the inner loop's extent is its greatest trip; where the last iteration isn't known, each turn ends with a copy
expanded-triangle : expanded triangle ≡ nest (codes "N" ∷ [])
    (Turns (counting 1 outer (name (codes "N")) (form (pos 0) first (pos 0)))
    (part (Turns (counting 2 inner (name outer) (form (pos 1) none (pos 0)))
    (part (assigned 4 (record { name = array; subscripts = at-both }) (item (codes "B") (name inner)))
    (part (assigned 5 (place (codes "A") (name inner)) (Named array at-both))
    (part (assigned 2 (whole (codes "T")) (Named array at-both)) no_parts)))) no_parts))
    (record { name = array; kind = Integer; extents = name (codes "N") ∷ name (codes "N") ∷ [] } ∷ [])
    no_statements
unfolding with_made_arrays with_parts extents_of_trips extent_under size_under greatest greatest_size sized combination trip_text name item place whole assigned form none first counting declared nest outer inner array at-both triangle
expanded-triangle = refl
