-- What a rule makes of a tree, from the leaves up: the parts of a node have become what they become before the node
-- does.
use Rattle.tree.specs.Plain.{Expression, Number, Logic, Named, Unary, Binary, Apply, Constructor, Spread, Transpose}
use Rattle.tree.specs.Plain.{Reshape, Reduce, Expressions, no_expressions, expression, Subscript, Only, Section}
use Rattle.tree.specs.Plain.{Subscripts, no_subscripts, subscript, Loops, no_loops, loop, Reference}

-- What becomes of an expression, as it is first written and as it is when its parts have become what they become; and
-- of the left side of an assignment
pub record Making : Type 0 where
  pub expression : Expression → Expression → Expression
  pub left : Reference → Reference

module _ (m : Making) where
  abbrev mutual
    pub made : Expression → Expression
    made (Number n) = m.expression (Number n) (Number n)
    made (Logic b) = m.expression (Logic b) (Logic b)
    made (Named x ps) = m.expression (Named x ps) (Named x (made_subscripts ps))
    made (Unary o a) = m.expression (Unary o a) (Unary o (made a))
    made (Binary o a b) = m.expression (Binary o a b) (Binary o (made a) (made b))
    made (Apply f es) = m.expression (Apply f es) (Apply f (made_expressions es))
    made (Constructor es ls) = m.expression (Constructor es ls) (Constructor (made_expressions es) (made_loops ls))
    made (Spread a d n) = m.expression (Spread a d n) (Spread (made a) d (made n))
    made (Transpose a) = m.expression (Transpose a) (Transpose (made a))
    made (Reshape a es) = m.expression (Reshape a es) (Reshape (made a) (made_expressions es))
    made (Reduce r a) = m.expression (Reduce r a) (Reduce r (made a))

    pub made_expressions : Expressions → Expressions
    made_expressions no_expressions = no_expressions
    made_expressions (expression e es) = expression (made e) (made_expressions es)

    pub made_subscripts : Subscripts → Subscripts
    made_subscripts no_subscripts = no_subscripts
    made_subscripts (subscript p ps) = subscript (made_subscript p) (made_subscripts ps)

    pub made_subscript : Subscript → Subscript
    made_subscript (Only e) = Only (made e)
    made_subscript (Section a b c) = Section (made a) (made b) (made c)

    pub made_loops : Loops → Loops
    made_loops no_loops = no_loops
    made_loops (loop x a b ls) = loop x (made a) (made b) (made_loops ls)

  -- a name with its subscripts rewritten
  abbrev pub made_parts : Reference → Reference
  made_parts r = record { name = r.name; subscripts = made_subscripts r.subscripts }

  abbrev pub made_left : Reference → Reference
  made_left r = m.left (made_parts r)
