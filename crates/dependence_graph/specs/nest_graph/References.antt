-- The references of a statement of a nest, in their order.
use Rattle.std.specs.Prelude.{ℕ, Bool, true, false, ◌||◌, if◌then◌else◌, Option, Some, None, List, [], ◌∷◌, ◌++◌, map}
use Rattle.std.specs.Str.{bytes_eq}
use Rattle.tree.specs.Plain.{Expression, Number, Logic, Named, Unary, Binary, Apply, Constructor, Spread, Transpose}
use Rattle.tree.specs.Plain.{Reshape, Reduce, Expressions, no_expressions, expression, Subscript, Only, Section}
use Rattle.tree.specs.Plain.{Subscripts, no_subscripts, subscript, Reference}
use Rattle.nest.specs.Bodies.{Standing}

abbrev pub is_among : List (List ℕ) → List ℕ → Bool
is_among [] x = false
is_among (y ∷ ys) x = bytes_eq y x || is_among ys x

abbrev pub has_no_subscript : Subscripts → Bool
has_no_subscript no_subscripts = true
has_no_subscript (subscript s ss) = false

-- the variables of the loops round a statement, from the outside in
abbrev pub variables_round : Standing → List (List ℕ)
variables_round s = map (λ l. l.variable) s.loops

-- a variable is a reference where it isn't that of a loop round the statement
abbrev pub own_reference : List (List ℕ) → List ℕ → Subscripts → List Reference
own_reference loops x ss =
    if has_no_subscript ss then (if is_among loops x then [] else (record { name = x; subscripts = ss } ∷ []))
    else (record { name = x; subscripts = ss } ∷ [])

-- each occurrence of a variable other than a loop's, in the order in which it is printed
module _ (loops : List (List ℕ)) where
  abbrev mutual
    pub references_in : Expression → List Reference
    references_in (Number n) = []
    references_in (Logic b) = []
    references_in (Named x ss) = own_reference loops x ss ++ references_in_subscripts ss
    references_in (Unary o a) = references_in a
    references_in (Binary o a b) = references_in a ++ references_in b
    references_in (Apply f es) = references_in_all es
    references_in (Constructor es ls) = references_in_all es
    references_in (Spread a n e) = references_in a ++ references_in e
    references_in (Transpose a) = references_in a
    references_in (Reshape a es) = references_in a ++ references_in_all es
    references_in (Reduce r a) = references_in a

    pub references_in_all : Expressions → List Reference
    references_in_all no_expressions = []
    references_in_all (expression e es) = references_in e ++ references_in_all es

    pub references_in_subscript : Subscript → List Reference
    references_in_subscript (Only e) = references_in e
    references_in_subscript (Section a b s) = references_in a ++ (references_in b ++ references_in s)

    pub references_in_subscripts : Subscripts → List Reference
    references_in_subscripts no_subscripts = []
    references_in_subscripts (subscript s ss) = references_in_subscript s ++ references_in_subscripts ss

  abbrev pub references_in_guard : Option Expression → List Reference
  references_in_guard None = []
  references_in_guard (Some e) = references_in e

-- 0 is the left side; then those of the guard, of the left side's subscripts and of the right side
abbrev pub references_of : Standing → List Reference
references_of s =
    let loops = variables_round s in
    s.statement.left
    ∷ (references_in_guard loops s.statement.guard
    ++ (references_in_subscripts loops s.statement.left.subscripts ++ references_in loops s.statement.right))
