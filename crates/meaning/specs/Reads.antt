-- The names that stand in expressions, items of lists, statements and blocks.
use Rattle.std.specs.Prelude.{ℕ, List, [], ◌∷◌, ◌++◌}
use Rattle.tree.specs.Plain.{Expression, Number, Logic, Named, Unary, Binary, Apply, Constructor, Spread, Transpose}
use Rattle.tree.specs.Plain.{Reshape, Reduce, Expressions, no_expressions, expression, Subscript, Only, Section}
use Rattle.tree.specs.Plain.{Subscripts, no_subscripts, subscript, Loops, no_loops, loop, Item, Single, Constant}
use Rattle.tree.specs.Plain.{ImpliedDo, Items, no_items, item, Statement, Assignment, Where, If, Do, Label, GoTo, Stop}
use Rattle.tree.specs.Plain.{Read, Print, Allocate, Deallocate, Arms, no_arms, arm, Block, no_statements, statement}

-- the names that stand in an expression
abbrev mutual
  pub names_in : Expression → List (List ℕ)
  names_in (Number n) = []
  names_in (Logic b) = []
  names_in (Named x ps) = x ∷ names_in_subscripts ps
  names_in (Unary o a) = names_in a
  names_in (Binary o a b) = names_in a ++ names_in b
  names_in (Apply f es) = names_in_each es
  names_in (Constructor es ls) = names_in_each es ++ names_in_loops ls
  names_in (Spread a k e) = names_in a ++ names_in e
  names_in (Transpose a) = names_in a
  names_in (Reshape a es) = names_in a ++ names_in_each es
  names_in (Reduce r a) = names_in a

  pub names_in_each : Expressions → List (List ℕ)
  names_in_each no_expressions = []
  names_in_each (expression e es) = names_in e ++ names_in_each es

  pub names_in_subscripts : Subscripts → List (List ℕ)
  names_in_subscripts no_subscripts = []
  names_in_subscripts (subscript p ps) = names_in_subscript p ++ names_in_subscripts ps

  pub names_in_subscript : Subscript → List (List ℕ)
  names_in_subscript (Only e) = names_in e
  names_in_subscript (Section a b c) = names_in a ++ names_in b ++ names_in c

  pub names_in_loops : Loops → List (List ℕ)
  names_in_loops no_loops = []
  names_in_loops (loop x a b ls) = x ∷ names_in a ++ names_in b ++ names_in_loops ls

-- the names that stand in the items of a list, in a statement and in a block
abbrev mutual
  pub names_in_item : Item → List (List ℕ)
  names_in_item (Single e) = names_in e
  names_in_item (Constant t) = []
  names_in_item (ImpliedDo is x first last step) =
      x ∷ names_in first ++ names_in last ++ names_in step ++ names_in_items is

  pub names_in_items : Items → List (List ℕ)
  names_in_items no_items = []
  names_in_items (item i is) = names_in_item i ++ names_in_items is

abbrev mutual
  pub names_in_statement : Statement → List (List ℕ)
  names_in_statement (Assignment line mark left right) =
      left.name ∷ names_in_subscripts left.subscripts ++ names_in right
  names_in_statement (Where line mark m left right) =
      left.name ∷ names_in m ++ names_in_subscripts left.subscripts ++ names_in right
  names_in_statement (If line arms other) = names_in_arms arms ++ names_in_block other
  names_in_statement (Do line x first last step body) =
      x ∷ names_in first ++ names_in last ++ names_in step ++ names_in_block body
  names_in_statement (Label n) = []
  names_in_statement (GoTo line n) = []
  names_in_statement (Stop line) = []
  names_in_statement (Read line is) = names_in_items is
  names_in_statement (Print line is) = names_in_items is
  names_in_statement (Allocate line x es) = x ∷ names_in_each es
  names_in_statement (Deallocate line x) = x ∷ []

  pub names_in_arms : Arms → List (List ℕ)
  names_in_arms no_arms = []
  names_in_arms (arm test body arms) = names_in test ++ names_in_block body ++ names_in_arms arms

  pub names_in_block : Block → List (List ℕ)
  names_in_block no_statements = []
  names_in_block (statement c cs) = names_in_statement c ++ names_in_block cs
