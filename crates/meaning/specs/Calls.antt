-- The functions that a program calls, by the names that Fortran 90 has for them (ISO/IEC 1539:1991, section 13.13).
use Rattle.std.specs.Prelude.{ℕ, List, [], ◌∷◌, ◌++◌}
use Rattle.tree.specs.Plain.{Expression, Number, Logic, Named, Unary, Binary, Apply, Constructor, Spread, Transpose}
use Rattle.tree.specs.Plain.{Reshape, Reduce}
use Rattle.tree.specs.Plain.{Expressions, no_expressions, expression, Subscript, Only, Section, Subscripts}
use Rattle.tree.specs.Plain.{no_subscripts, subscript}
use Rattle.tree.specs.Plain.{Loops, no_loops, loop, Item, Single, Constant, ImpliedDo, Items, no_items, item, Program}
use Rattle.tree.specs.Plain.{Statement, Assignment, Where, If, Do, Label, GoTo, Stop, Read, Print, Allocate, Deallocate}
use Rattle.tree.specs.Plain.{Arms, no_arms, arm, Block, no_statements, statement}
use Rattle.tree.specs.Functions.{name_of_function}

abbrev mutual
  -- ABS, MOD, MAX and MIN; the array functions aren't among them
  pub calls_in : Expression → List (List ℕ)
  calls_in (Number n) = []
  calls_in (Logic b) = []
  calls_in (Named x ps) = calls_in_subscripts ps
  calls_in (Unary o a) = calls_in a
  calls_in (Binary o a b) = calls_in a ++ calls_in b
  calls_in (Apply f es) = name_of_function f ∷ calls_in_each es
  calls_in (Constructor es ls) = calls_in_each es ++ calls_in_loops ls
  calls_in (Spread a d n) = calls_in a ++ calls_in n
  calls_in (Transpose a) = calls_in a
  calls_in (Reshape a es) = calls_in a ++ calls_in_each es
  calls_in (Reduce r a) = calls_in a

  pub calls_in_each : Expressions → List (List ℕ)
  calls_in_each no_expressions = []
  calls_in_each (expression e es) = calls_in e ++ calls_in_each es

  pub calls_in_subscripts : Subscripts → List (List ℕ)
  calls_in_subscripts no_subscripts = []
  calls_in_subscripts (subscript p ps) = calls_in_subscript p ++ calls_in_subscripts ps

  pub calls_in_subscript : Subscript → List (List ℕ)
  calls_in_subscript (Only e) = calls_in e
  calls_in_subscript (Section a b c) = calls_in a ++ calls_in b ++ calls_in c

  pub calls_in_loops : Loops → List (List ℕ)
  calls_in_loops no_loops = []
  calls_in_loops (loop x a b ls) = calls_in a ++ calls_in b ++ calls_in_loops ls

abbrev mutual
  pub calls_in_item : Item → List (List ℕ)
  calls_in_item (Single e) = calls_in e
  calls_in_item (Constant t) = []
  calls_in_item (ImpliedDo is x a b c) = calls_in a ++ calls_in b ++ calls_in c ++ calls_in_items is

  pub calls_in_items : Items → List (List ℕ)
  calls_in_items no_items = []
  calls_in_items (item i is) = calls_in_item i ++ calls_in_items is

abbrev mutual
  pub calls_in_statement : Statement → List (List ℕ)
  calls_in_statement (Assignment line mark left right) = calls_in_subscripts left.subscripts ++ calls_in right
  calls_in_statement (Where line mark m left right) =
      calls_in m ++ calls_in_subscripts left.subscripts ++ calls_in right
  calls_in_statement (If line arms other) = calls_in_arms arms ++ calls_in_block other
  calls_in_statement (Do line x a b c body) = calls_in a ++ calls_in b ++ calls_in c ++ calls_in_block body
  calls_in_statement (Label n) = []
  calls_in_statement (GoTo line n) = []
  calls_in_statement (Stop line) = []
  calls_in_statement (Read line is) = calls_in_items is
  calls_in_statement (Print line is) = calls_in_items is
  calls_in_statement (Allocate line x es) = calls_in_each es
  calls_in_statement (Deallocate line x) = []

  pub calls_in_arms : Arms → List (List ℕ)
  calls_in_arms no_arms = []
  calls_in_arms (arm test body more) = calls_in test ++ calls_in_block body ++ calls_in_arms more

  pub calls_in_block : Block → List (List ℕ)
  calls_in_block no_statements = []
  calls_in_block (statement c cs) = calls_in_statement c ++ calls_in_block cs

-- the names of the functions that the program calls
abbrev pub names_called : Program → List (List ℕ)
names_called p = calls_in_block p.body
