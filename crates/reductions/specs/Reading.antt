-- The names that are read outside the bodies of their own loops: within the body of a DO, of a constructor's loop or of
-- an implied DO list its variable is what the loop gives it. What is read into counts with what is read, since a READ
-- looks at the kind of what is there.
use Rattle.std.specs.Prelude.{ℕ, if◌then◌else◌, List, [], ◌∷◌, ◌++◌}
use Rattle.std.specs.Str.{bytes_eq}
use Rattle.tree.specs.Plain.{Expression, Number, Logic, Named, Unary, Binary, Apply, Constructor, Spread, Transpose}
use Rattle.tree.specs.Plain.{Reshape, Reduce, Expressions, no_expressions, expression, Subscript, Only, Section}
use Rattle.tree.specs.Plain.{Subscripts, no_subscripts, subscript, Loops, no_loops, loop, Item, Single, Constant}
use Rattle.tree.specs.Plain.{ImpliedDo, Items, no_items, item, Statement, Assignment, Where, If, Do, Label, GoTo, Stop}
use Rattle.tree.specs.Plain.{Read, Print, Allocate, Deallocate, Arms, no_arms, arm, Block, no_statements, statement}
use Rattle.tree.specs.View.{ConstructorLoop, Tested}

abbrev pub without : List ℕ → List (List ℕ) → List (List ℕ)
without x [] = []
without x (y ∷ ys) = if bytes_eq y x then without x ys else y ∷ without x ys

-- ---- expressions

abbrev mutual
  pub read_in : Expression → List (List ℕ)
  read_in (Number n) = []
  read_in (Logic b) = []
  read_in (Named x ps) = x ∷ read_in_subscripts ps
  read_in (Unary o a) = read_in a
  read_in (Binary o a b) = read_in a ++ read_in b
  read_in (Apply f es) = read_in_each es
  read_in (Constructor es ls) = read_under ls (read_in_each es)
  read_in (Spread a k e) = read_in a ++ read_in e
  read_in (Transpose a) = read_in a
  read_in (Reshape a es) = read_in a ++ read_in_each es
  read_in (Reduce r a) = read_in a

  pub read_in_each : Expressions → List (List ℕ)
  read_in_each no_expressions = []
  read_in_each (expression e es) = read_in e ++ read_in_each es

  pub read_in_subscripts : Subscripts → List (List ℕ)
  read_in_subscripts no_subscripts = []
  read_in_subscripts (subscript p ps) = read_in_subscript p ++ read_in_subscripts ps

  pub read_in_subscript : Subscript → List (List ℕ)
  read_in_subscript (Only e) = read_in e
  read_in_subscript (Section a b c) = read_in a ++ (read_in b ++ read_in c)

  -- under the loops of a constructor, the innermost one first
  pub read_under : Loops → List (List ℕ) → List (List ℕ)
  read_under no_loops ns = ns
  read_under (loop x a b ls) ns = read_under ls (read_in a ++ (read_in b ++ without x ns))

-- one loop round what reads these names
abbrev pub read_round : ConstructorLoop → List (List ℕ) → List (List ℕ)
read_round l ns = read_in l.first ++ (read_in l.last ++ without l.variable ns)

-- ---- items, statements and blocks

-- the control of a DO or of an implied DO list, and a body that reads these names
abbrev pub read_in_loop : List ℕ → Expression → Expression → Expression → List (List ℕ) → List (List ℕ)
read_in_loop x a b c ns = read_in a ++ (read_in b ++ (read_in c ++ without x ns))

abbrev mutual
  pub read_in_item : Item → List (List ℕ)
  read_in_item (Single e) = read_in e
  read_in_item (Constant t) = []
  read_in_item (ImpliedDo is x a b c) = read_in_loop x a b c (read_in_items is)

  pub read_in_items : Items → List (List ℕ)
  read_in_items no_items = []
  read_in_items (item i is) = read_in_item i ++ read_in_items is

abbrev mutual
  pub read_in_statement : Statement → List (List ℕ)
  read_in_statement (Assignment line mark left right) = read_in_subscripts left.subscripts ++ read_in right
  read_in_statement (Where line mark m left right) =
      read_in m ++ (read_in_subscripts left.subscripts ++ read_in right)
  read_in_statement (If line arms other) = read_in_arms arms ++ read_in_block other
  read_in_statement (Do line x a b c body) = read_in_loop x a b c (read_in_block body)
  read_in_statement (Label n) = []
  read_in_statement (GoTo line n) = []
  read_in_statement (Stop line) = []
  read_in_statement (Read line is) = read_in_items is
  read_in_statement (Print line is) = read_in_items is
  read_in_statement (Allocate line x es) = read_in_each es
  read_in_statement (Deallocate line x) = []

  pub read_in_arms : Arms → List (List ℕ)
  read_in_arms no_arms = []
  read_in_arms (arm test body arms) = (read_in test ++ read_in_block body) ++ read_in_arms arms

  pub read_in_block : Block → List (List ℕ)
  read_in_block no_statements = []
  read_in_block (statement c cs) = read_in_statement c ++ read_in_block cs

abbrev pub read_in_arm : Tested → List (List ℕ)
read_in_arm t = read_in t.test ++ read_in_block t.body
