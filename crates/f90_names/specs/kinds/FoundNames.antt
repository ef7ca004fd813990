-- Whether the names of a tree are known, from what is known of each name.
use Rattle.std.specs.Prelude.{ℕ, ◌==◌, Bool, true, false, not, ◌&&◌, ◌||◌, is_some, Option, None, Some, List}
use Rattle.tree.specs.Plain.{Expression, Number, Logic, Named, Unary, Binary, Apply, Constructor, Spread, Transpose}
use Rattle.tree.specs.Plain.{Reshape, Reduce, Expressions, no_expressions, expression, Subscript, Only, Section}
use Rattle.tree.specs.Plain.{Subscripts, no_subscripts, subscript, Loops, no_loops, loop, Reference}
use Rattle.tree.specs.Plain.{Item, Single, Constant, ImpliedDo, Items, no_items, item}
use Rattle.tree.specs.Functions.{intrinsic_named}
use Rattle.meaning.specs.Typed.{number_of_subscripts}
use Rattle.f90_grammar.specs.Items.{Direction, Input, Output}
use Rattle.f90_names.specs.declared.kinds.declarations.names.Declared.{Declared}

-- a name with so many subscripts
abbrev pub is_known : Option Declared → ℕ → Bool
is_known None n = false
is_known (Some d) n = n == 0 || n == d.rank

-- with subscripts it may be the name of a function
abbrev pub is_known_or_function : Option Declared → List ℕ → ℕ → Bool
is_known_or_function None x n = not (n == 0) && is_some (intrinsic_named x)
is_known_or_function (Some d) x n = n == 0 || n == d.rank

module _ (known : List ℕ → Option Declared) where
  abbrev mutual
    pub knows : Expression → Bool
    knows (Number n) = true
    knows (Logic b) = true
    knows (Named x ps) = is_known_or_function (known x) x (number_of_subscripts ps) && knows_subscripts ps
    knows (Unary o a) = knows a
    knows (Binary o a b) = knows a && knows b
    knows (Apply f es) = knows_all es
    knows (Constructor es ls) = knows_all es && knows_loops ls
    knows (Spread a d n) = knows a && knows n
    knows (Transpose a) = knows a
    knows (Reshape a es) = knows a && knows_all es
    knows (Reduce r a) = knows a

    pub knows_all : Expressions → Bool
    knows_all no_expressions = true
    knows_all (expression e es) = knows e && knows_all es

    pub knows_subscripts : Subscripts → Bool
    knows_subscripts no_subscripts = true
    knows_subscripts (subscript p ps) = knows_subscript p && knows_subscripts ps

    pub knows_subscript : Subscript → Bool
    knows_subscript (Only e) = knows e
    knows_subscript (Section a b c) = knows a && (knows b && knows c)

    pub knows_loops : Loops → Bool
    knows_loops no_loops = true
    knows_loops (loop x a b ls) = (is_known (known x) 0 && (knows a && knows b)) && knows_loops ls

  abbrev pub knows_reference : Reference → Bool
  knows_reference r = is_known (known r.name) (number_of_subscripts r.subscripts) && knows_subscripts r.subscripts

  abbrev pub knows_single : Direction → Expression → Bool
  knows_single Output e = knows e
  knows_single Input (Named x ps) = is_known (known x) (number_of_subscripts ps) && knows_subscripts ps
  knows_single Input e = false

  abbrev mutual
    pub knows_item : Direction → Item → Bool
    knows_item d (Single e) = knows_single d e
    knows_item d (Constant t) = true
    knows_item d (ImpliedDo is x a b c) = knows_items d is && (knows a && (knows b && knows c))

    pub knows_items : Direction → Items → Bool
    knows_items d no_items = true
    knows_items d (item i is) = knows_item d i && knows_items d is
