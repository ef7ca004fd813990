-- How deep an expression is as it is printed: each operator, each list in parentheses and each parenthesis that it
-- needs counts one for what stands in it (own; the levels of operators are those of ISO/IEC 1539:1991, section 7.3).
use Rattle.std.specs.Prelude.{ℕ, ◌+◌, max, nat_le, if◌then◌else◌}
use Rattle.tree.specs.OperatorTable.{level_of, left_least, right_least}
use Rattle.tree.specs.Plain.{Expression, Number, Logic, Named, Unary, Binary, Apply, Constructor, Spread, Transpose}
use Rattle.tree.specs.Plain.{Reshape, Reduce}
use Rattle.tree.specs.Plain.{Expressions, no_expressions, expression, Subscript, Only, Section, Subscripts}
use Rattle.tree.specs.Plain.{no_subscripts, subscript}
use Rattle.tree.specs.Plain.{Loops, no_loops, loop, Item, Single, Constant, ImpliedDo, Items, no_items, item}

-- ---- which operands need parentheses

-- the level of its outermost operator, and more than that of any where it has none
abbrev pub level : Expression → ℕ
level (Unary o a) = level_of o
level (Binary o a b) = level_of o
level _ = 10

-- `n` deep, and one more in parentheses, which are needed where what stands there doesn't bind tightly enough
abbrev pub enclosed : ℕ → ℕ → ℕ → ℕ
enclosed least own n = if nat_le least own then n else 1 + n

-- ---- expressions

abbrev mutual
  pub depth_of : Expression → ℕ
  depth_of (Number n) = 0
  depth_of (Logic b) = 0
  depth_of (Named x ps) = depth_of_subscripts ps
  depth_of (Unary o a) = 1 + enclosed (right_least o) (level a) (depth_of a)
  depth_of (Binary o a b) =
      1 + max (enclosed (left_least o) (level a) (depth_of a)) (enclosed (right_least o) (level b) (depth_of b))
  depth_of (Apply f es) = 1 + depth_of_each es
  depth_of (Constructor es ls) = 1 + depth_under ls (depth_of_each es)
  depth_of (Spread a d n) = 1 + max (depth_of a) (depth_of n)
  depth_of (Transpose a) = 1 + depth_of a
  depth_of (Reshape a es) = 1 + max (depth_of a) (1 + depth_of_each es)
  depth_of (Reduce r a) = 1 + depth_of a

  pub depth_of_each : Expressions → ℕ
  depth_of_each no_expressions = 0
  depth_of_each (expression e es) = max (depth_of e) (depth_of_each es)

  -- a name without subscripts has no list
  pub depth_of_subscripts : Subscripts → ℕ
  depth_of_subscripts no_subscripts = 0
  depth_of_subscripts (subscript p ps) = max (1 + depth_of_subscript p) (depth_of_subscripts ps)

  pub depth_of_subscript : Subscript → ℕ
  depth_of_subscript (Only e) = depth_of e
  depth_of_subscript (Section a b c) = max (depth_of a) (max (depth_of b) (depth_of c))

  -- of values `n` deep under the loops of a constructor, each of which has a parenthesis
  pub depth_under : Loops → ℕ → ℕ
  depth_under no_loops n = n
  depth_under (loop x a b ls) n = depth_under ls (1 + max n (max (depth_of a) (depth_of b)))

-- ---- items of lists: an implied DO has a parenthesis

abbrev mutual
  pub depth_of_item : Item → ℕ
  depth_of_item (Single e) = depth_of e
  depth_of_item (Constant t) = 0
  depth_of_item (ImpliedDo is x a b c) = 1 + max (depth_of_items is) (max (depth_of a) (max (depth_of b) (depth_of c)))

  pub depth_of_items : Items → ℕ
  depth_of_items no_items = 0
  depth_of_items (item i is) = max (depth_of_item i) (depth_of_items is)
