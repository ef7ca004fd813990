-- The numbers of the references of a statement: 0 is the left side, then come those of the guard, of the subscripts of
-- the left side and of the right side, as a graph numbers them.
use Rattle.std.specs.Prelude.{ℕ, suc, ◌+◌, Bool, true, false, ◌&&◌, Option, List, length, map}
use Rattle.tree.specs.Plain.{Expression, Expressions, Number, Logic, Named, Unary, Binary, Apply, Constructor}
use Rattle.tree.specs.Plain.{Spread, Transpose, Reshape, Reduce, Subscript, Subscripts}
use Rattle.nest.specs.Plain.{Guarded, Loop}
use Rattle.dependence_graph.specs.nest_graph.References.{has_no_subscript, is_among, references_in, references_in_all}
use Rattle.dependence_graph.specs.nest_graph.References.{references_in_guard, references_in_subscript}
use Rattle.dependence_graph.specs.nest_graph.References.{references_in_subscripts}

-- the variables of loops, from the outside in
abbrev pub variables_from_outside : List Loop → List (List ℕ)
variables_from_outside ls = map (λ (l : Loop). l.variable) ls

-- how many references there are, where the loops round the statement have these variables
module _ (loops : List (List ℕ)) where
  abbrev pub count : Expression → ℕ
  count e = length (references_in loops e)

  abbrev pub count_all : Expressions → ℕ
  count_all es = length (references_in_all loops es)

  abbrev pub count_subscript : Subscript → ℕ
  count_subscript s = length (references_in_subscript loops s)

  abbrev pub count_in_subscripts : Subscripts → ℕ
  count_in_subscripts ss = length (references_in_subscripts loops ss)

  abbrev pub count_guard : Option Expression → ℕ
  count_guard g = length (references_in_guard loops g)

  -- the variable of a loop is no reference
  abbrev pub is_counter : List ℕ → Subscripts → Bool
  is_counter x ss = has_no_subscript ss && is_among loops x

  -- the number of the first one in the subscripts of the left side
  abbrev pub first_in_left : Guarded → ℕ
  first_in_left g = suc (count_guard g.guard)

  -- and in the right side
  abbrev pub first_in_right : Guarded → ℕ
  first_in_right g = first_in_left g + count_in_subscripts g.left.subscripts

-- a right side that is one reference as a whole
abbrev pub is_item : Expression → Bool
is_item (Number n) = false
is_item (Logic b) = false
is_item (Named x ss) = true
is_item (Unary o a) = false
is_item (Binary o a b) = false
is_item (Apply f es) = false
is_item (Constructor es ls) = false
is_item (Spread a n e) = false
is_item (Transpose a) = false
is_item (Reshape a es) = false
is_item (Reduce r a) = false
