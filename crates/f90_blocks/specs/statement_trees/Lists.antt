-- The items of a list of PRINT or READ, from its parts.
use Rattle.std.specs.Prelude.{ℕ, Option, List, [], ◌∷◌, ◌++◌, map, reverse}
use Rattle.tree.specs.Plain.{Item, Single, Constant, ImpliedDo, items}
use Rattle.tree.specs.View.{item_of}
use Rattle.tree.specs.declared.functions.Intrinsic.{Intrinsic}
use Rattle.tree.specs.declared.stmts.Item as code
use Rattle.f90_grammar.specs.Items.{step_tree90}
use Rattle.f90_grammar.specs.Phrases.{tree_of}
use Rattle.f90_statement.specs.items.Flat.{Node, Of, Text, Begin, Turns}
use Rattle.f90_trees.specs.Building.{held}

-- the items so far of the innermost implied DO list, and of those round it
pub record Levels : Type 0 where
  pub inner : List Item
  pub outer : List (List Item)

abbrev pub levels : List Item → List (List Item) → Levels
levels is outer = record { inner = is; outer = outer }

abbrev pub ended : Item → List (List Item) → Levels
ended i [] = levels (i ∷ []) []
ended i (is ∷ outer) = levels (is ++ i ∷ []) outer

module _ (function : List ℕ → Option Intrinsic) where
  abbrev pub with_part : Node → Levels → Levels
  with_part (Of p) l = levels (l.inner ++ Single (held (tree_of function p)) ∷ []) l.outer
  with_part (Text t) l = levels (l.inner ++ Constant t ∷ []) l.outer
  with_part Begin l = levels [] (l.inner ∷ l.outer)
  with_part (Turns x a b c) l =
      ended (ImpliedDo (items l.inner) x (held (tree_of function a)) (held (tree_of function b))
      (held (step_tree90 function c))) l.outer

  abbrev pub with_parts : List Node → Levels → Levels
  with_parts [] l = l
  with_parts (n ∷ ns) l = with_parts ns (with_part n l)

-- what the code holds: the last of the outer ones is the innermost
abbrev pub levels_seen : List code.Item → List (List code.Item) → Levels
levels_seen inner outer = levels (map item_of inner) (reverse (map (map item_of) outer))
