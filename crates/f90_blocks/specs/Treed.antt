-- What the code holds of statements.
use Rattle.std.specs.Prelude.{◌≡◌, ℕ, false, Option, None, List}
use Rattle.tree.specs.declared.functions.Intrinsic.{Intrinsic}
use Rattle.f90_grammar.specs.Blocks.{Placed}
use Rattle.f90_grammar.specs.Order.{Place90, IsPlaceIn}
use Rattle.f90_grammar.specs.Reading.{takes_mark}
use Rattle.f90_blocks.specs.statement_trees.Trees.{IsTreeIn}
use Rattle.f90_blocks.specs.declared.nodes.Treed.{Treed}

-- `function` says which names are functions
pub record IsTreedOf (function : List ℕ → Option Intrinsic) (t : Treed) (p : Placed) : Type 0 where
  pub line : t.line ≡ p.line
  pub is : IsTreeIn function t.tree p

-- no statement has a mark but those that take one
abbrev pub MarksAreTaken : List Placed → Type 0
MarksAreTaken ps = (p : Place90) → IsPlaceIn ps p → takes_mark p.here.form ≡ false → p.here.mark ≡ None
