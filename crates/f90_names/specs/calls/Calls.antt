-- Whether calls have arguments that may stand there.
use Rattle.std.specs.Prelude.{◌↔◌, ℕ, Bool, IsTrue, Option, List, ◌∷◌, Result, Ok, Err}
use Rattle.std.specs.List.{AllByRecursion}
use Rattle.tree.specs.declared.functions.Intrinsic.{Intrinsic}
use Rattle.tree.specs.declared.lists.Memory.{Memory}
use Rattle.f90_grammar.specs.Contents.{VariableSuitsCalls, step_expressions, items_expressions, items_variables}
use Rattle.f90_grammar.specs.Items as items
use Rattle.f90_grammar.specs.Items.{ItemPhrases90}
use Rattle.f90_grammar.specs.Phrases.{Phrase90, SuitsCalls}
use Rattle.f90_statement.specs.items.Flat.{Node, Of, Text, Begin, Turns}
use Rattle.f90_statement.specs.declared.items.nodes.Direction.{Direction}
use Rattle.f90_statement.specs.declared.items.nodes.Direction.TheVariants.{Input, Output}

-- the answer says whether it holds, unless memory ran out
abbrev pub Tells : Result Bool Memory → Type 0 → Type 0
Tells (Ok b) Holds = IsTrue b ↔ Holds
Tells (Err e) Holds = Unit {0}

module _ (function : List ℕ → Option Intrinsic) where
  -- a part of a list; what is read into is stored into
  abbrev pub NodeSuits : Direction → Node → Type 0
  NodeSuits Input (Of p) = VariableSuitsCalls function p
  NodeSuits Output (Of p) = SuitsCalls function p
  NodeSuits d (Text t) = Unit {0}
  NodeSuits d Begin = Unit {0}
  NodeSuits d (Turns x a b c) = AllByRecursion (SuitsCalls function) (a ∷ (b ∷ step_expressions c))

  -- the expressions of a list, and what is read into
  abbrev pub ListSuits : Direction → ItemPhrases90 → Type 0
  ListSuits Input is =
      AllByRecursion (SuitsCalls function) (items_expressions items.Input is)
      × AllByRecursion (VariableSuitsCalls function) (items_variables is)
  ListSuits Output is = AllByRecursion (SuitsCalls function) (items_expressions items.Output is)

  abbrev pub AssignmentSuits : Phrase90 → Phrase90 → Type 0
  AssignmentSuits l r = SuitsCalls function r × VariableSuitsCalls function l
