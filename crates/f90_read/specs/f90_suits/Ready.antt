-- What is known of a text before its names and its kinds are asked about.
use Rattle.std.specs.Prelude.{◌≡◌, ℕ, false, None, List, []}
use Rattle.tree.specs.Plain.{Declaration}
use Rattle.meaning.specs.Typed.{declared}
use Rattle.f90_grammar.specs.Blocks.{Placed}
use Rattle.f90_grammar.specs.Contents.{SuitsCallsIn, has_wide_literal_in}
use Rattle.f90_grammar.specs.Forms.{Form90, IsWritten90}
use Rattle.f90_grammar.specs.Order.{Place90, IsPlaceIn}
use Rattle.f90_grammar.specs.Reading.{function_by}
use Rattle.f90_grammar.specs.Words.{Word90}
use Rattle.f90_blocks.specs.statement_trees.Executable.{IsMarked}
use Rattle.f90_trees.specs.Hiding.{function_in}
use Rattle.f90_trees.specs.declared.functions.Functions.{Functions}

-- the functions are those that these declarations leave, and no declared name is empty
pub record AreFunctionsOf (functions : Functions) (ds : List Declaration) : Type 0 where
  pub are : (x : List ℕ) → function_in functions x ≡ function_by ds x
  pub named : declared ds [] ≡ None

-- the statement is written in its form, with a mark only where it takes one; its calls have arguments that may stand
-- there, and none of its literals is too great
pub record IsReadyAt (ds : List Declaration) (p : Placed) : Type 0 where
  pub marked : IsMarked p
  pub written : (ws : List Word90) × IsWritten90 p.form ws
  pub calls : SuitsCallsIn (function_by ds) p.form
  pub narrow : has_wide_literal_in p.form ≡ false

pub record AreReady (functions : Functions) (ds : List Declaration) (ps : List Placed) : Type 0 where
  pub of_text : AreFunctionsOf functions ds
  pub each : (p : Place90) → IsPlaceIn ps p → IsReadyAt ds p.here

-- it holds of the form of each statement
abbrev pub HoldsOfAll : (Form90 → Type 0) → List Placed → Type 0
HoldsOfAll Good ps = (p : Place90) → IsPlaceIn ps p → Good p.here.form
