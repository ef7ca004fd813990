-- The statements of a text that have no form, and those of a text in which each has one.
use Rattle.std.specs.Prelude.{◌≡◌, ℕ, Option, Some, None, List, ◌∷◌, ◌++◌, Result, Ok, Err, Contains}
use Rattle.std.specs.List.{AllByRecursion}
use Rattle.tree.specs.Causes.{refusal_at}
use Rattle.tree.specs.declared.functions.Intrinsic.{Intrinsic}
use Rattle.tree.specs.declared.lists.Memory.{Memory}
use Rattle.tree.specs.declared.refusals.Cause.TheVariants.{Syntax90}
use Rattle.tree.specs.declared.refusals.Refusal.{Refusal}
use Rattle.f90_grammar.specs.Blocks as grammar
use Rattle.f90_grammar.specs.Contents.{SuitsCallsIn}
use Rattle.f90_grammar.specs.Declared.{functions_in}
use Rattle.f90_grammar.specs.Forms.{Form90}
use Rattle.f90_grammar.specs.FreeForm.{FreeStatement}
use Rattle.f90_grammar.specs.Reading.{HaveForms}
use Rattle.f90_grammar.specs.Refusals.{IsFormOf90, HasNoForm90}
use Rattle.f90_blocks.specs.places.forms.Places.{IsPlacedOf}
use Rattle.f90_blocks.specs.declared.places.forms.placing.Placed.{Placed}
use Rattle.f90_statement.specs.Views.{AreOf}

-- the refusal is that of a statement without a form
pub record IsFormless (ss : List FreeStatement) (r : Refusal) : Type 0 where
  pub statement : FreeStatement
  pub stands : Contains ss statement
  pub none : HasNoForm90 ss statement
  pub refusal : r ≡ refusal_at Syntax90 statement.line

-- the statements have these forms, lines and marks, and each call in them has arguments that may stand there
pub record HaveSuitedForms (ss : List FreeStatement) (text : List Placed) : Type 0 where
  pub placed : List grammar.Placed
  pub are : AreOf IsPlacedOf text placed
  pub have : HaveForms None ss placed
  pub calls : AllByRecursion (λ (p : grammar.Placed). SuitsCallsIn (functions_in placed) p.form) placed

-- ---- where these names are functions

-- the statement has a form in which each call has arguments that may stand there
pub record HasSuitedForm (function : List ℕ → Option Intrinsic) (s : FreeStatement) : Type 0 where
  pub form : Form90
  pub is : IsFormOf90 s form
  pub suits : SuitsCallsIn function form

-- the first statement that has none begins in the line
pub record IsFirstFormless (function : List ℕ → Option Intrinsic) (ss : List FreeStatement) (line : ℕ) : Type 0 where
  pub before : List FreeStatement
  pub statement : FreeStatement
  pub after : List FreeStatement
  pub in_text : ss ≡ before ++ statement ∷ after
  pub suited : AllByRecursion (HasSuitedForm function) before
  pub formless : HasSuitedForm function statement → ⊥
  pub line_is : line ≡ statement.line

-- the first is found, or each statement has one, unless memory ran out
abbrev pub FindsFormless : (List ℕ → Option Intrinsic) → List FreeStatement → Result (Option ℕ) Memory → Type 0
FindsFormless function ss (Ok (Some line)) = IsFirstFormless function ss line
FindsFormless function ss (Ok None) = AllByRecursion (HasSuitedForm function) ss
FindsFormless function ss (Err e) = Unit {0}
