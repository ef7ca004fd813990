-- The first value, the last one and the step of a loop.
use Rattle.std.specs.Prelude.{◌≡◌, List, [], ◌∷◌, ◌++◌, Option, Some, None, Result, Ok, Err}
use Rattle.std.specs.Borrow.{Bor}
use Rattle.f90_grammar.specs.Phrases.{Phrase90, IsExpression90, written90}
use Rattle.f90_grammar.specs.Items.{IsStep90, written_step90}
use Rattle.f90_grammar.specs.Words as words
use Rattle.f90_grammar.specs.Words.{Word90}
use Rattle.f90_expressions.specs.words.Tokens.{words_of}
use Rattle.f90_expressions.specs.declared.words.tokens.Token.{Token}
use Rattle.reading.specs.declared.stops.Stop.{Stop}
use Rattle.reading.specs.declared.stops.Stop.TheVariants.{Syntax, Memory}
use Rattle.f90_expressions.specs.Reading.{IsMadeOf}
use Rattle.f90_expressions.specs.declared.nodes.Expression.{Expression}
use Rattle.f90_statement.specs.declared.items.parts.bounds.Bounds.{Bounds}

-- they are expressions
pub record AreBounds (a b : Phrase90) (c : Option Phrase90) : Type 0 where
  pub first : IsExpression90 a
  pub last : IsExpression90 b
  pub step : IsStep90 c

abbrev pub IsStepOf : Option Expression → Option Phrase90 → Type 0
IsStepOf None None = Unit {0}
IsStepOf (Some e) (Some p) = IsMadeOf e p
IsStepOf _ _ = ⊥

-- made of them
pub record AreBoundsOf (k : Bounds) (a b : Phrase90) (c : Option Phrase90) : Type 0 where
  pub first : IsMadeOf k.first a
  pub last : IsMadeOf k.last b
  pub step : IsStepOf k.step c

-- with the words behind them
abbrev pub bounds_before : Phrase90 → Phrase90 → Option Phrase90 → List Word90 → List Word90
bounds_before a b c rest = written90 a ++ (words.Comma ∷ (written90 b ++ (written_step90 c ++ rest)))

-- what may stand behind them
abbrev pub EndsBounds : List Word90 → Type 0
EndsBounds [] = Unit {0}
EndsBounds (words.Close ∷ ws) = Unit {0}
EndsBounds ws = ⊥

-- the words are such bounds, of which that was made, and a rest
pub record BeginsWithBounds (ws : List Word90) (k : Bounds) (rest : List Word90) : Type 0 where
  pub from : Phrase90
  pub to : Phrase90
  pub by : Option Phrase90
  pub good : AreBounds from to by
  pub are : AreBoundsOf k from to by
  pub same : ws ≡ bounds_before from to by rest

-- those bounds and that rest are returned, unless memory ran out
abbrev pub GivesBounds : Result (Bounds × Bor (List Token)) Stop → Phrase90 → Phrase90 → Option Phrase90 → List Word90
    → Type 0
GivesBounds (Ok r) a b c rest = AreBoundsOf r.0 a b c × (words_of r.1.now ≡ rest)
GivesBounds (Err Syntax) a b c rest = ⊥
GivesBounds (Err Memory) a b c rest = Unit {0}

-- ---- the step alone, with its comma

pub record BeginsWithStep (ws : List Word90) (e : Option Expression) (rest : List Word90) : Type 0 where
  pub by : Option Phrase90
  pub good : IsStep90 by
  pub is : IsStepOf e by
  pub same : ws ≡ written_step90 by ++ rest

abbrev pub GivesStep : Result (Option Expression × Bor (List Token)) Stop → Option Phrase90 → List Word90 → Type 0
GivesStep (Ok r) c rest = IsStepOf r.0 c × (words_of r.1.now ≡ rest)
GivesStep (Err Syntax) c rest = ⊥
GivesStep (Err Memory) c rest = Unit {0}
