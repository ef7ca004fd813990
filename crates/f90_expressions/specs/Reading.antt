-- What it is for words to begin with an expression.
use Rattle.std.specs.Prelude.{◌≡◌, List, ◌++◌, Result, Ok, Err}
use Rattle.std.specs.Borrow.{Bor}
use Rattle.f90_grammar.specs.Phrases.{Phrase90, IsExpression90, written90, phrase_depth90}
use Rattle.f90_grammar.specs.Words.{Word90}
use Rattle.f90_expressions.specs.words.Tokens.{words_of}
use Rattle.f90_expressions.specs.declared.words.tokens.Token.{Token}
use Rattle.reading.specs.declared.stops.Stop.{Stop}
use Rattle.reading.specs.declared.stops.Stop.TheVariants.{Syntax, Memory}
use Rattle.f90_expressions.specs.Flat.{flat}
use Rattle.f90_expressions.specs.Machine.{counted}
use Rattle.f90_expressions.specs.Views.{nodes_seen}
use Rattle.f90_expressions.specs.declared.nodes.Expression.{Expression}

-- its list, and its depth
pub record IsMadeOf (e : Expression) (p : Phrase90) : Type 0 where
  pub nodes : nodes_seen e.nodes ≡ flat p
  pub depth : e.depth ≡ counted (phrase_depth90 p)

-- the words are an expression, of which that was made, and a rest
pub record Begins (ws : List Word90) (e : Expression) (rest : List Word90) : Type 0 where
  pub phrase : Phrase90
  pub good : IsExpression90 phrase
  pub is : IsMadeOf e phrase
  pub same : ws ≡ written90 phrase ++ rest

-- that expression and that rest are returned, unless memory ran out
abbrev pub Gives : Result (Expression × Bor (List Token)) Stop → Phrase90 → List Word90 → Type 0
Gives (Ok r) p rest = IsMadeOf r.0 p × (words_of r.1.now ≡ rest)
Gives (Err Syntax) p rest = ⊥
Gives (Err Memory) p rest = Unit {0}
