-- The lines of statements rise.
use Rattle.std.specs.Prelude.{◌<◌, ℕ, List, ◌∷◌, ◌++◌, length}
use Rattle.std.specs.Str.Lines.{lines}
use Rattle.f90_grammar.specs.FreeForm.{FreeStatement, AreStatements}
use Rattle.f90_grammar.specs.Blocks.{Placed}
use Rattle.f90_grammar.specs.Order.{Place90, IsPlaceIn}
use Rattle.f90_grammar.specs.Reading.{AreStatementsOf}

-- a statement of a text begins in a later line than one that stands before it
abbrev pub StatementsRise : Type 0
StatementsRise = (text : List ℕ) (before between after : List FreeStatement) (s t : FreeStatement)
    → AreStatements 1 (lines text) (before ++ s ∷ (between ++ t ∷ after)) → s.line < t.line

-- so too where they have their forms
abbrev pub PlacesRise : Type 0
PlacesRise =
    (text : List ℕ) (ps : List Placed) (p q : Place90) → AreStatementsOf text ps → IsPlaceIn ps p → IsPlaceIn ps q
    → length p.before < length q.before → p.here.line < q.here.line
