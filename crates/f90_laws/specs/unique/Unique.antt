-- No list of words is written for two statements of Fortran 90, nor for two expressions (ISO/IEC 1539:1991, sections 3
-- and 7.1).
use Rattle.std.specs.Prelude.{◌≡◌, ℕ, Option, List, ◌∷◌, ◌++◌, false}
use Rattle.tree.specs.declared.stmts.Mark.{Mark}
use Rattle.tree.specs.OperatorTable.{stands_between}
use Rattle.f90_grammar.specs.Words as words
use Rattle.f90_grammar.specs.Words.{Word90, HasWords}
use Rattle.f90_grammar.specs.Phrases.{Phrase90, IsExpression90, written90}
use Rattle.f90_grammar.specs.Items.{Direction, ItemPhrases90, AreItems90, written_items90}
use Rattle.f90_grammar.specs.Forms.{Form90, IsWritten90}
use Rattle.f90_grammar.specs.FreeForm.{FreeStatement}
use Rattle.f90_grammar.specs.Blocks.{Placed}
use Rattle.f90_grammar.specs.Reading.{AreStatementsOf, HaveForms}
use Rattle.f90_grammar.specs.Refusals.{IsFormOf90}

-- no operator that stands between two operands, so these words don't go on an expression
abbrev pub EndsExpression : List Word90 → Type 0
EndsExpression (words.Operator o ∷ ws) = stands_between o ≡ false
EndsExpression ws = Unit {0}

-- of two expressions that have the same words, each with words behind it, both are one, and so is what stands behind
abbrev pub OnePhrase : Type 0
OnePhrase = (p q : Phrase90) (rest others : List Word90) → IsExpression90 p → IsExpression90 q → EndsExpression rest
    → EndsExpression others → written90 p ++ rest ≡ written90 q ++ others → (p ≡ q) × (rest ≡ others)

-- two lists of PRINT or READ that have the same words are one
abbrev pub OneItems : Type 0
OneItems = (d e : Direction) (is js : ItemPhrases90) → AreItems90 d is → AreItems90 e js
    → written_items90 is ≡ written_items90 js → is ≡ js

-- two statements that have the same words are one
abbrev pub OneForm : Type 0
OneForm = (f g : Form90) (ws : List Word90) → IsWritten90 f ws → IsWritten90 g ws → f ≡ g

-- the characters of a statement have one list of words
abbrev pub OneWords : Type 0
OneWords = (cs : List ℕ) (ws vs : List Word90) → HasWords cs ws → HasWords cs vs → ws ≡ vs

-- a statement of a text has one form
abbrev pub OneStatement : Type 0
OneStatement = (s : FreeStatement) (f g : Form90) → IsFormOf90 s f → IsFormOf90 s g → f ≡ g

-- the statements of a text have their forms, lines and marks in one way
abbrev pub OneReading : Type 0
OneReading = (pending : Option Mark) (ss : List FreeStatement) (ps qs : List Placed) → HaveForms pending ss ps
    → HaveForms pending ss qs → ps ≡ qs

-- the lines of a text have their statements, and these their forms, in one way
abbrev pub OneText : Type 0
OneText = (text : List ℕ) (ps qs : List Placed) → AreStatementsOf text ps → AreStatementsOf text qs → ps ≡ qs
