-- The kinds of statements by which they are recognised.
use Rattle.std.specs.Prelude.{ℕ, Bool, true, false, List}
use Rattle.f77_grammar.specs.Statement77 as statement
use Rattle.f77_grammar.specs.Statement77.{Statement77}
use Rattle.f77_grammar.specs.expressions.Phrases.{Phrase77}
use Rattle.f77_grammar.specs.expressions.Squeezing.{Symbol77}
use Rattle.f77_grammar.specs.statements.Controls.{Control}
use Rattle.f77_grammar.specs.statements.Forms.{Form77, Assign, Do, PlainDo, IsWritten77}
use Rattle.f77_words.specs.keywords.Kinds.{HasKeyword}

-- the statement may be the inner one of a logical IF
abbrev pub is_inner : Statement77 → Bool
is_inner (statement.Assign left e) = true
is_inner (statement.Go n) = true
is_inner statement.Continue = true
is_inner statement.Stop = true
is_inner (statement.Read is) = true
is_inner (statement.Print is) = true
is_inner (statement.Program x) = false
is_inner statement.ImplicitNone = false
is_inner (statement.Declare k es) = false
is_inner (statement.Dimension es) = false
is_inner (statement.Constants ds) = false
is_inner (statement.Test c s) = false
is_inner (statement.If c) = false
is_inner (statement.ElseIf c) = false
is_inner statement.Else = false
is_inner statement.EndIf = false
is_inner (statement.Do label x a b c) = false
is_inner statement.EndDo = false
is_inner statement.End = false

-- The text is so written, and no condition stands before its statement.
pub data IsUnconditional (text : List Symbol77) : Form77 → Type 0 where
  Assignment : (l r : Phrase77) → IsWritten77 (Assign l r) text → IsUnconditional text (Assign l r)
  Loop : (label : List ℕ) (comma : Bool) (c : Control) → IsWritten77 (Do label comma c) text
      → IsUnconditional text (Do label comma c)
  PlainLoop : (c : Control) → IsWritten77 (PlainDo c) text → IsUnconditional text (PlainDo c)
  OfKeyword : (f : Form77) → HasKeyword f → IsWritten77 f text → IsUnconditional text f
