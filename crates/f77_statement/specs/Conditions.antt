-- What stands behind the parenthesis of an IF.
use Rattle.std.specs.Prelude.{◌≡◌, List, codes}
use Rattle.f77_grammar.specs.expressions.Phrases.{Phrase77, IsExpression77, written77}
use Rattle.f77_grammar.specs.expressions.Spelling.{AreWords77, chars77}
use Rattle.f77_grammar.specs.expressions.Squeezing.{Symbol77}
use Rattle.f77_grammar.specs.statements.Forms.{Form77, Test, If, IsWritten77, IsInner77}

-- The form has this condition, and this rest behind its parenthesis.
pub data IsBehindIf (condition rest : List Symbol77) : Form77 → Type 0 where
  Block : (p : Phrase77) → AreWords77 condition (written77 p) → IsExpression77 p → rest ≡ chars77 (codes "THEN")
      → IsBehindIf condition rest (If p)
  Logical : (p : Phrase77) (f : Form77) → AreWords77 condition (written77 p) → IsExpression77 p → IsWritten77 f rest
      → IsInner77 f
      → IsBehindIf condition rest (Test p f)
