-- How assignments and DO statements are recognised.
use Rattle.std.specs.Prelude.{◌≡◌, true, false, List}
use Rattle.f77_grammar.specs.expressions.Squeezing.{Symbol77}
use Rattle.f77_grammar.specs.statements.Forms.{Form77, Program, ImplicitNone, Declare, Dimension, Constants, Assign, Go}
use Rattle.f77_grammar.specs.statements.Forms.{Test, If, ElseIf, Else, EndIf, Do, PlainDo, EndDo, Continue, Stop, Read}
use Rattle.f77_grammar.specs.statements.Forms.{ReadNothing, Print, PrintNothing, End}
use Rattle.f77_grammar.specs.statements.Recognition.{IsConditional, has_equals_outside}
use Rattle.f77_words.specs.keywords.Outside.{has_comma_outside}

-- an equals sign outside parentheses, and no comma outside parentheses behind it
pub record IsOfAssignment (text : List Symbol77) : Type 0 where
  pub unconditional : (condition rest : List Symbol77) → IsConditional text condition rest → ⊥
  pub equals : has_equals_outside text 0 ≡ true
  pub no_comma : has_comma_outside text 0 false ≡ false

-- an equals sign outside parentheses, and a comma outside parentheses behind it
pub record IsOfLoop (text : List Symbol77) : Type 0 where
  pub unconditional : (condition rest : List Symbol77) → IsConditional text condition rest → ⊥
  pub equals : has_equals_outside text 0 ≡ true
  pub comma : has_comma_outside text 0 false ≡ true

-- the form is recognised by its keyword: neither by a condition nor by an equals sign outside parentheses
abbrev pub HasKeyword : Form77 → Type 0
HasKeyword (Assign l r) = ⊥
HasKeyword (Test p f) = ⊥
HasKeyword (If p) = ⊥
HasKeyword (Do label comma c) = ⊥
HasKeyword (PlainDo c) = ⊥
HasKeyword (Program x) = Unit {0}
HasKeyword ImplicitNone = Unit {0}
HasKeyword (Declare k es) = Unit {0}
HasKeyword (Dimension es) = Unit {0}
HasKeyword (Constants ds) = Unit {0}
HasKeyword (Go label) = Unit {0}
HasKeyword (ElseIf p) = Unit {0}
HasKeyword Else = Unit {0}
HasKeyword EndIf = Unit {0}
HasKeyword EndDo = Unit {0}
HasKeyword Continue = Unit {0}
HasKeyword Stop = Unit {0}
HasKeyword (Read is) = Unit {0}
HasKeyword ReadNothing = Unit {0}
HasKeyword (Print is) = Unit {0}
HasKeyword PrintNothing = Unit {0}
HasKeyword End = Unit {0}
