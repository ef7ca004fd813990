-- Why a card is refused.
use Rattle.std.specs.Prelude.{ℕ, Bool, true, false, nat_lt, List, Result, Ok, Err}
use Rattle.tree.specs.Causes.{number_of_cause, refusal_at}
use Rattle.tree.specs.Limits.{expression_depth77}
use Rattle.tree.specs.declared.refusals.Cause.TheVariants.{Syntax, OutOfProfile, WideLiteral, Deep}
use Rattle.tree.specs.declared.refusals.Refused.{Refused}
use Rattle.f77_grammar.specs.expressions.Squeezing.{Symbol77}
use Rattle.f77_grammar.specs.statements.Recognition.{HasWord}
use Rattle.f77_grammar.specs.declared.syntax.statements.Stmt77.{Stmt77}
use Rattle.f77_statement.specs.declared.formed.Formed.{Formed}

-- The number of the cause and that of the word, for a text that has no form.
pub data IsFormless (text : List Symbol77) : (number word : ℕ) → Type 0 where
  NoWord : ((word : ℕ) → HasWord text word → ⊥) → IsFormless text (number_of_cause Syntax) 0
  Word : (word : ℕ) → HasWord text word → IsFormless text (number_of_cause (OutOfProfile word)) word

-- a literal above 2^127-1 is refused first, and then what is too deep
abbrev pub limited_by : (wide deep : Bool) → Stmt77 → ℕ → Result Stmt77 Refused
limited_by true deep s line = Err (Refused.Refusal (refusal_at WideLiteral line))
limited_by false true s line = Err (Refused.Refusal (refusal_at Deep line))
limited_by false false s line = Ok s

abbrev pub limited : Formed → ℕ → Result Stmt77 Refused
limited made line = limited_by made.wide (nat_lt expression_depth77 made.depth) made.statement line
