-- What it is for words to begin with an expression, and to be one.
use Rattle.std.specs.Prelude.{◌≡◌, List, [], ◌∷◌, ◌++◌, Result, Ok, Err}
use Rattle.std.specs.Borrow.{Bor}
use Rattle.tree.specs.View.{expression_of}
use Rattle.f77_grammar.specs.expressions.Phrases.{Phrase77, IsExpression77, written77, tree77_of, phrase_depth77}
use Rattle.tree.specs.Plain.{Expression}
use Rattle.f77_grammar.specs.expressions.Printing.{phrase_of}
use Rattle.f77_grammar.specs.expressions.Reading.{IsWide, IsDeep}
use Rattle.f77_grammar.specs.expressions.Words as words
use Rattle.f77_grammar.specs.expressions.Words.{Word77}
use Rattle.tree.specs.declared.exprs.Expr.{Expr}
use Rattle.f77_expressions.specs.declared.expressions.Unread.{Unread}
use Rattle.f77_expressions.specs.declared.expressions.Unread.TheVariants.{NoExpression, WideLiteral, Deep, OutOfMemory}
use Rattle.f77_expressions.specs.declared.operands.Operand.{Operand}
use Rattle.reading.specs.declared.stops.Stop.{Stop}
use Rattle.reading.specs.declared.stops.Stop.TheVariants.{Syntax, Memory}
use Rattle.f77_expressions.specs.declared.tokens.Token.{Token}
use Rattle.f77_expressions.specs.Reader.{capped}
use Rattle.f77_expressions.specs.Views.{words_of}

-- what may stand behind a whole expression
abbrev pub Ends : List Word77 → Type 0
Ends [] = Unit {0}
Ends (words.Close ∷ ws) = Unit {0}
Ends (words.Comma ∷ ws) = Unit {0}
Ends (words.Equals ∷ ws) = Unit {0}
Ends (words.Colon ∷ ws) = Unit {0}
Ends (w ∷ ws) = ⊥

-- what was made of a phrase
pub record IsMadeOf (m : Operand) (p : Phrase77) : Type 0 where
  pub tree : expression_of m.tree ≡ tree77_of p
  pub depth : m.depth ≡ capped (phrase_depth77 p)

-- The words are an expression, of which the operand was made, and a rest.
pub record Begins (ws : List Word77) (m : Operand) (rest : List Word77) : Type 0 where
  pub phrase : Phrase77
  pub good : IsExpression77 phrase
  pub is : IsMadeOf m phrase
  pub same : ws ≡ written77 phrase ++ rest

-- That expression and that rest are returned, unless memory ran out.
abbrev pub Gives : Result (Operand × Bor (List Token)) Stop → Phrase77 → List Word77 → Type 0
Gives (Ok r) p rest = IsMadeOf r.0 p × (words_of r.1.now ≡ rest)
Gives (Err Syntax) p rest = ⊥
Gives (Err Memory) p rest = Unit {0}

-- The words are an expression, of which the operand was made.
abbrev pub Is : List Word77 → Operand → Type 0
Is ws m = Begins ws m []

-- That operand is returned, unless memory ran out.
abbrev pub GivesWhole : Result Operand Stop → Phrase77 → Type 0
GivesWhole (Ok m) p = IsMadeOf m p
GivesWhole (Err Syntax) p = ⊥
GivesWhole (Err Memory) p = Unit {0}

-- What is said of characters that spell an expression: the first cause of a refusal, or its tree.
abbrev pub Answers : Result Expr Unread → Phrase77 → Type 0
Answers (Ok e) p = (expression_of e ≡ tree77_of p) × ¬ IsWide p × ¬ IsDeep p
Answers (Err NoExpression) p = ⊥
Answers (Err WideLiteral) p = IsWide p
Answers (Err Deep) p = ¬ IsWide p × IsDeep p
Answers (Err OutOfMemory) p = Unit {0}

abbrev pub unread_of : Stop → Unread
unread_of Syntax = NoExpression
unread_of Memory = OutOfMemory

-- What is said of a tree's own text: the tree, or that it is too deep.
abbrev pub ReadsBack : Result Expr Unread → Expression → Type 0
ReadsBack (Ok t) e = expression_of t ≡ e
ReadsBack (Err NoExpression) e = ⊥
ReadsBack (Err WideLiteral) e = ⊥
ReadsBack (Err Deep) e = IsDeep (phrase_of e)
ReadsBack (Err OutOfMemory) e = Unit {0}
