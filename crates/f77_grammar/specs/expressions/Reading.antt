-- What it is for characters to be an expression.
use Rattle.std.specs.Prelude.{ℕ, ◌≡◌, ◌<◌, List, IsTrue}
use Rattle.std.specs.List.{list_any}
use Rattle.tree.specs.Limits.{expression_depth77}
use Rattle.tree.specs.Plain.{Expression}
use Rattle.f77_grammar.specs.expressions.Phrases.{Phrase77, IsExpression77, written77, tree77_of, phrase_depth77}
use Rattle.f77_grammar.specs.expressions.Spelling.{AreWords77}
use Rattle.f77_grammar.specs.expressions.Squeezing.{Symbol77, Squeezed}
use Rattle.f77_grammar.specs.expressions.Words.{is_wide_word}

-- The characters of a statement, or of a part of it, spell an expression.
pub record Spells (chars : List ℕ) (p : Phrase77) : Type 0 where
  pub symbols : List Symbol77
  pub squeezed : Squeezed chars symbols
  pub words : AreWords77 symbols (written77 p)
  pub good : IsExpression77 p

-- a literal of it is above 2^127-1
abbrev pub IsWide : Phrase77 → Type 0
IsWide p = IsTrue (list_any is_wide_word (written77 p))

-- operators, parentheses and lists stand in one another too deep
abbrev pub IsDeep : Phrase77 → Type 0
IsDeep p = expression_depth77 < phrase_depth77 p

-- The characters are read as an expression.
pub record ReadsAs (chars : List ℕ) (e : Expression) : Type 0 where
  pub phrase : Phrase77
  pub spells : Spells chars phrase
  pub narrow : ¬ IsWide phrase
  pub shallow : ¬ IsDeep phrase
  pub same : e ≡ tree77_of phrase

-- The characters spell some expression.
abbrev pub IsSpelled : List ℕ → Type 0
IsSpelled chars = (p : Phrase77) × Spells chars p
