-- What is read of conditions.
use Rattle.std.specs.Prelude.{ℕ, ◌≡◌, Bool, List}
use Rattle.std.specs.List.{list_any}
use Rattle.tree.specs.Plain.{Expression}
use Rattle.f77_grammar.specs.expressions.Phrases.{Phrase77, IsExpression77, written77, tree77_of, phrase_depth77}
use Rattle.f77_grammar.specs.expressions.Words.{is_wide_word}
use Rattle.f77_grammar.specs.expressions.Spelling.{AreWords77}
use Rattle.f77_grammar.specs.expressions.Squeezing.{Symbol77}
use Rattle.f77_statement.specs.Parts.{capped}

-- what was made of an expression: its tree, its depth, and whether a literal of it is wide
pub record IsConditionOf (e : Expression) (d : ℕ) (wide : Bool) (p : Phrase77) : Type 0 where
  pub tree_is : e ≡ tree77_of p
  pub depth_is : d ≡ capped (phrase_depth77 p)
  pub wide_is : wide ≡ list_any is_wide_word (written77 p)

-- The text is an expression, of which that was made.
pub record IsCondition (text : List Symbol77) (e : Expression) (d : ℕ) (wide : Bool) : Type 0 where
  pub phrase : Phrase77
  pub good : IsExpression77 phrase
  pub is : IsConditionOf e d wide phrase
  pub spelled : AreWords77 text (written77 phrase)
