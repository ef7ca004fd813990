-- What is read of a statement and its parts, in the words of the grammar.
use Rattle.std.specs.Prelude.{ℕ, ◌≡◌, List, ◌∷◌, ◌++◌}
use Rattle.tree.specs.Plain.{Expression, Named, Reference}
use Rattle.tree.specs.View.{reference_of}
use Rattle.tree.specs.declared.exprs.Ref.{Ref}
use Rattle.f77_grammar.specs.expressions.Phrases.{Phrase77, IsExpression77, written77, tree77_of, phrase_depth77}
use Rattle.f77_grammar.specs.expressions.Words as words
use Rattle.f77_grammar.specs.expressions.Words.{Word77}
use Rattle.f77_grammar.specs.statements.Items.{IsReference77}
use Rattle.f77_grammar.specs.statements.Forms.{Form77, Assign, statement_of, form_depth, has_wide_literal77}
use Rattle.reading.specs.Signs.{reference_in}
use Rattle.f77_grammar.specs.syntax.Views as view
pub use Rattle.f77_expressions.specs.Reader.{capped}
pub use Rattle.f77_words.specs.lists.Reading.{Given}
use Rattle.f77_statement.specs.declared.formed.Formed.{Formed}

-- ---- a reference

-- the tree is this reference
abbrev pub IsItem : Expression → Reference → Type 0
IsItem e r = e ≡ Named r.name r.subscripts

pub record IsReferenceOf (r : Ref) (d : ℕ) (l : Phrase77) : Type 0 where
  pub tree : reference_of r ≡ reference_in (tree77_of l)
  pub depth : d ≡ capped (phrase_depth77 l)

pub record BeginsWithReference (ws : List Word77) (r : Ref) (d : ℕ) (rest : List Word77) : Type 0 where
  pub phrase : Phrase77
  pub bare : IsReference77 phrase
  pub good : IsExpression77 phrase
  pub is : IsReferenceOf r d phrase
  pub same : ws ≡ written77 phrase ++ rest

-- ---- statements

-- what was made of a form
pub record IsFormedOf (made : Formed) (f : Form77) : Type 0 where
  pub statement : view.statement_of made.statement ≡ statement_of f
  pub wide : made.wide ≡ has_wide_literal77 f
  pub depth : made.depth ≡ capped (form_depth f)

pub record IsAssignment (ws : List Word77) (made : Formed) : Type 0 where
  pub left : Phrase77
  pub right : Phrase77
  pub bare : IsReference77 left
  pub good_left : IsExpression77 left
  pub good_right : IsExpression77 right
  pub is : IsFormedOf made (Assign left right)
  pub same : ws ≡ written77 left ++ (words.Equals ∷ written77 right)
