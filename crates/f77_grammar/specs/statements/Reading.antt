-- What it is for the characters of a card to be a statement, and how they are refused.
use Rattle.std.specs.Prelude.{ℕ, ◌≡◌, ◌<◌, ◌≤◌, false, IsTrue, List}
use Rattle.tree.specs.Causes.{number_of_cause}
use Rattle.tree.specs.Limits.{expression_depth77}
use Rattle.tree.specs.declared.refusals.Cause.TheVariants as causes
use Rattle.f77_grammar.specs.Statement77.{Statement77}
use Rattle.f77_grammar.specs.expressions.Squeezing.{Symbol77, Squeezed}
use Rattle.f77_grammar.specs.statements.Forms.{Form77, IsWritten77, statement_of, form_depth, has_wide_literal77}
use Rattle.f77_grammar.specs.statements.Recognition.{HasWord}

-- The characters have a form.
pub record IsFormOf77 (chars : List ℕ) (f : Form77) : Type 0 where
  pub symbols : List Symbol77
  pub squeezed : Squeezed chars symbols
  pub written : IsWritten77 f symbols

-- The characters are read as a statement: they have a form without a literal above 2^127-1 and without an expression or
-- list that is too deep.
pub record ReadsStatement (chars : List ℕ) (s : Statement77) : Type 0 where
  pub form : Form77
  pub is_form : IsFormOf77 chars form
  pub narrow : has_wide_literal77 form ≡ false
  pub shallow : form_depth form ≤ expression_depth77
  pub same : s ≡ statement_of form

-- The characters have a word that is left out of the profile.
pub record HasWordLeftOut (chars : List ℕ) (number : ℕ) : Type 0 where
  pub symbols : List Symbol77
  pub squeezed : Squeezed chars symbols
  pub has_word : HasWord symbols number

abbrev pub HasNoForm77 : List ℕ → Type 0
HasNoForm77 chars = (f : Form77) → IsFormOf77 chars f → ⊥

-- Why the characters are refused: they have no form, by their word or without one; a literal is above 2^127-1;
-- something is too deep.
pub data IsRefusedBy (chars : List ℕ) : (number word : ℕ) → Type 0 where
  Syntax : HasNoForm77 chars → ((number : ℕ) → HasWordLeftOut chars number → ⊥)
      → IsRefusedBy chars (number_of_cause causes.Syntax) 0
  OutOfProfile : (word : ℕ) → HasNoForm77 chars → HasWordLeftOut chars word
      → IsRefusedBy chars (number_of_cause (causes.OutOfProfile word)) word
  WideLiteral : (f : Form77) → IsFormOf77 chars f → IsTrue (has_wide_literal77 f)
      → IsRefusedBy chars (number_of_cause causes.WideLiteral) 0
  Deep : (f : Form77) → IsFormOf77 chars f → has_wide_literal77 f ≡ false → expression_depth77 < form_depth f
      → IsRefusedBy chars (number_of_cause causes.Deep) 0
