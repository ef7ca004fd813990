-- What is said of parts of the tree.
use Rattle.std.specs.Prelude.{◌≡◌, ℕ, true, Option, None, Some, List, [], ◌∷◌, if◌then◌else◌}
use Rattle.tree.specs.Plain.{Statement}
use Rattle.tree.specs.View.{statement_of}
use Rattle.tree.specs.declared.stmts.Stmt.{Stmt}
use Rattle.tree.specs.declared.functions.Fun.{Fun}
use Rattle.tree.specs.Widths.{bits_of}
use Rattle.tree.specs.declared.width.Width.TheVariants.{Wide}
use Rattle.meaning.specs.Value.{is_in_range}
use Rattle.tree.specs.Functions.{function_named}
use Rattle.f77_grammar.specs.program.Uses.{Use77, is_array_name}
use Rattle.f77_names.specs.declared.constants.constants.Constants.{Constants}
use Rattle.f77_names.specs.constants.Constants.{value_in, value_or_nought}

-- INTEGER of 64 bits has the values of all constants
abbrev pub AreInRange : Constants → Type 0
AreInRange c = (x : List ℕ) → is_in_range (bits_of Wide) (value_or_nought (value_in c x)) ≡ true

-- the function that a name with a list in parentheses calls
abbrev pub called : List Use77 → List ℕ → Option Fun
called us x = if is_array_name us x then None else function_named x

-- what a statement has become, or nothing
abbrev pub made : Option Stmt → List Statement
made None = []
made (Some s) = statement_of s ∷ []
