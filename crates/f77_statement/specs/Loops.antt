-- The front of a DO statement.
use Rattle.std.specs.Prelude.{ℕ, ◌≡◌, Bool, Option, Some, None, List, ◌++◌, codes}
use Rattle.std.specs.Borrow.{Bor}
use Rattle.f77_grammar.specs.expressions.Spelling.{value, chars77}
use Rattle.f77_grammar.specs.expressions.Squeezing as squeezing
use Rattle.f77_grammar.specs.statements.Forms.{IsLabel77, optional_comma}
use Rattle.f77_expressions.specs.Symbols.{symbols_of}
use Rattle.f77_expressions.specs.declared.symbols.Symbol.{Symbol}

-- The text begins with DO, a label with this number, and maybe a comma; what follows is the rest.
pub record IsLoopFront (text : List squeezing.Symbol77) (number : ℕ) (rest : List squeezing.Symbol77) : Type 0 where
  pub label : List ℕ
  pub comma : Bool
  pub is_label : IsLabel77 label
  pub number_is : value label ≡ number
  pub same : text ≡ chars77 (codes "DO" ++ (label ++ optional_comma comma)) ++ rest

-- The text begins with DO, and its label if there is one.
abbrev pub IsFront : List squeezing.Symbol77 → Option ℕ → List squeezing.Symbol77 → Type 0
IsFront text (Some number) rest = IsLoopFront text number rest
IsFront text None rest = text ≡ chars77 (codes "DO") ++ rest

abbrev pub GivesFront : Option (Option ℕ × Bor (List Symbol)) → Option ℕ → List squeezing.Symbol77 → Type 0
GivesFront None label rest = ⊥
GivesFront (Some r) label rest = (r.0 ≡ label) × (symbols_of r.1.now ≡ rest)
