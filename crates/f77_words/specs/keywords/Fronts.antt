-- Names and labels at the front of a text.
use Rattle.std.specs.Prelude.{ℕ, ◌≡◌, ◌==◌, ◌||◌, Bool, Option, Some, None, List, ◌++◌, length}
use Rattle.std.specs.Borrow.{Bor}
use Rattle.f77_grammar.specs.expressions.Squeezing as squeezing
use Rattle.f77_grammar.specs.expressions.Spelling.{is_letter_or_digit, IsName77, value, chars77, Stops77}
use Rattle.reading.specs.Characters.{is_digit}
use Rattle.f77_grammar.specs.statements.Forms.{IsLabel77}
use Rattle.f77_grammar.specs.statements.Recognition.{AreLabels}
use Rattle.f77_expressions.specs.Symbols.{symbols_of}
use Rattle.f77_expressions.specs.declared.symbols.Symbol.{Symbol}

-- a label that no digit follows, and what follows it
pub record IsLabelled (text : List squeezing.Symbol77) (number : ℕ) (rest : List squeezing.Symbol77) : Type 0 where
  pub label : List ℕ
  pub is_label : IsLabel77 label
  pub same : text ≡ chars77 label ++ rest
  pub number_is : value label ≡ number
  pub whole : Stops77 is_digit rest

abbrev pub GivesLabel : Option (ℕ × Bor (List Symbol)) → ℕ → List squeezing.Symbol77 → Type 0
GivesLabel None number rest = ⊥
GivesLabel (Some r) number rest = (r.0 ≡ number) × (symbols_of r.1.now ≡ rest)

-- a name that no letter or digit follows, and what follows it
pub record IsNamed (text rest : List squeezing.Symbol77) : Type 0 where
  pub name : List ℕ
  pub is_name : IsName77 name
  pub same : text ≡ chars77 name ++ rest
  pub whole : Stops77 is_letter_or_digit rest

abbrev pub GivesRest : Option (Bor (List Symbol)) → List squeezing.Symbol77 → Type 0
GivesRest None rest = ⊥
GivesRest (Some r) rest = symbols_of r.now ≡ rest

-- what goes on in a list of labels
abbrev pub goes_on : ℕ → Bool
goes_on c = is_digit c || (c == 44)

-- labels separated by commas, the first and so many others, and what follows them
pub record IsLabelList (text : List squeezing.Symbol77) (others : ℕ) (rest : List squeezing.Symbol77) : Type 0 where
  pub first : List ℕ
  pub later : List (List ℕ)
  pub list : List squeezing.Symbol77
  pub labels : AreLabels first later list
  pub count : length later ≡ others
  pub same : text ≡ list ++ rest
  pub whole : Stops77 goes_on rest

abbrev pub GivesLabels : Option (ℕ × Bor (List Symbol)) → ℕ → List squeezing.Symbol77 → Type 0
GivesLabels None others rest = ⊥
GivesLabels (Some r) others rest = (r.0 ≡ others) × (symbols_of r.1.now ≡ rest)
