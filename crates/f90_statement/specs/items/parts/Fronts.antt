-- The word at the front of words, and what follows it.
use Rattle.std.specs.Prelude.{ℕ, ◌≡◌, ◌≢◌, Bool, true, false, Option, Some, None, List, ◌∷◌}
use Rattle.std.specs.Borrow.{Bor}
use Rattle.f90_grammar.specs.Words as words
use Rattle.f90_grammar.specs.Words.{Word90}
use Rattle.f90_expressions.specs.declared.words.tokens.Token.{Token}
use Rattle.f90_expressions.specs.words.Tokens.{words_of}
use Rattle.f90_statement.specs.declared.items.parts.fronts.Separator.{Separator}
use Rattle.f90_statement.specs.declared.items.parts.fronts.Separator.TheVariants.{Open, Close, Comma, Equals, Colon}
use Rattle.f90_statement.specs.declared.items.parts.fronts.Separator.TheVariants.{Colons}

-- the word that a mark is
abbrev pub separator_word : Separator → Word90
separator_word Open = words.Open
separator_word Close = words.Close
separator_word Comma = words.Comma
separator_word Equals = words.Equals
separator_word Colon = words.Colon
separator_word Colons = words.Colons

abbrev pub IsThat : Bool → Word90 → Word90 → Type 0
IsThat true w v = w ≡ v
IsThat false w v = w ≢ v

abbrev pub After : Word90 → Option (Bor (List Token)) → List Word90 → Type 0
After w (Some r) ws = ws ≡ w ∷ words_of r.now
After w None ws = (rest : List Word90) → ws ≡ w ∷ rest → ⊥

abbrev pub NameFront : Option (List ℕ × Bor (List Token)) → List Word90 → Type 0
NameFront (Some r) ws = ws ≡ words.Name r.0 ∷ words_of r.1.now
NameFront None ws = (x : List ℕ) (rest : List Word90) → ws ≡ words.Name x ∷ rest → ⊥

abbrev pub HeadFront : Option (List ℕ × Bor (List Token)) → List Word90 → Type 0
HeadFront (Some r) ws = ws ≡ words.Head r.0 ∷ words_of r.1.now
HeadFront None ws = (x : List ℕ) (rest : List Word90) → ws ≡ words.Head x ∷ rest → ⊥
