-- The word at the front of words, and what follows it.
use Rattle.std.specs.Prelude.{ℕ, ◌≡◌, Bool, true, false, Option, Some, None, List, ◌∷◌}
use Rattle.std.specs.Borrow.{Bor}
use Rattle.f77_grammar.specs.expressions.Words as words
use Rattle.f77_grammar.specs.expressions.Words.{Word77}
use Rattle.f77_expressions.specs.declared.tokens.Token.{Token}
use Rattle.f77_expressions.specs.Views.{words_of}

abbrev pub After : Word77 → Option (Bor (List Token)) → List Word77 → Type 0
After w (Some r) ws = ws ≡ w ∷ words_of r.now
After w None ws = (rest : List Word77) → ws ≡ w ∷ rest → ⊥

abbrev pub NameFront : Option (List ℕ × Bor (List Token)) → List Word77 → Type 0
NameFront (Some r) ws = ws ≡ words.Name r.0 ∷ words_of r.1.now
NameFront None ws = (x : List ℕ) (rest : List Word77) → ws ≡ words.Name x ∷ rest → ⊥

abbrev pub HeadFront : Option (List ℕ × Bor (List Token)) → List Word77 → Type 0
HeadFront (Some r) ws = ws ≡ words.Head r.0 ∷ words_of r.1.now
HeadFront None ws = (x : List ℕ) (rest : List Word77) → ws ≡ words.Head x ∷ rest → ⊥

-- a name, with a parenthesis behind it or without one
abbrev pub begins_with_name : List Word77 → Bool
begins_with_name (words.Name x ∷ ws) = true
begins_with_name (words.Head x ∷ ws) = true
begins_with_name ws = false
