-- What stands outside parentheses in a text.
use Rattle.std.specs.Prelude.{ℕ, zero, suc, Bool, false, ◌||◌, ◌&&◌, ◌==◌, List, [], ◌∷◌}
use Rattle.f77_grammar.specs.expressions.Squeezing.{Symbol77, Char}
use Rattle.f77_grammar.specs.statements.Recognition.{Bracket, Opening, Closing, Neither, bracket_of}

abbrev pub character_is : ℕ → Symbol77 → Bool
character_is c (Char d) = d == c
character_is c s = false

-- an equals sign has come, with this symbol
abbrev pub equals_of : Bool → Symbol77 → Bool
equals_of equals s = equals || character_is 61 s

-- a comma has come after an equals sign, with this symbol
abbrev pub comma_of : Bool → Bool → Symbol77 → Bool
comma_of comma equals s = comma || (equals && character_is 44 s)

-- by whether an equals sign has come, with so many parentheses open
abbrev pub has_comma_by : Bracket → Symbol77 → (ℕ → Bool → Bool) → ℕ → Bool → Bool
has_comma_by Opening s more opened equals = more (suc opened) equals
has_comma_by Closing s more zero equals = more zero equals
has_comma_by Closing s more (suc opened) equals = more opened equals
has_comma_by Neither s more zero equals = (equals && character_is 44 s) || more zero (equals_of equals s)
has_comma_by Neither s more (suc opened) equals = more (suc opened) equals

-- a comma stands outside parentheses, behind an equals sign that does; a closing parenthesis without partner counts
-- nothing
abbrev pub has_comma_outside : List Symbol77 → ℕ → Bool → Bool
has_comma_outside [] opened equals = false
has_comma_outside (s ∷ ss) opened equals = has_comma_by (bracket_of s) s (has_comma_outside ss) opened equals
