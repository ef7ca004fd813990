-- What the functions on parentheses return, in the words of the definitions.
use Rattle.std.specs.Prelude.{◌≡◌, Option, Some, None, List}
use Rattle.std.specs.Borrow.{Bor}
use Rattle.f77_grammar.specs.expressions.Squeezing as squeezing
use Rattle.f77_grammar.specs.statements.Recognition as recognition
use Rattle.f77_grammar.specs.statements.Recognition.{Halves}
use Rattle.f77_expressions.specs.Symbols.{symbols_of}
use Rattle.f77_expressions.specs.declared.symbols.Symbol.{Symbol}
use Rattle.f77_words.specs.declared.keywords.parentheses.Bracket.{Bracket}
use Rattle.f77_words.specs.declared.keywords.parentheses.Bracket.TheVariants.{Opening, Closing, Neither}

abbrev pub bracket_view : Bracket → recognition.Bracket
bracket_view Opening = recognition.Opening
bracket_view Closing = recognition.Closing
bracket_view Neither = recognition.Neither

abbrev pub halves_of : Option (Bor (List Symbol) × Bor (List Symbol)) → Option Halves
halves_of None = None
halves_of (Some r) = Some (record { inside = symbols_of r.0.now; behind = symbols_of r.1.now })

-- these two texts
abbrev pub Gives : Option (Bor (List Symbol) × Bor (List Symbol)) → List squeezing.Symbol77 → List squeezing.Symbol77
    → Type 0
Gives None a b = ⊥
Gives (Some r) a b = (symbols_of r.0.now ≡ a) × (symbols_of r.1.now ≡ b)
