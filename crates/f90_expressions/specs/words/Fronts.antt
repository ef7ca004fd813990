-- What the functions of the lexer return.
use Rattle.std.specs.Prelude.{ℕ, ◌≡◌, ◌==◌, ◌<◌, ◌≤◌, length, Bool, false, IsTrue, List, ◌∷◌, Option, Some, None}
use Rattle.std.specs.Prelude.{Result, Ok, Err}
use Rattle.std.specs.Borrow.{Bor}
use Rattle.f90_grammar.specs.Words as words
use Rattle.f90_grammar.specs.Words.{Word90, Char, Stops90}
use Rattle.reading.specs.Characters.{is_letter}
use Rattle.f90_expressions.specs.words.Lexing.{Front, Run, run}
use Rattle.f90_expressions.specs.words.Symbols.{symbols_of}
use Rattle.f90_expressions.specs.words.Tokens.{word_of, words_of}
use Rattle.f90_expressions.specs.declared.words.symbols.Symbol.{Symbol}
use Rattle.reading.specs.declared.stops.Stop.{Stop}
use Rattle.reading.specs.declared.stops.Stop.TheVariants.{Syntax, Memory}
use Rattle.f90_expressions.specs.declared.words.tokens.Token.{Token}

-- a character that passes is at the front
abbrev pub NextChar : (ℕ → Bool) → Option (ℕ × Bor (List Symbol)) → List words.Symbol90 → Type 0
NextChar p (Some r) text = (text ≡ Char r.0 ∷ symbols_of r.1.now) × IsTrue (p r.0)
NextChar p None text = Stops90 p text

abbrev pub FrontResult : Result (Token × Bor (List Symbol)) Stop → Option Front → Type 0
FrontResult (Ok r) front = front ≡ Some (record { word = word_of r.0; rest = symbols_of r.1.now })
FrontResult (Err Syntax) front = front ≡ None
FrontResult (Err Memory) front = Unit {0}

abbrev pub FrontOption : Option (Token × Bor (List Symbol)) → Option Front → Type 0
FrontOption (Some r) front = front ≡ Some (record { word = word_of r.0; rest = symbols_of r.1.now })
FrontOption None front = front ≡ None

abbrev pub Strips : Option (Bor (List Symbol)) → Option (List words.Symbol90) → Type 0
Strips (Some r) rest = rest ≡ Some (symbols_of r.now)
Strips None rest = rest ≡ None

-- a letter is at the front
abbrev pub BeginsWithLetter : List words.Symbol90 → Type 0
BeginsWithLetter (Char c ∷ ss) = IsTrue (is_letter c)
BeginsWithLetter ss = ⊥

-- a name and what follows it, of the characters of names at the front
abbrev pub NameOption : Option (List ℕ × Bor (List Symbol)) → Run → Type 0
NameOption (Some r) text = (text ≡ run r.0 (symbols_of r.1.now)) × (length r.0 ≤ 31)
NameOption None text = 31 < length text.front

-- the digits at the front, and what follows them
abbrev pub DigitsResult : Result (List ℕ × Bor (List Symbol)) Stop → Run → Type 0
DigitsResult (Ok r) text = text ≡ run r.0 (symbols_of r.1.now)
DigitsResult (Err Syntax) text = ⊥
DigitsResult (Err Memory) text = Unit {0}

-- the text begins with a character, and what follows it
abbrev pub IsOther : ℕ → List words.Symbol90 → Type 0
IsOther c (Char d ∷ ss) = (c == d) ≡ false
IsOther c ss = Unit {0}

abbrev pub AfterChar : ℕ → Option (Bor (List Symbol)) → List words.Symbol90 → Type 0
AfterChar c (Some r) text = text ≡ Char c ∷ symbols_of r.now
AfterChar c None text = IsOther c text

-- the character at the front
abbrev pub BeginsWith : ℕ → List words.Symbol90 → Type 0
BeginsWith c (Char d ∷ ss) = c ≡ d
BeginsWith c ss = ⊥

-- those words, unless memory ran out
abbrev pub GivesWords : Result (List Token) Stop → List Word90 → Type 0
GivesWords (Ok tokens) ws = words_of tokens ≡ ws
GivesWords (Err Syntax) ws = ⊥
GivesWords (Err Memory) ws = Unit {0}
