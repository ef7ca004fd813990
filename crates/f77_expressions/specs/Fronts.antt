-- What the functions of the lexer return, in the words of its model.
use Rattle.std.specs.Prelude.{ℕ, ◌≡◌, ◌==◌, ◌^◌, ◌<◌, ◌≤◌, length, nat_lt, Bool, false, IsTrue, List, ◌∷◌, Option, Some}
use Rattle.std.specs.Prelude.{None, Result, Ok, Err, if◌then◌else◌}
use Rattle.std.specs.Borrow.{Bor}
use Rattle.std.specs.declared.alloc.Global.{Global}
use Rattle.std.specs.declared.vec.Vec.{Vec}
use Rattle.f77_grammar.specs.expressions.Squeezing as squeezing
use Rattle.f77_grammar.specs.expressions.Squeezing.{Char}
use Rattle.f77_grammar.specs.expressions.Spelling.{Stops77}
use Rattle.reading.specs.Characters.{is_letter}
use Rattle.f77_grammar.specs.expressions.Words.{Word77}
use Rattle.f77_expressions.specs.Lexing.{Front, Run}
use Rattle.f77_expressions.specs.Symbols.{symbols_of}
use Rattle.f77_expressions.specs.Tokens.{word_of}
use Rattle.f77_expressions.specs.Views.{words_of}
use Rattle.f77_expressions.specs.declared.symbols.Symbol.{Symbol}
use Rattle.reading.specs.declared.stops.Stop.{Stop}
use Rattle.reading.specs.declared.stops.Stop.TheVariants.{Syntax, Memory}
use Rattle.f77_expressions.specs.declared.tokens.Token.{Token}

-- a character that passes is at the front
abbrev pub NextChar : (ℕ → Bool) → Option (ℕ × Bor (List Symbol)) → List squeezing.Symbol77 → Type 0
NextChar p (Some r) text = (text ≡ Char r.0 ∷ symbols_of r.1.now) × IsTrue (p r.0)
NextChar p None text = Stops77 p text

-- a literal's value so far, where it is within 2^127-1
abbrev pub narrow : ℕ → Option ℕ
narrow n = if nat_lt n (2 ^ 127) then Some n else None

abbrev pub FrontResult : Result (Token × Bor (List Symbol)) Stop → Option Front → Type 0
FrontResult (Ok r) front = front ≡ Some (record { word = word_of r.0; rest = symbols_of r.1.now })
FrontResult (Err Syntax) front = front ≡ None
FrontResult (Err Memory) front = Unit {0}

abbrev pub FrontOption : Option (Token × Bor (List Symbol)) → Option Front → Type 0
FrontOption (Some r) front = front ≡ Some (record { word = word_of r.0; rest = symbols_of r.1.now })
FrontOption None front = front ≡ None

abbrev pub Strips : Option (Bor (List Symbol)) → Option (List squeezing.Symbol77) → Type 0
Strips (Some r) rest = rest ≡ Some (symbols_of r.now)
Strips None rest = rest ≡ None

-- a letter is at the front
abbrev pub BeginsWithLetter : List squeezing.Symbol77 → Type 0
BeginsWithLetter (Char c ∷ ss) = IsTrue (is_letter c)
BeginsWithLetter ss = ⊥

-- a name and what follows it, of the letters and digits at the front
abbrev pub NameOption : Option (List ℕ × Bor (List Symbol)) → Run → Type 0
NameOption (Some r) run = (run ≡ record { front = r.0; rest = symbols_of r.1.now }) × (length r.0 ≤ 6)
NameOption None run = 6 < length run.front

-- the text begins with a character, and what follows it
abbrev pub IsOther : ℕ → List squeezing.Symbol77 → Type 0
IsOther c (Char d ∷ ss) = (c == d) ≡ false
IsOther c ss = Unit {0}

abbrev pub AfterChar : ℕ → Option (Bor (List Symbol)) → List squeezing.Symbol77 → Type 0
AfterChar c (Some r) text = text ≡ Char c ∷ symbols_of r.now
AfterChar c None text = IsOther c text

-- the character at the front
abbrev pub BeginsWith : ℕ → List squeezing.Symbol77 → Type 0
BeginsWith c (Char d ∷ ss) = c ≡ d
BeginsWith c ss = ⊥

-- those words, unless memory ran out
abbrev pub GivesWords : Result (Vec Token Global) Stop → List Word77 → Type 0
GivesWords (Ok tokens) ws = words_of tokens.items ≡ ws
GivesWords (Err Syntax) ws = ⊥
GivesWords (Err Memory) ws = Unit {0}
