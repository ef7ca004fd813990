-- The word at the front of a text, found symbol by symbol.
use Rattle.std.specs.Prelude.{ℕ, ◌^◌, pos, Bool, true, false, nat_lt, ◌==◌, List, [], ◌∷◌, length, codes, Option, Some}
use Rattle.std.specs.Prelude.{None, if◌then◌else◌}
use Rattle.tree.specs.OperatorTable.{spelling77_of}
use Rattle.tree.specs.declared.ops.Op.{Op}
use Rattle.tree.specs.declared.ops.Op.TheVariants.{Pow, Mul, Div, Add, Sub, Lt, Le, Eq, Ne, Gt, Ge, Not, And, Or}
use Rattle.tree.specs.declared.ops.Op.TheVariants.{Eqv, Neqv}
use Rattle.f77_grammar.specs.expressions.Squeezing.{Symbol77, Char, Text, Broken}
use Rattle.f77_grammar.specs.expressions.Words.{Word77, Number, Wide, Truth, Name, Head, Operator, Open, Close, Comma}
use Rattle.f77_grammar.specs.expressions.Words.{Equals, Colon, Constant}
use Rattle.f77_grammar.specs.expressions.Spelling.{is_letter_or_digit, value}
use Rattle.reading.specs.Characters.{is_digit, is_letter}

-- the characters at the front that pass a test, and what follows them
pub record Run : Type 0 where
  pub front : List ℕ
  pub rest : List Symbol77

abbrev pub longer : ℕ → Run → Run
longer c r = record { front = c ∷ r.front; rest = r.rest }

abbrev pub run_of : (ℕ → Bool) → List Symbol77 → Run
run_of p [] = record { front = []; rest = [] }
run_of p (Char c ∷ ss) = if p c then longer c (run_of p ss) else record { front = []; rest = Char c ∷ ss }
run_of p (s ∷ ss) = record { front = []; rest = s ∷ ss }

-- a word, and what follows it
pub record Front : Type 0 where
  pub word : Word77
  pub rest : List Symbol77

abbrev pub some : Word77 → List Symbol77 → Option Front
some w rest = Some (record { word = w; rest = rest })

abbrev pub literal : Run → Option Front
literal r = some (if nat_lt (value r.front) (2 ^ 127) then Number (pos (value r.front)) else Wide) r.rest

-- a name, with the parenthesis behind it
abbrev pub named_by : Bool → List ℕ → ℕ → List Symbol77 → Option Front
named_by true x c ss = some (Head x) ss
named_by false x c ss = some (Name x) (Char c ∷ ss)

abbrev pub named : List ℕ → List Symbol77 → Option Front
named x [] = some (Name x) []
named x (Char c ∷ ss) = named_by (c == 40) x c ss
named x (s ∷ ss) = some (Name x) (s ∷ ss)

abbrev pub name : Run → Option Front
name r = if nat_lt 6 (length r.front) then None else named r.front r.rest

abbrev pub strip : List ℕ → List Symbol77 → Option (List Symbol77)
strip [] text = Some text
strip (w ∷ ws) (Char c ∷ ss) = if w == c then strip ws ss else None
strip (w ∷ ws) text = None

abbrev pub or_else : Option (List Symbol77) → Word77 → Option Front → Option Front
or_else (Some rest) w next = some w rest
or_else None w next = next

-- the words that are always spelled alike, a longer one before one that begins it
abbrev pub first_of : List (List ℕ × Word77) → List Symbol77 → Option Front
first_of [] text = None
first_of (w ∷ ws) text = or_else (strip w.0 text) w.1 (first_of ws text)

-- as FORTRAN 77 spells them
abbrev pub operator_words : List Op → List (List ℕ × Word77)
operator_words [] = []
operator_words (o ∷ os) = (spelling77_of o, Operator o) ∷ operator_words os

-- a minus sign is Sub
abbrev pub operators : List (List ℕ × Word77)
operators =
    operator_words
    (Pow ∷ Mul ∷ Div ∷ Add ∷ Sub ∷ Lt ∷ Le ∷ Eq ∷ Ne ∷ Gt ∷ Ge ∷ Not ∷ And ∷ Or ∷ Eqv ∷ Neqv ∷ [])

abbrev pub marks : List (List ℕ × Word77)
marks =
    (codes "(", Open) ∷ (codes ")", Close) ∷ (codes ",", Comma) ∷ (codes "=", Equals) ∷ (codes ":", Colon)
    ∷ (codes ".TRUE.", Truth true) ∷ (codes ".FALSE.", Truth false) ∷ []

abbrev pub either : Option Front → Option Front → Option Front
either (Some f) next = Some f
either None next = next

-- by whether it begins with a digit, or with a letter
abbrev pub word_by : Bool → Bool → List Symbol77 → Option Front
word_by true l text = literal (run_of is_digit text)
word_by false true text = name (run_of is_letter_or_digit text)
word_by false false text = either (first_of operators text) (first_of marks text)

abbrev pub word : List Symbol77 → Option Front
word [] = None
word (Char c ∷ ss) = word_by (is_digit c) (is_letter c) (Char c ∷ ss)
word (Text t ∷ ss) = some (Constant t) ss
word (Broken ∷ ss) = None
