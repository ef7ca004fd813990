-- How words are spelled, and which words a text has.
use Rattle.std.specs.Prelude.{ℕ, ◌+◌, ◌-◌, ◌*◌, ◌^◌, ◌<◌, ◌≤◌, ◌≡◌, pos, Bool, true, false, ◌||◌, ◌==◌}
use Rattle.std.specs.Prelude.{List, [], ◌∷◌, ◌++◌, length, map, fold, codes, IsTrue}
use Rattle.tree.specs.OperatorTable.{spelling77_of}
use Rattle.tree.specs.declared.ops.Op.TheVariants.{Neg, Mul}
use Rattle.f77_grammar.specs.expressions.Squeezing.{Symbol77, Char, Text}
use Rattle.f77_grammar.specs.expressions.Words.{Word77, Number, Wide, Truth, Name, Head, Operator, Open, Close, Comma}
use Rattle.f77_grammar.specs.expressions.Words.{Equals, Colon, Constant}
use Rattle.reading.specs.Characters.{is_digit, is_letter, Pass, IsDigits}

abbrev pub is_letter_or_digit : ℕ → Bool
is_letter_or_digit c = is_letter c || is_digit c

abbrev pub value : List ℕ → ℕ
value digits = fold (λ n c. 10 * n + (c - 48)) 0 digits

-- 1 to 6 letters and digits, the first a letter
abbrev pub IsName77 : List ℕ → Type 0
IsName77 [] = ⊥
IsName77 (c ∷ cs) = IsTrue (is_letter c) × Pass is_letter_or_digit cs × (length cs ≤ 5)

-- The characters of a word. A minus sign is the word Sub, and a constant is no characters but a symbol of its own.
abbrev pub Spelled77 : Word77 → List ℕ → Type 0
Spelled77 (Number n) text = IsDigits text × (n ≡ pos (value text)) × (value text < 2 ^ 127)
Spelled77 Wide text = IsDigits text × (2 ^ 127 ≤ value text)
Spelled77 (Truth true) text = text ≡ codes ".TRUE."
Spelled77 (Truth false) text = text ≡ codes ".FALSE."
Spelled77 (Name x) text = (text ≡ x) × IsName77 x
Spelled77 (Head x) text = (text ≡ x ++ codes "(") × IsName77 x
Spelled77 (Operator Neg) text = ⊥
Spelled77 (Operator o) text = text ≡ spelling77_of o
Spelled77 Open text = text ≡ codes "("
Spelled77 Close text = text ≡ codes ")"
Spelled77 Comma text = text ≡ codes ","
Spelled77 Equals text = text ≡ codes "="
Spelled77 Colon text = text ≡ codes ":"
Spelled77 (Constant t) text = ⊥

abbrev pub chars77 : List ℕ → List Symbol77
chars77 cs = map Char cs

abbrev pub SpelledBy77 : Word77 → List Symbol77 → Type 0
SpelledBy77 (Constant t) text = text ≡ Text t ∷ []
SpelledBy77 w text = (cs : List ℕ) × (text ≡ chars77 cs) × Spelled77 w cs

-- the first symbol, if any, isn't such a character
abbrev pub Stops77 : (ℕ → Bool) → List Symbol77 → Type 0
Stops77 p (Char c ∷ ss) = p c ≡ false
Stops77 p ss = Unit {0}

-- what may go on in a name: a parenthesis belongs to the name before it
abbrev pub goes_on77 : ℕ → Bool
goes_on77 c = is_letter_or_digit c || (c == 40)

-- A word goes as far as it can.
abbrev pub IsWhole77 : Word77 → List Symbol77 → Type 0
IsWhole77 (Number n) rest = Stops77 is_digit rest
IsWhole77 Wide rest = Stops77 is_digit rest
IsWhole77 (Name x) rest = Stops77 goes_on77 rest
IsWhole77 (Operator Mul) rest = Stops77 (λ c. c == 42) rest
IsWhole77 w rest = Unit {0}

-- a word at the front of a text, and what follows it
pub record Begins77 (text : List Symbol77) (w : Word77) (rest : List Symbol77) : Type 0 where
  pub front : List Symbol77
  pub same : text ≡ front ++ rest
  pub spelled : SpelledBy77 w front
  pub whole : IsWhole77 w rest

-- the words of a text
abbrev pub AreWords77 : List Symbol77 → List Word77 → Type 0
AreWords77 text [] = text ≡ []
AreWords77 text (w ∷ ws) = (rest : List Symbol77) × Begins77 text w rest × AreWords77 rest ws
