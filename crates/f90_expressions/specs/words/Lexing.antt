-- The word at the front of a text, found symbol by symbol.
use Rattle.std.specs.Prelude.{ℕ, Bool, true, false, not, nat_lt, ◌==◌, List, [], ◌∷◌, length, codes, Option, Some}
use Rattle.std.specs.Prelude.{None, if◌then◌else◌}
use Rattle.std.specs.List.{list_any}
use Rattle.tree.specs.declared.ops.Op.TheVariants.{Pow, Mul, Div, Add, Sub, Lt, Le, Eq, Ne, Gt, Ge, Not, And, Or}
use Rattle.tree.specs.declared.ops.Op.TheVariants.{Eqv, Neqv}
use Rattle.f90_grammar.specs.Words.{Symbol90, Char, Gap, Text, goes_on90}
use Rattle.reading.specs.Characters.{is_digit, is_letter}
use Rattle.f90_grammar.specs.Words.{Word90, Digits, Truth, Name, Head, Operator, Open, Close, OpenList, CloseList}
use Rattle.f90_grammar.specs.Words.{Comma, Equals, Colon, Colons, Constant}

-- the characters at the front that pass a test, and what follows them
pub record Run : Type 0 where
  pub front : List ℕ
  pub rest : List Symbol90

abbrev pub run : List ℕ → List Symbol90 → Run
run front rest = record { front = front; rest = rest }

abbrev pub longer : ℕ → Run → Run
longer c r = run (c ∷ r.front) r.rest

abbrev pub run_of : (ℕ → Bool) → List Symbol90 → Run
run_of p [] = run [] []
run_of p (Char c ∷ ss) = if p c then longer c (run_of p ss) else run [] (Char c ∷ ss)
run_of p (s ∷ ss) = run [] (s ∷ ss)

-- the text doesn't begin with a character that passes
abbrev pub stops : (ℕ → Bool) → List Symbol90 → Bool
stops p (Char c ∷ ss) = not (p c)
stops p ss = true

-- from the first symbol that is no gap
abbrev pub skip : List Symbol90 → List Symbol90
skip (Gap ∷ ss) = skip ss
skip ss = ss

-- a word, and what follows it
pub record Front : Type 0 where
  pub word : Word90
  pub rest : List Symbol90

abbrev pub some : Word90 → List Symbol90 → Option Front
some w rest = Some (record { word = w; rest = rest })

abbrev pub number : Run → Option Front
number r = if stops goes_on90 r.rest then some (Digits r.front) r.rest else None

-- a name with a parenthesis behind it, which begins no list
abbrev pub parenthesised : List ℕ → List Symbol90 → List Symbol90 → Option Front
parenthesised x ss rest = if stops (λ c. c == 47) ss then some (Head x) ss else some (Name x) rest

abbrev pub named_by : List ℕ → List Symbol90 → List Symbol90 → Option Front
named_by x (Char c ∷ ss) rest = if c == 40 then parenthesised x ss rest else some (Name x) rest
named_by x ss rest = some (Name x) rest

abbrev pub named : List ℕ → List Symbol90 → Option Front
named x rest = named_by x (skip rest) rest

abbrev pub name : Run → Option Front
name r = if nat_lt 31 (length r.front) then None else named r.front r.rest

abbrev pub strip : List ℕ → List Symbol90 → Option (List Symbol90)
strip [] text = Some text
strip (w ∷ ws) (Char c ∷ ss) = if w == c then strip ws ss else None
strip (w ∷ ws) text = None

-- a word that is always spelled so, and the characters that don't follow it
pub record Fixed : Type 0 where
  pub spelling : List ℕ
  pub barred : List ℕ
  pub word : Word90

abbrev pub fixed : List ℕ → List ℕ → Word90 → Fixed
fixed cs barred w = record { spelling = cs; barred = barred; word = w }

abbrev pub is_among : List ℕ → ℕ → Bool
is_among cs c = list_any (λ d. c == d) cs

abbrev pub unless_barred : List ℕ → Option (List Symbol90) → Option (List Symbol90)
unless_barred [] rest = rest
unless_barred (b ∷ bs) (Some rest) = if stops (is_among (b ∷ bs)) rest then Some rest else None
unless_barred (b ∷ bs) None = None

-- what follows the word
abbrev pub behind_fixed : List ℕ → List ℕ → List Symbol90 → Option (List Symbol90)
behind_fixed spelling barred text = unless_barred barred (strip spelling text)

abbrev pub or_else : Option (List Symbol90) → Word90 → Option Front → Option Front
or_else (Some rest) w next = some w rest
or_else None w next = next

abbrev pub first_of : List Fixed → List Symbol90 → Option Front
first_of [] text = None
first_of (f ∷ fs) text = or_else (behind_fixed f.spelling f.barred text) f.word (first_of fs text)

abbrev pub marks : List Fixed
marks =
    fixed (codes "(/") [] OpenList ∷ fixed (codes "(") (codes "/") Open ∷ fixed (codes "/)") [] CloseList
    ∷ fixed (codes ")") [] Close ∷ fixed (codes ",") [] Comma ∷ fixed (codes "::") [] Colons
    ∷ fixed (codes ":") (codes ":") Colon ∷ fixed (codes "=") (codes "=") Equals ∷ []

-- a minus sign is Sub
abbrev pub signs : List Fixed
signs =
    fixed (codes "**") [] (Operator Pow) ∷ fixed (codes "*") (codes "*") (Operator Mul)
    ∷ fixed (codes "/=") [] (Operator Ne) ∷ fixed (codes "/") (codes "=)") (Operator Div)
    ∷ fixed (codes "+") [] (Operator Add) ∷ fixed (codes "-") [] (Operator Sub)
    ∷ fixed (codes "<=") [] (Operator Le) ∷ fixed (codes "<") (codes "=") (Operator Lt)
    ∷ fixed (codes ">=") [] (Operator Ge) ∷ fixed (codes ">") (codes "=") (Operator Gt)
    ∷ fixed (codes "==") [] (Operator Eq) ∷ []

abbrev pub dotted : List Fixed
dotted =
    fixed (codes ".TRUE.") [] (Truth true) ∷ fixed (codes ".FALSE.") [] (Truth false)
    ∷ fixed (codes ".LT.") (codes "=") (Operator Lt) ∷ fixed (codes ".LE.") [] (Operator Le)
    ∷ fixed (codes ".EQ.") [] (Operator Eq) ∷ fixed (codes ".NE.") [] (Operator Ne)
    ∷ fixed (codes ".GT.") (codes "=") (Operator Gt) ∷ fixed (codes ".GE.") [] (Operator Ge)
    ∷ fixed (codes ".NOT.") [] (Operator Not) ∷ fixed (codes ".AND.") [] (Operator And)
    ∷ fixed (codes ".OR.") [] (Operator Or) ∷ fixed (codes ".EQV.") [] (Operator Eqv)
    ∷ fixed (codes ".NEQV.") [] (Operator Neqv) ∷ []

abbrev pub either : Option Front → Option Front → Option Front
either (Some f) next = Some f
either None next = next

abbrev pub fixed_word : List Symbol90 → Option Front
fixed_word text = either (first_of marks text) (either (first_of signs text) (first_of dotted text))

-- by whether it begins with a digit, or with a letter
abbrev pub word_by : Bool → Bool → List Symbol90 → Option Front
word_by true l text = number (run_of is_digit text)
word_by false true text = name (run_of goes_on90 text)
word_by false false text = fixed_word text

abbrev pub word : List Symbol90 → Option Front
word [] = None
word (Char c ∷ ss) = word_by (is_digit c) (is_letter c) (Char c ∷ ss)
word (Gap ∷ ss) = None
word (Text t ∷ ss) = some (Constant t) ss
