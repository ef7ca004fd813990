-- Input and output as bytes (ANSI X3.9-1978, sections 12 and 13.6). 10 ends a line, 9 is a tab, 32 a blank and 44 a
-- comma.
use Rattle.std.specs.Prelude.{Result, Ok, Err, ℕ, ◌+◌, ◌*◌, ◌-◌, ℤ, pos, neg_ℤ, Bool, true, false, ◌&&◌, ◌||◌, nat_le}
use Rattle.std.specs.Prelude.{◌==◌, if◌then◌else◌, List, [], ◌∷◌, ◌++◌}
use lib.Chars.{codes}
use Rattle.std.specs.Fmt.{signed_decimal}
use Rattle.tree.specs.Steps.{◌>>=◌}
use Rattle.tree.specs.declared.ops.Value.{Value}
use Rattle.tree.specs.declared.ops.Value.TheVariants.{Int, Truth}
use Rattle.tree.specs.declared.ops.Fault.{Fault}
use Rattle.tree.specs.declared.ops.Fault.TheVariants.{InputEnd, InputForm}
use Rattle.meaning.specs.Store.{Cell}

-- ---- output

-- a number's shortest decimal text, or T or F
abbrev pub value_text : Value → List ℕ
value_text (Int z) = signed_decimal z
value_text (Truth true) = codes "T"
value_text (Truth false) = codes "F"

-- values in a line of output, each behind one blank
abbrev pub output_text : List Value → List ℕ
output_text [] = []
output_text (v ∷ vs) = 32 ∷ value_text v ++ output_text vs

-- ---- the final store

abbrev pub separated : List ℤ → List ℕ
separated [] = []
separated (i ∷ []) = signed_decimal i
separated (i ∷ j ∷ is) = signed_decimal i ++ codes "," ++ separated (j ∷ is)

-- (1,2), and nothing for a scalar
abbrev pub subscripts_text : List ℤ → List ℕ
subscripts_text [] = []
subscripts_text (i ∷ is) = codes "(" ++ separated (i ∷ is) ++ codes ")"

-- NAME(1,2) = value
abbrev pub final_line : Cell → Value → List ℕ
final_line c v = c.name ++ subscripts_text c.subscripts ++ codes " = " ++ value_text v ++ 10 ∷ []

-- ---- input: what is left of it, from the place in it

-- a CR just before an LF is dropped
abbrev pub without_cr : List ℕ → List ℕ
without_cr [] = []
without_cr (c ∷ []) = c ∷ []
without_cr (c ∷ d ∷ cs) = if c == 13 && d == 10 then without_cr (d ∷ cs) else c ∷ without_cr (d ∷ cs)

abbrev pub is_gap : ℕ → Bool
is_gap c = c == 32 || (c == 9 || c == 10)

abbrev pub is_separator : ℕ → Bool
is_separator c = is_gap c || c == 44

-- a value is the bytes up to a separator
abbrev pub first_word : List ℕ → List ℕ
first_word [] = []
first_word (c ∷ cs) = if is_separator c then [] else c ∷ first_word cs

abbrev pub after_word : List ℕ → List ℕ
after_word [] = []
after_word (c ∷ cs) = if is_separator c then c ∷ cs else after_word cs

-- The input from the next value on. Between two values stand blanks, tabs and line ends with at most one comma, and
-- before
-- the first value of a READ no comma: `comma` says whether one may still come
abbrev pub from_value : Bool → List ℕ → Result (List ℕ) Fault
from_value comma [] = Err InputEnd
from_value comma (c ∷ cs) =
    if is_gap c then from_value comma cs
    else (if c == 44 then (if comma then from_value false cs else Err InputForm) else Ok (c ∷ cs))

abbrev pub after_line : List ℕ → List ℕ
after_line [] = []
after_line (c ∷ cs) = if c == 10 then cs else after_line cs

-- ---- one value of the input

-- n, with the digits put behind it
abbrev pub digits_after : ℕ → List ℕ → Result ℕ Fault
digits_after n [] = Ok n
digits_after n (c ∷ cs) = if nat_le 48 c && nat_le c 57 then digits_after (n * 10 + (c - 48)) cs else Err InputForm

-- digits, one or more
abbrev pub unsigned_number : List ℕ → Result ℤ Fault
unsigned_number [] = Err InputForm
unsigned_number (c ∷ cs) = do
  n ← digits_after 0 (c ∷ cs)
  Ok (pos n)

-- an optional sign and digits
abbrev pub signed_number : List ℕ → Result ℤ Fault
signed_number [] = Err InputForm
signed_number (c ∷ cs) =
    if c == 43 then unsigned_number cs
    else (if c == 45 then (do z ← unsigned_number cs; Ok (neg_ℤ z)) else unsigned_number (c ∷ cs))

abbrev pub has_slash : List ℕ → Bool
has_slash [] = false
has_slash (c ∷ cs) = c == 47 || has_slash cs

-- T or F in either case, then anything without a slash
abbrev pub truth_letter : List ℕ → Result Bool Fault
truth_letter [] = Err InputForm
truth_letter (c ∷ cs) = if has_slash cs then Err InputForm else (if c == 84
    || c == 116 then Ok true else (if c == 70 || c == 102 then Ok false else Err InputForm))

-- an optional period before that
abbrev pub truth_word : List ℕ → Result Bool Fault
truth_word [] = Err InputForm
truth_word (c ∷ cs) = if c == 46 then truth_letter cs else truth_letter (c ∷ cs)

-- the value that a word spells for a variable that holds the value `old`: one of its kind
abbrev pub read_value : Value → List ℕ → Result Value Fault
read_value (Int old) w = do
  z ← signed_number w
  Ok (Int z)
read_value (Truth old) w = do
  b ← truth_word w
  Ok (Truth b)
