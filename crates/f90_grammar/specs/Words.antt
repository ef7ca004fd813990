-- The words of a statement in free form.
use Rattle.std.specs.Prelude.{◌≡◌, ℕ, ◌≤◌, ◌==◌, Bool, true, false, ◌||◌, IsTrue}
use Rattle.std.specs.Prelude.{◌⊎◌, List, [], ◌∷◌, ◌++◌, length, map, codes}
use Rattle.tree.specs.OperatorTable.{spelling77_of, spelling90_of}
use Rattle.tree.specs.declared.ops.Op.{Op}
use Rattle.tree.specs.declared.ops.Op.TheVariants.{Mul, Div, Neg, Lt, Gt}
use Rattle.reading.specs.Characters.{is_digit, is_letter, upper, Pass, IsDigits, doubled, IsEnded}

-- A literal is its digits. `Head` is a name with the parenthesis behind it. A minus sign is Sub, wherever it stands
pub data Word90 : Type 0 where
  Digits : List ℕ → Word90
  Truth : Bool → Word90
  Name : List ℕ → Word90
  Head : List ℕ → Word90
  Operator : Op → Word90
  Open : Word90
  Close : Word90
  OpenList : Word90
  CloseList : Word90
  Comma : Word90
  Equals : Word90
  Colon : Word90
  Colons : Word90
  Constant : List ℕ → Word90

-- characters outside constants, in upper case; a gap between words; a constant
pub data Symbol90 : Type 0 where
  Char : ℕ → Symbol90
  Gap : Symbol90
  Text : List ℕ → Symbol90

-- no end of a line stands in a constant
abbrev pub IsInLine : List ℕ → Type 0
IsInLine [] = Unit {0}
IsInLine (c ∷ cs) = ((c == 10) ≡ false) × IsInLine cs

pub data Symbols : List ℕ → List Symbol90 → Type 0 where
  nothing : Symbols [] []
  blank : {cs : List ℕ} {ss : List Symbol90} → Symbols cs ss → Symbols (32 ∷ cs) (Gap ∷ ss)
  line_end : {cs : List ℕ} {ss : List Symbol90} → Symbols cs ss → Symbols (10 ∷ cs) (Gap ∷ ss)
  character : (c : ℕ) {cs : List ℕ} {ss : List Symbol90} → (c == 32) ≡ false → (c == 10) ≡ false → (c == 39) ≡ false
      → Symbols cs ss → Symbols (c ∷ cs) (Char (upper c) ∷ ss)
  constant : (c : ℕ) (t : List ℕ) {cs : List ℕ} {ss : List Symbol90} → IsInLine (c ∷ t) → IsEnded cs → Symbols cs ss
      → Symbols (39 ∷ (doubled (c ∷ t) ++ 39 ∷ cs)) (Text (c ∷ t) ∷ ss)

-- ---- spelling

-- of names: letters, digits and underscores
abbrev pub goes_on90 : ℕ → Bool
goes_on90 c = is_letter c || (is_digit c || (c == 95))

-- 1 to 31 characters, the first a letter
abbrev pub IsName90 : List ℕ → Type 0
IsName90 [] = ⊥
IsName90 (c ∷ cs) = IsTrue (is_letter c) × Pass goes_on90 cs × (length cs ≤ 30)

-- relations have two spellings; a minus sign is Sub
abbrev pub IsOperator : Op → List ℕ → Type 0
IsOperator Neg t = ⊥
IsOperator o t = (t ≡ spelling90_of o) ⊎ (t ≡ spelling77_of o)

abbrev pub truth_text : Bool → List ℕ
truth_text true = codes ".TRUE."
truth_text false = codes ".FALSE."

-- the characters of a word that has no gap in it
abbrev pub Spelled90 : Word90 → List ℕ → Type 0
Spelled90 (Digits t) text = (text ≡ t) × IsDigits t
Spelled90 (Truth b) text = text ≡ truth_text b
Spelled90 (Name x) text = (text ≡ x) × IsName90 x
Spelled90 (Head x) text = ⊥
Spelled90 (Operator o) text = IsOperator o text
Spelled90 Open text = text ≡ codes "("
Spelled90 Close text = text ≡ codes ")"
Spelled90 OpenList text = text ≡ codes "(/"
Spelled90 CloseList text = text ≡ codes "/)"
Spelled90 Comma text = text ≡ codes ","
Spelled90 Equals text = text ≡ codes "="
Spelled90 Colon text = text ≡ codes ":"
Spelled90 Colons text = text ≡ codes "::"
Spelled90 (Constant t) text = ⊥

abbrev pub chars90 : List ℕ → List Symbol90
chars90 cs = map Char cs

abbrev pub AreGaps : List Symbol90 → Type 0
AreGaps [] = Unit {0}
AreGaps (Gap ∷ ss) = AreGaps ss
AreGaps (s ∷ ss) = ⊥

abbrev pub SpelledBy90 : Word90 → List Symbol90 → Type 0
SpelledBy90 (Constant t) text = text ≡ Text t ∷ []
SpelledBy90 (Head x) text =
    (gaps : List Symbol90) × (text ≡ chars90 x ++ (gaps ++ Char 40 ∷ [])) × IsName90 x × AreGaps gaps
SpelledBy90 w text = (cs : List ℕ) × (text ≡ chars90 cs) × Spelled90 w cs

-- the first symbol, if any, isn't such a character
abbrev pub Stops90 : (ℕ → Bool) → List Symbol90 → Type 0
Stops90 p (Char c ∷ ss) = p c ≡ false
Stops90 p ss = Unit {0}

-- a parenthesis behind a name belongs to it, but for one that begins a list
abbrev pub HasNoParenthesis : List Symbol90 → Type 0
HasNoParenthesis [] = Unit {0}
HasNoParenthesis (Gap ∷ ss) = HasNoParenthesis ss
HasNoParenthesis (Char c ∷ ss) = c ≡ 40 → (rest : List Symbol90) × (ss ≡ Char 47 ∷ rest)
HasNoParenthesis (Text t ∷ ss) = Unit {0}

-- A word goes as far as it can
abbrev pub IsWhole90 : Word90 → List Symbol90 → Type 0
IsWhole90 (Digits t) rest = Stops90 goes_on90 rest
IsWhole90 (Name x) rest = Stops90 goes_on90 rest × HasNoParenthesis rest
IsWhole90 (Head x) rest = Stops90 (λ c. c == 47) rest
IsWhole90 Open rest = Stops90 (λ c. c == 47) rest
IsWhole90 Equals rest = Stops90 (λ c. c == 61) rest
IsWhole90 Colon rest = Stops90 (λ c. c == 58) rest
IsWhole90 (Operator Mul) rest = Stops90 (λ c. c == 42) rest
IsWhole90 (Operator Div) rest = Stops90 (λ c. (c == 61) || (c == 41)) rest
IsWhole90 (Operator Lt) rest = Stops90 (λ c. c == 61) rest
IsWhole90 (Operator Gt) rest = Stops90 (λ c. c == 61) rest
IsWhole90 w rest = Unit {0}

pub record Begins90 (text : List Symbol90) (w : Word90) (rest : List Symbol90) : Type 0 where
  pub gaps : List Symbol90
  pub front : List Symbol90
  pub same : text ≡ gaps ++ (front ++ rest)
  pub are_gaps : AreGaps gaps
  pub spelled : SpelledBy90 w front
  pub whole : IsWhole90 w rest

-- the words of a text
abbrev pub AreWords90 : List Symbol90 → List Word90 → Type 0
AreWords90 text [] = AreGaps text
AreWords90 text (w ∷ ws) = (rest : List Symbol90) × Begins90 text w rest × AreWords90 rest ws

-- the words of a statement's characters
abbrev pub HasWords : List ℕ → List Word90 → Type 0
HasWords cs ws = (ss : List Symbol90) × Symbols cs ss × AreWords90 ss ws
