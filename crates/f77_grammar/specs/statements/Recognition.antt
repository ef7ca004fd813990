-- How a statement is recognised, and the words that are left out of the profile by name (ANSI X3.9-1978, section 3 and
-- table 1).
use Rattle.std.specs.Prelude.{ℕ, zero, suc, ◌≡◌, Bool, true, false, ◌==◌, IsTrue, Option, Some, None, List, []}
use Rattle.std.specs.Prelude.{◌∷◌, ◌++◌, codes, Contains, if◌then◌else◌}
use Rattle.f77_grammar.specs.expressions.Spelling.{IsName77, chars77}
use Rattle.reading.specs.Characters.{is_letter}
use Rattle.f77_grammar.specs.expressions.Squeezing.{Symbol77, Char, Text, Broken}
use Rattle.f77_grammar.specs.statements.Forms.{IsLabel77, optional_comma}

-- ---- parentheses; those in a character constant don't count, since a constant is one symbol

-- a text up to a closing parenthesis, and behind it
pub record Halves : Type 0 where
  pub inside : List Symbol77
  pub behind : List Symbol77

abbrev pub with_symbol : Symbol77 → Option Halves → Option Halves
with_symbol s None = None
with_symbol s (Some h) = Some (record { inside = s ∷ h.inside; behind = h.behind })

-- What a character does to the number of open parentheses
pub data Bracket : Type 0 where
  Opening : Bracket
  Closing : Bracket
  Neither : Bracket

abbrev pub bracket_in : Bool → Bool → Bracket
bracket_in true b = Opening
bracket_in false true = Closing
bracket_in false false = Neither

abbrev pub bracket_of : Symbol77 → Bracket
bracket_of (Char c) = bracket_in (c == 40) (c == 41)
bracket_of (Text t) = Neither
bracket_of Broken = Neither

-- what the first symbol does to the cut, by the cut of what stands behind it, where `opened` more parentheses are open
abbrev pub cut_by : Bracket → Symbol77 → List Symbol77 → (ℕ → Option Halves) → ℕ → Option Halves
cut_by Opening s ss more opened = with_symbol s (more (suc opened))
cut_by Neither s ss more opened = with_symbol s (more opened)
cut_by Closing s ss more zero = Some (record { inside = []; behind = ss })
cut_by Closing s ss more (suc opened) = with_symbol s (more opened)

-- the text cut at the parenthesis that closes one that was opened before it
abbrev pub cut_from : List Symbol77 → ℕ → Option Halves
cut_from [] opened = None
cut_from (s ∷ ss) opened = cut_by (bracket_of s) s ss (cut_from ss) opened

abbrev pub cut_at_close : List Symbol77 → Option Halves
cut_at_close text = cut_from text 0

abbrev pub is_equals : Symbol77 → Bool
is_equals (Char c) = c == 61
is_equals s = false

abbrev pub has_equals_by : Bracket → Symbol77 → (ℕ → Bool) → ℕ → Bool
has_equals_by Opening s more opened = more (suc opened)
has_equals_by Closing s more zero = more zero
has_equals_by Closing s more (suc opened) = more opened
has_equals_by Neither s more zero = if is_equals s then true else more zero
has_equals_by Neither s more (suc opened) = more (suc opened)

-- an equals sign stands outside parentheses; a closing parenthesis without partner counts nothing
abbrev pub has_equals_outside : List Symbol77 → ℕ → Bool
has_equals_outside [] opened = false
has_equals_outside (s ∷ ss) opened = has_equals_by (bracket_of s) s (has_equals_outside ss) opened

-- ---- a statement that begins with IF( is a block IF or a logical IF, where a letter follows the matching parenthesis

abbrev pub BeginsWithLetter : List Symbol77 → Type 0
BeginsWithLetter (Char c ∷ ss) = IsTrue (is_letter c)
BeginsWithLetter ss = ⊥

pub record IsConditional (text condition rest : List Symbol77) : Type 0 where
  pub opened : List Symbol77
  pub begins : text ≡ chars77 (codes "IF(") ++ opened
  pub cut : cut_at_close opened ≡ Some (record { inside = condition; behind = rest })
  pub letter : BeginsWithLetter rest

-- any other statement with an equals sign outside parentheses is an assignment or a DO, and what is left is the
-- statement of a keyword
pub record IsOfKeyword (text : List Symbol77) : Type 0 where
  pub unconditional : (condition rest : List Symbol77) → IsConditional text condition rest → ⊥
  pub no_equals : has_equals_outside text 0 ≡ false

-- ---- words that are left out of the profile

abbrev pub words_left_out : List (List ℕ × ℕ)
words_left_out =
    (codes "REAL", 1) ∷ (codes "DOUBLEPRECISION", 2) ∷ (codes "COMPLEX", 3) ∷ (codes "CHARACTER", 4)
    ∷ (codes "EQUIVALENCE", 5) ∷ (codes "COMMON", 6) ∷ (codes "DATA", 7) ∷ (codes "SAVE", 8) ∷ (codes "IMPLICIT", 9)
    ∷ (codes "ENTRY", 10) ∷ (codes "BLOCKDATA", 11) ∷ (codes "FORMAT", 12) ∷ (codes "FUNCTION", 13)
    ∷ (codes "INTEGERFUNCTION", 14) ∷ (codes "LOGICALFUNCTION", 15) ∷ (codes "SUBROUTINE", 16) ∷ (codes "CALL", 17)
    ∷ (codes "RETURN", 18) ∷ (codes "ASSIGN", 19) ∷ (codes "PAUSE", 20) ∷ (codes "EXTERNAL", 21)
    ∷ (codes "INTRINSIC", 22) ∷ (codes "OPEN", 23) ∷ (codes "CLOSE", 24) ∷ (codes "INQUIRE", 25)
    ∷ (codes "REWIND", 26) ∷ (codes "BACKSPACE", 27) ∷ (codes "ENDFILE", 28) ∷ (codes "INCLUDE", 29)
    ∷ (codes "DOWHILE", 30) ∷ []

-- one label at least, separated by commas
abbrev pub AreMoreLabels : List (List ℕ) → List Symbol77 → Type 0
AreMoreLabels [] text = text ≡ []
AreMoreLabels (label ∷ labels) text =
    (rest : List Symbol77) × (text ≡ chars77 (codes "," ++ label) ++ rest) × IsLabel77 label
    × AreMoreLabels labels rest

abbrev pub AreLabels : List ℕ → List (List ℕ) → List Symbol77 → Type 0
AreLabels label labels text = (rest : List Symbol77) × (text ≡ chars77 label ++ rest) × IsLabel77 label
    × AreMoreLabels labels rest

abbrev pub IsNothing : List Symbol77 → Type 0
IsNothing text = text ≡ []

-- IF (e) l1, l2, l3 (section 11.4)
pub record IsArithmeticIf (text : List Symbol77) : Type 0 where
  pub opened : List Symbol77
  pub begins : text ≡ chars77 (codes "IF(") ++ opened
  pub condition : List Symbol77
  pub rest : List Symbol77
  pub cut : cut_at_close opened ≡ Some (record { inside = condition; behind = rest })
  pub something : ¬ IsNothing condition
  pub first : List ℕ
  pub second : List ℕ
  pub third : List ℕ
  pub labels : AreLabels first (second ∷ third ∷ []) rest

-- GO TO (l1, ..) [,] e (section 11.2): a comma behind the labels is taken, and what follows it is something
pub record IsComputedGoTo (text : List Symbol77) : Type 0 where
  pub list : List Symbol77
  pub first : List ℕ
  pub others : List (List ℕ)
  pub labels : AreLabels first others list
  pub comma : Bool
  pub index : List Symbol77
  pub written : text ≡ chars77 (codes "GOTO(") ++ (list ++ (chars77 (codes ")" ++ optional_comma comma) ++ index))
  pub something : ¬ IsNothing index
  pub taken : comma ≡ false → (rest : List Symbol77) → index ≡ Char 44 ∷ rest → ⊥

-- GO TO x, and GO TO x [,] (l1, ..) (section 11.3)
pub data IsAssignedGoTo (text : List Symbol77) : Type 0 where
  Alone : (name : List ℕ) → IsName77 name → text ≡ chars77 (codes "GOTO" ++ name) → IsAssignedGoTo text
  WithLabels : (name : List ℕ) (comma : Bool) (first : List ℕ) (others : List (List ℕ)) (list : List Symbol77)
      → IsName77 name → AreLabels first others list
      → text ≡ chars77 (codes "GOTO" ++ (name ++ (optional_comma comma ++ codes "("))) ++ (list ++ chars77 (codes ")"))
      → IsAssignedGoTo text

-- IMPLICIT NONE is of the profile, so what begins with it has no word
abbrev pub BeginsImplicitNone : List Symbol77 → Type 0
BeginsImplicitNone text = (rest : List Symbol77) × (text ≡ chars77 (codes "IMPLICITNONE") ++ rest)

-- The word with which the text begins, or that its form has; of a logical IF, the word of its inner statement
pub data HasWord : List Symbol77 → ℕ → Type 0 where
  BeginsWith : (word : List ℕ) (number : ℕ) (text rest : List Symbol77) → IsOfKeyword text
      → Contains words_left_out (word, number) → text ≡ chars77 word ++ rest → (BeginsImplicitNone text → ⊥)
      → HasWord text number
  ArithmeticIf : (text : List Symbol77) → IsOfKeyword text → IsArithmeticIf text → HasWord text 32
  ComputedGoTo : (text : List Symbol77) → IsOfKeyword text → IsComputedGoTo text → HasWord text 33
  AssignedGoTo : (text : List Symbol77) → IsOfKeyword text → IsAssignedGoTo text → HasWord text 34
  Inner : (text condition rest : List Symbol77) (number : ℕ) → IsConditional text condition rest
      → (rest ≡ chars77 (codes "THEN") → ⊥) → HasWord rest number → HasWord text number
