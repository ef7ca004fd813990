-- Words that are left out, at the front of a text.
use Rattle.std.specs.Prelude.{ℕ, Bool, Option, Some, None, List, [], ◌∷◌, is_some, codes, if◌then◌else◌}
use Rattle.f77_grammar.specs.expressions.Squeezing.{Symbol77}
use Rattle.f77_expressions.specs.Lexing.{strip}

abbrev pub begins_with : List ℕ → List Symbol77 → Bool
begins_with word text = is_some (strip word text)

-- the number of the first of the words with which the text begins
abbrev pub listed : List (List ℕ × ℕ) → List Symbol77 → Option ℕ
listed [] text = None
listed (w ∷ ws) text = if begins_with w.0 text then Some w.1 else listed ws text

abbrev pub declarations : List (List ℕ × ℕ)
declarations =
    (codes "REAL", 1) ∷ (codes "DOUBLEPRECISION", 2) ∷ (codes "COMPLEX", 3) ∷ (codes "CHARACTER", 4)
    ∷ (codes "EQUIVALENCE", 5) ∷ (codes "COMMON", 6) ∷ (codes "DATA", 7) ∷ (codes "SAVE", 8) ∷ (codes "IMPLICIT", 9)
    ∷ (codes "ENTRY", 10) ∷ (codes "BLOCKDATA", 11) ∷ (codes "FORMAT", 12) ∷ []

abbrev pub procedures : List (List ℕ × ℕ)
procedures =
    (codes "FUNCTION", 13) ∷ (codes "INTEGERFUNCTION", 14) ∷ (codes "LOGICALFUNCTION", 15) ∷ (codes "SUBROUTINE", 16)
    ∷ (codes "CALL", 17) ∷ (codes "RETURN", 18) ∷ (codes "ASSIGN", 19) ∷ (codes "PAUSE", 20) ∷ (codes "EXTERNAL", 21)
    ∷ (codes "INTRINSIC", 22) ∷ []

abbrev pub files_and_loops : List (List ℕ × ℕ)
files_and_loops =
    (codes "OPEN", 23) ∷ (codes "CLOSE", 24) ∷ (codes "INQUIRE", 25) ∷ (codes "REWIND", 26) ∷ (codes "BACKSPACE", 27)
    ∷ (codes "ENDFILE", 28) ∷ (codes "INCLUDE", 29) ∷ (codes "DOWHILE", 30) ∷ []
