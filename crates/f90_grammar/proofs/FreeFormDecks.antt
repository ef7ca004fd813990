-- Lines in free form, and the statements that they are.
use Rattle.std.proofs.Common.{refl, ℕ, true, false, List, [], ◌∷◌, codes}
use Prim.Native.String.{String}
use Rattle.f90_grammar.specs.FreeForm.{LinePiece, IsPiece, CommentedPiece, FreeStatement, AreStatements}
use Rattle.f90_grammar.specs.FreeForm.AreStatements.{ends, begins}
use Rattle.f90_grammar.specs.FreeForm.AreMarks.{none}

abbrev alone : String → LinePiece
alone t = record { before = []; is_pulled = false; chars = codes t; is_continued = false; is_single = false; behind = []; comment = [] }

-- A = &
--   &B
abbrev first : LinePiece
first = record { before = []; is_pulled = false; chars = codes "A = "; is_continued = true; is_single = false; behind = []; comment = [] }

abbrev second : LinePiece
second = record { before = codes "  "; is_pulled = true; chars = codes "B"; is_continued = false; is_single = false; behind = []; comment = [] }

-- PRINT *, 'X! &
-- &Y' ! end
abbrev third : LinePiece
third = record { before = []; is_pulled = false; chars = codes "PRINT *, 'X! "; is_continued = true; is_single = false; behind = codes " "; comment = [] }

abbrev fourth : LinePiece
fourth = record { before = []; is_pulled = true; chars = codes "Y' "; is_continued = false; is_single = false; behind = []; comment = codes "! end" }

is_first : IsPiece false first
is_first = record { blanks = refl; comment = refl; in_constant = refl; leading = refl; final = refl; single = refl; is_line = refl }

is_second : IsPiece false second
is_second = record { blanks = refl; comment = refl; in_constant = refl; leading = refl; final = refl; single = refl; is_line = refl }

is_third : IsPiece false third
is_third = record { blanks = refl; comment = refl; in_constant = refl; leading = refl; final = refl; single = refl; is_line = refl }

is_fourth : IsPiece true fourth
is_fourth = record { blanks = refl; comment = refl; in_constant = refl; leading = refl; final = refl; single = refl; is_line = refl }

abbrev plain : LinePiece → CommentedPiece
plain p = record { comments = []; piece = p }

abbrev statement : ℕ → List ℕ → FreeStatement
statement n t = record { line = n; ahead = []; chars = t; within = [] }

two_statements : AreStatements 1 (codes "A = &" ∷ codes "  &B" ∷ codes "PRINT *, 'X! & " ∷ codes "&Y' ! end" ∷ codes " ! done" ∷ []) (statement 1 (codes "A = B") ∷ statement 3 (codes "PRINT *, 'X! Y' ") ∷ [])
two_statements =
    begins 1 (plain first) (plain second ∷ []) [] [] _ _ refl (is_first, refl, (is_second, refl)) none none
    (begins 3 (plain third) (plain fourth ∷ []) [] [] _ _ refl (is_third, refl, (is_fourth, refl)) none none
    (ends 5 (codes " ! done" ∷ []) refl))

-- A = B &
-- &
-- & + C
abbrev lone : LinePiece
lone = record { before = []; is_pulled = true; chars = []; is_continued = true; is_single = true; behind = []; comment = [] }

is_lone : IsPiece false lone
is_lone = record { blanks = refl; comment = refl; in_constant = refl; leading = refl; final = refl; single = refl; is_line = refl }

abbrev sum_first : LinePiece
sum_first = record { before = []; is_pulled = false; chars = codes "A = B "; is_continued = true; is_single = false; behind = []; comment = [] }

abbrev sum_last : LinePiece
sum_last = record { before = []; is_pulled = true; chars = codes " + C"; is_continued = false; is_single = false; behind = []; comment = [] }

lone_ampersand : AreStatements 1 (codes "A = B &" ∷ codes "&" ∷ codes "& + C" ∷ []) (statement 1 (codes "A = B  + C") ∷ [])
lone_ampersand = begins 1 (plain sum_first) (plain lone ∷ plain sum_last ∷ []) [] [] _ _ refl
    (record { blanks = refl; comment = refl; in_constant = refl; leading = refl; final = refl; single = refl; is_line = refl }, refl, (is_lone, refl, (record { blanks = refl; comment = refl; in_constant = refl; leading = refl; final = refl; single = refl; is_line = refl }, refl))) none none (ends 4 [] refl)
