-- Worked decks whose trees are programs of the profile, found so part by part and by the law. Above each text stands the deck that it is of.
use Rattle.std.proofs.Common.{◌≡◌, refl, List, [], ◌∷◌, Some, Contains, arith, rules}
use lib.Chars.{codes}
use Rattle.std.specs.List.{AllByRecursion}
use Rattle.tree.specs.Plain.{Unary, Binary, Single, Constant, ImpliedDo, items}
use Rattle.tree.specs.declared.ops.Op.TheVariants.{Neg, Add, Eq, Gt, Not}
use Rattle.tree.specs.declared.ops.Kind.TheVariants.{Integer, Logical}
use Rattle.meaning.specs.Dialect.{fortran77}
use Rattle.tree.specs.declared.width.Width.TheVariants.{Plain}
use Rattle.f77_grammar.specs.Statement77.{Labelled, Declare, Constants, Assign, Go, Test, If, ElseIf, Else, EndIf, Do, Continue, Stop, Read, Print, End}
use Rattle.f77_grammar.specs.Statement77 as text
use Rattle.f77_grammar.specs.program.Program77.{findings}
use Rattle.meaning.specs.Profile77.{IsProgram77, AreDeclarations, IsBlock, outermost, all_labels_in, targets_in}
use Rattle.f77_laws.proofs.trees.Trees.{tree_is_read}
use Rattle.f77_laws.specs.trees.Steps.{tree_of}
use Rattle.meaning.proofs.DeckWords.{n, v, at, to_element}
use Rattle.f77_grammar.proofs.programs.Words.{s, l, scalar, array, constant}
use Rattle.f77_laws.specs.Source.{AreSourceStatements}
use Rattle.f77_laws.proofs.Programs.{read_is_program}

--       INTEGER A(5)
--       A(3) = 7
--       DO 20 I = 1, 5
--       IF (A(I) .EQ. 7) GO TO 30
--       IF (A(I) .GT. 7) THEN
--       A(I) = 0
--       END IF
--    20 CONTINUE
--    30 PRINT *, I
--       END
abbrev search_loop : List Labelled
search_loop =
    s 1 (Declare Integer (array "A" ((n 1, n 5) ∷ []) ∷ []))
    ∷ s 2 (Assign (to_element "A" (n 3 ∷ [])) (n 7))
    ∷ s 3 (Do (Some 20) (codes "I") (n 1) (n 5) (n 1))
    ∷ s 4 (Test (Binary Eq (at "A" (v "I" ∷ [])) (n 7)) (Go 30))
    ∷ s 5 (If (Binary Gt (at "A" (v "I" ∷ [])) (n 7)))
    ∷ s 6 (Assign (to_element "A" (v "I" ∷ [])) (n 0))
    ∷ s 7 EndIf
    ∷ l 20 8 Continue
    ∷ l 30 9 (Print (items (Single (v "I") ∷ [])))
    ∷ s 10 End
    ∷ []

search_loop_sound : findings (fortran77 Plain) search_loop ≡ []
search_loop_sound = refl

-- each part by itself, without the law
search_loop_parts : IsProgram77 (fortran77 Plain) (tree_of (fortran77 Plain) search_loop)
search_loop_parts = record {
  name = search rules;
  declarations = search rules;
  statements = search rules;
  blocks = omega arith;
  labels = search rules;
  named = search rules;
  few = omega arith;
}

search_loop_source : AreSourceStatements search_loop
search_loop_source = search rules

search_loop_program : IsProgram77 (fortran77 Plain) (tree_of (fortran77 Plain) search_loop)
search_loop_program = read_is_program (fortran77 Plain) search_loop (tree_of (fortran77 Plain) search_loop) (omega arith) (tree_is_read (fortran77 Plain) search_loop (tree_of (fortran77 Plain) search_loop) refl refl) search_loop_source (omega arith)

--       PROGRAM SWEEP
--       LOGICAL L
--       PARAMETER (M = -3, N = M + 1)
--       INTEGER A(M:3)
--       READ *, L, (A(I), I = 1, 3)
--       IF (L) THEN
--       GO TO 20
--       ELSE IF (.NOT. L) THEN
--       A(1) = N
--       ELSE
--       A(1) = MAX0(1, N, 2) + IABS(N)
--       END IF
--       DO 10 J = 1, 2
--       DO 10 K = 1, 2
--       IF (K .EQ. 1) GO TO 10
--       A(K) = MOD(J, 2)
--    10 CONTINUE
--       IF (A(2) .GT. 0) STOP
--    20 PRINT *, 'A', A
--    30 END
abbrev sweep : List Labelled
sweep =
    s 1 (text.Program (codes "SWEEP"))
    ∷ s 2 (Declare Logical (scalar "L" ∷ []))
    ∷ s 3 (Constants (constant "M" (Unary Neg (n 3)) ∷ constant "N" (Binary Add (v "M") (n 1)) ∷ []))
    ∷ s 4 (Declare Integer (array "A" ((v "M", n 3) ∷ []) ∷ []))
    ∷ s 5 (Read (items (Single (v "L") ∷ ImpliedDo (items (Single (at "A" (v "I" ∷ [])) ∷ [])) (codes "I") (n 1) (n 3) (n 1) ∷ [])))
    ∷ s 6 (If (v "L"))
    ∷ s 7 (Go 20)
    ∷ s 8 (ElseIf (Unary Not (v "L")))
    ∷ s 9 (Assign (to_element "A" (n 1 ∷ [])) (v "N"))
    ∷ s 10 Else
    ∷ s 11 (Assign (to_element "A" (n 1 ∷ [])) (Binary Add (at "MAX0" (n 1 ∷ v "N" ∷ n 2 ∷ [])) (at "IABS" (v "N" ∷ []))))
    ∷ s 12 EndIf
    ∷ s 13 (Do (Some 10) (codes "J") (n 1) (n 2) (n 1))
    ∷ s 14 (Do (Some 10) (codes "K") (n 1) (n 2) (n 1))
    ∷ s 15 (Test (Binary Eq (v "K") (n 1)) (Go 10))
    ∷ s 16 (Assign (to_element "A" (v "K" ∷ [])) (at "MOD" (v "J" ∷ n 2 ∷ [])))
    ∷ l 10 17 Continue
    ∷ s 18 (Test (Binary Gt (at "A" (n 2 ∷ [])) (n 0)) Stop)
    ∷ l 20 19 (Print (items (Constant (codes "A") ∷ Single (v "A") ∷ [])))
    ∷ l 30 20 End
    ∷ []

sweep_sound : findings (fortran77 Plain) sweep ≡ []
sweep_sound = refl

sweep_declarations : AreDeclarations (fortran77 Plain) (tree_of (fortran77 Plain) sweep).declarations
sweep_declarations = search rules

sweep_statements : IsBlock (tree_of (fortran77 Plain) sweep).declarations (tree_of (fortran77 Plain) sweep).body outermost
sweep_statements = search rules

sweep_named : AllByRecursion (Contains (targets_in (tree_of (fortran77 Plain) sweep).body)) (all_labels_in (tree_of (fortran77 Plain) sweep).body)
sweep_named = search rules

sweep_source : AreSourceStatements sweep
sweep_source = search rules

sweep_program : IsProgram77 (fortran77 Plain) (tree_of (fortran77 Plain) sweep)
sweep_program = read_is_program (fortran77 Plain) sweep (tree_of (fortran77 Plain) sweep) (omega arith) (tree_is_read (fortran77 Plain) sweep (tree_of (fortran77 Plain) sweep) refl refl) sweep_source (omega arith)
