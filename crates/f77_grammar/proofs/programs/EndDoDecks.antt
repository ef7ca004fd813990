-- Worked decks on END DO and on DO without a label. Above each text stands the deck that it is of.
use Rattle.std.proofs.Common.{◌≡◌, refl, List, [], ◌∷◌, Some, None}
use lib.Chars.{codes}
use Rattle.tree.specs.Plain.{Binary}
use Rattle.tree.specs.declared.ops.Op.TheVariants.{Add, Eq}
use Rattle.meaning.specs.Dialect.{fortran77}
use Rattle.tree.specs.declared.width.Width.TheVariants.{Plain}
use Rattle.tree.specs.Causes.{refusal_at}
use Rattle.tree.specs.declared.refusals.Cause.TheVariants as causes
use Rattle.f77_grammar.specs.Statement77.{Labelled, Assign, Go, Test, If, Else, EndIf, Do, EndDo, Continue, End}
use Rattle.f77_grammar.specs.program.EndDo.{with_loop_labels}
use Rattle.f77_grammar.specs.program.Program77.{findings}
use Rattle.meaning.proofs.DeckWords.{n, v, to}
use Rattle.f77_grammar.proofs.programs.Words.{s, l}
use Rattle.f77_grammar.proofs.programs.Least.{least}

--       DO I = 1, 3
--       K = K + I
--       END DO
--       END
abbrev plain_loop : List Labelled
plain_loop =
    s 1 (Do None (codes "I") (n 1) (n 3) (n 1))
    ∷ s 2 (Assign (to "K") (Binary Add (v "K") (v "I")))
    ∷ s 3 (EndDo)
    ∷ s 4 (End)
    ∷ []

plain_loop_read : findings (fortran77 Plain) (with_loop_labels plain_loop) ≡ []
plain_loop_read = refl

--       DO 10 I = 1, 3
--       K = K + I
--    10 END DO
--       END
abbrev labelled_loop : List Labelled
labelled_loop =
    s 1 (Do (Some 10) (codes "I") (n 1) (n 3) (n 1))
    ∷ s 2 (Assign (to "K") (Binary Add (v "K") (v "I")))
    ∷ l 10 3 (EndDo)
    ∷ s 4 (End)
    ∷ []

labelled_loop_read : findings (fortran77 Plain) (with_loop_labels labelled_loop) ≡ []
labelled_loop_read = refl

--       DO I = 1, 3
--       DO 20 J = 1, 2
--    20 END DO
--       END DO
--       END
abbrev labelled_in_plain : List Labelled
labelled_in_plain =
    s 1 (Do None (codes "I") (n 1) (n 3) (n 1))
    ∷ s 2 (Do (Some 20) (codes "J") (n 1) (n 2) (n 1))
    ∷ l 20 3 (EndDo)
    ∷ s 4 (EndDo)
    ∷ s 5 (End)
    ∷ []

labelled_in_plain_read : findings (fortran77 Plain) (with_loop_labels labelled_in_plain) ≡ []
labelled_in_plain_read = refl

--       DO 10 I = 1, 3
--       DO J = 1, 2
--       END DO
--    10 CONTINUE
--       END
abbrev plain_in_labelled : List Labelled
plain_in_labelled =
    s 1 (Do (Some 10) (codes "I") (n 1) (n 3) (n 1))
    ∷ s 2 (Do None (codes "J") (n 1) (n 2) (n 1))
    ∷ s 3 (EndDo)
    ∷ l 10 4 (Continue)
    ∷ s 5 (End)
    ∷ []

plain_in_labelled_read : findings (fortran77 Plain) (with_loop_labels plain_in_labelled) ≡ []
plain_in_labelled_read = refl

--       DO I = 1, 2
--       DO J = 1, 2
--     4 END DO
--       END DO
--       END
abbrev given_label_free : List Labelled
given_label_free =
    s 1 (Do None (codes "I") (n 1) (n 2) (n 1))
    ∷ s 2 (Do None (codes "J") (n 1) (n 2) (n 1))
    ∷ l 4 3 (EndDo)
    ∷ s 4 (EndDo)
    ∷ s 5 (End)
    ∷ []

given_label_free_read : findings (fortran77 Plain) (with_loop_labels given_label_free) ≡ []
given_label_free_read = refl

--       DO 10 I = 1, 3
--       DO 10 J = 1, 2
--    10 END DO
--       END
abbrev two_loops_one_end : List Labelled
two_loops_one_end =
    s 1 (Do (Some 10) (codes "I") (n 1) (n 3) (n 1))
    ∷ s 2 (Do (Some 10) (codes "J") (n 1) (n 2) (n 1))
    ∷ l 10 3 (EndDo)
    ∷ s 4 (End)
    ∷ []

two_loops_one_end_refused : least (findings (fortran77 Plain) (with_loop_labels two_loops_one_end)) ≡ Some (refusal_at causes.Nesting 3)
two_loops_one_end_refused = refl

--       DO 10 I = 1, 3
--       DO J = 1, 2
--    10 END DO
--       END
abbrev outer_label : List Labelled
outer_label =
    s 1 (Do (Some 10) (codes "I") (n 1) (n 3) (n 1))
    ∷ s 2 (Do None (codes "J") (n 1) (n 2) (n 1))
    ∷ l 10 3 (EndDo)
    ∷ s 4 (End)
    ∷ []

outer_label_refused : least (findings (fortran77 Plain) (with_loop_labels outer_label)) ≡ Some (refusal_at causes.Nesting 3)
outer_label_refused = refl

--       DO 10 I = 1, 3
--       DO J = 1, 3
--    10 END DO
--       END DO
--       END
abbrev outer_label_end : List Labelled
outer_label_end =
    s 1 (Do (Some 10) (codes "I") (n 1) (n 3) (n 1))
    ∷ s 2 (Do None (codes "J") (n 1) (n 3) (n 1))
    ∷ l 10 3 (EndDo)
    ∷ s 4 (EndDo)
    ∷ s 5 (End)
    ∷ []

outer_label_end_refused : least (findings (fortran77 Plain) (with_loop_labels outer_label_end)) ≡ Some (refusal_at causes.Nesting 3)
outer_label_end_refused = refl

--       DO 10 I = 1, 3
--       END DO
--    10 CONTINUE
--       END
abbrev unlabelled_end : List Labelled
unlabelled_end =
    s 1 (Do (Some 10) (codes "I") (n 1) (n 3) (n 1))
    ∷ s 2 (EndDo)
    ∷ l 10 3 (Continue)
    ∷ s 4 (End)
    ∷ []

unlabelled_end_refused : least (findings (fortran77 Plain) (with_loop_labels unlabelled_end)) ≡ Some (refusal_at causes.Nesting 2)
unlabelled_end_refused = refl

--       DO I = 1, 3
--       DO 10 J = 1, 2
--       END DO
--    10 CONTINUE
--       END
abbrev unlabelled_end_inside : List Labelled
unlabelled_end_inside =
    s 1 (Do None (codes "I") (n 1) (n 3) (n 1))
    ∷ s 2 (Do (Some 10) (codes "J") (n 1) (n 2) (n 1))
    ∷ s 3 (EndDo)
    ∷ l 10 4 (Continue)
    ∷ s 5 (End)
    ∷ []

unlabelled_end_inside_refused : least (findings (fortran77 Plain) (with_loop_labels unlabelled_end_inside)) ≡ Some (refusal_at causes.Nesting 3)
unlabelled_end_inside_refused = refl

--       DO I = 1, 3
--       IF (I .EQ. 2) THEN
--       END DO
--       END IF
--       END
abbrev end_do_in_if : List Labelled
end_do_in_if =
    s 1 (Do None (codes "I") (n 1) (n 3) (n 1))
    ∷ s 2 (If (Binary Eq (v "I") (n 2)))
    ∷ s 3 (EndDo)
    ∷ s 4 (EndIf)
    ∷ s 5 (End)
    ∷ []

end_do_in_if_refused : least (findings (fortran77 Plain) (with_loop_labels end_do_in_if)) ≡ Some (refusal_at causes.Nesting 3)
end_do_in_if_refused = refl

--       IF (K .EQ. 0) THEN
--       DO I = 1, 3
--       END IF
--       END DO
--       END
abbrev end_if_in_loop : List Labelled
end_if_in_loop =
    s 1 (If (Binary Eq (v "K") (n 0)))
    ∷ s 2 (Do None (codes "I") (n 1) (n 3) (n 1))
    ∷ s 3 (EndIf)
    ∷ s 4 (EndDo)
    ∷ s 5 (End)
    ∷ []

end_if_in_loop_refused : least (findings (fortran77 Plain) (with_loop_labels end_if_in_loop)) ≡ Some (refusal_at causes.Nesting 3)
end_if_in_loop_refused = refl

--       IF (K .EQ. 0) THEN
--       DO I = 1, 3
--       ELSE
--       END DO
--       END IF
--       END
abbrev else_in_loop : List Labelled
else_in_loop =
    s 1 (If (Binary Eq (v "K") (n 0)))
    ∷ s 2 (Do None (codes "I") (n 1) (n 3) (n 1))
    ∷ s 3 (Else)
    ∷ s 4 (EndDo)
    ∷ s 5 (EndIf)
    ∷ s 6 (End)
    ∷ []

else_in_loop_refused : least (findings (fortran77 Plain) (with_loop_labels else_in_loop)) ≡ Some (refusal_at causes.Nesting 3)
else_in_loop_refused = refl

--       DO 10 I = 1, 3
--       DO J = 1, 3
--       IF (J .EQ. 2) THEN
--    10 END DO
--       END IF
--       END
abbrev nearest_that_may : List Labelled
nearest_that_may =
    s 1 (Do (Some 10) (codes "I") (n 1) (n 3) (n 1))
    ∷ s 2 (Do None (codes "J") (n 1) (n 3) (n 1))
    ∷ s 3 (If (Binary Eq (v "J") (n 2)))
    ∷ l 10 4 (EndDo)
    ∷ s 5 (EndIf)
    ∷ s 6 (End)
    ∷ []

nearest_that_may_refused : least (findings (fortran77 Plain) (with_loop_labels nearest_that_may)) ≡ Some (refusal_at causes.Nesting 4)
nearest_that_may_refused = refl

--       DO I = 1, 3
--       DO J = 1, 3
--       END DO
--       END
abbrev open_loop : List Labelled
open_loop =
    s 1 (Do None (codes "I") (n 1) (n 3) (n 1))
    ∷ s 2 (Do None (codes "J") (n 1) (n 3) (n 1))
    ∷ s 3 (EndDo)
    ∷ s 4 (End)
    ∷ []

open_loop_refused : least (findings (fortran77 Plain) (with_loop_labels open_loop)) ≡ Some (refusal_at causes.Nesting 1)
open_loop_refused = refl

--       I = 1
--       END DO
--       END
abbrev end_do_alone : List Labelled
end_do_alone =
    s 1 (Assign (to "I") (n 1))
    ∷ s 2 (EndDo)
    ∷ s 3 (End)
    ∷ []

end_do_alone_refused : least (findings (fortran77 Plain) (with_loop_labels end_do_alone)) ≡ Some (refusal_at causes.Nesting 2)
end_do_alone_refused = refl

--       DO 10 I = 1, 3
--    10 END DO
--       DO 10 I = 1, 3
--       END DO
--       END
abbrev label_behind : List Labelled
label_behind =
    s 1 (Do (Some 10) (codes "I") (n 1) (n 3) (n 1))
    ∷ l 10 2 (EndDo)
    ∷ s 3 (Do (Some 10) (codes "I") (n 1) (n 3) (n 1))
    ∷ s 4 (EndDo)
    ∷ s 5 (End)
    ∷ []

label_behind_refused : least (findings (fortran77 Plain) (with_loop_labels label_behind)) ≡ Some (refusal_at causes.Nesting 3)
label_behind_refused = refl

--       DO I = 1, 3
--       IF (I .EQ. 2) GO TO 10
--       K = K + I
--    10 END DO
--       END
abbrev jump_within : List Labelled
jump_within =
    s 1 (Do None (codes "I") (n 1) (n 3) (n 1))
    ∷ s 2 (Test (Binary Eq (v "I") (n 2)) (Go 10))
    ∷ s 3 (Assign (to "K") (Binary Add (v "K") (v "I")))
    ∷ l 10 4 (EndDo)
    ∷ s 5 (End)
    ∷ []

jump_within_read : findings (fortran77 Plain) (with_loop_labels jump_within) ≡ []
jump_within_read = refl

--       GO TO 10
--       DO I = 1, 3
--    10 END DO
--       END
abbrev jump_in : List Labelled
jump_in =
    s 1 (Go 10)
    ∷ s 2 (Do None (codes "I") (n 1) (n 3) (n 1))
    ∷ l 10 3 (EndDo)
    ∷ s 4 (End)
    ∷ []

jump_in_refused : least (findings (fortran77 Plain) (with_loop_labels jump_in)) ≡ Some (refusal_at causes.Jump 1)
jump_in_refused = refl

--       DO I = 1, 3
--       I = 2
--       END DO
--       END
abbrev inner_variable : List Labelled
inner_variable =
    s 1 (Do None (codes "I") (n 1) (n 3) (n 1))
    ∷ s 2 (Assign (to "I") (n 2))
    ∷ s 3 (EndDo)
    ∷ s 4 (End)
    ∷ []

inner_variable_refused : least (findings (fortran77 Plain) (with_loop_labels inner_variable)) ≡ Some (refusal_at causes.DoVariable 2)
inner_variable_refused = refl
