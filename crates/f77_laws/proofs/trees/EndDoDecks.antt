-- Worked decks on what END DO closes. Above each text stands the deck that it is of.
use Rattle.std.proofs.Common.{◌<◌, refl, List, [], ◌∷◌, None, Some, true, arith}
use lib.Chars.{codes}
use Rattle.tree.specs.Plain as tree
use Rattle.tree.specs.Plain.{Binary}
use Rattle.tree.specs.declared.ops.Op.TheVariants.{Eq}
use Rattle.f77_grammar.specs.Statement77.{Labelled, If, EndIf, Do, EndDo}
use Rattle.f77_grammar.specs.program.Limits.{no_values}
use Rattle.f77_grammar.specs.program.EndDo.{with_loop_labels}
use Rattle.f77_grammar.specs.program.Blocks.{AreBlock77}
use Rattle.f77_laws.specs.trees.Written.{AreClosed}
use Rattle.f77_laws.specs.trees.Written.IsClosed.{end_do}
use Rattle.f77_laws.specs.trees.Written.AreClosed.{nothing, more}
use Rattle.f77_laws.proofs.trees.Lists.{not_both}
use Rattle.f77_laws.proofs.trees.WellNested.{nested_form_block}
use Rattle.f77_laws.proofs.trees.Written.{nested_are_closed}
use Rattle.meaning.proofs.DeckWords.{n, v}
use Rattle.f77_grammar.proofs.programs.Words.{s, l}

--       DO I = 1, 3
--       DO 10 J = 1, 2
--    10 END DO
--       END DO
abbrev inner : List Labelled
inner = s 2 (Do (Some 10) (codes "J") (n 1) (n 2) (n 1)) ∷ l 10 3 (EndDo) ∷ []

abbrev one_in_another : List Labelled
one_in_another =
    s 1 (Do None (codes "I") (n 1) (n 3) (n 1))
    ∷ s 2 (Do (Some 10) (codes "J") (n 1) (n 2) (n 1))
    ∷ l 10 3 (EndDo)
    ∷ s 4 (EndDo)
    ∷ []

inner_closed : AreClosed inner
inner_closed =
    more inner []
    (end_do (s 2 (Do (Some 10) (codes "J") (n 1) (n 2) (n 1))) (l 10 3 (EndDo)) (Some 10) (codes "J") (n 1) (n 2) (n 1) []
    refl nothing refl refl)
    nothing

one_in_another_closed : AreClosed one_in_another
one_in_another_closed =
    more one_in_another []
    (end_do (s 1 (Do None (codes "I") (n 1) (n 3) (n 1))) (s 4 (EndDo)) None (codes "I") (n 1) (n 3) (n 1) inner
    refl inner_closed refl tt)
    nothing

--       DO 10 I = 1, 3
--       DO 10 J = 1, 3
--    10 END DO
abbrev two_loops_one_end : List Labelled
two_loops_one_end =
    s 1 (Do (Some 10) (codes "I") (n 1) (n 3) (n 1))
    ∷ s 2 (Do (Some 10) (codes "J") (n 1) (n 3) (n 1))
    ∷ l 10 3 (EndDo)
    ∷ []

two_loops_no_block : (cs : List tree.Statement) → AreBlock77 [] no_values [] (with_loop_labels two_loops_one_end) cs → ⊥
two_loops_no_block cs h =
    let nested = (nested_form_block [] no_values [] (with_loop_labels two_loops_one_end) (refl, (refl, (refl, tt)))).1 (cs, h) in
    not_both true refl nested.1.1.0

below : 10 < 100000
below = omega arith

two_loops_not_closed : AreClosed two_loops_one_end → ⊥
two_loops_not_closed h =
    let nested = (nested_are_closed two_loops_one_end (below, (below, (tt, tt))) (refl, (refl, (refl, tt)))).1 h in
    not_both true refl nested.1.1.0

--       DO I = 1, 3
--       IF (I .EQ. 2) THEN
--       END DO
--       END IF
abbrev end_do_in_if : List Labelled
end_do_in_if =
    s 1 (Do None (codes "I") (n 1) (n 3) (n 1))
    ∷ s 2 (If (Binary Eq (v "I") (n 2)))
    ∷ s 3 (EndDo)
    ∷ s 4 (EndIf)
    ∷ []

end_do_in_if_not_closed : AreClosed end_do_in_if → ⊥
end_do_in_if_not_closed h =
    let nested = (nested_are_closed end_do_in_if (tt, (tt, (tt, (tt, tt)))) (refl, (refl, (refl, (refl, tt))))).1 h in
    not_both true refl nested.1.1.0
