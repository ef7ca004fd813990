-- What closes what among statements as they are written, before their loops have labels (ANSI X3.9-1978, sections 11.6
-- to 11.10, and MIL-STD-1753): whatever is opened among them is closed among them, what was opened last first. So END
-- DO closes the nearest DO or block IF that is open, which has to be a DO that it may close, as END IF closes a block
-- IF.
--
--        DO I = 1, 3
--        DO 10 J = 1, 2
--     10 END DO           closes DO 10 J
--        END DO           closes DO I: what stands between them is closed there
use Rattle.std.specs.Prelude.{◌≡◌, ◌↔◌, ℕ, true, false, Option, None, Some, List, [], ◌∷◌, ◌++◌}
use Rattle.std.specs.Option.{IfSome}
use Rattle.std.specs.List.{AllByRecursion}
use Rattle.tree.specs.Plain.{Expression}
use Rattle.f77_grammar.specs.Statement77.{Labelled, If, ElseIf, Else, EndIf, Do, EndDo}
use Rattle.f77_grammar.specs.program.Text.{Place77, places, bears}
use Rattle.f77_grammar.specs.program.Labels.{label_named}
use Rattle.f77_grammar.specs.program.Nesting.{is_nested_wrongly}
use Rattle.f77_grammar.specs.program.EndDo.{with_loop_labels}
use Rattle.f77_grammar.specs.program.Blocks.{stands_alone, IsRange}
use Rattle.f77_laws.specs.Source.{IsSourceLabel}
use Rattle.f77_laws.specs.trees.Laws.{StandOnce}

-- END DO may close a DO without a label, or with the label that it bears
abbrev pub MayClose : Option ℕ → Labelled → Type 0
MayClose None end = Unit {0}
MayClose (Some n) end = bears n end ≡ true

mutual
  -- a statement alone, a block IF up to its END IF, a DO up to its END DO, or a DO with a label and its range
  pub data IsClosed : List Labelled → Type 0 where
    alone : (x : Labelled) → stands_alone x.statement ≡ true → IsClosed (x ∷ [])
    block_if : (x : Labelled) (c : Expression) (first later : List Labelled) → x.statement ≡ If c → AreClosed first
        → AreClosedArms later → IsClosed (x ∷ (first ++ later))
    end_do : (x end : Labelled) (label : Option ℕ) (v : List ℕ) (a b c : Expression) (between : List Labelled)
        → x.statement ≡ Do label v a b c → AreClosed between → end.statement ≡ EndDo → MayClose label end
        → IsClosed (x ∷ (between ++ end ∷ []))
    loop : (x : Labelled) (n : ℕ) (v : List ℕ) (a b c : Expression) (range : List Labelled)
        → x.statement ≡ Do (Some n) v a b c → IsRange n range → AreClosed range → IsClosed (x ∷ range)

  -- one of these after another
  pub data AreClosed : List Labelled → Type 0 where
    nothing : AreClosed []
    more : (first rest : List Labelled) → IsClosed first → AreClosed rest → AreClosed (first ++ rest)

  -- what follows the first arm of a block IF, up to its END IF
  pub data AreClosedArms : List Labelled → Type 0 where
    end_if : (x : Labelled) → x.statement ≡ EndIf → AreClosedArms (x ∷ [])
    else_part : (x end : Labelled) (part : List Labelled) → x.statement ≡ Else → AreClosed part
        → end.statement ≡ EndIf → AreClosedArms (x ∷ (part ++ end ∷ []))
    else_if : (x : Labelled) (c : Expression) (next later : List Labelled) → x.statement ≡ ElseIf c → AreClosed next
        → AreClosedArms later → AreClosedArms (x ∷ (next ++ later))

-- Where each label stands once, that of an END DO too, nothing is nested wrongly in a text with the labels of its loops
-- exactly where the text, as it is written, is closed so. Labels that a card names are below those given to END DO
abbrev pub NestedAreClosed : Type 0
NestedAreClosed = (text : List Labelled)
    → AllByRecursion (λ (x : Labelled). IfSome (label_named x.statement) IsSourceLabel) text
    → StandOnce (with_loop_labels text)
    → AllByRecursion (λ (p : Place77). is_nested_wrongly p ≡ false) (places (with_loop_labels text)) ↔ AreClosed text
