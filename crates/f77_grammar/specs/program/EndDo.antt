-- END DO (MIL-STD-1753): it closes the nearest loop before it that is open and that it may close, which is one without
-- a label, or with the label that END DO bears. So each loop has a label: an END DO without a label gets one of its
-- own, which no GO TO can name, and a DO without a label gets that of the END DO that closes it. What is asked of loops
-- is asked of their labels.
--
--        DO I = 1, 3            DO 100003 I = 1, 3
--        K = K + I              K = K + I
--        END DO          100003 END DO                  100000 and its line
use Rattle.std.specs.Prelude.{ℕ, ◌+◌, ◌-◌, ◌^◌, min, ◌==◌, Option, None, Some, if◌then◌else◌, List, [], ◌∷◌}
use Rattle.f77_grammar.specs.Statement77.{Labelled, Statement77, Do, EndDo}
use Rattle.f77_grammar.specs.program.Text.{bears}

-- ---- which END DO closes which loop, from the last statement back; that it is the nearest that is open is a law

-- the statements but the first that bears the label, if one does
abbrev pub without_bearer : ℕ → List Labelled → List Labelled
without_bearer n [] = []
without_bearer n (x ∷ xs) = if bears n x then xs else x ∷ without_bearer n xs

abbrev pub behind_first : List Labelled → List Labelled
behind_first [] = []
behind_first (x ∷ xs) = xs

-- the loop of a DO without a label is closed by the nearest of them, one with a label by the nearest that bears it
abbrev pub without_closer : Option ℕ → List Labelled → List Labelled
without_closer None ends = behind_first ends
without_closer (Some n) ends = without_bearer n ends

abbrev pub waiting_with : Statement77 → Labelled → List Labelled → List Labelled
waiting_with EndDo x ends = x ∷ ends
waiting_with (Do label v a b c) x ends = without_closer label ends
waiting_with s x ends = ends

-- the END DO statements that close no loop of a DO among these statements, the nearest first; they wait for one before
abbrev pub waiting : List Labelled → List Labelled
waiting [] = []
waiting (x ∷ xs) = waiting_with x.statement x (waiting xs)

-- ---- the labels of loops

-- its own label, or one above all that can be written, which has at most 32 bits
abbrev pub end_label : Option ℕ → ℕ → ℕ
end_label (Some n) line = n
end_label None line = min (100000 + line) (2 ^ 32 - 1)

-- 0 is no label
abbrev pub proper : ℕ → Option ℕ
proper n = if n == 0 then None else Some n

-- the label of the nearest of them
abbrev pub closer_label : List Labelled → Option ℕ
closer_label [] = None
closer_label (x ∷ xs) = proper (end_label x.label x.line)

-- a DO that no END DO closes stays without a label
abbrev pub with_loop_label : Statement77 → Option ℕ → Statement77
with_loop_label (Do None v a b c) closer = Do closer v a b c
with_loop_label s closer = s

abbrev pub label_of_end : Statement77 → Option ℕ → ℕ → Option ℕ
label_of_end EndDo label line = Some (end_label label line)
label_of_end s label line = label

-- a statement with its labels, before which the nearest that waits has this one
abbrev pub with_labels : Labelled → Option ℕ → Labelled
with_labels x closer =
    record {
      label = label_of_end x.statement x.label x.line;
      line = x.line;
      statement = with_loop_label x.statement closer;
    }

-- the statements with the labels of all loops
abbrev pub with_loop_labels : List Labelled → List Labelled
with_loop_labels [] = []
with_loop_labels (x ∷ xs) = with_labels x (closer_label (waiting xs)) ∷ with_loop_labels xs
