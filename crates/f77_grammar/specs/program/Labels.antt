-- Labels (ANSI X3.9-1978, section 3.4): each is from 1 to 99999 and stands on one statement alone, and a label that is
-- named stands somewhere.
use Rattle.std.specs.Prelude.{ℕ, ◌==◌, Bool, false, not, ◌||◌, Option, None, Some, List}
use Rattle.f77_grammar.specs.Statement77.{Labelled, Statement77, Go, Do}
use Rattle.f77_grammar.specs.program.Text.{Place77, action, label_stands_in}

-- the label is 0, or stands on an earlier statement too
abbrev pub is_wrong_label77 : List Labelled → Option ℕ → Bool
is_wrong_label77 before None = false
is_wrong_label77 before (Some n) = n == 0 || label_stands_in before n

-- the label that a GO TO or a DO names
abbrev pub label_named : Statement77 → Option ℕ
label_named (Go n) = Some n
label_named (Do label x a b c) = label
label_named _ = None

-- it is 0, or stands nowhere in the program
abbrev pub is_unknown : List Labelled → Option ℕ → Bool
is_unknown text None = false
is_unknown text (Some n) = n == 0 || not (label_stands_in text n)

abbrev pub has_wrong_label : List Labelled → Place77 → Bool
has_wrong_label text p =
    is_wrong_label77 p.before p.here.label || is_unknown text (label_named (action p.here.statement))
