-- The six counts of a translation, by the lines of its text.
use Rattle.std.specs.Prelude.{ℕ, Bool, ◌&&◌, not, List, ◌++◌, codes, decimal, count_by}
use Rattle.meaning.specs.Deck.{lines_of}
use Rattle.tool.specs.ArrayMarks.{begins, is_array_mark}
use Rattle.tool.specs.declared.counts.LineKind.{LineKind}
use Rattle.tool.specs.declared.counts.LineKind.TheVariants.{Nests, Statements, Edges, Drops, Arrays, Loops}

-- the line is a DO statement, and no assignment to a variable of that name
abbrev pub is_do : List ℕ → Bool
is_do line = begins (codes "DO ") line && not (begins (codes "DO = ") line)

-- the line of the text counts
abbrev pub is_counted_line : LineKind → List (List ℕ) → List ℕ → Bool
is_counted_line Nests lines line = begins (codes "!G NEST ") line
is_counted_line Statements lines line = begins (codes "!G STMT ") line
is_counted_line Edges lines line = begins (codes "!G EDGE ") line
is_counted_line Drops lines line = begins (codes "!G DROP ") line
is_counted_line Arrays lines line = is_array_mark lines line
is_counted_line Loops lines line = is_do line

-- how many lines do
abbrev pub line_count : LineKind → List ℕ → ℕ
line_count c text = count_by (is_counted_line c (lines_of text)) (lines_of text)

abbrev pub count_name : LineKind → List ℕ
count_name Nests = codes "nests "
count_name Statements = codes "statements "
count_name Edges = codes "edges "
count_name Drops = codes "drops "
count_name Arrays = codes "arrays "
count_name Loops = codes "loops "

unfoldable pub count_line : LineKind → List ℕ → List ℕ
count_line c text = count_name c ++ decimal (line_count c text) ++ codes "\n"

unfoldable pub counts_text : List ℕ → List ℕ
counts_text text =
    count_line Nests text ++ count_line Statements text ++ count_line Edges text ++ count_line Drops text
    ++ count_line Arrays text ++ count_line Loops text
