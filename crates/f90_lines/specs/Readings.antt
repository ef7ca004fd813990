-- The statements of lines, line by line.
use Rattle.std.specs.Prelude.{ℕ, ◌+◌, Bool, false, if◌then◌else◌, List, [], ◌∷◌, ◌++◌, option_to_list}
use Rattle.tree.specs.declared.stmts.Mark.{Mark}
use Rattle.f90_grammar.specs.FreeForm.{FreeStatement, free_statement_at, is_comment_line, is_open_behind}
use Rattle.f90_lines.specs.Marks.{mark_in}
use Rattle.f90_lines.specs.Parts.{LinePart, part_of, first_chars, further_chars}

-- marks ahead of the next statement; or a statement so far, which is continued, and whether a constant is open in it
pub data Reading : Type 0 where
  Ahead : List Mark → Reading
  Inside : FreeStatement → Bool → Reading

abbrev pub with_mark : List Mark → List ℕ → List Mark
with_mark ms line = ms ++ option_to_list (mark_in line)

abbrev pub mark_within : FreeStatement → List ℕ → FreeStatement
mark_within s line = free_statement_at s.line s.ahead s.chars (with_mark s.within line)

abbrev pub statement_with : FreeStatement → LinePart → FreeStatement
statement_with s p = free_statement_at s.line s.ahead (s.chars ++ further_chars p) s.within

-- behind a part of the statement, in which a constant was open or wasn't
abbrev pub behind : Bool → LinePart → FreeStatement → (Reading → List FreeStatement) → List FreeStatement
behind o p s on = if p.is_continued then on (Inside s (is_open_behind o p.chars)) else s ∷ on (Ahead [])

abbrev pub on_line : ℕ → Reading → List ℕ → (Reading → List FreeStatement) → List FreeStatement
on_line n (Ahead ms) l on =
    if is_comment_line l then on (Ahead (with_mark ms l))
    else behind false (part_of false l) (free_statement_at n ms (first_chars (part_of false l)) []) on
on_line n (Inside s o) l on =
    if is_comment_line l then on (Inside (mark_within s l) o)
    else behind o (part_of o l) (statement_with s (part_of o l)) on

-- of these lines, which follow line n
abbrev pub statements_of : ℕ → Reading → List (List ℕ) → List FreeStatement
statements_of n r [] = []
statements_of n r (l ∷ ls) = on_line (n + 1) r l (λ next. statements_of (n + 1) next ls)
