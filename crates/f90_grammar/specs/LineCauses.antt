-- Why lines of free form are refused (ISO/IEC 1539:1991, section 3.3.1): for a byte, for their length, or because the
-- text ends within a statement.
use Rattle.std.specs.Prelude.{◌≡◌, ℕ, ◌+◌, ◌<◌, nat_lt, Bool, true, false, ◌||◌, if◌then◌else◌, IsTrue}
use Rattle.std.specs.Prelude.{List, [], ◌∷◌, ◌++◌, length}
use Rattle.std.specs.List.{list_any}
use Rattle.std.specs.Str.Lines.{lines}
use Rattle.tree.specs.Causes.{refusal_at}
use Rattle.tree.specs.declared.refusals.Cause.TheVariants.{BadByte90, LongLine, Continuation}
use Rattle.tree.specs.declared.refusals.Refusal.{Refusal}
use Rattle.f90_grammar.specs.FreeForm.{LinePiece, IsPiece, written_piece, is_comment_line, is_open_behind}

-- ---- what a line stands in

-- Behind the first lines of a text the next statement is to begin, or one is continued: it began in this line, and is
-- in a constant or isn't
pub data LineState : Type 0 where
  Between : LineState
  Within : ℕ → Bool → LineState

abbrev pub is_in_constant : LineState → Bool
is_in_constant Between = false
is_in_constant (Within initial o) = o

-- the initial line of the statement that has a part in line n
abbrev pub initial_line : ℕ → LineState → ℕ
initial_line n Between = n
initial_line n (Within initial o) = initial

-- behind line n, which has this part of a statement
abbrev pub behind_piece : ℕ → LineState → LinePiece → LineState
behind_piece n s p =
    if p.is_continued then Within (initial_line n s) (is_open_behind (is_in_constant s) p.chars) else Between

-- what stands behind the first lines of a text
pub data LeadTo : List (List ℕ) → LineState → Type 0 where
  nothing : LeadTo [] Between
  comment : (front : List (List ℕ)) (line : List ℕ) (s : LineState) → is_comment_line line ≡ true → LeadTo front s
      → LeadTo (front ++ line ∷ []) s
  piece : (front : List (List ℕ)) (p : LinePiece) (s : LineState) → IsPiece (is_in_constant s) p → LeadTo front s
      → LeadTo (front ++ written_piece p ∷ []) (behind_piece (length front + 1) s p)

-- ---- causes

-- characters that a line may have (section 3.3.1)
abbrev pub line_characters : ℕ
line_characters = 132

-- no printable character
abbrev pub is_bad_byte90 : ℕ → Bool
is_bad_byte90 b = nat_lt b 32 || nat_lt 126 b

pub data HasLineCause (text : List ℕ) : Refusal → Type 0 where
  -- a byte outside comments
  HoldsBadByte : (front back : List (List ℕ)) (p : LinePiece) (s : LineState)
      → lines text ≡ front ++ written_piece p ∷ back → LeadTo front s → IsPiece (is_in_constant s) p
      → IsTrue (list_any is_bad_byte90 p.chars) → HasLineCause text (refusal_at BadByte90 (length front + 1))
  -- a line, of comments too
  IsLong : (front back : List (List ℕ)) (line : List ℕ) → lines text ≡ front ++ line ∷ back
      → line_characters < length line → HasLineCause text (refusal_at LongLine (length front + 1))
  -- the text ends while the statement that began in this line is continued
  EndsWithin : (initial : ℕ) (o : Bool) → LeadTo (lines text) (Within initial o)
      → HasLineCause text (refusal_at Continuation initial)
