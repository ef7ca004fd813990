-- Free form (ISO/IEC 1539:1991, section 3.3.1): the statements and marks that the lines of a text are. 10 stands for
-- the end of a line within a statement, 32 is a blank, 33 an exclamation mark, 38 an ampersand and 39 an apostrophe.
use Rattle.std.specs.Prelude.{◌≡◌, ℕ, ◌+◌, ◌<◌, ◌≤◌, ◌^◌, ◌==◌, Bool, true, false, not, ◌&&◌, ◌||◌, if◌then◌else◌}
use Rattle.std.specs.Prelude.{IsTrue, List, [], ◌∷◌, ◌++◌, length, map, flat_map, codes}
use Rattle.std.specs.List.{list_all}
use Rattle.std.specs.Str.Parse.{IsNumeral, digits_value}
use Rattle.tree.specs.declared.stmts.Mark.{Mark}
use Rattle.reading.specs.Characters.{is_blank}

-- the first and the last character but blanks
abbrev pub starts_with : ℕ → List ℕ → Bool
starts_with c [] = false
starts_with c (x ∷ xs) = if is_blank x then starts_with c xs else x == c

abbrev pub ends_with : ℕ → List ℕ → Bool
ends_with c [] = false
ends_with c (x ∷ xs) = if list_all is_blank xs then x == c else ends_with c xs

-- blanks alone, or blanks and a comment
abbrev pub is_comment_line : List ℕ → Bool
is_comment_line line = list_all is_blank line || starts_with 33 line

-- a constant is open behind an odd number of apostrophes; `o` says whether one is before the characters
abbrev pub is_open_behind : Bool → List ℕ → Bool
is_open_behind o [] = o
is_open_behind o (c ∷ cs) = is_open_behind (if c == 39 then not o else o) cs

-- a comment begins in the characters: an exclamation mark outside constants
abbrev pub has_comment : Bool → List ℕ → Bool
has_comment o [] = false
has_comment o (c ∷ cs) = (not o && c == 33) || has_comment (if c == 39 then not o else o) cs

-- A line of a statement: its characters; whether an ampersand stands before them, behind blanks, and one behind them,
-- before blanks; whether a single one does both, on a line without characters; a comment, or nothing
pub record LinePiece : Type 0 where
  pub before : List ℕ
  pub is_pulled : Bool
  pub chars : List ℕ
  pub is_continued : Bool
  pub is_single : Bool
  pub behind : List ℕ
  pub comment : List ℕ

abbrev pub ampersand : Bool → List ℕ
ampersand true = 38 ∷ []
ampersand false = []

abbrev pub written_piece : LinePiece → List ℕ
written_piece p = p.before ++ (ampersand p.is_pulled ++ (p.chars ++ (ampersand (p.is_continued
    && not p.is_single) ++ (p.behind ++ p.comment))))

abbrev pub is_tail : List ℕ → Bool
is_tail [] = true
is_tail (c ∷ cs) = c == 33

abbrev pub is_nothing : List ℕ → Bool
is_nothing [] = true
is_nothing (c ∷ cs) = false

-- An ampersand is a leading one where it is the first character but blanks, and a final one where it is the last before
-- any comment. Outside constants alone a comment may follow
pub record IsPiece (o : Bool) (p : LinePiece) : Type 0 where
  pub blanks : IsTrue (list_all is_blank p.before && list_all is_blank p.behind)
  pub comment : IsTrue (is_tail p.comment && not (has_comment o p.chars))
  pub in_constant : IsTrue (not (is_open_behind o p.chars) || is_nothing p.comment)
  pub leading : IsTrue (p.is_pulled || (is_nothing p.before && not (starts_with 38 (written_piece p))))
  pub final : IsTrue (p.is_continued || (is_nothing p.behind
      && not (ends_with 38 (p.before ++ (ampersand p.is_pulled ++ p.chars)))))
  pub single : IsTrue (not p.is_single || (p.is_pulled && (p.is_continued && is_nothing p.chars)))
  pub is_line : is_comment_line (written_piece p) ≡ false

-- all lines of a statement but the last are continued
abbrev pub AreFurtherPieces : Bool → List LinePiece → Type 0
AreFurtherPieces o [] = ⊥
AreFurtherPieces o (p ∷ []) = IsPiece o p × (p.is_continued ≡ false)
AreFurtherPieces o (p ∷ q ∷ ps) = IsPiece o p × (p.is_continued ≡ true)
    × AreFurtherPieces (is_open_behind o p.chars) (q ∷ ps)

abbrev pub ArePieces : List LinePiece → Type 0
ArePieces ps = AreFurtherPieces false ps

-- a line without leading ampersand is set off from the one before
abbrev pub joint : LinePiece → List ℕ
joint p = if p.is_pulled then p.chars else 10 ∷ p.chars

-- no statement goes on with the first line, so a leading ampersand there is one of its characters
abbrev pub characters : List LinePiece → List ℕ
characters [] = []
characters (p ∷ ps) = ampersand p.is_pulled ++ (p.chars ++ flat_map joint ps)

-- ---- marks

pub record IsMarkNumber (text : List ℕ) (n : ℕ) : Type 0 where
  pub digits : IsNumeral 10 text
  pub few : length text ≤ 10
  pub value : n ≡ digits_value 10 text
  pub small : n < 2 ^ 32

-- the line of a mark: three numbers of at most ten digits behind `!S`, each below 2^32
pub record IsMark (line : List ℕ) (m : Mark) : Type 0 where
  pub first : List ℕ
  pub second : List ℕ
  pub third : List ℕ
  pub same : line ≡ codes "!S " ++ (first ++ (32 ∷ (second ++ (32 ∷ third))))
  pub nest : IsMarkNumber first m.nest
  pub stmt : IsMarkNumber second m.stmt
  pub level : IsMarkNumber third m.level

-- the marks among comment lines
pub data AreMarks : List (List ℕ) → List Mark → Type 0 where
  none : AreMarks [] []
  mark : (line : List ℕ) (m : Mark) {ls : List (List ℕ)} {ms : List Mark} → IsMark line m → AreMarks ls ms
      → AreMarks (line ∷ ls) (m ∷ ms)
  other : (line : List ℕ) {ls : List (List ℕ)} {ms : List Mark} → ((m : Mark) → IsMark line m → ⊥) → AreMarks ls ms
      → AreMarks (line ∷ ls) ms

-- ---- statements

-- a statement as it stands in the text: the number of its first line, the marks between it and the statement before,
-- its characters, and the marks among its lines
pub record FreeStatement : Type 0 where
  pub line : ℕ
  pub ahead : List Mark
  pub chars : List ℕ
  pub within : List Mark

abbrev pub free_statement_at : ℕ → List Mark → List ℕ → List Mark → FreeStatement
free_statement_at n ahead cs within = record { line = n; ahead = ahead; chars = cs; within = within }

-- the lines of a statement, with the comment lines before each
pub record CommentedPiece : Type 0 where
  pub comments : List (List ℕ)
  pub piece : LinePiece

abbrev pub written_block : CommentedPiece → List (List ℕ)
written_block b = b.comments ++ written_piece b.piece ∷ []

abbrev pub pieces_of : List CommentedPiece → List LinePiece
pieces_of bs = map (λ (b : CommentedPiece). b.piece) bs

abbrev pub comments_of : List CommentedPiece → List (List ℕ)
comments_of bs = flat_map (λ (b : CommentedPiece). b.comments) bs

abbrev pub AreComments : List (List ℕ) → Type 0
AreComments ls = IsTrue (list_all is_comment_line ls)

-- The lines of a text, from the line n on, are those of statements, one after another, with comment lines behind the
-- last one
pub data AreStatements : ℕ → List (List ℕ) → List FreeStatement → Type 0 where
  ends : (n : ℕ) (comments : List (List ℕ)) → AreComments comments → AreStatements n comments []
  begins : (n : ℕ) (b : CommentedPiece) (bs : List CommentedPiece) (ahead within : List Mark) (rest : List (List ℕ))
      (more : List FreeStatement)
      → AreComments (comments_of (b ∷ bs)) → ArePieces (pieces_of (b ∷ bs))
      → AreMarks b.comments ahead → AreMarks (comments_of bs) within
      → AreStatements (n + length (flat_map written_block (b ∷ bs))) rest more
      → AreStatements n (flat_map written_block (b ∷ bs) ++ rest)
      (free_statement_at (n + length b.comments) ahead (characters (pieces_of (b ∷ bs))) within ∷ more)
