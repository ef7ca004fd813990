-- The lines of marks, and the notes before a program: they are comments, and those of marks alone are marks.
use Rattle.std.proofs.Common.{◌≡◌, refl, ap, ◌∙◌, sym, ℕ, zero, suc, ◌-◌, ◌*◌, ◌/◌, ◌%◌, ◌<◌, ◌≤◌, ◌^◌, Option, Some, None, IfSome, List, [], ◌∷◌, ◌++◌, length, take, drop, get_or, arith, decimal, ne_eqb, length-append, length-drop, length-take, div-add-mod', mod-lt, lit≤, lit<}
use Rattle.std.specs.List.{AllByRecursion, list_all}
use Rattle.std.specs.Str.Parse.{AllDigits}
use Rattle.std.specs.Int.{IsInRange}
use Rattle.std.proofs.lemmas.Bool.{and_from}
use Rattle.std.proofs.lemmas.Str.Parse.{digit_at}
use Rattle.std.proofs.lemmas.Fmt.{decimal_is_IsNumeral_wide, length-decimal-le_wide}
use Rattle.tree.specs.declared.stmts.Mark.{Mark}
use Rattle.meaning.specs.Profile90 as profile
use Rattle.f90_grammar.specs.FreeForm.{IsMarkNumber, IsMark, AreMarks, AreComments, is_comment_line}
use Rattle.f90_grammar.specs.FreeForm.AreMarks.{none, mark, other}
use Rattle.f90_grammar.specs.PrintedText.{IsNote, mark_text, mark_lines, piece_length, further_pieces, pieces, continued, lines_of_text}
use Rattle.f90_laws.specs.printed.Laws.{IsFreeLine}
use Rattle.f90_laws.proofs.printed.PrintedLinesText.{IsLine}
use Rattle.f90_laws.proofs.printed.Spelling.{all_append}

-- ---- printable characters

abbrev pub IsPrintable : ℕ → Type 0
IsPrintable c = (32 ≤ c) × (c ≤ 126)

abbrev pub ArePrintable : List ℕ → Type 0
ArePrintable t = AllByRecursion IsPrintable t

abbrev pub AreFree : List (List ℕ) → Type 0
AreFree ls = AllByRecursion IsFreeLine ls

printable_take : (n : ℕ) (t : List ℕ) → ArePrintable t → ArePrintable (take n t)
printable_take zero t h = tt
printable_take (suc n) [] h = tt
printable_take (suc n) (c ∷ cs) h = (h.0, printable_take n cs h.1)

printable_drop : (n : ℕ) (t : List ℕ) → ArePrintable t → ArePrintable (drop n t)
printable_drop zero t h = h
printable_drop (suc n) [] h = tt
printable_drop (suc n) (c ∷ cs) h = printable_drop n cs h.1

-- neither an LF nor a CR
inside_line : (t : List ℕ) → ArePrintable t → IsLine t
inside_line [] h = tt
inside_line (c ∷ cs) h =
    let l : 32 ≤ c = h.0.0 in ((ne_eqb c 10 (λ e. omega arith), ne_eqb c 13 (λ e. omega arith)), inside_line cs h.1)

pub inside_lines : (ls : List (List ℕ)) → AreFree ls → AllByRecursion IsLine ls
inside_lines [] h = tt
inside_lines (l ∷ ls) h = (inside_line l h.0.printable, inside_lines ls h.1)

-- ---- pieces of 130 characters, with an ampersand at each end

ampersand_printable : ArePrintable (38 ∷ [])
ampersand_printable = ((lit≤ tt, lit≤ tt), tt)

cut_line : (t : List ℕ) → ArePrintable t → (length (take piece_length t ++ 38 ∷ []) ≤ 131) × ArePrintable (take piece_length t ++ 38 ∷ [])
cut_line t h =
    let l : length (take 130 t ++ 38 ∷ []) ≤ 131 = omega (arith, length-append (take 130 t) (38 ∷ []), length-take 130 t) in
    (l, all_append IsPrintable (take piece_length t) (38 ∷ []) (printable_take piece_length t h) ampersand_printable)

continued_free : (n : ℕ) (t : List ℕ) → ArePrintable t → length t ≤ suc n * 130 → AreFree (continued n t)
continued_free zero t h l =
    let w : length (38 ∷ t) ≤ 132 = omega arith in (record { within = w; printable = (ampersand_printable.0, h) }, tt)
continued_free (suc n) t h l =
    let r = cut_line t h in
    let w : length (38 ∷ (take 130 t ++ 38 ∷ [])) ≤ 132 = omega (arith, r.0) in
    let m : length (drop 130 t) ≤ suc n * 130 = omega (arith, length-drop 130 t) in
    (record { within = w; printable = (ampersand_printable.0, r.1) }, continued_free n (drop piece_length t) (printable_drop piece_length t h) m)

pieces_free : (n : ℕ) (t : List ℕ) → ArePrintable t → length t ≤ suc n * 130 → AreFree (pieces n t)
pieces_free zero t h l = let w : length t ≤ 132 = omega arith in (record { within = w; printable = h }, tt)
pieces_free (suc n) t h l =
    let r = cut_line t h in
    let w : length (take 130 t ++ 38 ∷ []) ≤ 132 = omega (arith, r.0) in
    let m : length (drop 130 t) ≤ suc n * 130 = omega (arith, length-drop 130 t) in
    (record { within = w; printable = r.1 }, continued_free n (drop piece_length t) (printable_drop piece_length t h) m)

-- the pieces are as many as the text needs
covered : (n : ℕ) → n ≤ suc ((n - 1) / 130) * 130
covered n = let d = div-add-mod' (n - 1) 130 in let m : (n - 1) % 130 < 130 = mod-lt (n - 1) (lit< tt) in omega arith

pub text_free : (t : List ℕ) → ArePrintable t → AreFree (lines_of_text t)
text_free t h = pieces_free (further_pieces t) t h (covered (length t))

digits_printable : (t : List ℕ) → AllDigits 10 t → ArePrintable t
digits_printable [] h = tt
digits_printable (c ∷ cs) h =
    let r : IsInRange 48 57 c = digit_at (c ∷ cs) 0 h (omega arith) in
    let low : 48 ≤ c = r.0 in
    let high : c ≤ 57 = r.1 in ((omega arith, omega arith), digits_printable cs h.1)

-- ---- marks

decimal_short : (n : ℕ) → n < 2 ^ 32 → length (decimal n) ≤ 10
decimal_short n h = length-decimal-le_wide 10 n (omega arith) (omega arith) (omega arith)

mark_number : (n : ℕ) → n < 2 ^ 32 → IsMarkNumber (decimal n) n
mark_number n h =
    let r = decimal_is_IsNumeral_wide n (omega arith) in
    record {
      digits = r.0;
      few = decimal_short n h;
      value = sym r.1;
      small = h;
    }

mark_is : (m : Mark) → profile.IsMark m → IsMark (mark_text m) m
mark_is m h = record {
  first = decimal m.nest;
  second = decimal m.stmt;
  third = decimal m.level;
  same = refl;
  nest = mark_number m.nest h.nest;
  stmt = mark_number m.stmt h.statement;
  level = mark_number m.level h.level;
}

decimal_printable : (n : ℕ) → n < 2 ^ 32 → ArePrintable (decimal n)
decimal_printable n h = digits_printable (decimal n) (decimal_is_IsNumeral_wide n (omega arith)).0.1

abbrev numbers_text : Mark → List ℕ
numbers_text m = decimal m.nest ++ (32 ∷ (decimal m.stmt ++ (32 ∷ decimal m.level)))

mark_free : (m : Mark) → profile.IsMark m → IsFreeLine (mark_text m)
mark_free m h =
    let last = decimal m.stmt ++ (32 ∷ decimal m.level) in
    let blank : IsPrintable 32 = (lit≤ tt, lit≤ tt) in
    let l : length last ≤ 21 = omega (arith, length-append (decimal m.stmt) (32 ∷ decimal m.level), decimal_short m.stmt h.statement, decimal_short m.level h.level) in
    let k : length (numbers_text m) ≤ 32 = omega (arith, length-append (decimal m.nest) (32 ∷ last), decimal_short m.nest h.nest, l) in
    let w : length (mark_text m) ≤ 132 = omega (arith, k) in
    record {
      within = w;
      printable = (
        (lit≤ tt, lit≤ tt),
        (
          (lit≤ tt, lit≤ tt),
          (
            blank,
            all_append IsPrintable (decimal m.nest) (32 ∷ last) (decimal_printable m.nest h.nest)
                (blank, all_append IsPrintable (decimal m.stmt) (32 ∷ decimal m.level) (decimal_printable m.stmt h.statement) (blank, decimal_printable m.level h.level)),
          ),
        ),
      );
    }

-- the marks before a statement
abbrev pub marks_of : Option Mark → List Mark
marks_of None = []
marks_of (Some m) = m ∷ []

pub marks_are : (m : Option Mark) → IfSome m profile.IsMark → AreMarks (mark_lines m) (marks_of m)
marks_are None h = none
marks_are (Some m) h = mark (mark_text m) m (mark_is m h) none

pub mark_lines_free : (m : Option Mark) → IfSome m profile.IsMark → AreFree (mark_lines m)
mark_lines_free None h = tt
mark_lines_free (Some m) h = (mark_free m h, tt)

pub marks_comments : (m : Option Mark) → AreComments (mark_lines m)
marks_comments None = refl
marks_comments (Some m) = refl

-- ---- notes

note_no_mark : (line : List ℕ) → IsNote line → (m : Mark) → IsMark line m → ⊥
note_no_mark line h m k =
    let e : ◌≡◌ {A = ℕ} 71 83 = ap (λ l. get_or l 1 0) (sym h.begins ∙ k.same) in omega arith

pub notes_are : (notes : List (List ℕ)) → AllByRecursion IsNote notes → AreMarks notes []
notes_are [] h = none
notes_are (l ∷ ls) h = other l (note_no_mark l h.0) (notes_are ls h.1)

pub notes_comments : (notes : List (List ℕ)) → AllByRecursion IsNote notes → AreComments notes
notes_comments [] h = refl
notes_comments (l ∷ ls) h = and_from (is_comment_line l) (list_all is_comment_line ls) (ap is_comment_line h.0.begins) (notes_comments ls h.1)

pub notes_free : (notes : List (List ℕ)) → AllByRecursion IsNote notes → AreFree notes
notes_free [] h = tt
notes_free (l ∷ ls) h = (record { within = h.0.within; printable = h.0.printable }, notes_free ls h.1)
