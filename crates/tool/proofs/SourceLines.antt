-- The lines of a printed program belong to the source of a deck: none of them is the line before the input.
use Rattle.std.proofs.Common.{◌≡◌, ℕ, zero, suc, ◌&&◌, ◌||◌, false, IsTrue, Option, None, Some, List, [], ◌∷◌, ◌++◌, take, drop, refl, ap, subst, arith, codes, ne_eqb, flat_map}
use Rattle.std.specs.Str.{bytes_eq}
use Rattle.std.specs.List.{AllByRecursion}
use Rattle.std.proofs.lemmas.Bool.{eqb-false}
use Rattle.tree.specs.declared.stmts.Mark.{Mark}
use Rattle.tree.specs.Plain.{Program}
use Rattle.meaning.specs.Deck.{is_line, data_line90}
use Rattle.meaning.specs.Names.{begins_with}
use Rattle.meaning.specs.SymbolicNames.{is_letter, is_digit}
use Rattle.meaning.specs.Profile90.{IsProgram90}
use Rattle.f90_grammar.specs.PrintedForms.{Printed, printed_program}
use Rattle.f90_grammar.specs.PrintedText.{IsNote, form_text, further_pieces, piece_length, pieces, continued, lines_of_text, mark_lines, mark_text, printed_lines, program_lines, with_line_feed}
use Rattle.f90_laws.specs.printed.Spelled.{IsSpelled}
use Rattle.f90_laws.proofs.printed.PrintedLinesMarks.{inside_lines, text_free, mark_lines_free, notes_free}
use Rattle.f90_laws.proofs.printed.PrintedLinesTaken.{MarkSuits, program_suits}
use Rattle.f90_laws.proofs.printed.PrintedLinesText.{IsLine}
use Rattle.f90_laws.proofs.printed.PrintedWords.{printed_is_spelled}
use Rattle.meaning.proofs.decks.WholeLines.{Lacks}
use Rattle.meaning.proofs.decks.Written.{IsSourceLine}

-- ---- lines that aren't the data line

abbrev IsOther : List ℕ → Type 0
IsOther line = is_line data_line90 (with_line_feed line) ≡ false

pub other_byte : (c m : ℕ) (cs more : List ℕ) → (c ≡ m → ⊥) → bytes_eq (c ∷ cs) (m ∷ more) ≡ false
other_byte c m cs more h = ap (λ b. b && bytes_eq cs more) (ne_eqb c m h)

other_first : (c : ℕ) (cs : List ℕ) → (c ≡ 33 → ⊥) → is_line data_line90 (c ∷ cs) ≡ false
other_first c cs h =
    rw (other_byte c 33 cs (codes "DATA") h, other_byte c 33 cs (codes "DATA" ++ 10 ∷ []) h, other_byte c 33 cs (codes "DATA" ++ 13 ∷ 10 ∷ []) h) refl

-- ---- the lines of statements: each is a mark, or its first byte is no exclamation mark

pub all_both : (Is : List ℕ → Type 0) (xs ys : List (List ℕ)) → AllByRecursion Is xs → AllByRecursion Is ys → AllByRecursion Is (xs ++ ys)
all_both Is [] ys a b = b
all_both Is (x ∷ xs) ys a b = (a.0, all_both Is xs ys a.1 b)

-- a letter or a digit is no exclamation mark
no_mark : (c : ℕ) → IsTrue (is_letter c || is_digit c) → c ≡ 33 → ⊥
no_mark c h e = let f : IsTrue (is_letter 33 || is_digit 33) = subst (λ (n : ℕ). IsTrue (is_letter n || is_digit n)) e h in cc

module _ (Is : List ℕ → Type 0) (first : (c : ℕ) (cs : List ℕ) → (c ≡ 33 → ⊥) → Is (c ∷ cs)) (mark : (m : Mark) → Is (mark_text m)) where
  continued_all : (n : ℕ) (t : List ℕ) → AllByRecursion Is (continued n t)
  continued_all zero t = (first 38 t (λ e. omega (arith, e)), tt)
  continued_all (suc n) t = (first 38 (take piece_length t ++ 38 ∷ []) (λ e. omega (arith, e)), continued_all n (drop piece_length t))

  pieces_all : (n : ℕ) (c : ℕ) (cs : List ℕ) → (c ≡ 33 → ⊥) → AllByRecursion Is (pieces n (c ∷ cs))
  pieces_all zero c cs h = (first c cs h, tt)
  pieces_all (suc n) c cs h = (first c (take 129 cs ++ 38 ∷ []) h, continued_all n (drop piece_length (c ∷ cs)))

  text_all : (t : List ℕ) → IsTrue (begins_with (λ c. is_letter c || is_digit c) t) → AllByRecursion Is (lines_of_text t)
  text_all [] h = absurd (cc)
  text_all (c ∷ cs) h = pieces_all (further_pieces (c ∷ cs)) c cs (no_mark c h)

  marks_all : (m : Option Mark) → AllByRecursion Is (mark_lines m)
  marks_all None = tt
  marks_all (Some m) = (mark m, tt)

  pub statements_all : (ss : List Printed) → AllByRecursion (λ (s : Printed). IsSpelled s.form) ss → AllByRecursion Is (flat_map printed_lines ss)
  statements_all [] h = tt
  statements_all (s ∷ ss) h =
      all_both Is (printed_lines s) (flat_map printed_lines ss)
      (all_both Is (mark_lines s.mark) (lines_of_text (form_text s.form)) (marks_all s.mark) (text_all (form_text s.form) h.0.begins))
      (statements_all ss h.1)

-- ---- none is the data line

abbrev AreOthers : List (List ℕ) → Type 0
AreOthers ls = AllByRecursion IsOther ls

note_other : (line : List ℕ) → IsNote line → IsOther line
note_other line h = ap (λ l. is_line data_line90 (with_line_feed l)) h.begins

notes_others : (notes : List (List ℕ)) → AllByRecursion IsNote notes → AreOthers notes
notes_others [] h = tt
notes_others (l ∷ ls) h = (note_other l h.0, notes_others ls h.1)

statements_others : (ss : List Printed) → AllByRecursion (λ (s : Printed). IsSpelled s.form) ss → AreOthers (flat_map printed_lines ss)
statements_others ss h = statements_all IsOther (λ c cs. other_first c (cs ++ 10 ∷ [])) (λ m. refl) ss h

-- ---- lines without line feeds

statements_lines : (ss : List Printed) → AllByRecursion (λ (s : Printed). IsSpelled s.form) ss → AllByRecursion MarkSuits ss → AllByRecursion IsLine (flat_map printed_lines ss)
statements_lines [] h k = tt
statements_lines (s ∷ ss) h k =
    all_both IsLine (printed_lines s) (flat_map printed_lines ss)
    (all_both IsLine (mark_lines s.mark) (lines_of_text (form_text s.form)) (inside_lines (mark_lines s.mark) (mark_lines_free s.mark k.0.is_mark)) (inside_lines (lines_of_text (form_text s.form)) (text_free (form_text s.form) h.0.printable)))
    (statements_lines ss h.1 k.1)

no_feed : (line : List ℕ) → IsLine line → Lacks 10 line
no_feed [] h = tt
no_feed (c ∷ cs) h = (eqb-false c 10 h.0.0, no_feed cs h.1)

both : (ls : List (List ℕ)) → AllByRecursion IsLine ls → AreOthers ls → AllByRecursion IsSourceLine ls
both [] h k = tt
both (l ∷ ls) h k = (record { lacks = no_feed l h.0; other = k.0 }, both ls h.1 k.1)

pub printed_lines_are_lines : (p : Program) (notes : List (List ℕ)) → IsProgram90 p → AllByRecursion IsNote notes → AllByRecursion IsLine (program_lines p notes)
printed_lines_are_lines p notes h good =
    all_both IsLine notes (flat_map printed_lines (printed_program p)) (inside_lines notes (notes_free notes good)) (statements_lines (printed_program p) (printed_is_spelled p h) (program_suits p h))

pub program_lines_are_source : (p : Program) (notes : List (List ℕ)) → IsProgram90 p → AllByRecursion IsNote notes → AllByRecursion IsSourceLine (program_lines p notes)
program_lines_are_source p notes h good =
    both (program_lines p notes) (printed_lines_are_lines p notes h good)
    (all_both IsOther notes (flat_map printed_lines (printed_program p)) (notes_others notes good) (statements_others (printed_program p) (printed_is_spelled p h)))
