-- The lines of a printed program are its statements, each with its mark.
use Rattle.std.proofs.Common.{◌≡◌, refl, ap, ◌∙◌, sym, subst, ℕ, ◌+◌, ◌==◌, Bool, true, false, ◌||◌, not, IsTrue, Option, Some, None, IfSome, List, [], ◌∷◌, ◌++◌, length, map, flat_map, append_assoc, append-nil, ne_eqb}
use Rattle.std.specs.List.{AllByRecursion}
use Rattle.std.specs.Str.Lines.{lines}
use Rattle.std.proofs.lemmas.Bool.{and_from, not_from_false}
use Rattle.tree.specs.Plain.{Program}
use Rattle.tree.specs.declared.stmts.Mark.{Mark}
use Rattle.meaning.specs.Names.{begins_with}
use Rattle.meaning.specs.SymbolicNames.{is_letter, is_digit}
use Rattle.meaning.specs.Profile90 as profile
use Rattle.f90_grammar.specs.FreeForm.{FreeStatement, AreStatements, AreComments, AreMarks, free_statement_at, characters, pieces_of}
use Rattle.f90_grammar.specs.FreeForm.AreStatements.{ends, begins}
use Rattle.f90_grammar.specs.FreeForm.AreMarks.{none as no_marks}
use Rattle.f90_grammar.specs.Forms as forms
use Rattle.f90_grammar.specs.PrintedForms.{Printed, unmarked, printed_title_of, printed_declaration, printed_block, printed_program}
use Rattle.f90_grammar.specs.PrintedText.{form_text, lines_of_text, mark_lines, printed_lines, program_lines, printed90, IsNote}
use Rattle.f90_grammar.specs.Blocks.{Placed, placed_form}
use Rattle.f90_grammar.specs.Reading.{takes_mark, last_mark, if_taken, mark_left_over, HaveForms, AreStatementsOf}
use Rattle.f90_laws.specs.printed.Spelled.{IsSpelled}
use Rattle.f90_laws.proofs.printed.PrintedBlocksPlaced.{ArePlaced}
use Rattle.f90_laws.proofs.printed.PrintedBlocksPlaced.ArePlaced.{none, next}
use Rattle.f90_laws.proofs.printed.PrintedLinesText.{lines_again}
use Rattle.f90_laws.proofs.printed.PrintedLinesPieces.{ends_well, begins_well, IsText, first_block, text_blocks, text_pieces, text-written, text-characters, text-comments}
use Rattle.f90_laws.proofs.printed.PrintedLinesMarks.{AreFree, inside_lines, text_free, marks_of, marks_are, mark_lines_free, marks_comments, notes_are, notes_comments, notes_free}
use Rattle.f90_laws.specs.printed.Laws.{IsFreeLine}
use Rattle.f90_laws.proofs.printed.Spelling.{all_append}

-- a statement that can be read: it has its words, and its mark, if it has one, is one that it takes
pub record IsReadable (s : Printed) : Type 0 where
  pub spelled : IsSpelled s.form
  pub ends : ends_well (form_text s.form) ≡ true
  pub mark : IfSome s.mark profile.IsMark
  pub taken : takes_mark s.form ≡ false → s.mark ≡ None

-- ---- one statement

abbrev begins_word : ℕ → Bool
begins_word c = is_letter c || is_digit c

begins_text : (t : List ℕ) → IsTrue (begins_with begins_word t) → begins_well t ≡ true
begins_text [] h = h
begins_text (c ∷ cs) h =
    and_from (not (c == 32)) _ (apart 32 refl) (and_from (not (c == 33)) (not (c == 38)) (apart 33 refl) (apart 38 refl))
  where
    apart : (m : ℕ) → begins_word m ≡ false → not (c == m) ≡ true
    apart m e = not_from_false (c == m) (ne_eqb c m (λ f. let q : true ≡ false = sym h ∙ (ap begins_word f ∙ e) in absurd cc))

readable_text : (s : Printed) → IsReadable s → IsText (form_text s.form)
readable_text s h =
    record { no_comment = h.spelled.no_comment; begins = begins_text (form_text s.form) h.spelled.begins; ends = h.ends }

one_statement : (n : ℕ) (comments : List (List ℕ)) (ahead : List Mark) (t : List ℕ) (rest : List (List ℕ)) (more : List FreeStatement)
    → AreComments comments → AreMarks comments ahead → IsText t → AreStatements (n + length (comments ++ lines_of_text t)) rest more
    → AreStatements n ((comments ++ lines_of_text t) ++ rest) (free_statement_at (n + length comments) ahead t [] ∷ more)
one_statement n comments ahead t rest more c m h k =
    let all : AreComments (comments ++ []) = subst (λ (ls : List (List ℕ)). AreComments ls) (sym (append-nil comments)) c in
    let whole = begins n (first_block comments t) (text_blocks t) ahead [] rest more
    (subst (λ (ls : List (List ℕ)). AreComments (comments ++ ls)) (sym (text-comments t)) all)
    (text_pieces t h) m (subst (λ (ls : List (List ℕ)). AreMarks ls []) (sym (text-comments t)) no_marks)
    (subst (λ (ls : List (List ℕ)). AreStatements (n + length ls) rest more) (sym (text-written comments t)) k) in
    let written = subst (λ (ls : List (List ℕ)). AreStatements n (ls ++ rest)
    (free_statement_at (n + length comments) ahead (characters (pieces_of (first_block comments t ∷ text_blocks t))) [] ∷ more)) (text-written comments t) whole in
    subst (λ (cs : List ℕ). AreStatements n ((comments ++ lines_of_text t) ++ rest) (free_statement_at (n + length comments) ahead cs [] ∷ more)) (text-characters t) written

-- ---- statements one after another

pub record Placing (n : ℕ) (ls : List (List ℕ)) (ss : List Printed) : Type 0 where
  pub statements : List FreeStatement
  pub placed : List Placed
  pub are : AreStatements n ls statements
  pub have_forms : HaveForms None statements placed
  pub places : ArePlaced ss placed

taken_mark : (b : Bool) (m : Option Mark) → (b ≡ false → m ≡ None) → (m ≡ if_taken b m) × (mark_left_over b m ≡ None)
taken_mark true m h = (refl, refl)
taken_mark false m h = (h refl, h refl)

one_more : (n : ℕ) (comments : List (List ℕ)) (ahead : List Mark) (s : Printed) (rest : List (List ℕ)) (ss : List Printed)
    → AreComments comments → AreMarks comments ahead → last_mark None ahead ≡ s.mark → IsReadable s
    → Placing (n + length (comments ++ lines_of_text (form_text s.form))) rest ss
    → Placing n ((comments ++ lines_of_text (form_text s.form)) ++ rest) (s ∷ ss)
one_more n comments ahead s rest ss c m e h r =
    let w = h.spelled in
    let t = taken_mark (takes_mark s.form) s.mark h.taken in
    record {
      statements = free_statement_at (n + length comments) ahead (form_text s.form) [] ∷ r.statements;
      placed = placed_form (n + length comments) s.mark s.form ∷ r.placed;
      are = one_statement n comments ahead (form_text s.form) rest r.statements c m (readable_text s h) r.are;
      have_forms = (
        refl,
        t.0 ∙ ap (if_taken (takes_mark s.form)) (sym e),
        (w.in_words, w.has_words, w.is_written),
        subst (λ (o : Option Mark). HaveForms o r.statements r.placed) (sym (ap (mark_left_over (takes_mark s.form)) e ∙ t.1)) r.have_forms,
      );
      places = next (n + length comments) s r.places;
    }

last-marks : (m : Option Mark) → last_mark None (marks_of m) ≡ m
last-marks None = refl
last-marks (Some m) = refl

all_placed : (n : ℕ) (ss : List Printed) → AllByRecursion IsReadable ss → Placing n (flat_map printed_lines ss) ss
all_placed n [] h = record { statements = []; placed = []; are = ends n [] refl; have_forms = tt; places = none }
all_placed n (s ∷ ss) h =
    one_more n (mark_lines s.mark) (marks_of s.mark) s (flat_map printed_lines ss) ss (marks_comments s.mark) (marks_are s.mark h.0.mark) (last-marks s.mark) h.0
    (all_placed (n + length (printed_lines s)) ss h.1)

all_free : (ss : List Printed) → AllByRecursion IsReadable ss → AreFree (flat_map printed_lines ss)
all_free [] k = tt
all_free (s ∷ ss) k =
    all_append IsFreeLine (mark_lines s.mark ++ lines_of_text (form_text s.form)) (flat_map printed_lines ss)
    (all_append IsFreeLine (mark_lines s.mark) (lines_of_text (form_text s.form)) (mark_lines_free s.mark k.0.mark) (text_free (form_text s.form) k.0.spelled.printable))
    (all_free ss k.1)

-- ---- the lines of a program

module _ (p : Program) (notes : List (List ℕ)) (good : AllByRecursion IsNote notes) (h : AllByRecursion IsReadable (printed_program p)) where
  abbrev title : Printed
  title = unmarked (forms.Program (printed_title_of p.name))

  abbrev behind_title : List Printed
  behind_title = unmarked forms.ImplicitNone ∷ (map printed_declaration p.declarations ++ (printed_block p.body ++ unmarked forms.End ∷ []))

  program_placed : Placing 1 (program_lines p notes) (printed_program p)
  program_placed =
      let t : List (List ℕ) = lines_of_text (form_text title.form) in
      let r = one_more 1 notes [] title (flat_map printed_lines behind_title) behind_title (notes_comments notes good) (notes_are notes good) refl h.0
      (all_placed (1 + length (notes ++ t)) behind_title h.1) in
      subst (λ (ls : List (List ℕ)). Placing 1 ls (printed_program p)) (append_assoc notes t (flat_map printed_lines behind_title)) r

  program_free : AreFree (program_lines p notes)
  program_free = all_append IsFreeLine notes (flat_map printed_lines (printed_program p)) (notes_free notes good) (all_free (printed_program p) h)

  pub same_lines : lines (printed90 p notes) ≡ program_lines p notes
  same_lines = lines_again (program_lines p notes) (inside_lines (program_lines p notes) program_free)

  pub lines_free : AreFree (lines (printed90 p notes))
  lines_free = subst AreFree (sym same_lines) program_free

  -- the text's statements are those that are printed, each on a line
  pub record ReadText : Type 0 where
    pub placed : List Placed
    pub of_text : AreStatementsOf (printed90 p notes) placed
    pub places : ArePlaced (printed_program p) placed

  pub text_read : ReadText
  text_read =
      let r = program_placed in
      record {
        placed = r.placed;
        of_text = record {
          statements = r.statements;
          of_lines = subst (λ (ls : List (List ℕ)). AreStatements 1 ls r.statements) (sym same_lines) r.are;
          have_forms = r.have_forms;
        };
        places = r.places;
      }
