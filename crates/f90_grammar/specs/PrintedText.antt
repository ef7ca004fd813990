-- The text of printed statements: how words are set off from one another, and how a long statement is continued
-- (ISO/IEC 1539:1991, section 3.3.1).
use Rattle.std.specs.Prelude.{◌≡◌, ℕ, zero, suc, ◌-◌, ◌≤◌, ◌/◌, Bool, true, false, Option, Some, None, List, []}
use Rattle.std.specs.Prelude.{◌∷◌, ◌++◌, flat_map, length, take, drop, codes, decimal}
use Rattle.std.specs.List.{AllByRecursion}
use Rattle.tree.specs.OperatorTable.{Sign, Plus, Minus, Negation, spelling90_of}
use Rattle.tree.specs.Plain.{Expression, Reference, Program}
use Rattle.tree.specs.declared.stmts.Mark.{Mark}
use Rattle.f90_grammar.specs.Words.{truth_text}
use Rattle.reading.specs.Characters.{doubled, keyword_of}
use Rattle.f90_grammar.specs.Phrases.{Phrase90, Literal, Truth, Name, Listed, Paren, Signed, Joined, Values, Looped}
use Rattle.f90_grammar.specs.Phrases.{ListPart}
use Rattle.f90_grammar.specs.Phrases.{Value, Range, Strided, ListParts, One, Then, Phrases90, Turn, Innermost, Round}
use Rattle.f90_grammar.specs.Phrases as phrases
use Rattle.f90_grammar.specs.Items.{ItemPhrase90, Of, Text, Loop, ItemPhrases90, Sole, More}
use Rattle.f90_grammar.specs.Forms as forms
use Rattle.f90_grammar.specs.Forms.{Form90, Bound90, Dimension, EntityForm90}
use Rattle.f90_grammar.specs.Printing.{phrase_of}
use Rattle.f90_grammar.specs.PrintedForms.{Printed, printed_program, reference_phrase}

abbrev pub in_parentheses : List ℕ → List ℕ
in_parentheses t = 40 ∷ (t ++ 41 ∷ [])

-- a comma in a list is followed by one blank
abbrev pub comma : List ℕ
comma = codes ", "

abbrev pub separated_text : {A : Type 0} → (A → List ℕ) → List A → List ℕ
separated_text text [] = []
separated_text text (x ∷ []) = text x
separated_text text (x ∷ y ∷ ys) = text x ++ (comma ++ separated_text text (y ∷ ys))

-- ---- expressions: an operator between two operands has one blank on each side, a sign none, and .NOT. one behind it

abbrev pub sign_text : Sign → List ℕ
sign_text Plus = codes "+"
sign_text Minus = codes "-"
sign_text Negation = codes ".NOT. "

abbrev pub loop_text : List ℕ → List ℕ → List ℕ → List ℕ
loop_text x a b = x ++ (codes " = " ++ (a ++ (comma ++ b)))

abbrev mutual
  pub phrase_text : Phrase90 → List ℕ
  phrase_text (Literal t) = t
  phrase_text (Truth b) = truth_text b
  phrase_text (Name x) = x
  phrase_text (Listed x ps) = x ++ in_parentheses (parts_text ps)
  phrase_text (Paren p) = in_parentheses (phrase_text p)
  phrase_text (Signed s p) = sign_text s ++ phrase_text p
  phrase_text (Joined o a b) = phrase_text a ++ (32 ∷ (spelling90_of o ++ (32 ∷ phrase_text b)))
  phrase_text (Values ps) = codes "(/ " ++ (values_text ps ++ codes " /)")
  phrase_text (Looped t) = codes "(/ " ++ (turn_text t ++ codes " /)")

  -- no blank stands at a colon
  pub part_text : ListPart → List ℕ
  part_text (Value p) = phrase_text p
  part_text (Range a b) = phrase_text a ++ (58 ∷ phrase_text b)
  part_text (Strided a b c) = phrase_text a ++ (58 ∷ (phrase_text b ++ (58 ∷ phrase_text c)))

  pub parts_text : ListParts → List ℕ
  parts_text (One p) = part_text p
  parts_text (Then ps p) = parts_text ps ++ (comma ++ part_text p)

  pub values_text : Phrases90 → List ℕ
  values_text (phrases.Sole p) = phrase_text p
  values_text (phrases.More ps p) = values_text ps ++ (comma ++ phrase_text p)

  pub turn_text : Turn → List ℕ
  turn_text (Innermost p x a b) =
      in_parentheses (phrase_text p ++ (comma ++ loop_text x (phrase_text a) (phrase_text b)))
  turn_text (Round t x a b) = in_parentheses (turn_text t ++ (comma ++ loop_text x (phrase_text a) (phrase_text b)))

abbrev pub step_text : Option Phrase90 → List ℕ
step_text None = []
step_text (Some p) = comma ++ phrase_text p

abbrev pub bounds_text : List ℕ → Phrase90 → Phrase90 → Option Phrase90 → List ℕ
bounds_text x a b c = loop_text x (phrase_text a) (phrase_text b) ++ step_text c

abbrev pub constant_text : List ℕ → List ℕ
constant_text t = 39 ∷ (doubled t ++ 39 ∷ [])

abbrev mutual
  pub item_text : ItemPhrase90 → List ℕ
  item_text (Of p) = phrase_text p
  item_text (Text t) = constant_text t
  item_text (Loop is x a b c) = in_parentheses (items_text is ++ (comma ++ bounds_text x a b c))

  pub items_text : ItemPhrases90 → List ℕ
  items_text (Sole i) = item_text i
  items_text (More is i) = items_text is ++ (comma ++ item_text i)

-- ---- declarations

abbrev pub bound_sign_text : Option Sign → List ℕ
bound_sign_text None = []
bound_sign_text (Some s) = sign_text s

abbrev pub bound_text : Bound90 → List ℕ
bound_text b = bound_sign_text b.sign ++ b.digits

abbrev pub dimension_text : Dimension → List ℕ
dimension_text (forms.Upper b) = bound_text b
dimension_text (forms.Both a b) = bound_text a ++ (58 ∷ bound_text b)
dimension_text forms.Deferred = codes ":"

abbrev pub dimensions_text : List Dimension → List ℕ
dimensions_text [] = []
dimensions_text (d ∷ ds) = in_parentheses (separated_text dimension_text (d ∷ ds))

abbrev pub entity_text : EntityForm90 → List ℕ
entity_text e = e.name ++ dimensions_text e.dimensions

abbrev pub attribute_text : Bool → List ℕ
attribute_text true = codes ", ALLOCATABLE"
attribute_text false = []

-- ---- statements

abbrev pub extent_text : Phrase90 → List ℕ
extent_text p = codes "1:" ++ phrase_text p

abbrev pub labelled_text : List ℕ → List ℕ
labelled_text [] = codes "CONTINUE"
labelled_text (c ∷ cs) = (c ∷ cs) ++ codes " CONTINUE"

abbrev pub named_text : Option (List ℕ) → List ℕ
named_text None = []
named_text (Some x) = 32 ∷ x

abbrev pub assignment_text : Phrase90 → Phrase90 → List ℕ
assignment_text l r = phrase_text l ++ (codes " = " ++ phrase_text r)

abbrev pub form_text : Form90 → List ℕ
form_text (forms.Program x) = codes "PROGRAM " ++ x
form_text forms.ImplicitNone = codes "IMPLICIT NONE"
form_text (forms.Declare k a es) = keyword_of k ++ (attribute_text a ++ (codes " :: " ++ separated_text entity_text es))
form_text (forms.Assign l r) = assignment_text l r
form_text (forms.Where m l r) = codes "WHERE " ++ (in_parentheses (phrase_text m) ++ (32 ∷ assignment_text l r))
form_text (forms.Test p f) = codes "IF " ++ (in_parentheses (phrase_text p) ++ (32 ∷ form_text f))
form_text (forms.If p) = codes "IF " ++ (in_parentheses (phrase_text p) ++ codes " THEN")
form_text (forms.ElseIf p) = codes "ELSE IF " ++ (in_parentheses (phrase_text p) ++ codes " THEN")
form_text forms.Else = codes "ELSE"
form_text forms.EndIf = codes "END IF"
form_text (forms.Do x a b c) = codes "DO " ++ bounds_text x a b c
form_text forms.EndDo = codes "END DO"
form_text (forms.Continue label) = labelled_text label
form_text (forms.Go label) = codes "GO TO " ++ label
form_text forms.Stop = codes "STOP"
form_text (forms.Read is) = codes "READ *, " ++ items_text is
form_text forms.ReadNothing = codes "READ *"
form_text (forms.Print is) = codes "PRINT *, " ++ items_text is
form_text forms.PrintNothing = codes "PRINT *"
form_text (forms.Allocate x es) =
    codes "ALLOCATE " ++ in_parentheses (x ++ in_parentheses (separated_text extent_text es))
form_text (forms.Deallocate x) = codes "DEALLOCATE " ++ in_parentheses x
form_text forms.End = codes "END"
form_text (forms.EndProgram x) = codes "END PROGRAM" ++ named_text x

-- ---- lines: a text of more than 130 characters is cut into pieces of 130; all but the last are followed by an
-- ampersand, all but the first are preceded by one

abbrev pub piece_length : ℕ
piece_length = 130

-- how many pieces come behind the first one
abbrev pub further_pieces : List ℕ → ℕ
further_pieces t = (length t - 1) / piece_length

abbrev pub continued : ℕ → List ℕ → List (List ℕ)
continued zero t = (38 ∷ t) ∷ []
continued (suc n) t = (38 ∷ (take piece_length t ++ 38 ∷ [])) ∷ continued n (drop piece_length t)

abbrev pub pieces : ℕ → List ℕ → List (List ℕ)
pieces zero t = t ∷ []
pieces (suc n) t = (take piece_length t ++ 38 ∷ []) ∷ continued n (drop piece_length t)

abbrev pub lines_of_text : List ℕ → List (List ℕ)
lines_of_text t = pieces (further_pieces t) t

abbrev pub mark_text : Mark → List ℕ
mark_text m = codes "!S " ++ (decimal m.nest ++ (32 ∷ (decimal m.stmt ++ (32 ∷ decimal m.level))))

abbrev pub mark_lines : Option Mark → List (List ℕ)
mark_lines None = []
mark_lines (Some m) = mark_text m ∷ []

abbrev pub printed_lines : Printed → List (List ℕ)
printed_lines s = mark_lines s.mark ++ lines_of_text (form_text s.form)

abbrev pub with_line_feed : List ℕ → List ℕ
with_line_feed line = line ++ 10 ∷ []

-- ---- programs

-- notes are comment lines that are no marks: they begin with `!G ` and are no longer than a line may be
pub record IsNote (line : List ℕ) : Type 0 where
  pub rest : List ℕ
  pub begins : line ≡ codes "!G " ++ rest
  pub printable : AllByRecursion (λ c. (32 ≤ c) × (c ≤ 126)) line
  pub within : length line ≤ 132

-- the notes come first
abbrev pub program_lines : Program → List (List ℕ) → List (List ℕ)
program_lines p notes = notes ++ flat_map printed_lines (printed_program p)

-- The one text of a program with these notes before it
abbrev pub printed90 : Program → List (List ℕ) → List ℕ
printed90 p notes = flat_map with_line_feed (program_lines p notes)

-- of one expression, and of one assignment, with the condition under which it is performed before it
abbrev pub expression_text : Expression → List ℕ
expression_text e = phrase_text (phrase_of e)

abbrev pub guard_text : Option Expression → List ℕ
guard_text None = []
guard_text (Some e) = codes "IF " ++ (in_parentheses (expression_text e) ++ 32 ∷ [])

abbrev pub guarded_assignment_text : Option Expression → Reference → Expression → List ℕ
guarded_assignment_text guard left right =
    guard_text guard ++ assignment_text (reference_phrase left) (phrase_of right)
