-- The forms of statements, as they are written and what they stand for (ANSI X3.9-1978, sections 7 to 12; MIL-STD-1753
-- has END DO, a DO without a label and IMPLICIT NONE).
use Rattle.std.specs.Prelude.{ℕ, ◌≤◌, ◌≡◌, max, pos, Bool, true, false, ◌⊎◌, Some, None, List, [], ◌∷◌}
use Rattle.std.specs.Prelude.{◌++◌, length, map, codes}
use Rattle.std.specs.List.{list_any}
use Rattle.tree.specs.declared.ops.Kind.{Kind}
use Rattle.tree.specs.Plain as tree
use Rattle.f77_grammar.specs.Statement77 as statement
use Rattle.f77_grammar.specs.Statement77.{Statement77}
use Rattle.f77_grammar.specs.expressions.Phrases as phrases
use Rattle.f77_grammar.specs.expressions.Phrases.{Phrase77, IsExpression77, written77}
use Rattle.f77_grammar.specs.expressions.Words.{is_wide_word}
use Rattle.f77_grammar.specs.expressions.Spelling.{AreWords77, value, chars77}
use Rattle.reading.specs.Characters.{IsDigits, IsList, keyword_of}
use Rattle.reading.specs.Signs.{reference_in}
use Rattle.f77_grammar.specs.expressions.Squeezing.{Symbol77}
use Rattle.f77_grammar.specs.expressions.Words as words
use Rattle.f77_grammar.specs.expressions.Words.{Word77}
use Rattle.f77_grammar.specs.statements.Controls.{Control, IsControl, written_control, step_tree77, control_depth}
use Rattle.f77_grammar.specs.statements.Items.{ItemPhrases77, AreItems77, IsReference77, written_items77}
use Rattle.f77_grammar.specs.declared.directions.Direction.TheVariants.{Input, Output}
use Rattle.f77_grammar.specs.statements.Items.{item_trees77, items_depth77}

-- ---- lists with commas

-- parts one after another, with a comma before each but the first
abbrev pub followed77 : {A : Type 0} → (A → List Word77) → List A → List Word77
followed77 write [] = []
followed77 write (x ∷ xs) = words.Comma ∷ (write x ++ followed77 write xs)

abbrev pub separated77 : {A : Type 0} → (A → List Word77) → List A → List Word77
separated77 write [] = []
separated77 write (x ∷ xs) = write x ++ followed77 write xs

abbrev pub deepest : {A : Type 0} → (A → ℕ) → List A → ℕ
deepest depth [] = 0
deepest depth (x ∷ xs) = max (depth x) (deepest depth xs)

-- ---- names with bounds (sections 5.1, 8.1 and 8.4)

-- the upper bound alone, or both
pub data Bound77 : Type 0 where
  Upper : Phrase77 → Bound77
  Both : Phrase77 → Phrase77 → Bound77

abbrev pub IsBound77 : Bound77 → Type 0
IsBound77 (Upper p) = IsExpression77 p
IsBound77 (Both p q) = IsExpression77 p × IsExpression77 q

abbrev pub written_bound77 : Bound77 → List Word77
written_bound77 (Upper p) = written77 p
written_bound77 (Both p q) = written77 p ++ (words.Colon ∷ written77 q)

-- a lower bound that isn't written is 1
abbrev pub bound_tree : Bound77 → tree.Expression × tree.Expression
bound_tree (Upper p) = (tree.Number (pos 1), phrases.tree77_of p)
bound_tree (Both p q) = (phrases.tree77_of p, phrases.tree77_of q)

abbrev pub bound_depth : Bound77 → ℕ
bound_depth (Upper p) = phrases.phrase_depth77 p
bound_depth (Both p q) = max (phrases.phrase_depth77 p) (phrases.phrase_depth77 q)

-- a name, or a name with one to seven bounds
pub data EntityForm77 : Type 0 where
  Plain : List ℕ → EntityForm77
  Bounded : List ℕ → List Bound77 → EntityForm77

abbrev pub IsEntity77 : EntityForm77 → Type 0
IsEntity77 (Plain x) = Unit {0}
IsEntity77 (Bounded x bs) = IsList IsBound77 bs × (length bs ≤ 7)

-- in DIMENSION each name has bounds
abbrev pub IsBounded : EntityForm77 → Type 0
IsBounded (Plain x) = ⊥
IsBounded (Bounded x bs) = IsList IsBound77 bs × (length bs ≤ 7)

abbrev pub written_entity77 : EntityForm77 → List Word77
written_entity77 (Plain x) = words.Name x ∷ []
written_entity77 (Bounded x bs) = words.Head x ∷ (separated77 written_bound77 bs ++ words.Close ∷ [])

abbrev pub entity_tree : EntityForm77 → statement.Entity
entity_tree (Plain x) = record { name = x; bounds = [] }
entity_tree (Bounded x bs) = record { name = x; bounds = map bound_tree bs }

abbrev pub entity_depth : EntityForm77 → ℕ
entity_depth (Plain x) = 0
entity_depth (Bounded x bs) = deepest bound_depth bs

-- ---- symbolic constants (section 8.6)

pub record Definition : Type 0 where
  pub name : List ℕ
  pub value : Phrase77

abbrev pub IsDefinition : Definition → Type 0
IsDefinition d = IsExpression77 d.value

abbrev pub written_definition : Definition → List Word77
written_definition d = words.Name d.name ∷ (words.Equals ∷ written77 d.value)

abbrev pub definition_tree : Definition → statement.NamedConstant
definition_tree d = record { name = d.name; value = phrases.tree77_of d.value }

abbrev pub definition_depth : Definition → ℕ
definition_depth d = phrases.phrase_depth77 d.value

-- ---- the forms

-- A label is its digits. A comma may follow the label of a DO. A DO without a label, and `Read` and `Print` without a
-- list, have forms of their own
pub data Form77 : Type 0 where
  Program : List ℕ → Form77
  ImplicitNone : Form77
  Declare : Kind → List EntityForm77 → Form77
  Dimension : List EntityForm77 → Form77
  Constants : List Definition → Form77
  Assign : Phrase77 → Phrase77 → Form77
  Go : List ℕ → Form77
  Test : Phrase77 → Form77 → Form77
  If : Phrase77 → Form77
  ElseIf : Phrase77 → Form77
  Else : Form77
  EndIf : Form77
  Do : List ℕ → Bool → Control → Form77
  PlainDo : Control → Form77
  EndDo : Form77
  Continue : Form77
  Stop : Form77
  Read : ItemPhrases77 → Form77
  ReadNothing : Form77
  Print : ItemPhrases77 → Form77
  PrintNothing : Form77
  End : Form77

-- 1 to 5 digits
abbrev pub IsLabel77 : List ℕ → Type 0
IsLabel77 label = IsDigits label × (length label ≤ 5)

-- the inner statement of a logical IF: an assignment, GO TO, CONTINUE, STOP, READ, PRINT or WRITE (section 11.5)
abbrev pub IsInner77 : Form77 → Type 0
IsInner77 (Assign l r) = Unit {0}
IsInner77 (Go label) = Unit {0}
IsInner77 Continue = Unit {0}
IsInner77 Stop = Unit {0}
IsInner77 (Read is) = Unit {0}
IsInner77 ReadNothing = Unit {0}
IsInner77 (Print is) = Unit {0}
IsInner77 PrintNothing = Unit {0}
IsInner77 (Program x) = ⊥
IsInner77 ImplicitNone = ⊥
IsInner77 (Declare k es) = ⊥
IsInner77 (Dimension es) = ⊥
IsInner77 (Constants ds) = ⊥
IsInner77 (Test p f) = ⊥
IsInner77 (If p) = ⊥
IsInner77 (ElseIf p) = ⊥
IsInner77 Else = ⊥
IsInner77 EndIf = ⊥
IsInner77 (Do label comma k) = ⊥
IsInner77 (PlainDo k) = ⊥
IsInner77 EndDo = ⊥
IsInner77 End = ⊥

abbrev pub optional_comma : Bool → List ℕ
optional_comma true = codes ","
optional_comma false = []

-- the characters, and then a text that has these words
abbrev pub IsFollowed : List ℕ → List Word77 → List Symbol77 → Type 0
IsFollowed front ws text = (rest : List Symbol77) × (text ≡ chars77 front ++ rest) × AreWords77 rest ws

-- How each form is written, without blanks
abbrev pub IsWritten77 : Form77 → List Symbol77 → Type 0
IsWritten77 (Program x) text = IsFollowed (codes "PROGRAM") (words.Name x ∷ []) text
IsWritten77 ImplicitNone text = text ≡ chars77 (codes "IMPLICITNONE")
IsWritten77 (Declare k es) text =
    IsFollowed (keyword_of k) (separated77 written_entity77 es) text × IsList IsEntity77 es
IsWritten77 (Dimension es) text =
    IsFollowed (codes "DIMENSION") (separated77 written_entity77 es) text × IsList IsBounded es
IsWritten77 (Constants ds) text =
    IsFollowed (codes "PARAMETER") (words.Open ∷ (separated77 written_definition ds ++ words.Close ∷ [])) text
    × IsList IsDefinition ds
IsWritten77 (Assign l r) text =
    AreWords77 text (written77 l ++ (words.Equals ∷ written77 r)) × IsReference77 l × IsExpression77 l
    × IsExpression77 r
IsWritten77 (Go label) text = (text ≡ chars77 (codes "GOTO" ++ label)) × IsLabel77 label
IsWritten77 (Test p f) text =
    (e rest : List Symbol77) × (text ≡ chars77 (codes "IF(") ++ (e ++ (chars77 (codes ")") ++ rest)))
    × AreWords77 e (written77 p)
    × IsExpression77 p × IsWritten77 f rest × IsInner77 f
IsWritten77 (If p) text = (e : List Symbol77) × (text ≡ chars77 (codes "IF(") ++ (e ++ chars77 (codes ")THEN")))
    × AreWords77 e (written77 p) × IsExpression77 p
IsWritten77 (ElseIf p) text = (e : List Symbol77) × (text ≡ chars77 (codes "ELSEIF(") ++ (e ++ chars77 (codes ")THEN")))
    × AreWords77 e (written77 p) × IsExpression77 p
IsWritten77 Else text = text ≡ chars77 (codes "ELSE")
IsWritten77 EndIf text = text ≡ chars77 (codes "ENDIF")
IsWritten77 (Do label comma k) text =
    IsFollowed (codes "DO" ++ (label ++ optional_comma comma)) (written_control k) text × IsLabel77 label × IsControl k
IsWritten77 (PlainDo k) text = IsFollowed (codes "DO") (written_control k) text × IsControl k
IsWritten77 EndDo text = text ≡ chars77 (codes "ENDDO")
IsWritten77 Continue text = text ≡ chars77 (codes "CONTINUE")
IsWritten77 Stop text = text ≡ chars77 (codes "STOP")
IsWritten77 (Read is) text = (IsFollowed (codes "READ*,") (written_items77 is) text
    ⊎ IsFollowed (codes "READ(*,*)") (written_items77 is) text) × AreItems77 Input is
IsWritten77 ReadNothing text = (text ≡ chars77 (codes "READ*")) ⊎ (text ≡ chars77 (codes "READ(*,*)"))
IsWritten77 (Print is) text = (IsFollowed (codes "PRINT*,") (written_items77 is) text
    ⊎ IsFollowed (codes "WRITE(*,*)") (written_items77 is) text) × AreItems77 Output is
IsWritten77 PrintNothing text = (text ≡ chars77 (codes "PRINT*")) ⊎ (text ≡ chars77 (codes "WRITE(*,*)"))
IsWritten77 End text = text ≡ chars77 (codes "END")

-- ---- what they stand for

abbrev pub statement_of : Form77 → Statement77
statement_of (Program x) = statement.Program x
statement_of ImplicitNone = statement.ImplicitNone
statement_of (Declare k es) = statement.Declare k (map entity_tree es)
statement_of (Dimension es) = statement.Dimension (map entity_tree es)
statement_of (Constants ds) = statement.Constants (map definition_tree ds)
statement_of (Assign l r) = statement.Assign (reference_in (phrases.tree77_of l)) (phrases.tree77_of r)
statement_of (Go label) = statement.Go (value label)
statement_of (Test p f) = statement.Test (phrases.tree77_of p) (statement_of f)
statement_of (If p) = statement.If (phrases.tree77_of p)
statement_of (ElseIf p) = statement.ElseIf (phrases.tree77_of p)
statement_of Else = statement.Else
statement_of EndIf = statement.EndIf
statement_of (Do label comma k) =
    statement.Do (Some (value label)) k.variable (phrases.tree77_of k.first) (phrases.tree77_of k.last)
    (step_tree77 k.step)
statement_of (PlainDo k) =
    statement.Do None k.variable (phrases.tree77_of k.first) (phrases.tree77_of k.last) (step_tree77 k.step)
statement_of EndDo = statement.EndDo
statement_of Continue = statement.Continue
statement_of Stop = statement.Stop
statement_of (Read is) = statement.Read (tree.items (item_trees77 is))
statement_of ReadNothing = statement.Read tree.no_items
statement_of (Print is) = statement.Print (tree.items (item_trees77 is))
statement_of PrintNothing = statement.Print tree.no_items
statement_of End = statement.End

-- ---- limits

-- the depth of its deepest expression or list; the list of a left side counts too, but no parenthesis of IF or
-- PARAMETER
abbrev pub form_depth : Form77 → ℕ
form_depth (Declare k es) = deepest entity_depth es
form_depth (Dimension es) = deepest entity_depth es
form_depth (Constants ds) = deepest definition_depth ds
form_depth (Assign l r) = max (phrases.phrase_depth77 l) (phrases.phrase_depth77 r)
form_depth (Test p f) = max (phrases.phrase_depth77 p) (form_depth f)
form_depth (If p) = phrases.phrase_depth77 p
form_depth (ElseIf p) = phrases.phrase_depth77 p
form_depth (Do label comma k) = control_depth k
form_depth (PlainDo k) = control_depth k
form_depth (Read is) = items_depth77 is
form_depth (Print is) = items_depth77 is
form_depth (Program x) = 0
form_depth ImplicitNone = 0
form_depth (Go label) = 0
form_depth Else = 0
form_depth EndIf = 0
form_depth EndDo = 0
form_depth Continue = 0
form_depth Stop = 0
form_depth ReadNothing = 0
form_depth PrintNothing = 0
form_depth End = 0

-- the words among which its literals stand; a label is no literal
abbrev pub form_words : Form77 → List Word77
form_words (Declare k es) = separated77 written_entity77 es
form_words (Dimension es) = separated77 written_entity77 es
form_words (Constants ds) = separated77 written_definition ds
form_words (Assign l r) = written77 l ++ written77 r
form_words (Test p f) = written77 p ++ form_words f
form_words (If p) = written77 p
form_words (ElseIf p) = written77 p
form_words (Do label comma k) = written_control k
form_words (PlainDo k) = written_control k
form_words (Read is) = written_items77 is
form_words (Print is) = written_items77 is
form_words (Program x) = []
form_words ImplicitNone = []
form_words (Go label) = []
form_words Else = []
form_words EndIf = []
form_words EndDo = []
form_words Continue = []
form_words Stop = []
form_words ReadNothing = []
form_words PrintNothing = []
form_words End = []

abbrev pub has_wide_literal77 : Form77 → Bool
has_wide_literal77 f = list_any is_wide_word (form_words f)
