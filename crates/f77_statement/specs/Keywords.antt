-- The keyword with which a statement begins, and what may stand behind it.
use Rattle.std.specs.Prelude.{◌≡◌, ℕ, ◌⊎◌, Option, Some, None, List, [], ◌∷◌, ◌++◌, codes}
use Rattle.tree.specs.declared.ops.Kind.{Kind}
use Rattle.tree.specs.declared.ops.Kind.TheVariants as kinds
use Rattle.f77_grammar.specs.expressions.Phrases.{Phrase77, IsExpression77, written77}
use Rattle.f77_grammar.specs.expressions.Spelling.{AreWords77, chars77}
use Rattle.f77_grammar.specs.expressions.Squeezing.{Symbol77}
use Rattle.f77_grammar.specs.expressions.Words as words
use Rattle.f77_grammar.specs.statements.Items.{ItemPhrases77, AreItems77, written_items77}
use Rattle.f77_grammar.specs.declared.directions.Direction.TheVariants.{Input, Output}
use Rattle.f77_grammar.specs.statements.Forms as forms
use Rattle.f77_grammar.specs.statements.Forms.{Form77, IsLabel77, EntityForm77, IsEntity77, IsBounded, written_entity77}
use Rattle.f77_grammar.specs.statements.Forms.{Definition, IsDefinition, written_definition, separated77}
use Rattle.reading.specs.Characters.{IsList}
use Rattle.f77_expressions.specs.Lexing.{strip}
use Rattle.f77_statement.specs.declared.keywords.Keyword.{Keyword}
use Rattle.f77_statement.specs.declared.keywords.Keyword.TheVariants.{Program, ImplicitNone, Integer, Logical}
use Rattle.f77_statement.specs.declared.keywords.Keyword.TheVariants.{Dimension, Parameter, GoTo}
use Rattle.f77_statement.specs.declared.keywords.Keyword.TheVariants.{ElseIf, Else, EndIf, EndDo, Continue, Stop, End}
use Rattle.f77_statement.specs.declared.keywords.Keyword.TheVariants.{ReadUnit, ReadList, WriteUnit, PrintList}

pub record Front : Type 0 where
  pub keyword : Keyword
  pub rest : List Symbol77

abbrev pub or_else : Option (List Symbol77) → Keyword → Option Front → Option Front
or_else (Some rest) k next = Some (record { keyword = k; rest = rest })
or_else None k next = next

abbrev pub first_of : List (List ℕ × Keyword) → List Symbol77 → Option Front
first_of [] text = None
first_of (w ∷ ws) text = or_else (strip w.0 text) w.1 (first_of ws text)

-- a longer keyword stands before one that begins it
abbrev pub first_keywords : List (List ℕ × Keyword)
first_keywords =
    (codes "PROGRAM", Program) ∷ (codes "IMPLICITNONE", ImplicitNone) ∷ (codes "INTEGER", Integer)
    ∷ (codes "LOGICAL", Logical) ∷ (codes "DIMENSION", Dimension) ∷ (codes "PARAMETER", Parameter)
    ∷ (codes "GOTO", GoTo) ∷ (codes "ELSEIF(", ElseIf) ∷ (codes "ELSE", Else) ∷ []

abbrev pub last_keywords : List (List ℕ × Keyword)
last_keywords =
    (codes "ENDIF", EndIf) ∷ (codes "ENDDO", EndDo) ∷ (codes "END", End) ∷ (codes "CONTINUE", Continue)
    ∷ (codes "STOP", Stop) ∷ (codes "READ(*,*)", ReadUnit) ∷ (codes "READ*", ReadList) ∷ (codes "WRITE(*,*)", WriteUnit)
    ∷ (codes "PRINT*", PrintList) ∷ []

abbrev pub either : Option Front → Option Front → Option Front
either (Some f) next = Some f
either None next = next

-- the keyword at the front of a text
abbrev pub keyword_at : List Symbol77 → Option Front
keyword_at text = either (first_of first_keywords text) (first_of last_keywords text)

abbrev pub keyword_for : Kind → Keyword
keyword_for kinds.Integer = Integer
keyword_for kinds.Logical = Logical

-- ---- what stands behind a keyword, for each form

abbrev pub IsProgramAfter : List Symbol77 → Form77 → Type 0
IsProgramAfter rest f = (x : List ℕ) × (f ≡ forms.Program x) × AreWords77 rest (words.Name x ∷ [])

abbrev pub IsDeclarationAfter : Kind → List Symbol77 → Form77 → Type 0
IsDeclarationAfter k rest f =
    (es : List EntityForm77) × (f ≡ forms.Declare k es) × AreWords77 rest (separated77 written_entity77 es)
    × IsList IsEntity77 es

abbrev pub IsDimensionAfter : List Symbol77 → Form77 → Type 0
IsDimensionAfter rest f =
    (es : List EntityForm77) × (f ≡ forms.Dimension es) × AreWords77 rest (separated77 written_entity77 es)
    × IsList IsBounded es

abbrev pub AreConstantsAfter : List Symbol77 → Form77 → Type 0
AreConstantsAfter rest f = (ds : List Definition) × (f ≡ forms.Constants ds)
    × AreWords77 rest (words.Open ∷ (separated77 written_definition ds ++ words.Close ∷ [])) × IsList IsDefinition ds

abbrev pub IsGoToAfter : List Symbol77 → Form77 → Type 0
IsGoToAfter rest f = (label : List ℕ) × (f ≡ forms.Go label) × (rest ≡ chars77 label) × IsLabel77 label

abbrev pub IsElseIfAfter : List Symbol77 → Form77 → Type 0
IsElseIfAfter rest f =
    (p : Phrase77) × (e : List Symbol77) × (f ≡ forms.ElseIf p) × (rest ≡ e ++ chars77 (codes ")THEN"))
    × AreWords77 e (written77 p) × IsExpression77 p

abbrev pub IsNothingAfter : Form77 → List Symbol77 → Form77 → Type 0
IsNothingAfter g rest f = (f ≡ g) × (rest ≡ [])

abbrev pub IsReadAfter : List Symbol77 → Form77 → Type 0
IsReadAfter rest f =
    (is : ItemPhrases77) × (f ≡ forms.Read is) × AreWords77 rest (written_items77 is) × AreItems77 Input is

abbrev pub IsPrintAfter : List Symbol77 → Form77 → Type 0
IsPrintAfter rest f =
    (is : ItemPhrases77) × (f ≡ forms.Print is) × AreWords77 rest (written_items77 is) × AreItems77 Output is

-- a comma stands before the list
abbrev pub AfterComma : (List Symbol77 → Form77 → Type 0) → List Symbol77 → Form77 → Type 0
AfterComma Is rest f = (list : List Symbol77) × (rest ≡ chars77 (codes ",") ++ list) × Is list f

-- The form f stands so behind the keyword.
abbrev pub IsAfter : Keyword → List Symbol77 → Form77 → Type 0
IsAfter Program rest f = IsProgramAfter rest f
IsAfter ImplicitNone rest f = IsNothingAfter forms.ImplicitNone rest f
IsAfter Integer rest f = IsDeclarationAfter kinds.Integer rest f
IsAfter Logical rest f = IsDeclarationAfter kinds.Logical rest f
IsAfter Dimension rest f = IsDimensionAfter rest f
IsAfter Parameter rest f = AreConstantsAfter rest f
IsAfter GoTo rest f = IsGoToAfter rest f
IsAfter ElseIf rest f = IsElseIfAfter rest f
IsAfter Else rest f = IsNothingAfter forms.Else rest f
IsAfter EndIf rest f = IsNothingAfter forms.EndIf rest f
IsAfter EndDo rest f = IsNothingAfter forms.EndDo rest f
IsAfter Continue rest f = IsNothingAfter forms.Continue rest f
IsAfter Stop rest f = IsNothingAfter forms.Stop rest f
IsAfter End rest f = IsNothingAfter forms.End rest f
IsAfter ReadUnit rest f = IsNothingAfter forms.ReadNothing rest f ⊎ IsReadAfter rest f
IsAfter ReadList rest f = IsNothingAfter forms.ReadNothing rest f ⊎ AfterComma IsReadAfter rest f
IsAfter WriteUnit rest f = IsNothingAfter forms.PrintNothing rest f ⊎ IsPrintAfter rest f
IsAfter PrintList rest f = IsNothingAfter forms.PrintNothing rest f ⊎ AfterComma IsPrintAfter rest f
