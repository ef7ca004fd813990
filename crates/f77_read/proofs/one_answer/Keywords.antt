-- The keywords with which statements begin. Those of `f77_statement` can't be named here.
use Rattle.std.specs.Prelude.{ℕ, ◌⊎◌, Option, Some, None, List, [], ◌∷◌, codes}
use Rattle.tree.specs.declared.ops.Kind.TheVariants as kinds
use Rattle.f77_grammar.specs.expressions.Squeezing.{Symbol77}
use Rattle.f77_grammar.specs.statements.Forms as forms
use Rattle.f77_grammar.specs.statements.Forms.{Form77}
use Rattle.f77_expressions.specs.Lexing.{strip}
use Rattle.f77_statement.specs.Keywords.{IsProgramAfter, IsDeclarationAfter, IsDimensionAfter, AreConstantsAfter, IsGoToAfter, IsElseIfAfter, IsNothingAfter, IsReadAfter, IsPrintAfter, AfterComma}

pub data Keyword : Type 0 where
  Program : Keyword
  ImplicitNone : Keyword
  Integer : Keyword
  Logical : Keyword
  Dimension : Keyword
  Parameter : Keyword
  GoTo : Keyword
  ElseIf : Keyword
  Else : Keyword
  EndIf : Keyword
  EndDo : Keyword
  Continue : Keyword
  Stop : Keyword
  End : Keyword
  ReadUnit : Keyword
  ReadList : Keyword
  WriteUnit : Keyword
  PrintList : Keyword

pub record Front : Type 0 where
  pub keyword : Keyword
  pub rest : List Symbol77

abbrev pub or_else : Option (List Symbol77) → Keyword → Option Front → Option Front
or_else (Some rest) k next = Some (record { keyword = k; rest = rest })
or_else None k next = next

abbrev pub first_of : List (List ℕ × Keyword) → List Symbol77 → Option Front
first_of [] text = None
first_of (w ∷ ws) text = or_else (strip w.0 text) w.1 (first_of ws text)

-- a longer keyword stands before one that begins it
abbrev pub first_keywords : List (List ℕ × Keyword)
first_keywords =
    (codes "PROGRAM", Program) ∷ (codes "IMPLICITNONE", ImplicitNone) ∷ (codes "INTEGER", Integer)
    ∷ (codes "LOGICAL", Logical) ∷ (codes "DIMENSION", Dimension) ∷ (codes "PARAMETER", Parameter) ∷ (codes "GOTO", GoTo)
    ∷ (codes "ELSEIF(", ElseIf) ∷ (codes "ELSE", Else) ∷ []

abbrev pub last_keywords : List (List ℕ × Keyword)
last_keywords =
    (codes "ENDIF", EndIf) ∷ (codes "ENDDO", EndDo) ∷ (codes "END", End) ∷ (codes "CONTINUE", Continue) ∷ (codes "STOP", Stop)
    ∷ (codes "READ(*,*)", ReadUnit) ∷ (codes "READ*", ReadList) ∷ (codes "WRITE(*,*)", WriteUnit)
    ∷ (codes "PRINT*", PrintList) ∷ []

abbrev pub either : Option Front → Option Front → Option Front
either (Some f) next = Some f
either None next = next

-- the keyword at the front of a text
abbrev pub keyword_at : List Symbol77 → Option Front
keyword_at text = either (first_of first_keywords text) (first_of last_keywords text)

-- The form f stands so behind the keyword.
abbrev pub IsAfter : Keyword → List Symbol77 → Form77 → Type 0
IsAfter Program rest f = IsProgramAfter rest f
IsAfter ImplicitNone rest f = IsNothingAfter forms.ImplicitNone rest f
IsAfter Integer rest f = IsDeclarationAfter kinds.Integer rest f
IsAfter Logical rest f = IsDeclarationAfter kinds.Logical rest f
IsAfter Dimension rest f = IsDimensionAfter rest f
IsAfter Parameter rest f = AreConstantsAfter rest f
IsAfter GoTo rest f = IsGoToAfter rest f
IsAfter ElseIf rest f = IsElseIfAfter rest f
IsAfter Else rest f = IsNothingAfter forms.Else rest f
IsAfter EndIf rest f = IsNothingAfter forms.EndIf rest f
IsAfter EndDo rest f = IsNothingAfter forms.EndDo rest f
IsAfter Continue rest f = IsNothingAfter forms.Continue rest f
IsAfter Stop rest f = IsNothingAfter forms.Stop rest f
IsAfter End rest f = IsNothingAfter forms.End rest f
IsAfter ReadUnit rest f = IsNothingAfter forms.ReadNothing rest f ⊎ IsReadAfter rest f
IsAfter ReadList rest f = IsNothingAfter forms.ReadNothing rest f ⊎ AfterComma IsReadAfter rest f
IsAfter WriteUnit rest f = IsNothingAfter forms.PrintNothing rest f ⊎ IsPrintAfter rest f
IsAfter PrintList rest f = IsNothingAfter forms.PrintNothing rest f ⊎ AfterComma IsPrintAfter rest f
