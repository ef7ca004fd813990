-- A statement of FORTRAN 77 as it stands on its card, before the statements of a program are put together
-- (ANSI X3.9-1978, sections 7 to 12; END DO, a DO without a label and IMPLICIT NONE are of MIL-STD-1753). A name with a
-- list in parentheses stands as a reference, since an element and a call are written alike.
use Rattle.std.specs.Prelude.{ℕ, List, Option}
use Rattle.tree.specs.declared.ops.Kind.{Kind}
use Rattle.tree.specs.Plain.{Expression, Reference, Items}

-- a name in a type statement or a DIMENSION, with the lower and the upper bound of each dimension
pub record Entity : Type 0 where
  pub name : List ℕ
  pub bounds : List (Expression × Expression)

-- a name and its expression in PARAMETER
pub record NamedConstant : Type 0 where
  pub name : List ℕ
  pub value : Expression

-- `Test` is the logical IF with its inner statement; `If`, `ElseIf`, `Else` and `EndIf` are the lines of a block IF.
-- `Do` has the label of its last statement, where one is written, its variable and its three parameters
pub data Statement77 : Type 0 where
  Program : List ℕ → Statement77
  ImplicitNone : Statement77
  Declare : Kind → List Entity → Statement77
  Dimension : List Entity → Statement77
  Constants : List NamedConstant → Statement77
  Assign : Reference → Expression → Statement77
  Go : ℕ → Statement77
  Test : Expression → Statement77 → Statement77
  If : Expression → Statement77
  ElseIf : Expression → Statement77
  Else : Statement77
  EndIf : Statement77
  Do : Option ℕ → List ℕ → Expression → Expression → Expression → Statement77
  EndDo : Statement77
  Continue : Statement77
  Stop : Statement77
  Read : Items → Statement77
  Print : Items → Statement77
  End : Statement77

-- a statement with the label and the line of its card
pub record Labelled : Type 0 where
  pub label : Option ℕ
  pub line : ℕ
  pub statement : Statement77
