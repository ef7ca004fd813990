-- Which statement words are, told from its keyword and from what stands behind the parenthesis that closes its first one.
use Rattle.std.proofs.Common.{ℕ, List, [], ◌∷◌, codes}
use Rattle.std.specs.Prelude.{if◌then◌else◌}
use Rattle.std.specs.Str.{bytes_eq}
use Rattle.tree.specs.declared.ops.Kind.{Kind}
use Rattle.tree.specs.declared.ops.Kind.TheVariants.{Integer, Logical}
use Rattle.f90_grammar.specs.Words.{Word90}
use Rattle.f90_grammar.specs.Words as words
use Rattle.f90_laws.proofs.unique.Balanced.{after}

pub data Keyword : Type 0 where
  ProgramWord : Keyword
  ImplicitWord : Keyword
  IntegerWord : Keyword
  LogicalWord : Keyword
  WhereWord : Keyword
  IfWord : Keyword
  ElseWord : Keyword
  ElseIfWord : Keyword
  EndWord : Keyword
  EndIfWord : Keyword
  EndDoWord : Keyword
  EndProgramWord : Keyword
  DoWord : Keyword
  ContinueWord : Keyword
  GoWord : Keyword
  GoToWord : Keyword
  StopWord : Keyword
  ReadWord : Keyword
  PrintWord : Keyword
  WriteWord : Keyword
  AllocateWord : Keyword
  DeallocateWord : Keyword
  NoKeyword : Keyword

abbrev pub keyword : List ℕ → Keyword
keyword x =
    if bytes_eq x (codes "PROGRAM") then ProgramWord else (
    if bytes_eq x (codes "IMPLICIT") then ImplicitWord else (
    if bytes_eq x (codes "INTEGER") then IntegerWord else (
    if bytes_eq x (codes "LOGICAL") then LogicalWord else (
    if bytes_eq x (codes "WHERE") then WhereWord else (
    if bytes_eq x (codes "IF") then IfWord else (
    if bytes_eq x (codes "ELSE") then ElseWord else (
    if bytes_eq x (codes "ELSEIF") then ElseIfWord else (
    if bytes_eq x (codes "END") then EndWord else (
    if bytes_eq x (codes "ENDIF") then EndIfWord else (
    if bytes_eq x (codes "ENDDO") then EndDoWord else (
    if bytes_eq x (codes "ENDPROGRAM") then EndProgramWord else (
    if bytes_eq x (codes "DO") then DoWord else (
    if bytes_eq x (codes "CONTINUE") then ContinueWord else (
    if bytes_eq x (codes "GO") then GoWord else (
    if bytes_eq x (codes "GOTO") then GoToWord else (
    if bytes_eq x (codes "STOP") then StopWord else (
    if bytes_eq x (codes "READ") then ReadWord else (
    if bytes_eq x (codes "PRINT") then PrintWord else (
    if bytes_eq x (codes "WRITE") then WriteWord else (
    if bytes_eq x (codes "ALLOCATE") then AllocateWord else (
    if bytes_eq x (codes "DEALLOCATE") then DeallocateWord else (
    NoKeyword))))))))))))))))))))))

-- with the words that tell two statements of a class apart
pub data Class : Type 0 where
  Titled : List ℕ → Class
  Untyped : Class
  Declared : Kind → List Word90 → Class
  Assigned : List Word90 → Class
  Masked : List Word90 → Class
  Tested : List Word90 → Class
  BeginsIf : List Word90 → Class
  BeginsElseIf : List Word90 → Class
  BeginsElse : Class
  EndsIf : Class
  BeginsDo : List Word90 → Class
  EndsDo : Class
  Continued : List ℕ → Class
  Goes : List Word90 → Class
  Stopped : Class
  ReadsItems : List Word90 → Class
  ReadsNothing : Class
  PrintsItems : List Word90 → Class
  PrintsNothing : Class
  Allocates : List Word90 → Class
  Deallocates : List Word90 → Class
  Ends : Class
  EndsProgram : List Word90 → Class
  Unknown : Class

abbrev pub end_class : Keyword → List Word90 → Class
end_class IfWord ws = EndsIf
end_class DoWord ws = EndsDo
end_class ProgramWord ws = EndsProgram ws
end_class k ws = Unknown

abbrev pub behind_end : List Word90 → Class
behind_end [] = Ends
behind_end (words.Name x ∷ ws) = end_class (keyword x) ws
behind_end ws = Unknown

abbrev pub behind_else : List Word90 → Class
behind_else [] = BeginsElse
behind_else (words.Head x ∷ ws) = BeginsElseIf ws
behind_else ws = Unknown

abbrev pub behind_program : List Word90 → Class
behind_program (words.Name x ∷ ws) = Titled x
behind_program ws = Unknown

abbrev pub behind_go : List Word90 → Class
behind_go (words.Name x ∷ ws) = Goes ws
behind_go ws = Unknown

-- behind READ and its asterisk
abbrev pub behind_read : List Word90 → Class
behind_read (words.Operator o ∷ []) = ReadsNothing
behind_read (words.Operator o ∷ (w ∷ ws)) = ReadsItems ws
behind_read ws = Unknown

abbrev pub behind_print : List Word90 → Class
behind_print (words.Operator o ∷ []) = PrintsNothing
behind_print (words.Operator o ∷ (w ∷ ws)) = PrintsItems ws
behind_print ws = Unknown

abbrev pub name_class : Keyword → List Word90 → Class
name_class ProgramWord ws = behind_program ws
name_class ImplicitWord ws = Untyped
name_class IntegerWord ws = Declared Integer ws
name_class LogicalWord ws = Declared Logical ws
name_class ElseWord ws = behind_else ws
name_class EndWord ws = behind_end ws
name_class EndIfWord ws = EndsIf
name_class EndDoWord ws = EndsDo
name_class EndProgramWord ws = EndsProgram ws
name_class DoWord ws = BeginsDo ws
name_class ContinueWord ws = Continued []
name_class GoWord ws = behind_go ws
name_class GoToWord ws = Goes ws
name_class StopWord ws = Stopped
name_class ReadWord ws = behind_read ws
name_class PrintWord ws = behind_print ws
name_class k ws = Unknown

-- of a condition and what stands behind its parenthesis
abbrev pub if_class : List Word90 → List Word90 → Class
if_class (words.Name x ∷ []) ws = if bytes_eq x (codes "THEN") then BeginsIf ws else Tested ws
if_class rest ws = Tested ws

abbrev pub reads_class : List Word90 → Class
reads_class [] = ReadsNothing
reads_class ws = ReadsItems ws

abbrev pub prints_class : List Word90 → Class
prints_class [] = PrintsNothing
prints_class ws = PrintsItems ws

abbrev pub head_class : Keyword → List Word90 → List Word90 → Class
head_class WhereWord rest ws = Masked ws
head_class IfWord rest ws = if_class rest ws
head_class ElseIfWord rest ws = BeginsElseIf ws
head_class ReadWord rest ws = reads_class rest
head_class WriteWord rest ws = prints_class rest
head_class AllocateWord rest ws = Allocates ws
head_class DeallocateWord rest ws = Deallocates ws
head_class k rest ws = Unknown

-- an equals sign behind the first name, or behind its list, makes an assignment
abbrev pub unless_equals : Class → Class → List Word90 → Class
unless_equals c d (words.Equals ∷ ws) = c
unless_equals c d ws = d

abbrev pub class_of : List Word90 → Class
class_of (words.Digits t ∷ ws) = Continued t
class_of (words.Name x ∷ ws) = unless_equals (Assigned (words.Name x ∷ ws)) (name_class (keyword x) ws) ws
class_of (words.Head x ∷ ws) = unless_equals (Assigned (words.Head x ∷ ws)) (head_class (keyword x) (after ws 0) ws) (after ws 0)
class_of ws = Unknown
