-- Which texts are read as Fortran 90 programs, and why texts are refused: the least number of the causes that hold,
-- and of those the first line.
use Rattle.std.specs.Prelude.{◌≡◌, ◌↔◌, ◌⊎◌, ℕ, Bool, IsTrue, Option, None, if◌then◌else◌, List, [], map, Contains}
use Rattle.std.specs.List.{AllByRecursion}
use Rattle.std.specs.Str.Lines.{lines}
use Rattle.reading.specs.refusal_order.Answered.{IsAnswered}
use Rattle.tree.specs.Causes.{refusal_at}
use Rattle.tree.specs.Functions.{intrinsic_named}
use Rattle.tree.specs.Plain.{Program}
use Rattle.tree.specs.declared.refusals.Cause.{Cause}
use Rattle.tree.specs.declared.refusals.Cause.TheVariants.{Syntax90, WideLiteral90, Deep90, Structure, Declared90}
use Rattle.tree.specs.declared.refusals.Cause.TheVariants.{TypeClash90, Limit90}
use Rattle.tree.specs.declared.refusals.Refusal.{Refusal}
use Rattle.tree.specs.declared.functions.Intrinsic.{Intrinsic}
use Rattle.tree.specs.declared.ops.Kind.{Kind}
use Rattle.meaning.specs.Names.{is_among}
use Rattle.f90_grammar.specs.FreeForm.{FreeStatement, AreStatements}
use Rattle.f90_grammar.specs.Words.{Word90, HasWords}
use Rattle.f90_grammar.specs.Forms as forms
use Rattle.f90_grammar.specs.Forms.{Form90, EntityForm90, IsWritten90}
use Rattle.f90_grammar.specs.Blocks.{Placed}
use Rattle.f90_grammar.specs.Reading.{AreStatementsOf}
use Rattle.f90_grammar.specs.LineCauses.{HasLineCause}
use Rattle.f90_grammar.specs.Contents.{SuitsCallsIn, has_wide_literal_in, has_deep_expression}
use Rattle.f90_grammar.specs.Order.{Place90, IsPlaceIn, IsInOrder, is_disordered}
use Rattle.f90_grammar.specs.Declared.{declarations_of, functions_in, declares_again, HasKnownNames}
use Rattle.f90_grammar.specs.Suited.{Suits}
use Rattle.f90_grammar.specs.Surroundings.{IsMisplaced}
use Rattle.f90_grammar.specs.Programs.{IsProgramOf}
use Rattle.f90_grammar.specs.Bounds.{PassesLimit, HasManyNames}

-- ---- a statement has no form

abbrev pub IsFormOf90 : FreeStatement → Form90 → Type 0
IsFormOf90 s f = (ws : List Word90) × HasWords s.chars ws × IsWritten90 f ws

-- one of the statements declares the name
pub record IsDeclaredIn (ss : List FreeStatement) (x : List ℕ) : Type 0 where
  pub statement : FreeStatement
  pub stands : Contains ss statement
  pub kind : Kind
  pub allocatable : Bool
  pub entities : List EntityForm90
  pub form : IsFormOf90 statement (forms.Declare kind allocatable entities)
  pub name : Contains (map (λ (e : EntityForm90). e.name) entities) x

-- where these names are declared, others are names of functions
abbrev pub functions_but : List (List ℕ) → List ℕ → Option Intrinsic
functions_but xs x = if is_among xs x then None else intrinsic_named x

-- All declarations of the text are known, also those behind the statement; a declared name hides a function
pub record HasNoForm90 (ss : List FreeStatement) (s : FreeStatement) : Type 0 where
  pub declared : List (List ℕ)
  pub are_declared : (x : List ℕ) → Contains declared x ↔ IsDeclaredIn ss x
  pub none : (f : Form90) → IsFormOf90 s f → SuitsCallsIn (functions_but declared) f → ⊥

-- ---- statements that have forms

-- the cause holds at a place of the statements
abbrev pub HoldsAt : Cause → List Placed → Place90 → Type 0
HoldsAt WideLiteral90 ps p = IsTrue (has_wide_literal_in p.here.form)
HoldsAt Deep90 ps p = IsTrue (has_deep_expression p.here.form)
HoldsAt Structure ps p = IsTrue (is_disordered ps p)
HoldsAt Declared90 ps p =
    IsTrue (declares_again p.before p.here.form) ⊎ (HasKnownNames (declarations_of ps) p.here.form → ⊥)
HoldsAt TypeClash90 ps p = Suits (declarations_of ps) p.here.form → ⊥
HoldsAt Limit90 ps p = PassesLimit p
HoldsAt _ ps p = ⊥

-- the cause holds in the statements, at the line
pub data HoldsIn (ps : List Placed) : Cause → ℕ → Type 0 where
  AtPlace : (c : Cause) (p : Place90) → IsPlaceIn ps p → HoldsAt c ps p → HoldsIn ps c p.here.line
  -- a program has an END
  HasNoStatement : ps ≡ [] → HoldsIn ps Structure 0
  -- labels, jumps and DO variables are looked at where blocks and the order of statements are right
  IsWrongInBlocks : (line : ℕ) → IsInOrder ps → IsMisplaced ps line → HoldsIn ps Structure line

-- ---- causes of a text, but for the number of names

pub data HasCause90 (text : List ℕ) : Refusal → Type 0 where
  InLines : (r : Refusal) → HasLineCause text r → HasCause90 text r
  InWords : (ss : List FreeStatement) (s : FreeStatement) → AreStatements 1 (lines text) ss → Contains ss s
      → HasNoForm90 ss s → HasCause90 text (refusal_at Syntax90 s.line)
  InStatements : (ps : List Placed) (c : Cause) (line : ℕ) → AreStatementsOf text ps → HoldsIn ps c line
      → HasCause90 text (refusal_at c line)

-- too many names are declared at the line
pub record PassesNames (text : List ℕ) (line : ℕ) : Type 0 where
  pub statements : List Placed
  pub of_text : AreStatementsOf text statements
  pub place : Place90
  pub in_text : IsPlaceIn statements place
  pub many : HasManyNames place
  pub line_is : line ≡ place.here.line

pub data IsRefusable (text : List ℕ) : Refusal → Type 0 where
  For : (r : Refusal) → HasCause90 text r → IsRefusable text r
  ForNames : (line : ℕ) → PassesNames text line → IsRefusable text (refusal_at Limit90 line)

-- ---- what is read, and what is refused

-- The text conforms to the profile as the program q, however many names it declares (section 1.4 leaves the size of a
-- program to each processor): its statements have forms and are those of q, and no cause holds but the number of names
pub record Conforms90 (text : List ℕ) (q : Program) : Type 0 where
  pub statements : List Placed
  pub of_text : AreStatementsOf text statements
  pub calls : AllByRecursion (λ (p : Placed). SuitsCallsIn (functions_in statements) p.form) statements
  pub is_program : IsProgramOf statements q
  pub unrefused : (r : Refusal) → HasCause90 text r → ⊥

-- the text is read as the program: it conforms, and doesn't declare more names than may be declared
pub record Reads90 (text : List ℕ) (q : Program) : Type 0 where
  pub conforms : Conforms90 text q
  pub within : (line : ℕ) → PassesNames text line → ⊥

abbrev pub Refused90 : List ℕ → Refusal → Type 0
Refused90 text = IsAnswered (IsRefusable text)
