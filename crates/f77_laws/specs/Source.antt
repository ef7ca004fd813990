-- Statements as cards give them, each looked at alone (ANSI X3.9-1978, sections 2.2, 3.2 to 3.4, 4.4, 5.1, 6, 11 and
-- 12).
use Rattle.std.specs.Prelude.{ℕ, ◌^◌, ◌<◌, ◌≤◌, IsTrue, IfSome, List, [], ◌∷◌, length}
use Rattle.std.specs.List.{AllByRecursion}
use Rattle.tree.specs.Limits.{expression_depth77, array_dimensions}
use Rattle.tree.specs.Plain.{Expression, Named, Item, Single, Constant, ImpliedDo, Items, no_items, item}
use Rattle.f77_grammar.specs.declared.directions.Direction.{Direction}
use Rattle.f77_grammar.specs.declared.directions.Direction.TheVariants.{Output, Input}
use Rattle.f77_grammar.specs.Statement77.{Entity, NamedConstant, Statement77, Labelled, Program, ImplicitNone, Declare}
use Rattle.f77_grammar.specs.Statement77.{Dimension, Constants, Assign, Go, Test, If, ElseIf, Else, EndIf, Do, EndDo}
use Rattle.f77_grammar.specs.Statement77.{Continue, Stop, Read, Print, End}
use Rattle.f77_grammar.specs.expressions.Printing.{IsSource}
use Rattle.meaning.specs.SymbolicNames.{IsSymbolicName}
use Rattle.meaning.specs.Depths.{depth_of, depth_of_items}
use Rattle.meaning.specs.Typed77.{has_item, IsText}
use Rattle.meaning.specs.Profile77.{IsLine}

-- ---- expressions and lists

abbrev pub IsShallow : Expression → Type 0
IsShallow e = IsSource e × (depth_of e ≤ expression_depth77)

-- what is read into: a name, with or without a list in parentheses
abbrev pub IsSourceVariable : Expression → Type 0
IsSourceVariable (Named x ps) = IsSource (Named x ps)
IsSourceVariable e = ⊥

abbrev pub IsSourceValue : Direction → Expression → Type 0
IsSourceValue Output e = IsSource e
IsSourceValue Input e = IsSourceVariable e

abbrev pub IsSourceText : Direction → List ℕ → Type 0
IsSourceText Output t = IsText t
IsSourceText Input t = ⊥

abbrev mutual
  pub IsSourceItem : Direction → Item → Type 0
  IsSourceItem d (Single e) = IsSourceValue d e
  IsSourceItem d (Constant t) = IsSourceText d t
  IsSourceItem d (ImpliedDo is x a b c) = IsTrue (has_item is) × IsSymbolicName x × IsSource a × IsSource b × IsSource c
      × AreSourceItems d is

  pub AreSourceItems : Direction → Items → Type 0
  AreSourceItems d no_items = Unit {0}
  AreSourceItems d (item i is) = IsSourceItem d i × AreSourceItems d is

-- ---- statements

abbrev pub IsSourceLabel : ℕ → Type 0
IsSourceLabel n = n < 100000

-- the label of a loop may be one that END DO has got
abbrev pub IsLoopLabel : ℕ → Type 0
IsLoopLabel n = n < 2 ^ 32

abbrev pub IsLabelOf : Statement77 → ℕ → Type 0
IsLabelOf EndDo n = IsLoopLabel n
IsLabelOf s n = IsSourceLabel n

pub record IsSourceEntity (e : Entity) : Type 0 where
  pub name : IsSymbolicName e.name
  pub few : length e.bounds ≤ array_dimensions
  pub bounds : AllByRecursion (λ (b : Expression × Expression). IsShallow b.0 × IsShallow b.1) e.bounds

pub record IsSourceConstant (d : NamedConstant) : Type 0 where
  pub name : IsSymbolicName d.name
  pub value : IsShallow d.value

-- a statement that may stand in a logical IF
abbrev pub IsSourceAction : Statement77 → Type 0
IsSourceAction (Assign left e) = IsShallow (Named left.name left.subscripts) × IsShallow e
IsSourceAction (Go n) = IsSourceLabel n
IsSourceAction Continue = Unit {0}
IsSourceAction Stop = Unit {0}
IsSourceAction (Read is) = AreSourceItems Input is × (depth_of_items is ≤ expression_depth77)
IsSourceAction (Print is) = AreSourceItems Output is × (depth_of_items is ≤ expression_depth77)
IsSourceAction (Program x) = ⊥
IsSourceAction ImplicitNone = ⊥
IsSourceAction (Declare k es) = ⊥
IsSourceAction (Dimension es) = ⊥
IsSourceAction (Constants ds) = ⊥
IsSourceAction (Test c s) = ⊥
IsSourceAction (If c) = ⊥
IsSourceAction (ElseIf c) = ⊥
IsSourceAction Else = ⊥
IsSourceAction EndIf = ⊥
IsSourceAction (Do label x a b c) = ⊥
IsSourceAction EndDo = ⊥
IsSourceAction End = ⊥

abbrev pub IsSourceStatement : Statement77 → Type 0
IsSourceStatement (Program x) = IsSymbolicName x
IsSourceStatement ImplicitNone = Unit {0}
IsSourceStatement (Declare k es) = AllByRecursion IsSourceEntity es
IsSourceStatement (Dimension es) = AllByRecursion IsSourceEntity es
IsSourceStatement (Constants ds) = AllByRecursion IsSourceConstant ds
IsSourceStatement (Test c s) = IsShallow c × IsSourceAction s
IsSourceStatement (If c) = IsShallow c
IsSourceStatement (ElseIf c) = IsShallow c
IsSourceStatement Else = Unit {0}
IsSourceStatement EndIf = Unit {0}
IsSourceStatement (Do label x a b c) = IfSome label IsLoopLabel × IsSymbolicName x × IsShallow a × IsShallow b
    × IsShallow c
IsSourceStatement EndDo = Unit {0}
IsSourceStatement End = Unit {0}
IsSourceStatement (Assign left e) = IsSourceAction (Assign left e)
IsSourceStatement (Go n) = IsSourceAction (Go n)
IsSourceStatement Continue = IsSourceAction Continue
IsSourceStatement Stop = IsSourceAction Stop
IsSourceStatement (Read is) = IsSourceAction (Read is)
IsSourceStatement (Print is) = IsSourceAction (Print is)

-- ---- cards

pub record IsSourceCard (x : Labelled) : Type 0 where
  pub label : IfSome x.label (IsLabelOf x.statement)
  pub line : IsLine x.line
  pub statement : IsSourceStatement x.statement

-- each statement stands on a later line than those before it
abbrev pub AreRising : List Labelled → Type 0
AreRising [] = Unit {0}
AreRising (x ∷ xs) = AllByRecursion (λ (y : Labelled). x.line < y.line) xs × AreRising xs

pub record AreSourceStatements (text : List Labelled) : Type 0 where
  pub each : AllByRecursion IsSourceCard text
  pub rising : AreRising text
