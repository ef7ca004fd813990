-- The trees as values, without where they lie in memory. A name is its bytes.
use Rattle.std.specs.Prelude.{ℕ, ℤ, Bool, Option, List, [], ◌∷◌}
use Rattle.tree.specs.declared.ops.Op.{Op}
use Rattle.tree.specs.declared.functions.Fun.{Fun}
use Rattle.tree.specs.declared.functions.Red.{Red}
use Rattle.tree.specs.declared.ops.Kind.{Kind}
use Rattle.tree.specs.declared.stmts.Mark.{Mark}

-- an expression, its arguments, its subscripts, and the loops of a constructor, the innermost one first
mutual
  pub data Expression : Type 0 where
    Number : ℤ → Expression
    Logic : Bool → Expression
    Named : List ℕ → Subscripts → Expression
    Unary : Op → Expression → Expression
    Binary : Op → Expression → Expression → Expression
    Apply : Fun → Expressions → Expression
    Constructor : Expressions → Loops → Expression
    Spread : Expression → ℕ → Expression → Expression
    Transpose : Expression → Expression
    Reshape : Expression → Expressions → Expression
    Reduce : Red → Expression → Expression

  pub data Expressions : Type 0 where
    no_expressions : Expressions
    expression : Expression → Expressions → Expressions

  pub data Subscript : Type 0 where
    Only : Expression → Subscript
    Section : Expression → Expression → Expression → Subscript

  pub data Subscripts : Type 0 where
    no_subscripts : Subscripts
    subscript : Subscript → Subscripts → Subscripts

  pub data Loops : Type 0 where
    no_loops : Loops
    loop : List ℕ → Expression → Expression → Loops → Loops

-- a scalar or a whole array, without subscripts, an element or a section
pub record Reference : Type 0 where
  pub name : List ℕ
  pub subscripts : Subscripts

-- an item of an input or output list; an implied DO list has its items, its variable and its bounds
mutual
  pub data Item : Type 0 where
    Single : Expression → Item
    Constant : List ℕ → Item
    ImpliedDo : Items → List ℕ → Expression → Expression → Expression → Item

  pub data Items : Type 0 where
    no_items : Items
    item : Item → Items → Items

-- a statement, with the number of its line; the arms of a block IF with its ELSE part; a block
mutual
  pub data Statement : Type 0 where
    Assignment : ℕ → Option Mark → Reference → Expression → Statement
    Where : ℕ → Option Mark → Expression → Reference → Expression → Statement
    If : ℕ → Arms → Block → Statement
    Do : ℕ → List ℕ → Expression → Expression → Expression → Block → Statement
    Label : ℕ → Statement
    GoTo : ℕ → ℕ → Statement
    Stop : ℕ → Statement
    Read : ℕ → Items → Statement
    Print : ℕ → Items → Statement
    Allocate : ℕ → List ℕ → Expressions → Statement
    Deallocate : ℕ → List ℕ → Statement

  pub data Arms : Type 0 where
    no_arms : Arms
    arm : Expression → Block → Arms → Arms

  pub data Block : Type 0 where
    no_statements : Block
    statement : Statement → Block → Block

-- the bounds of each dimension, the lower one first, none for a scalar; or an allocatable array, with its number of
-- dimensions
pub data Extent : Type 0 where
  Given : List (ℤ × ℤ) → Extent
  Later : ℕ → Extent

pub record Declaration : Type 0 where
  pub name : List ℕ
  pub kind : Kind
  pub extent : Extent

pub record Program : Type 0 where
  pub name : Option (List ℕ)
  pub declarations : List Declaration
  pub body : Block

-- ---- lists of parts

abbrev pub expressions : List Expression → Expressions
expressions [] = no_expressions
expressions (e ∷ es) = expression e (expressions es)

abbrev pub subscripts : List Subscript → Subscripts
subscripts [] = no_subscripts
subscripts (s ∷ ss) = subscript s (subscripts ss)

abbrev pub items : List Item → Items
items [] = no_items
items (i ∷ is) = item i (items is)

abbrev pub block : List Statement → Block
block [] = no_statements
block (s ∷ ss) = statement s (block ss)
