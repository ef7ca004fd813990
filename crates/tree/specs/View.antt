-- The trees of the program as plain trees.
use Rattle.std.specs.Prelude.{ℕ, ℤ, List, [], ◌∷◌, map}
use Rattle.tree.specs.declared.exprs.Expr.{Expr, fold-Expr}
use Rattle.tree.specs.declared.exprs.Expr.TheOpen.{Expr-F, Int, Truth, Item as Item', Un, Bin, Call, List as List'}
use Rattle.tree.specs.declared.exprs.Expr.TheOpen.{Spread as Spread', Transpose as Transpose', Reshape as Reshape'}
use Rattle.tree.specs.declared.exprs.Expr.TheOpen.{Reduce as Reduce', Sub-F, One, Part, Ref-F, Turn-F}
use Rattle.tree.specs.declared.exprs.Sub.{Sub, fold-Sub}
use Rattle.tree.specs.declared.exprs.Ref.{Ref, fold-Ref}
use Rattle.tree.specs.declared.exprs.Turn.{Turn, fold-Turn}
use Rattle.tree.specs.declared.stmts.Item.{Item as Item_, fold-Item}
use Rattle.tree.specs.declared.stmts.Item.TheOpen.{Item-F, One as One', Text, Turns}
use Rattle.tree.specs.declared.stmts.Stmt.{Stmt, fold-Stmt}
use Rattle.tree.specs.declared.stmts.Arm.{Arm, fold-Arm}
use Rattle.tree.specs.declared.stmts.Block.{Block as Block_, fold-Block}
use Rattle.tree.specs.declared.stmts.Stmt.TheOpen.{Stmt-F, Assign, Masked, If as If', Do as Do', Label as Label', Go}
use Rattle.tree.specs.declared.stmts.Stmt.TheOpen.{Stop as Stop', Read as Read', Print as Print'}
use Rattle.tree.specs.declared.stmts.Stmt.TheOpen.{Allocate as Allocate', Deallocate as Deallocate', Arm-F, Block-F}
use Rattle.tree.specs.declared.programs.Dim.{Dim}
use Rattle.tree.specs.declared.programs.Extent.{Extent as Extent'}
use Rattle.tree.specs.declared.programs.Extent.TheVariants.{Scalar, Fixed, Later as Later'}
use Rattle.tree.specs.declared.programs.Decl.{Decl}
use Rattle.tree.specs.declared.programs.Program77.{Program77}
use Rattle.tree.specs.declared.programs.Program90.{Program90}
use Rattle.tree.specs.Plain.{Expression, Number, Logic, Named, Unary, Binary, Apply, Constructor, Spread, Transpose}
use Rattle.tree.specs.Plain.{Reshape, Reduce, expressions, Subscript, Only, Section, subscripts, Loops, no_loops}
use Rattle.tree.specs.Plain.{loop, Reference}
use Rattle.tree.specs.Plain.{Item, Single, Constant, ImpliedDo, items, Statement, Assignment, Where, If, Do, Label}
use Rattle.tree.specs.Plain.{GoTo, Stop, Read, Print, Allocate, Deallocate, Arms, no_arms, arm, Block, block}
use Rattle.tree.specs.Plain.{Extent, Given, Later, Declaration, Program}

-- a loop of a constructor
pub record ConstructorLoop : Type 0 where
  pub variable : List ℕ
  pub first : Expression
  pub last : Expression

abbrev pub constructor_loops : List ConstructorLoop → Loops
constructor_loops [] = no_loops
constructor_loops (l ∷ ls) = loop l.variable l.first l.last (constructor_loops ls)

-- one layer of each, over the plain trees of its parts
abbrev pub expr_step : Expr-F Expression Subscript Reference ConstructorLoop → Expression
expr_step (Int n) = Number n
expr_step (Truth b) = Logic b
expr_step (Item' r) = Named r.name r.subscripts
expr_step (Un o a) = Unary o a.value
expr_step (Bin o a b) = Binary o a.value b.value
expr_step (Call f es) = Apply f (expressions es)
expr_step (List' es ls) = Constructor (expressions es) (constructor_loops ls)
expr_step (Spread' a d n) = Spread a.value d n.value
expr_step (Transpose' a) = Transpose a.value
expr_step (Reshape' a es) = Reshape a.value (expressions es)
expr_step (Reduce' r a) = Reduce r a.value

abbrev pub sub_step : Sub-F Expression Subscript Reference ConstructorLoop → Subscript
sub_step (One e) = Only e
sub_step (Part a b c) = Section a b c

abbrev pub ref_step : Ref-F Expression Subscript Reference ConstructorLoop → Reference
ref_step r = record { name = r.name; subscripts = subscripts r.subs }

abbrev pub turn_step : Turn-F Expression Subscript Reference ConstructorLoop → ConstructorLoop
turn_step l = record { variable = l.var; first = l.first; last = l.last }

unfoldable pub expression_of : Expr → Expression
expression_of = fold-Expr Expression Subscript Reference ConstructorLoop expr_step sub_step ref_step turn_step

unfoldable pub subscript_of : Sub → Subscript
subscript_of = fold-Sub Expression Subscript Reference ConstructorLoop expr_step sub_step ref_step turn_step

unfoldable pub reference_of : Ref → Reference
reference_of = fold-Ref Expression Subscript Reference ConstructorLoop expr_step sub_step ref_step turn_step

unfoldable pub loop_of : Turn → ConstructorLoop
loop_of = fold-Turn Expression Subscript Reference ConstructorLoop expr_step sub_step ref_step turn_step

-- ---- items

abbrev pub item_step : Item-F Item → Item
item_step (One' e) = Single (expression_of e)
item_step (Text t) = Constant t
item_step (Turns is x a b c) = ImpliedDo (items is) x (expression_of a) (expression_of b) (expression_of c)

unfoldable pub item_of : Item_ → Item
item_of = fold-Item Item item_step

-- ---- statements

-- an arm of a block IF
pub record Tested : Type 0 where
  pub test : Expression
  pub body : Block

abbrev pub arms : List Tested → Arms
arms [] = no_arms
arms (t ∷ ts) = arm t.test t.body (arms ts)

abbrev pub stmt_step : Stmt-F Statement Tested Block → Statement
stmt_step (Assign line mark left right) = Assignment line mark (reference_of left) (expression_of right)
stmt_step (Masked line mark mask left right) =
    Where line mark (expression_of mask) (reference_of left) (expression_of right)
stmt_step (If' line ts other) = If line (arms ts) other
stmt_step (Do' line x a b c body) = Do line x (expression_of a) (expression_of b) (expression_of c) body
stmt_step (Label' n) = Label n
stmt_step (Go line n) = GoTo line n
stmt_step (Stop' line) = Stop line
stmt_step (Read' line is) = Read line (items (map item_of is))
stmt_step (Print' line is) = Print line (items (map item_of is))
stmt_step (Allocate' line x es) = Allocate line x (expressions (map expression_of es))
stmt_step (Deallocate' line x) = Deallocate line x

abbrev pub arm_step : Arm-F Statement Tested Block → Tested
arm_step a = record { test = expression_of a.test; body = a.body }

abbrev pub block_step : Block-F Statement Tested Block → Block
block_step b = block b.stmts

unfoldable pub statement_of : Stmt → Statement
statement_of = fold-Stmt Statement Tested Block stmt_step arm_step block_step

unfoldable pub tested_of : Arm → Tested
tested_of = fold-Arm Statement Tested Block stmt_step arm_step block_step

unfoldable pub block_of : Block_ → Block
block_of = fold-Block Statement Tested Block stmt_step arm_step block_step

-- ---- programs

abbrev pub bounds_of : Dim → ℤ × ℤ
bounds_of d = (d.lower, d.upper)

abbrev pub extent_of : Extent' → Extent
extent_of Scalar = Given []
extent_of (Fixed dims) = Given (map bounds_of dims)
extent_of (Later' n) = Later n

abbrev pub declaration_of : Decl → Declaration
declaration_of d = record { name = d.name; kind = d.kind; extent = extent_of d.extent }

abbrev pub program_of : Program77 → Program
program_of p = record { name = p.name; declarations = map declaration_of p.decls; body = block_of p.body }

abbrev pub program_of_90 : Program90 → Program
program_of_90 p = record { name = p.name; declarations = map declaration_of p.decls; body = block_of p.body }
