-- The labels that GO TOs name.
use Rattle.std.proofs.Common.{◌≡◌, ap, ℕ, Option, Some, None, List}
use Rattle.tree.specs.declared.exprs.Expr.{Expr}
use Rattle.tree.specs.declared.exprs.Ref.{Ref}
use Rattle.tree.specs.declared.lists.Seq.{Seq}
use Rattle.tree.specs.declared.stmts.Arm.{Arm}
use Rattle.tree.specs.declared.stmts.Block.{Block}
use Rattle.tree.specs.declared.stmts.Item.{Item}
use Rattle.tree.specs.declared.stmts.Mark.{Mark}
use Rattle.tree.specs.declared.stmts.Stmt.TheVariants as stmts
use Rattle.tree.specs.View.{statement_of}
use Rattle.tree.proofs.Equations as equations
use Rattle.f90_blocks.specs.Targets.{target_of}

pub target-go : (line n : ℕ) → target_of (statement_of (stmts.Go line n)) ≡ Some n
target-go line n = ap target_of (equations.statement_of-go line n)

pub target-assign : (line : ℕ) (m : Option Mark) (left : Ref) (right : Expr)
    → target_of (statement_of (stmts.Assign line m left right)) ≡ None
target-assign line m left right = ap target_of (equations.statement_of-assign line m left right)

pub target-masked : (line : ℕ) (m : Option Mark) (mask : Expr) (left : Ref) (right : Expr)
    → target_of (statement_of (stmts.Masked line m mask left right)) ≡ None
target-masked line m mask left right = ap target_of (equations.statement_of-masked line m mask left right)

pub target-if : (line : ℕ) (ts : Seq Arm) (other : Block) → target_of (statement_of (stmts.If line ts other)) ≡ None
target-if line ts other = ap target_of (equations.statement_of-if line ts other)

pub target-do : (line : ℕ) (x : List ℕ) (a b c : Expr) (body : Block)
    → target_of (statement_of (stmts.Do line x a b c body)) ≡ None
target-do line x a b c body = ap target_of (equations.statement_of-do line x a b c body)

pub target-label : (n : ℕ) → target_of (statement_of (stmts.Label n)) ≡ None
target-label n = ap target_of (equations.statement_of-label n)

pub target-stop : (line : ℕ) → target_of (statement_of (stmts.Stop line)) ≡ None
target-stop line = ap target_of (equations.statement_of-stop line)

pub target-read : (line : ℕ) (is : Seq Item) → target_of (statement_of (stmts.Read line is)) ≡ None
target-read line is = ap target_of (equations.statement_of-read line is)

pub target-print : (line : ℕ) (is : Seq Item) → target_of (statement_of (stmts.Print line is)) ≡ None
target-print line is = ap target_of (equations.statement_of-print line is)

pub target-allocate : (line : ℕ) (x : List ℕ) (es : Seq Expr)
    → target_of (statement_of (stmts.Allocate line x es)) ≡ None
target-allocate line x es = ap target_of (equations.statement_of-allocate line x es)

pub target-deallocate : (line : ℕ) (x : List ℕ) → target_of (statement_of (stmts.Deallocate line x)) ≡ None
target-deallocate line x = ap target_of (equations.statement_of-deallocate line x)

pub ruleset target_laws = (
  target-go,
  target-assign,
  target-masked,
  target-if,
  target-do,
  target-label,
  target-stop,
  target-read,
  target-print,
  target-allocate,
  target-deallocate,
)
