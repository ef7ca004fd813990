-- What each simple statement becomes.
use Rattle.std.proofs.Common.{◌≡◌, ◌∙◌, ap, ℕ, Option, None, List, [], ◌∷◌, map}
use Rattle.std.specs.declared.boxed.Box.{Box}
use Rattle.std.specs.declared.alloc.Global.{Global}
use Rattle.tree.specs.Plain as plain
use Rattle.tree.specs.View.{expression_of, reference_of, item_of, statement_of as tree_statement_of, tested_of, block_of, arms}
use Rattle.tree.specs.declared.names.Name.{Name}
use Rattle.tree.specs.declared.ops.Kind.{Kind}
use Rattle.tree.specs.declared.lists.Seq.{Seq}
use Rattle.tree.specs.declared.exprs.Expr.{Expr}
use Rattle.tree.specs.declared.exprs.Ref.{Ref}
use Rattle.tree.specs.declared.stmts.Item.{Item}
use Rattle.tree.specs.declared.stmts.Stmt.{Stmt}
use Rattle.tree.specs.declared.stmts.Stmt.TheVariants as tree_stmts
use Rattle.tree.specs.declared.stmts.Arm.{Arm, roll-Arm}
use Rattle.tree.specs.declared.stmts.Block.{Block, roll-Block}
use Rattle.tree.proofs.Equations.{statement_of-assign as tree-assign, statement_of-if as tree-if, statement_of-go as tree-go, statement_of-stop as tree-stop, statement_of-read as tree-read, statement_of-print as tree-print, tested_of-made, block_of-made}
use Rattle.meaning.specs.Store.{Store}
use Rattle.f77_grammar.specs.program.Uses.{Use77}
use Rattle.f77_grammar.specs.declared.directions.Direction.TheVariants.{Input, Output}
use Rattle.f77_grammar.specs.program.Tree as tree
use Rattle.f77_grammar.specs.declared.syntax.statements.Entity.{Entity}
use Rattle.f77_grammar.specs.declared.syntax.statements.Stmt77.{Stmt77}
use Rattle.f77_grammar.specs.declared.syntax.statements.Stmt77.TheVariants as stmts
use Rattle.f77_grammar.specs.syntax.Views.{statement_of}
use Rattle.f77_grammar.proofs.syntax.Equations.{statement_of-program, statement_of-implicit_none, statement_of-declare, statement_of-dimension, statement_of-constants, statement_of-assign, statement_of-go, statement_of-test, statement_of-if, statement_of-else_if, statement_of-else, statement_of-end_if, statement_of-do, statement_of-end_do, statement_of-continue, statement_of-stop, statement_of-read, statement_of-print, statement_of-end}
use Rattle.f77_tree.proofs.ItemLaws.{items_resolved}

pub ruleset block_laws = (block_of-made)

-- a block IF of one arm
pub branch-is : (line : ℕ) (ts : Seq Arm) (c : Expr) (b : Block) (none : Seq Stmt) → ts ≡ roll-Arm (record { test = c; body = b }) ∷ [] → none ≡ []
    → tree_statement_of (tree_stmts.If line ts (roll-Block (record { stmts = none }))) ≡ plain.If line (plain.arm (expression_of c) (block_of b) plain.no_arms) plain.no_statements
branch-is line ts c b none one e =
    tree-if line ts (roll-Block (record { stmts = none }))
    ∙ ap (λ other. plain.If line (arms (map tested_of ts)) other) (block_of-made none ∙ ap (λ (ss : List Stmt). plain.block (map tree_statement_of ss)) e)
    ∙ ap (λ (us : List Arm). plain.If line (arms (map tested_of us)) plain.no_statements) one
    ∙ ap (λ t. plain.If line (arms (t ∷ [])) plain.no_statements) (tested_of-made c b)

pub simple-assign : (us : List Use77) (s : Store) (line : ℕ) (left : Ref) (e : Expr)
    → tree.simple us s line (statement_of (stmts.Assign left e)) ≡ plain.Assignment line None (tree.resolved_reference us s (reference_of left)) (tree.resolved us s (expression_of e)) ∷ []
simple-assign us s line left e = ap (tree.simple us s line) (statement_of-assign left e)

pub simple-go : (us : List Use77) (s : Store) (line n : ℕ) → tree.simple us s line (statement_of (stmts.Go n)) ≡ plain.GoTo line n ∷ []
simple-go us s line n = ap (tree.simple us s line) (statement_of-go n)

pub simple-stop : (us : List Use77) (s : Store) (line : ℕ) → tree.simple us s line (statement_of stmts.Stop) ≡ plain.Stop line ∷ []
simple-stop us s line = ap (tree.simple us s line) statement_of-stop

pub simple-read : (us : List Use77) (s : Store) (line : ℕ) (is : Seq Item)
    → tree.simple us s line (statement_of (stmts.Read is)) ≡ plain.Read line (plain.items (map (λ i. tree.resolved_item us s Input (item_of i)) is)) ∷ []
simple-read us s line is = ap (tree.simple us s line) (statement_of-read is) ∙ ap (λ list. plain.Read line list ∷ []) (items_resolved us s Input is)

pub simple-print : (us : List Use77) (s : Store) (line : ℕ) (is : Seq Item)
    → tree.simple us s line (statement_of (stmts.Print is)) ≡ plain.Print line (plain.items (map (λ i. tree.resolved_item us s Output (item_of i)) is)) ∷ []
simple-print us s line is = ap (tree.simple us s line) (statement_of-print is) ∙ ap (λ list. plain.Print line list ∷ []) (items_resolved us s Output is)

pub simple-test : (us : List Use77) (s : Store) (line : ℕ) (c : Expr) (inner : Box Stmt77 Global)
    → tree.simple us s line (statement_of (stmts.Test c inner))
    ≡ plain.If line (plain.arm (tree.resolved us s (expression_of c)) (plain.block (tree.simple us s line (statement_of inner.value))) plain.no_arms) plain.no_statements ∷ []
simple-test us s line c inner = ap (tree.simple us s line) (statement_of-test c inner)

pub simple-program : (us : List Use77) (s : Store) (line : ℕ) (x : Name) → tree.simple us s line (statement_of (stmts.Program x)) ≡ []
simple-program us s line x = ap (tree.simple us s line) (statement_of-program x)

pub simple-implicit_none : (us : List Use77) (s : Store) (line : ℕ) → tree.simple us s line (statement_of stmts.ImplicitNone) ≡ []
simple-implicit_none us s line = ap (tree.simple us s line) statement_of-implicit_none

pub simple-declare : (us : List Use77) (s : Store) (line : ℕ) (k : Kind) (es : Seq Entity) → tree.simple us s line (statement_of (stmts.Declare k es)) ≡ []
simple-declare us s line k es = ap (tree.simple us s line) (statement_of-declare k es)

pub simple-dimension : (us : List Use77) (s : Store) (line : ℕ) (es : Seq Entity) → tree.simple us s line (statement_of (stmts.Dimension es)) ≡ []
simple-dimension us s line es = ap (tree.simple us s line) (statement_of-dimension es)

pub simple-constants : (us : List Use77) (s : Store) (line : ℕ) (ds : Seq (Name × Expr)) → tree.simple us s line (statement_of (stmts.Constants ds)) ≡ []
simple-constants us s line ds = ap (tree.simple us s line) (statement_of-constants ds)

pub simple-if : (us : List Use77) (s : Store) (line : ℕ) (c : Expr) → tree.simple us s line (statement_of (stmts.If c)) ≡ []
simple-if us s line c = ap (tree.simple us s line) (statement_of-if c)

pub simple-else_if : (us : List Use77) (s : Store) (line : ℕ) (c : Expr) → tree.simple us s line (statement_of (stmts.ElseIf c)) ≡ []
simple-else_if us s line c = ap (tree.simple us s line) (statement_of-else_if c)

pub simple-else : (us : List Use77) (s : Store) (line : ℕ) → tree.simple us s line (statement_of stmts.Else) ≡ []
simple-else us s line = ap (tree.simple us s line) statement_of-else

pub simple-end_if : (us : List Use77) (s : Store) (line : ℕ) → tree.simple us s line (statement_of stmts.EndIf) ≡ []
simple-end_if us s line = ap (tree.simple us s line) statement_of-end_if

pub simple-do : (us : List Use77) (s : Store) (line : ℕ) (n : Option ℕ) (x : Name) (a b c : Expr) → tree.simple us s line (statement_of (stmts.Do n x a b c)) ≡ []
simple-do us s line n x a b c = ap (tree.simple us s line) (statement_of-do n x a b c)

pub simple-end_do : (us : List Use77) (s : Store) (line : ℕ) → tree.simple us s line (statement_of stmts.EndDo) ≡ []
simple-end_do us s line = ap (tree.simple us s line) statement_of-end_do

pub simple-continue : (us : List Use77) (s : Store) (line : ℕ) → tree.simple us s line (statement_of stmts.Continue) ≡ []
simple-continue us s line = ap (tree.simple us s line) statement_of-continue

pub simple-end : (us : List Use77) (s : Store) (line : ℕ) → tree.simple us s line (statement_of stmts.End) ≡ []
simple-end us s line = ap (tree.simple us s line) statement_of-end

pub ruleset simple_laws = (tree-assign, tree-if, tree-go, tree-stop, tree-read, tree-print, tested_of-made, block_of-made, simple-assign, simple-go, simple-stop, simple-read, simple-print, simple-test, simple-program, simple-implicit_none, simple-declare, simple-dimension, simple-constants, simple-if, simple-else_if, simple-else, simple-end_if, simple-do, simple-end_do, simple-continue, simple-end)
