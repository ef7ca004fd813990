-- The plain statement of each kind of statement.
use Rattle.std.proofs.Common.{◌≡◌, ℕ, Option, map, rules}
use Rattle.std.specs.declared.boxed.Box.{Box}
use Rattle.std.specs.declared.alloc.Global.{Global}
use Rattle.tree.specs.declared.names.Name.{Name}
use Rattle.tree.specs.declared.ops.Kind.{Kind}
use Rattle.tree.specs.declared.lists.Seq.{Seq}
use Rattle.tree.specs.declared.exprs.Expr.{Expr}
use Rattle.tree.specs.declared.exprs.Ref.{Ref}
use Rattle.tree.specs.declared.stmts.Item.{Item}
use Rattle.tree.specs.Plain.{items}
use Rattle.tree.specs.View.{expression_of, reference_of, item_of}
use Rattle.f77_grammar.specs.Statement77 as S
use Rattle.f77_grammar.specs.declared.syntax.statements.Entity.{Entity}
use Rattle.f77_grammar.specs.declared.syntax.statements.Stmt77.{Stmt77, the_lemmas}
use Rattle.f77_grammar.specs.declared.syntax.statements.Stmt77.TheVariants as stmts
use Rattle.f77_grammar.specs.syntax.Views.{statement_of, entity_of, constant_of}

pub statement_of-program : (x : Name) → statement_of (stmts.Program x) ≡ S.Program x
unfolding statement_of
statement_of-program x = search (rules, the_lemmas)

pub statement_of-implicit_none : statement_of stmts.ImplicitNone ≡ S.ImplicitNone
unfolding statement_of
statement_of-implicit_none = search (rules, the_lemmas)

pub statement_of-declare : (k : Kind) (es : Seq Entity) → statement_of (stmts.Declare k es) ≡ S.Declare k (map entity_of es)
unfolding statement_of
statement_of-declare k es = search (rules, the_lemmas)

pub statement_of-dimension : (es : Seq Entity) → statement_of (stmts.Dimension es) ≡ S.Dimension (map entity_of es)
unfolding statement_of
statement_of-dimension es = search (rules, the_lemmas)

pub statement_of-constants : (ds : Seq (Name × Expr)) → statement_of (stmts.Constants ds) ≡ S.Constants (map constant_of ds)
unfolding statement_of
statement_of-constants ds = search (rules, the_lemmas)

pub statement_of-assign : (left : Ref) (e : Expr) → statement_of (stmts.Assign left e) ≡ S.Assign (reference_of left) (expression_of e)
unfolding statement_of
statement_of-assign left e = search (rules, the_lemmas)

pub statement_of-go : (n : ℕ) → statement_of (stmts.Go n) ≡ S.Go n
unfolding statement_of
statement_of-go n = search (rules, the_lemmas)

pub statement_of-test : (c : Expr) (s : Box Stmt77 Global) → statement_of (stmts.Test c s) ≡ S.Test (expression_of c) (statement_of s.value)
unfolding statement_of
statement_of-test c s = search (rules, the_lemmas)

pub statement_of-if : (c : Expr) → statement_of (stmts.If c) ≡ S.If (expression_of c)
unfolding statement_of
statement_of-if c = search (rules, the_lemmas)

pub statement_of-else_if : (c : Expr) → statement_of (stmts.ElseIf c) ≡ S.ElseIf (expression_of c)
unfolding statement_of
statement_of-else_if c = search (rules, the_lemmas)

pub statement_of-else : statement_of stmts.Else ≡ S.Else
unfolding statement_of
statement_of-else = search (rules, the_lemmas)

pub statement_of-end_if : statement_of stmts.EndIf ≡ S.EndIf
unfolding statement_of
statement_of-end_if = search (rules, the_lemmas)

pub statement_of-do : (n : Option ℕ) (x : Name) (a b c : Expr) → statement_of (stmts.Do n x a b c) ≡ S.Do n x (expression_of a) (expression_of b) (expression_of c)
unfolding statement_of
statement_of-do n x a b c = search (rules, the_lemmas)

pub statement_of-end_do : statement_of stmts.EndDo ≡ S.EndDo
unfolding statement_of
statement_of-end_do = search (rules, the_lemmas)

pub statement_of-continue : statement_of stmts.Continue ≡ S.Continue
unfolding statement_of
statement_of-continue = search (rules, the_lemmas)

pub statement_of-stop : statement_of stmts.Stop ≡ S.Stop
unfolding statement_of
statement_of-stop = search (rules, the_lemmas)

pub statement_of-read : (is : Seq Item) → statement_of (stmts.Read is) ≡ S.Read (items (map item_of is))
unfolding statement_of
statement_of-read is = search (rules, the_lemmas)

pub statement_of-print : (is : Seq Item) → statement_of (stmts.Print is) ≡ S.Print (items (map item_of is))
unfolding statement_of
statement_of-print is = search (rules, the_lemmas)

pub statement_of-end : statement_of stmts.End ≡ S.End
unfolding statement_of
statement_of-end = search (rules, the_lemmas)

pub ruleset statement_equations = (statement_of-program, statement_of-implicit_none, statement_of-declare, statement_of-dimension, statement_of-constants, statement_of-assign, statement_of-go, statement_of-test, statement_of-if, statement_of-else_if, statement_of-else, statement_of-end_if, statement_of-do, statement_of-end_do, statement_of-continue, statement_of-stop, statement_of-read, statement_of-print, statement_of-end)
