-- One statement more to the front, for each kind of statement.
use Rattle.std.proofs.Common.{◌≡◌, ◌∙◌, ap, sym, Some, None, ℕ, ◌+◌, ◌<◌, List, ◌++◌, length, get_or, drop}
use Rattle.std.specs.declared.boxed.Box.{Box}
use Rattle.std.specs.declared.alloc.Global.{Global}
use Rattle.tree.specs.Plain as plain
use Rattle.tree.specs.View.{expression_of}
use Rattle.tree.specs.declared.names.Name.{Name}
use Rattle.tree.specs.declared.ops.Kind.{Kind}
use Rattle.tree.specs.declared.lists.Seq.{Seq}
use Rattle.tree.specs.declared.exprs.Expr.{Expr}
use Rattle.tree.specs.declared.exprs.Ref.{Ref}
use Rattle.tree.specs.declared.stmts.Item.{Item}
use Rattle.f77_grammar.specs.Statement77.{Labelled, Statement77}
use Rattle.meaning.specs.Store.{Store}
use Rattle.f77_grammar.specs.program.Uses.{Use77}
use Rattle.f77_grammar.specs.program.Tree as tree
use Rattle.f77_laws.specs.trees.Steps as steps
use Rattle.f77_grammar.specs.declared.syntax.statements.Entity.{Entity}
use Rattle.f77_grammar.specs.declared.syntax.statements.Stmt77.{Stmt77}
use Rattle.f77_grammar.specs.declared.syntax.statements.Stmt77.TheVariants as stmts
use Rattle.f77_grammar.specs.declared.syntax.statements.Labelled.{Labelled as Labelled'}
use Rattle.f77_grammar.specs.syntax.Views.{statement_of, labelled_of, text_of}
use Rattle.f77_grammar.proofs.syntax.Equations.{statement_of-program, statement_of-implicit_none, statement_of-declare, statement_of-dimension, statement_of-constants, statement_of-assign, statement_of-go, statement_of-test, statement_of-if, statement_of-else_if, statement_of-else, statement_of-end_if, statement_of-do, statement_of-end_do, statement_of-continue, statement_of-stop, statement_of-read, statement_of-print, statement_of-end}
use Rattle.f77_grammar.proofs.syntax.Walks.{text_left}

module _ (us : List Use77) (s : Store) (named : List ℕ) (x : Labelled) (r : steps.Rest) where
  -- with a piece that is made of the statement
  abbrev before : Statement77 → steps.Rest
  before st = steps.preceded (record { ends = x.label; made = tree.label_before named x.label ++ tree.simple us s x.line st }) r

  pub begun-end_if : steps.begun us s named x (statement_of stmts.EndIf) r ≡ steps.arm_ended r
  begun-end_if = ap (λ st. steps.begun us s named x st r) statement_of-end_if

  pub begun-else : steps.begun us s named x (statement_of stmts.Else) r ≡ steps.else_begun r
  begun-else = ap (λ st. steps.begun us s named x st r) statement_of-else

  pub begun-else_if : (c : Expr) → steps.begun us s named x (statement_of (stmts.ElseIf c)) r ≡ steps.arm_begun (tree.resolved us s (expression_of c)) r
  begun-else_if c = ap (λ st. steps.begun us s named x st r) (statement_of-else_if c)

  pub begun-if : (c : Expr) → steps.begun us s named x (statement_of (stmts.If c)) r ≡ steps.if_begun x.line (tree.label_before named x.label) (tree.resolved us s (expression_of c)) r
  begun-if c = ap (λ st. steps.begun us s named x st r) (statement_of-if c)

  pub begun-do : (n : ℕ) (v : Name) (a b c : Expr) → steps.begun us s named x (statement_of (stmts.Do (Some n) v a b c)) r
      ≡ steps.loop_begun (plain.Do x.line v (tree.resolved us s (expression_of a)) (tree.resolved us s (expression_of b)) (tree.resolved us s (expression_of c))) (tree.label_before named x.label) n r
  begun-do n v a b c = ap (λ st. steps.begun us s named x st r) (statement_of-do (Some n) v a b c)

  pub begun-plain_do : (v : Name) (a b c : Expr) → steps.begun us s named x (statement_of (stmts.Do None v a b c)) r ≡ before (statement_of (stmts.Do None v a b c))
  begun-plain_do v a b c = ap (λ st. steps.begun us s named x st r) (statement_of-do None v a b c) ∙ sym (ap before (statement_of-do None v a b c))

  pub begun-program : (title : Name) → steps.begun us s named x (statement_of (stmts.Program title)) r ≡ before (statement_of (stmts.Program title))
  begun-program title = ap (λ st. steps.begun us s named x st r) (statement_of-program title) ∙ sym (ap before (statement_of-program title))

  pub begun-implicit_none : steps.begun us s named x (statement_of stmts.ImplicitNone) r ≡ before (statement_of stmts.ImplicitNone)
  begun-implicit_none = ap (λ st. steps.begun us s named x st r) statement_of-implicit_none ∙ sym (ap before statement_of-implicit_none)

  pub begun-declare : (k : Kind) (es : Seq Entity) → steps.begun us s named x (statement_of (stmts.Declare k es)) r ≡ before (statement_of (stmts.Declare k es))
  begun-declare k es = ap (λ st. steps.begun us s named x st r) (statement_of-declare k es) ∙ sym (ap before (statement_of-declare k es))

  pub begun-dimension : (es : Seq Entity) → steps.begun us s named x (statement_of (stmts.Dimension es)) r ≡ before (statement_of (stmts.Dimension es))
  begun-dimension es = ap (λ st. steps.begun us s named x st r) (statement_of-dimension es) ∙ sym (ap before (statement_of-dimension es))

  pub begun-constants : (ds : Seq (Name × Expr)) → steps.begun us s named x (statement_of (stmts.Constants ds)) r ≡ before (statement_of (stmts.Constants ds))
  begun-constants ds = ap (λ st. steps.begun us s named x st r) (statement_of-constants ds) ∙ sym (ap before (statement_of-constants ds))

  pub begun-assign : (left : Ref) (e : Expr) → steps.begun us s named x (statement_of (stmts.Assign left e)) r ≡ before (statement_of (stmts.Assign left e))
  begun-assign left e = ap (λ st. steps.begun us s named x st r) (statement_of-assign left e) ∙ sym (ap before (statement_of-assign left e))

  pub begun-go : (n : ℕ) → steps.begun us s named x (statement_of (stmts.Go n)) r ≡ before (statement_of (stmts.Go n))
  begun-go n = ap (λ st. steps.begun us s named x st r) (statement_of-go n) ∙ sym (ap before (statement_of-go n))

  pub begun-test : (c : Expr) (inner : Box Stmt77 Global) → steps.begun us s named x (statement_of (stmts.Test c inner)) r ≡ before (statement_of (stmts.Test c inner))
  begun-test c inner = ap (λ st. steps.begun us s named x st r) (statement_of-test c inner) ∙ sym (ap before (statement_of-test c inner))

  pub begun-end_do : steps.begun us s named x (statement_of stmts.EndDo) r ≡ before (statement_of stmts.EndDo)
  begun-end_do = ap (λ st. steps.begun us s named x st r) statement_of-end_do ∙ sym (ap before statement_of-end_do)

  pub begun-continue : steps.begun us s named x (statement_of stmts.Continue) r ≡ before (statement_of stmts.Continue)
  begun-continue = ap (λ st. steps.begun us s named x st r) statement_of-continue ∙ sym (ap before statement_of-continue)

  pub begun-stop : steps.begun us s named x (statement_of stmts.Stop) r ≡ before (statement_of stmts.Stop)
  begun-stop = ap (λ st. steps.begun us s named x st r) statement_of-stop ∙ sym (ap before statement_of-stop)

  pub begun-read : (is : Seq Item) → steps.begun us s named x (statement_of (stmts.Read is)) r ≡ before (statement_of (stmts.Read is))
  begun-read is = ap (λ st. steps.begun us s named x st r) (statement_of-read is) ∙ sym (ap before (statement_of-read is))

  pub begun-print : (is : Seq Item) → steps.begun us s named x (statement_of (stmts.Print is)) r ≡ before (statement_of (stmts.Print is))
  begun-print is = ap (λ st. steps.begun us s named x st r) (statement_of-print is) ∙ sym (ap before (statement_of-print is))

  pub begun-end : steps.begun us s named x (statement_of stmts.End) r ≡ before (statement_of stmts.End)
  begun-end = ap (λ st. steps.begun us s named x st r) statement_of-end ∙ sym (ap before statement_of-end)

pub ruleset begun_laws = (begun-end_if, begun-else, begun-else_if, begun-if, begun-do, begun-plain_do, begun-program, begun-implicit_none, begun-declare, begun-dimension, begun-constants, begun-assign, begun-go, begun-test, begun-end_do, begun-continue, begun-stop, begun-read, begun-print, begun-end)

-- a loop, where its heading and the label before it are made
pub do_is : (us : List Use77) (s : Store) (named : List ℕ) (x : Labelled) (r new : steps.Rest) (st : Stmt77) (n : ℕ) (v : Name) (a b c : Expr)
    (make : plain.Block → plain.Statement) (mark : List plain.Statement) → st ≡ stmts.Do (Some n) v a b c
    → make ≡ plain.Do x.line v (tree.resolved us s (expression_of a)) (tree.resolved us s (expression_of b)) (tree.resolved us s (expression_of c)) → mark ≡ tree.label_before named x.label
    → new ≡ steps.loop_begun make mark n r → new ≡ steps.begun us s named x (statement_of st) r
do_is us s named x r new st n v a b c make mark is e k h =
    h ∙ ap (λ m. steps.loop_begun m mark n r) e
    ∙ ap (λ ms. steps.loop_begun (plain.Do x.line v (tree.resolved us s (expression_of a)) (tree.resolved us s (expression_of b)) (tree.resolved us s (expression_of c))) ms n r) k
    ∙ sym (ap (λ t. steps.begun us s named x (statement_of t) r) is ∙ begun-do us s named x r n v a b c)

-- ---- all statements from one on

pub rest_more : (us : List Use77) (s : Store) (named : List ℕ) (xs : List Labelled') (i : ℕ) (x : Labelled') (old new : steps.Rest) → i < length xs → x ≡ get_or xs i x
    → old ≡ steps.rest_from us s named (drop (i + 1) (text_of xs)) → new ≡ steps.begun us s named (labelled_of x) (statement_of x.statement) old
    → new ≡ steps.rest_from us s named (drop i (text_of xs))
rest_more us s named xs i x old new h k before e =
    e ∙ ap (steps.begun us s named (labelled_of x) (statement_of x.statement)) before ∙ sym (ap (steps.rest_from us s named) (text_left xs i x h k))
