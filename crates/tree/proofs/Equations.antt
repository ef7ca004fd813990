-- The plain tree of each kind of node.
use Rattle.std.proofs.Common.{◌≡◌, ◌∙◌, ap, sym, ℕ, ℤ, Bool, List, map, rules, Option}
use Rattle.std.specs.declared.boxed.Box.{Box}
use Rattle.std.specs.declared.alloc.Global.{Global}
use Rattle.tree.specs.declared.ops.Op.{Op}
use Rattle.tree.specs.declared.functions.Fun.{Fun}
use Rattle.tree.specs.declared.functions.Red.{Red}
use Rattle.tree.specs.declared.lists.Seq.{Seq}
use Rattle.tree.specs.declared.exprs.Expr.{Expr, the_lemmas}
use Rattle.tree.specs.declared.exprs.Expr.TheVariants as exprs
use Rattle.tree.specs.declared.exprs.Sub.{Sub}
use Rattle.tree.specs.declared.exprs.Sub.TheVariants as subs
use Rattle.tree.specs.declared.exprs.Ref.{Ref, out-Ref, roll-Ref}
use Rattle.tree.specs.declared.exprs.Turn.{Turn, out-Turn, roll-Turn}
use Rattle.tree.specs.declared.stmts.Item as item
use Rattle.tree.specs.declared.stmts.Item.TheVariants as items
use Rattle.tree.specs.declared.stmts.Stmt as stmt
use Rattle.tree.specs.declared.stmts.Stmt.TheVariants as stmts
use Rattle.tree.specs.declared.stmts.Mark.{Mark}
use Rattle.tree.specs.declared.stmts.Arm.{Arm, out-Arm, roll-Arm}
use Rattle.tree.specs.declared.stmts.Block.{Block, out-Block, roll-Block}
use Rattle.tree.specs.Plain as P
use Rattle.tree.specs.View.{expression_of, subscript_of, reference_of, loop_of, constructor_loops, item_of, statement_of, tested_of, block_of, arms}

-- ---- expressions

pub expression_of-int : (n : ℤ) → expression_of (exprs.Int n) ≡ P.Number n
unfolding expression_of
expression_of-int n = search (rules, the_lemmas)

pub expression_of-truth : (b : Bool) → expression_of (exprs.Truth b) ≡ P.Logic b
unfolding expression_of
expression_of-truth b = search (rules, the_lemmas)

pub expression_of-item : (r : Ref) → expression_of (exprs.Item r) ≡ P.Named (reference_of r).name (reference_of r).subscripts
unfolding expression_of reference_of
expression_of-item r = search (rules, the_lemmas)

pub expression_of-un : (o : Op) (a : Box Expr Global) → expression_of (exprs.Un o a) ≡ P.Unary o (expression_of a.value)
unfolding expression_of
expression_of-un o a = search (rules, the_lemmas)

pub expression_of-bin : (o : Op) (a b : Box Expr Global) → expression_of (exprs.Bin o a b) ≡ P.Binary o (expression_of a.value) (expression_of b.value)
unfolding expression_of
expression_of-bin o a b = search (rules, the_lemmas)

pub expression_of-call : (f : Fun) (es : Seq Expr) → expression_of (exprs.Call f es) ≡ P.Apply f (P.expressions (map expression_of es))
unfolding expression_of
expression_of-call f es = search (rules, the_lemmas)

pub expression_of-list : (es : Seq Expr) (ls : Seq Turn) → expression_of (exprs.List es ls) ≡ P.Constructor (P.expressions (map expression_of es)) (constructor_loops (map loop_of ls))
unfolding expression_of loop_of
expression_of-list es ls = search (rules, the_lemmas)

pub expression_of-spread : (a : Box Expr Global) (d : ℕ) (n : Box Expr Global) → expression_of (exprs.Spread a d n) ≡ P.Spread (expression_of a.value) d (expression_of n.value)
unfolding expression_of
expression_of-spread a d n = search (rules, the_lemmas)

pub expression_of-transpose : (a : Box Expr Global) → expression_of (exprs.Transpose a) ≡ P.Transpose (expression_of a.value)
unfolding expression_of
expression_of-transpose a = search (rules, the_lemmas)

pub expression_of-reshape : (a : Box Expr Global) (es : Seq Expr) → expression_of (exprs.Reshape a es) ≡ P.Reshape (expression_of a.value) (P.expressions (map expression_of es))
unfolding expression_of
expression_of-reshape a es = search (rules, the_lemmas)

pub expression_of-reduce : (r : Red) (a : Box Expr Global) → expression_of (exprs.Reduce r a) ≡ P.Reduce r (expression_of a.value)
unfolding expression_of
expression_of-reduce r a = search (rules, the_lemmas)

pub loop_of-is : (l : Turn) → loop_of l ≡ record { variable = (out-Turn l).var; first = expression_of (out-Turn l).first; last = expression_of (out-Turn l).last }
unfolding expression_of loop_of
loop_of-is l = search (rules, the_lemmas)

pub loop_of-made : (x : List ℕ) (a b : Expr) → loop_of (roll-Turn (record { var = x; first = a; last = b })) ≡ record { variable = x; first = expression_of a; last = expression_of b }
unfolding expression_of loop_of
loop_of-made x a b = search (rules, the_lemmas)

pub subscript_of-one : (e : Expr) → subscript_of (subs.One e) ≡ P.Only (expression_of e)
unfolding expression_of subscript_of
subscript_of-one e = search (rules, the_lemmas)

pub subscript_of-part : (a b c : Expr) → subscript_of (subs.Part a b c) ≡ P.Section (expression_of a) (expression_of b) (expression_of c)
unfolding expression_of subscript_of
subscript_of-part a b c = search (rules, the_lemmas)

pub reference_of-is : (r : Ref) → reference_of r ≡ record { name = (out-Ref r).name; subscripts = P.subscripts (map subscript_of (out-Ref r).subs) }
unfolding reference_of subscript_of
reference_of-is r = search (rules, the_lemmas)

pub reference_of-made : (x : List ℕ) (ss : Seq Sub) → reference_of (roll-Ref (record { name = x; subs = ss })) ≡ record { name = x; subscripts = P.subscripts (map subscript_of ss) }
unfolding reference_of subscript_of
reference_of-made x ss = search (rules, the_lemmas)

-- of a reference with other subscripts
pub reference_of-renewed : (r : Ref) (ss : Seq Sub) → map subscript_of ss ≡ map subscript_of (out-Ref r).subs → reference_of (roll-Ref (record { name = (out-Ref r).name; subs = ss })) ≡ reference_of r
reference_of-renewed r ss e = reference_of-made (out-Ref r).name ss ∙ ap (λ (ts : List P.Subscript). let t : P.Reference = record { name = (out-Ref r).name; subscripts = P.subscripts ts } in t) e ∙ sym (reference_of-is r)

-- ---- items

pub item_of-one : (e : Expr) → item_of (items.One e) ≡ P.Single (expression_of e)
unfolding item_of
item_of-one e = search (rules, item.the_lemmas)

pub item_of-text : (t : Seq ℕ) → item_of (items.Text t) ≡ P.Constant t
unfolding item_of
item_of-text t = search (rules, item.the_lemmas)

pub item_of-turns : (is : Seq item.Item) (x : List ℕ) (a b c : Expr)
    → item_of (items.Turns is x a b c) ≡ P.ImpliedDo (P.items (map item_of is)) x (expression_of a) (expression_of b) (expression_of c)
unfolding item_of
item_of-turns is x a b c = search (rules, item.the_lemmas)

-- ---- statements

pub statement_of-assign : (line : ℕ) (m : Option Mark) (left : Ref) (right : Expr)
    → statement_of (stmts.Assign line m left right) ≡ P.Assignment line m (reference_of left) (expression_of right)
unfolding statement_of
statement_of-assign line m left right = search (rules, stmt.the_lemmas)

pub statement_of-masked : (line : ℕ) (m : Option Mark) (mask : Expr) (left : Ref) (right : Expr)
    → statement_of (stmts.Masked line m mask left right) ≡ P.Where line m (expression_of mask) (reference_of left) (expression_of right)
unfolding statement_of
statement_of-masked line m mask left right = search (rules, stmt.the_lemmas)

pub statement_of-if : (line : ℕ) (ts : Seq Arm) (other : Block) → statement_of (stmts.If line ts other) ≡ P.If line (arms (map tested_of ts)) (block_of other)
unfolding statement_of tested_of block_of
statement_of-if line ts other = search (rules, stmt.the_lemmas)

pub statement_of-do : (line : ℕ) (x : List ℕ) (a b c : Expr) (body : Block)
    → statement_of (stmts.Do line x a b c body) ≡ P.Do line x (expression_of a) (expression_of b) (expression_of c) (block_of body)
unfolding statement_of block_of
statement_of-do line x a b c body = search (rules, stmt.the_lemmas)

pub statement_of-label : (n : ℕ) → statement_of (stmts.Label n) ≡ P.Label n
unfolding statement_of
statement_of-label n = search (rules, stmt.the_lemmas)

pub statement_of-go : (line n : ℕ) → statement_of (stmts.Go line n) ≡ P.GoTo line n
unfolding statement_of
statement_of-go line n = search (rules, stmt.the_lemmas)

pub statement_of-stop : (line : ℕ) → statement_of (stmts.Stop line) ≡ P.Stop line
unfolding statement_of
statement_of-stop line = search (rules, stmt.the_lemmas)

pub statement_of-read : (line : ℕ) (is : Seq item.Item) → statement_of (stmts.Read line is) ≡ P.Read line (P.items (map item_of is))
unfolding statement_of
statement_of-read line is = search (rules, stmt.the_lemmas)

pub statement_of-print : (line : ℕ) (is : Seq item.Item) → statement_of (stmts.Print line is) ≡ P.Print line (P.items (map item_of is))
unfolding statement_of
statement_of-print line is = search (rules, stmt.the_lemmas)

pub statement_of-allocate : (line : ℕ) (x : List ℕ) (es : Seq Expr) → statement_of (stmts.Allocate line x es) ≡ P.Allocate line x (P.expressions (map expression_of es))
unfolding statement_of
statement_of-allocate line x es = search (rules, stmt.the_lemmas)

pub statement_of-deallocate : (line : ℕ) (x : List ℕ) → statement_of (stmts.Deallocate line x) ≡ P.Deallocate line x
unfolding statement_of
statement_of-deallocate line x = search (rules, stmt.the_lemmas)

pub tested_of-is : (a : Arm) → tested_of a ≡ record { test = expression_of (out-Arm a).test; body = block_of (out-Arm a).body }
unfolding tested_of block_of
tested_of-is a = search (rules, stmt.the_lemmas)

pub block_of-is : (b : Block) → block_of b ≡ P.block (map statement_of (out-Block b).stmts)
unfolding block_of statement_of
block_of-is b = search (rules, stmt.the_lemmas)

pub tested_of-made : (e : Expr) (b : Block) → tested_of (roll-Arm (record { test = e; body = b })) ≡ record { test = expression_of e; body = block_of b }
unfolding tested_of block_of
tested_of-made e b = search (rules, stmt.the_lemmas)

pub block_of-made : (ss : Seq stmt.Stmt) → block_of (roll-Block (record { stmts = ss })) ≡ P.block (map statement_of ss)
unfolding block_of statement_of
block_of-made ss = search (rules, stmt.the_lemmas)

-- of a block with other statements
pub block_of-renewed : (b : Block) (ss : Seq stmt.Stmt) → map statement_of ss ≡ map statement_of (out-Block b).stmts → block_of (roll-Block (record { stmts = ss })) ≡ block_of b
block_of-renewed b ss e = block_of-made ss ∙ ap P.block e ∙ sym (block_of-is b)

pub ruleset expression_equations = (expression_of-int, expression_of-truth, expression_of-item, expression_of-un, expression_of-bin, expression_of-call, expression_of-list, expression_of-spread, expression_of-transpose, expression_of-reshape, expression_of-reduce, loop_of-is, loop_of-made, subscript_of-one, subscript_of-part, reference_of-is, reference_of-made)

pub ruleset item_equations = (item_of-one, item_of-text, item_of-turns)

pub ruleset statement_equations = (statement_of-assign, statement_of-if, statement_of-do, statement_of-label, statement_of-go, statement_of-stop, statement_of-read, statement_of-print, statement_of-masked, statement_of-allocate, statement_of-deallocate, tested_of-is, tested_of-made, block_of-is, block_of-made)
