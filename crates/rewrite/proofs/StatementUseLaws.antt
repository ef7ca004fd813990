-- How names stand in statements and in items of lists.
use Rattle.std.proofs.Common.{◌≡◌, ℕ, ℤ, Bool, Option, List, [], ◌∷◌, ◌++◌, map, refl, sym, ap, ◌∙◌, append_assoc}
use Rattle.std.specs.declared.boxed.Box.{Box}
use Rattle.std.specs.declared.alloc.Global.{Global}
use Rattle.std.specs.List.{flat_map}
use Rattle.std.proofs.lemmas.List.{append-nil}
use Rattle.tree.specs.Plain.{Item, items, Statement, block}
use Rattle.tree.specs.View.{expression_of, reference_of, item_of, statement_of, tested_of, block_of, arms, Tested}
use Rattle.tree.specs.declared.names.Name.{Name}
use Rattle.tree.specs.declared.ops.Op.{Op}
use Rattle.tree.specs.declared.functions.Fun.{Fun}
use Rattle.tree.specs.declared.functions.Red.{Red}
use Rattle.tree.specs.declared.lists.Seq.{Seq}
use Rattle.tree.specs.declared.exprs.Expr.{Expr}
use Rattle.tree.specs.declared.exprs.Turn.{Turn}
use Rattle.tree.specs.declared.exprs.Ref.{Ref}
use Rattle.tree.specs.declared.exprs.Expr.TheVariants as exprs
use Rattle.tree.specs.declared.stmts.Item.{Item as Item'}
use Rattle.tree.specs.declared.stmts.Item.TheVariants as variants
use Rattle.tree.specs.declared.stmts.Stmt.TheVariants as stmts
use Rattle.tree.specs.declared.stmts.Mark.{Mark}
use Rattle.tree.specs.declared.stmts.Arm.{Arm, out-Arm}
use Rattle.tree.specs.declared.stmts.Block.{Block as Block', out-Block}
use Rattle.tree.proofs.Equations.{expression_of-int, expression_of-truth, expression_of-item, expression_of-un, expression_of-bin, expression_of-call, item_of-one, item_of-text, item_of-turns}
use Rattle.tree.proofs.Equations.{expression_of-list, expression_of-spread, expression_of-transpose, expression_of-reshape, expression_of-reduce}
use Rattle.tree.proofs.Equations.{statement_of-assign, statement_of-if, statement_of-do, statement_of-label, statement_of-go, statement_of-stop, statement_of-read, statement_of-print, statement_of-masked}
use Rattle.tree.proofs.Equations.{statement_of-allocate, statement_of-deallocate, tested_of-is, block_of-is}
use Rattle.rewrite.specs.declared.uses.Way.TheVariants.{Writes}
use Rattle.rewrite.specs.Names.{use_of, uses_in, uses_in_target, uses_in_variable, uses_in_control, uses_in_input, uses_in_inputs, uses_in_output, uses_in_outputs}
use Rattle.rewrite.specs.Names.{uses_in_statement, uses_in_arms, uses_in_block}
use Rattle.rewrite.specs.NamesAlong.{uses_in_arm}
use Rattle.rewrite.proofs.UseLaws.{each_expression}

-- ---- lists

pub each_input : (is : List Item) → uses_in_inputs (items is) ≡ flat_map uses_in_input is
each_input [] = refl
each_input (i ∷ is) = ap (λ us. uses_in_input i ++ us) (each_input is)

pub each_output : (is : List Item) → uses_in_outputs (items is) ≡ flat_map uses_in_output is
each_output [] = refl
each_output (i ∷ is) = ap (λ us. uses_in_output i ++ us) (each_output is)

pub each_arm : (ts : List Tested) → uses_in_arms (arms ts) ≡ flat_map uses_in_arm ts
each_arm [] = refl
each_arm (t ∷ ts) = ap (λ us. uses_in_arm t ++ us) (each_arm ts)

pub each_statement : (cs : List Statement) → uses_in_block (block cs) ≡ flat_map uses_in_statement cs
each_statement [] = refl
each_statement (c ∷ cs) = ap (λ us. uses_in_statement c ++ us) (each_statement cs)

-- ---- input items

pub variable-item : (r : Ref) → uses_in_variable (expression_of (exprs.Item r)) ≡ uses_in_target (reference_of r)
variable-item r = ap uses_in_variable (expression_of-item r)

pub variable-int : (n : ℤ) → uses_in_variable (expression_of (exprs.Int n)) ≡ uses_in (expression_of (exprs.Int n))
variable-int n = ap uses_in_variable (expression_of-int n) ∙ sym (ap uses_in (expression_of-int n))

pub variable-truth : (b : Bool) → uses_in_variable (expression_of (exprs.Truth b)) ≡ uses_in (expression_of (exprs.Truth b))
variable-truth b = ap uses_in_variable (expression_of-truth b) ∙ sym (ap uses_in (expression_of-truth b))

pub variable-un : (o : Op) (a : Box Expr Global) → uses_in_variable (expression_of (exprs.Un o a)) ≡ uses_in (expression_of (exprs.Un o a))
variable-un o a = ap uses_in_variable (expression_of-un o a) ∙ sym (ap uses_in (expression_of-un o a))

pub variable-bin : (o : Op) (a b : Box Expr Global) → uses_in_variable (expression_of (exprs.Bin o a b)) ≡ uses_in (expression_of (exprs.Bin o a b))
variable-bin o a b = ap uses_in_variable (expression_of-bin o a b) ∙ sym (ap uses_in (expression_of-bin o a b))

pub variable-call : (f : Fun) (es : Seq Expr) → uses_in_variable (expression_of (exprs.Call f es)) ≡ uses_in (expression_of (exprs.Call f es))
variable-call f es = ap uses_in_variable (expression_of-call f es) ∙ sym (ap uses_in (expression_of-call f es))

pub variable-list : (es : Seq Expr) (ls : Seq Turn) → uses_in_variable (expression_of (exprs.List es ls)) ≡ uses_in (expression_of (exprs.List es ls))
variable-list es ls = ap uses_in_variable (expression_of-list es ls) ∙ sym (ap uses_in (expression_of-list es ls))

pub variable-spread : (a : Box Expr Global) (d : ℕ) (n : Box Expr Global) → uses_in_variable (expression_of (exprs.Spread a d n)) ≡ uses_in (expression_of (exprs.Spread a d n))
variable-spread a d n = ap uses_in_variable (expression_of-spread a d n) ∙ sym (ap uses_in (expression_of-spread a d n))

pub variable-transpose : (a : Box Expr Global) → uses_in_variable (expression_of (exprs.Transpose a)) ≡ uses_in (expression_of (exprs.Transpose a))
variable-transpose a = ap uses_in_variable (expression_of-transpose a) ∙ sym (ap uses_in (expression_of-transpose a))

pub variable-reshape : (a : Box Expr Global) (es : Seq Expr) → uses_in_variable (expression_of (exprs.Reshape a es)) ≡ uses_in (expression_of (exprs.Reshape a es))
variable-reshape a es = ap uses_in_variable (expression_of-reshape a es) ∙ sym (ap uses_in (expression_of-reshape a es))

pub variable-reduce : (r : Red) (a : Box Expr Global) → uses_in_variable (expression_of (exprs.Reduce r a)) ≡ uses_in (expression_of (exprs.Reduce r a))
variable-reduce r a = ap uses_in_variable (expression_of-reduce r a) ∙ sym (ap uses_in (expression_of-reduce r a))

pub ruleset variable_laws = (variable-item, variable-int, variable-truth, variable-un, variable-bin, variable-call, variable-list, variable-spread, variable-transpose, variable-reshape, variable-reduce)

-- ---- items

pub input-one : (e : Expr) → uses_in_input (item_of (variants.One e)) ≡ uses_in_variable (expression_of e)
input-one e = ap uses_in_input (item_of-one e)

pub input-text : (t : Seq ℕ) → uses_in_input (item_of (variants.Text t)) ≡ []
input-text t = ap uses_in_input (item_of-text t)

pub input-turns : (is : Seq Item') (x : Name) (a b c : Expr) → uses_in_input (item_of (variants.Turns is x a b c))
    ≡ flat_map uses_in_input (map item_of is) ++ uses_in_control x (expression_of a) (expression_of b) (expression_of c)
input-turns is x a b c =
    ap uses_in_input (item_of-turns is x a b c)
    ∙ ap (λ us. us ++ uses_in_control x (expression_of a) (expression_of b) (expression_of c)) (each_input (map item_of is))

pub output-one : (e : Expr) → uses_in_output (item_of (variants.One e)) ≡ uses_in (expression_of e)
output-one e = ap uses_in_output (item_of-one e)

pub output-text : (t : Seq ℕ) → uses_in_output (item_of (variants.Text t)) ≡ []
output-text t = ap uses_in_output (item_of-text t)

pub output-turns : (is : Seq Item') (x : Name) (a b c : Expr) → uses_in_output (item_of (variants.Turns is x a b c))
    ≡ flat_map uses_in_output (map item_of is) ++ uses_in_control x (expression_of a) (expression_of b) (expression_of c)
output-turns is x a b c =
    ap uses_in_output (item_of-turns is x a b c)
    ∙ ap (λ us. us ++ uses_in_control x (expression_of a) (expression_of b) (expression_of c)) (each_output (map item_of is))

pub ruleset item_laws = (input-one, input-text, input-turns, output-one, output-text, output-turns, append_assoc, append-nil)

-- ---- statements

pub uses-assign : (line : ℕ) (m : Option Mark) (left : Ref) (right : Expr)
    → uses_in_statement (statement_of (stmts.Assign line m left right)) ≡ uses_in_target (reference_of left) ++ uses_in (expression_of right)
uses-assign line m left right = ap uses_in_statement (statement_of-assign line m left right)

pub uses-masked : (line : ℕ) (m : Option Mark) (mask : Expr) (left : Ref) (right : Expr)
    → uses_in_statement (statement_of (stmts.Masked line m mask left right)) ≡ uses_in (expression_of mask) ++ uses_in_target (reference_of left) ++ uses_in (expression_of right)
uses-masked line m mask left right = ap uses_in_statement (statement_of-masked line m mask left right)

pub uses-if : (line : ℕ) (ts : Seq Arm) (other : Block')
    → uses_in_statement (statement_of (stmts.If line ts other)) ≡ flat_map uses_in_arm (map tested_of ts) ++ uses_in_block (block_of other)
uses-if line ts other = ap uses_in_statement (statement_of-if line ts other) ∙ ap (λ us. us ++ uses_in_block (block_of other)) (each_arm (map tested_of ts))

pub uses-do : (line : ℕ) (x : Name) (a b c : Expr) (body : Block')
    → uses_in_statement (statement_of (stmts.Do line x a b c body)) ≡ uses_in_control x (expression_of a) (expression_of b) (expression_of c) ++ uses_in_block (block_of body)
uses-do line x a b c body = ap uses_in_statement (statement_of-do line x a b c body)

pub uses-label : (n : ℕ) → uses_in_statement (statement_of (stmts.Label n)) ≡ []
uses-label n = ap uses_in_statement (statement_of-label n)

pub uses-go : (line n : ℕ) → uses_in_statement (statement_of (stmts.Go line n)) ≡ []
uses-go line n = ap uses_in_statement (statement_of-go line n)

pub uses-stop : (line : ℕ) → uses_in_statement (statement_of (stmts.Stop line)) ≡ []
uses-stop line = ap uses_in_statement (statement_of-stop line)

pub uses-read : (line : ℕ) (is : Seq Item') → uses_in_statement (statement_of (stmts.Read line is)) ≡ flat_map uses_in_input (map item_of is)
uses-read line is = ap uses_in_statement (statement_of-read line is) ∙ each_input (map item_of is)

pub uses-print : (line : ℕ) (is : Seq Item') → uses_in_statement (statement_of (stmts.Print line is)) ≡ flat_map uses_in_output (map item_of is)
uses-print line is = ap uses_in_statement (statement_of-print line is) ∙ each_output (map item_of is)

pub uses-allocate : (line : ℕ) (x : Name) (es : Seq Expr) → uses_in_statement (statement_of (stmts.Allocate line x es)) ≡ use_of x Writes ∷ flat_map uses_in (map expression_of es)
uses-allocate line x es = ap uses_in_statement (statement_of-allocate line x es) ∙ ap (λ us. use_of x Writes ∷ us) (each_expression (map expression_of es))

pub uses-deallocate : (line : ℕ) (x : Name) → uses_in_statement (statement_of (stmts.Deallocate line x)) ≡ use_of x Writes ∷ []
uses-deallocate line x = ap uses_in_statement (statement_of-deallocate line x)

pub uses-arm : (a : Arm) → uses_in_arm (tested_of a) ≡ uses_in (expression_of (out-Arm a).test) ++ uses_in_block (block_of (out-Arm a).body)
uses-arm a = ap uses_in_arm (tested_of-is a)

pub uses-block : (b : Block') → uses_in_block (block_of b) ≡ flat_map uses_in_statement (map statement_of (out-Block b).stmts)
uses-block b = ap uses_in_block (block_of-is b) ∙ each_statement (map statement_of (out-Block b).stmts)

pub ruleset statement_laws = (uses-assign, uses-masked, uses-if, uses-do, uses-label, uses-go, uses-stop, uses-read, uses-print, uses-allocate, uses-deallocate, uses-arm, append_assoc, append-nil)

pub ruleset block_laws = (uses-block)
