-- The names that items of lists and statements read.
use Rattle.std.proofs.Common.{◌≡◌, ℕ, Option, List, [], ◌∷◌, ◌++◌, map, refl, ap, ◌∙◌, append_assoc}
use Rattle.std.specs.List.{flat_map}
use Rattle.std.proofs.lemmas.List.{append-nil}
use Rattle.tree.specs.Plain.{Item, items, Statement, Reference, block}
use Rattle.tree.specs.View.{expression_of, subscript_of, reference_of, item_of, statement_of, tested_of, block_of}
use Rattle.tree.specs.View.{arms, Tested}
use Rattle.tree.specs.declared.names.Name.{Name}
use Rattle.tree.specs.declared.lists.Seq.{Seq}
use Rattle.tree.specs.declared.exprs.Expr.{Expr}
use Rattle.tree.specs.declared.exprs.Ref.{Ref, out-Ref}
use Rattle.tree.specs.declared.stmts.Item.{Item as Item'}
use Rattle.tree.specs.declared.stmts.Item.TheVariants as variants
use Rattle.tree.specs.declared.stmts.Stmt.TheVariants as stmts
use Rattle.tree.specs.declared.stmts.Mark.{Mark}
use Rattle.tree.specs.declared.stmts.Arm.{Arm, out-Arm}
use Rattle.tree.specs.declared.stmts.Block.{Block as Block', out-Block}
use Rattle.tree.proofs.Equations.{reference_of-is, item_of-one, item_of-text, item_of-turns}
use Rattle.tree.proofs.Equations.{statement_of-assign, statement_of-masked, statement_of-if, statement_of-do}
use Rattle.tree.proofs.Equations.{statement_of-label, statement_of-go, statement_of-stop, statement_of-read}
use Rattle.tree.proofs.Equations.{statement_of-print, statement_of-allocate, statement_of-deallocate}
use Rattle.tree.proofs.Equations.{tested_of-is, block_of-is}
use Rattle.reductions.specs.Reading.{read_in, read_in_each, read_in_subscript, read_in_subscripts, read_in_loop}
use Rattle.reductions.specs.Reading.{read_in_item, read_in_items, read_in_statement, read_in_arm, read_in_arms, read_in_block}
use Rattle.reductions.proofs.ReadingLaws.{each_expression, each_subscript}

-- ---- lists

each_item : (is : List Item) → read_in_items (items is) ≡ flat_map read_in_item is
each_item [] = refl
each_item (i ∷ is) = ap (λ ns. read_in_item i ++ ns) (each_item is)

each_arm : (ts : List Tested) → read_in_arms (arms ts) ≡ flat_map read_in_arm ts
each_arm [] = refl
each_arm (t ∷ ts) = ap (λ ns. read_in_arm t ++ ns) (each_arm ts)

each_statement : (cs : List Statement) → read_in_block (block cs) ≡ flat_map read_in_statement cs
each_statement [] = refl
each_statement (c ∷ cs) = ap (λ ns. read_in_statement c ++ ns) (each_statement cs)

-- ---- items

pub reads-one : (e : Expr) → read_in_item (item_of (variants.One e)) ≡ read_in (expression_of e)
reads-one e = ap read_in_item (item_of-one e)

pub reads-text : (t : Seq ℕ) → read_in_item (item_of (variants.Text t)) ≡ []
reads-text t = ap read_in_item (item_of-text t)

pub reads-turns : (is : Seq Item') (x : Name) (a b c : Expr) → read_in_item (item_of (variants.Turns is x a b c))
    ≡ read_in_loop x (expression_of a) (expression_of b) (expression_of c) (flat_map read_in_item (map item_of is))
reads-turns is x a b c =
    ap read_in_item (item_of-turns is x a b c)
    ∙ ap (read_in_loop x (expression_of a) (expression_of b) (expression_of c)) (each_item (map item_of is))

pub ruleset item_laws = (reads-one, reads-text, reads-turns, append_assoc, append-nil)

-- ---- statements

subs_of : (r : Ref) → read_in_subscripts (reference_of r).subscripts ≡ flat_map read_in_subscript (map subscript_of (out-Ref r).subs)
subs_of r = ap (λ (q : Reference). read_in_subscripts q.subscripts) (reference_of-is r) ∙ each_subscript (map subscript_of (out-Ref r).subs)

pub reads-assign : (line : ℕ) (m : Option Mark) (left : Ref) (right : Expr) → read_in_statement (statement_of (stmts.Assign line m left right))
    ≡ flat_map read_in_subscript (map subscript_of (out-Ref left).subs) ++ read_in (expression_of right)
reads-assign line m left right = ap read_in_statement (statement_of-assign line m left right) ∙ ap (λ ns. ns ++ read_in (expression_of right)) (subs_of left)

pub reads-masked : (line : ℕ) (m : Option Mark) (mask : Expr) (left : Ref) (right : Expr) → read_in_statement (statement_of (stmts.Masked line m mask left right))
    ≡ read_in (expression_of mask) ++ (flat_map read_in_subscript (map subscript_of (out-Ref left).subs) ++ read_in (expression_of right))
reads-masked line m mask left right =
    ap read_in_statement (statement_of-masked line m mask left right) ∙ ap (λ ns. read_in (expression_of mask) ++ (ns ++ read_in (expression_of right))) (subs_of left)

pub reads-if : (line : ℕ) (ts : Seq Arm) (other : Block') → read_in_statement (statement_of (stmts.If line ts other))
    ≡ flat_map read_in_arm (map tested_of ts) ++ read_in_block (block_of other)
reads-if line ts other = ap read_in_statement (statement_of-if line ts other) ∙ ap (λ ns. ns ++ read_in_block (block_of other)) (each_arm (map tested_of ts))

pub reads-do : (line : ℕ) (x : Name) (a b c : Expr) (body : Block') → read_in_statement (statement_of (stmts.Do line x a b c body))
    ≡ read_in_loop x (expression_of a) (expression_of b) (expression_of c) (read_in_block (block_of body))
reads-do line x a b c body = ap read_in_statement (statement_of-do line x a b c body)

pub reads-label : (n : ℕ) → read_in_statement (statement_of (stmts.Label n)) ≡ []
reads-label n = ap read_in_statement (statement_of-label n)

pub reads-go : (line n : ℕ) → read_in_statement (statement_of (stmts.Go line n)) ≡ []
reads-go line n = ap read_in_statement (statement_of-go line n)

pub reads-stop : (line : ℕ) → read_in_statement (statement_of (stmts.Stop line)) ≡ []
reads-stop line = ap read_in_statement (statement_of-stop line)

pub reads-read : (line : ℕ) (is : Seq Item') → read_in_statement (statement_of (stmts.Read line is)) ≡ flat_map read_in_item (map item_of is)
reads-read line is = ap read_in_statement (statement_of-read line is) ∙ each_item (map item_of is)

pub reads-print : (line : ℕ) (is : Seq Item') → read_in_statement (statement_of (stmts.Print line is)) ≡ flat_map read_in_item (map item_of is)
reads-print line is = ap read_in_statement (statement_of-print line is) ∙ each_item (map item_of is)

pub reads-allocate : (line : ℕ) (x : Name) (es : Seq Expr) → read_in_statement (statement_of (stmts.Allocate line x es)) ≡ flat_map read_in (map expression_of es)
reads-allocate line x es = ap read_in_statement (statement_of-allocate line x es) ∙ each_expression (map expression_of es)

pub reads-deallocate : (line : ℕ) (x : Name) → read_in_statement (statement_of (stmts.Deallocate line x)) ≡ []
reads-deallocate line x = ap read_in_statement (statement_of-deallocate line x)

pub reads-arm : (a : Arm) → read_in_arm (tested_of a) ≡ read_in (expression_of (out-Arm a).test) ++ read_in_block (block_of (out-Arm a).body)
reads-arm a = ap read_in_arm (tested_of-is a)

pub reads-block : (b : Block') → read_in_block (block_of b) ≡ flat_map read_in_statement (map statement_of (out-Block b).stmts)
reads-block b = ap read_in_block (block_of-is b) ∙ each_statement (map statement_of (out-Block b).stmts)

pub ruleset statement_laws = (reads-assign, reads-masked, reads-if, reads-do, reads-label, reads-go, reads-stop, reads-read, reads-print, reads-allocate, reads-deallocate, reads-arm, append_assoc, append-nil)

pub ruleset block_laws = (reads-block)
