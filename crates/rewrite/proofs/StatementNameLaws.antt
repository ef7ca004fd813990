-- Names in the nodes of statements and of items of lists.
use Rattle.std.proofs.Common.{◌≡◌, ℕ, Option, List, [], ◌∷◌, ◌++◌, map, refl, ap, ◌∙◌, append_assoc}
use Rattle.std.specs.List.{flat_map}
use Rattle.std.proofs.lemmas.List.{append-nil}
use Rattle.tree.specs.Plain.{Item, items, Statement, Reference, block}
use Rattle.tree.specs.View.{expression_of, subscript_of, reference_of, item_of, statement_of, tested_of, block_of}
use Rattle.tree.specs.View.{arms, Tested}
use Rattle.tree.specs.declared.names.Name.{Name}
use Rattle.tree.specs.declared.lists.Seq.{Seq}
use Rattle.tree.specs.declared.exprs.Expr.{Expr}
use Rattle.tree.specs.declared.exprs.Ref.{Ref, out-Ref}
use Rattle.tree.specs.declared.stmts.Item.{Item as Item'}
use Rattle.tree.specs.declared.stmts.Item.TheVariants as variants
use Rattle.tree.specs.declared.stmts.Stmt.TheVariants as stmts
use Rattle.tree.specs.declared.stmts.Mark.{Mark}
use Rattle.tree.specs.declared.stmts.Arm.{Arm, out-Arm}
use Rattle.tree.specs.declared.stmts.Block.{Block as Block', out-Block}
use Rattle.tree.proofs.Equations.{reference_of-is, item_of-one, item_of-text, item_of-turns}
use Rattle.tree.proofs.Equations.{statement_of-assign, statement_of-masked, statement_of-if, statement_of-do}
use Rattle.tree.proofs.Equations.{statement_of-label, statement_of-go, statement_of-stop, statement_of-read}
use Rattle.tree.proofs.Equations.{statement_of-print, statement_of-allocate, statement_of-deallocate}
use Rattle.tree.proofs.Equations.{tested_of-is, block_of-is}
use Rattle.meaning.specs.Reads.{names_in, names_in_subscript, names_in_subscripts}
use Rattle.meaning.specs.Reads.{names_in_block}
use Rattle.meaning.specs.Reads.{names_in_item, names_in_items, names_in_statement, names_in_arms}
use Rattle.rewrite.specs.NamesAlong.{names_in_reference, names_in_control, names_in_arm}
use Rattle.rewrite.proofs.StandingLaws.{each_expression, each_subscript}

-- ---- lists

each_item : (is : List Item) → names_in_items (items is) ≡ flat_map names_in_item is
each_item [] = refl
each_item (i ∷ is) = ap (λ xs. names_in_item i ++ xs) (each_item is)

each_arm : (ts : List Tested) → names_in_arms (arms ts) ≡ flat_map names_in_arm ts
each_arm [] = refl
each_arm (t ∷ ts) = ap (λ xs. names_in_arm t ++ xs) (each_arm ts)

each_statement : (cs : List Statement) → names_in_block (block cs) ≡ flat_map names_in_statement cs
each_statement [] = refl
each_statement (c ∷ cs) = ap (λ xs. names_in_statement c ++ xs) (each_statement cs)

-- ---- items

pub names-one : (e : Expr) → names_in_item (item_of (variants.One e)) ≡ names_in (expression_of e)
names-one e = ap names_in_item (item_of-one e)

pub names-text : (t : Seq ℕ) → names_in_item (item_of (variants.Text t)) ≡ []
names-text t = ap names_in_item (item_of-text t)

pub names-turns : (is : Seq Item') (x : Name) (a b c : Expr)
    → names_in_item (item_of (variants.Turns is x a b c))
    ≡ names_in_control x (expression_of a) (expression_of b) (expression_of c)
    ++ flat_map names_in_item (map item_of is)
names-turns is x a b c =
    ap names_in_item (item_of-turns is x a b c)
    ∙ ap (λ xs. names_in_control x (expression_of a) (expression_of b) (expression_of c) ++ xs)
    (each_item (map item_of is))

pub ruleset item_names = (names-one, names-text, names-turns, append_assoc, append-nil)

-- ---- statements

pub names-assign : (line : ℕ) (m : Option Mark) (left : Ref) (right : Expr)
    → names_in_statement (statement_of (stmts.Assign line m left right))
    ≡ names_in_reference (reference_of left) ++ names_in (expression_of right)
names-assign line m left right = ap names_in_statement (statement_of-assign line m left right)

-- in a WHERE the name that is assigned stands first, and then the mask
pub names-masked : (line : ℕ) (m : Option Mark) (mask : Expr) (left : Ref) (right : Expr)
    → names_in_statement (statement_of (stmts.Masked line m mask left right))
    ≡ (out-Ref left).name ∷ names_in (expression_of mask)
    ++ flat_map names_in_subscript (map subscript_of (out-Ref left).subs) ++ names_in (expression_of right)
names-masked line m mask left right =
    ap names_in_statement (statement_of-masked line m mask left right)
    ∙ ap (λ (r : Reference). r.name ∷ names_in (expression_of mask)
    ++ names_in_subscripts r.subscripts ++ names_in (expression_of right)) (reference_of-is left)
    ∙ ap (λ xs. (out-Ref left).name ∷ names_in (expression_of mask) ++ xs ++ names_in (expression_of right))
    (each_subscript (map subscript_of (out-Ref left).subs))

pub names-if : (line : ℕ) (ts : Seq Arm) (other : Block')
    → names_in_statement (statement_of (stmts.If line ts other))
    ≡ flat_map names_in_arm (map tested_of ts) ++ names_in_block (block_of other)
names-if line ts other =
    ap names_in_statement (statement_of-if line ts other)
    ∙ ap (λ xs. xs ++ names_in_block (block_of other)) (each_arm (map tested_of ts))

pub names-do : (line : ℕ) (x : Name) (a b c : Expr) (body : Block')
    → names_in_statement (statement_of (stmts.Do line x a b c body))
    ≡ names_in_control x (expression_of a) (expression_of b) (expression_of c) ++ names_in_block (block_of body)
names-do line x a b c body = ap names_in_statement (statement_of-do line x a b c body)

pub names-label : (n : ℕ) → names_in_statement (statement_of (stmts.Label n)) ≡ []
names-label n = ap names_in_statement (statement_of-label n)

pub names-go : (line n : ℕ) → names_in_statement (statement_of (stmts.Go line n)) ≡ []
names-go line n = ap names_in_statement (statement_of-go line n)

pub names-stop : (line : ℕ) → names_in_statement (statement_of (stmts.Stop line)) ≡ []
names-stop line = ap names_in_statement (statement_of-stop line)

pub names-read : (line : ℕ) (is : Seq Item')
    → names_in_statement (statement_of (stmts.Read line is)) ≡ flat_map names_in_item (map item_of is)
names-read line is = ap names_in_statement (statement_of-read line is) ∙ each_item (map item_of is)

pub names-print : (line : ℕ) (is : Seq Item')
    → names_in_statement (statement_of (stmts.Print line is)) ≡ flat_map names_in_item (map item_of is)
names-print line is = ap names_in_statement (statement_of-print line is) ∙ each_item (map item_of is)

pub names-allocate : (line : ℕ) (x : Name) (es : Seq Expr)
    → names_in_statement (statement_of (stmts.Allocate line x es)) ≡ x ∷ flat_map names_in (map expression_of es)
names-allocate line x es =
    ap names_in_statement (statement_of-allocate line x es)
    ∙ ap (λ xs. x ∷ xs) (each_expression (map expression_of es))

pub names-deallocate : (line : ℕ) (x : Name)
    → names_in_statement (statement_of (stmts.Deallocate line x)) ≡ x ∷ []
names-deallocate line x = ap names_in_statement (statement_of-deallocate line x)

pub names-arm : (a : Arm)
    → names_in_arm (tested_of a)
    ≡ names_in (expression_of (out-Arm a).test) ++ names_in_block (block_of (out-Arm a).body)
names-arm a = ap names_in_arm (tested_of-is a)

pub names-block : (b : Block')
    → names_in_block (block_of b) ≡ flat_map names_in_statement (map statement_of (out-Block b).stmts)
names-block b = ap names_in_block (block_of-is b) ∙ each_statement (map statement_of (out-Block b).stmts)

pub ruleset statement_names = (
  names-assign,
  names-masked,
  names-if,
  names-do,
  names-label,
  names-go,
  names-stop,
  names-read,
  names-print,
  names-allocate,
  names-deallocate,
  names-arm,
  append_assoc,
  append-nil,
)

pub ruleset block_names = (names-block)
