-- DO variables that are wrong in targets and in items of lists.
use Rattle.std.proofs.Common.{◌≡◌, ℕ, Option, ℤ, ◌+◌, ◌<◌, ◌≤◌, ◌≢◌, Bool, true, false, ◌||◌, List, [], ◌∷◌, ◌++◌, map, drop, length, get_or, refl, sym, ap, ◌∙◌, add-one}
use Rattle.std.specs.declared.boxed.Box.{Box}
use Rattle.std.specs.declared.alloc.Global.{Global}
use Rattle.std.proofs.Math.Seq.{drop-cons}
use Rattle.std.proofs.lemmas.List.{drop_all}
use Rattle.tree.specs.Plain.{Reference, subscripts, items}
use Rattle.tree.specs.View.{expression_of, subscript_of, reference_of, item_of}
use Rattle.tree.specs.declared.names.Name.{Name}
use Rattle.tree.specs.declared.ops.Op.{Op}
use Rattle.tree.specs.declared.functions.Fun.{Fun}
use Rattle.tree.specs.declared.functions.Red.{Red}
use Rattle.tree.specs.declared.lists.Seq.{Seq}
use Rattle.tree.specs.declared.exprs.Expr.{Expr}
use Rattle.tree.specs.declared.exprs.Turn.{Turn}
use Rattle.tree.specs.declared.exprs.Expr.TheVariants as exprs
use Rattle.tree.specs.declared.exprs.Sub.{Sub}
use Rattle.tree.specs.declared.exprs.Ref.{Ref, out-Ref}
use Rattle.tree.specs.declared.stmts.Item.{Item as Item'}
use Rattle.tree.specs.declared.stmts.Item.TheVariants as variants
use Rattle.tree.proofs.Equations.{expression_of-int, expression_of-truth, expression_of-item, expression_of-un, expression_of-bin, expression_of-call, reference_of-is, item_of-one, item_of-text, item_of-turns}
use Rattle.tree.proofs.Equations.{expression_of-list, expression_of-spread, expression_of-transpose, expression_of-reshape, expression_of-reduce}
use Rattle.tree.specs.declared.ops.Kind.{Kind}
use Rattle.f77_grammar.specs.declared.directions.Direction.{Direction}
use Rattle.f77_grammar.specs.declared.directions.Direction.TheVariants.{Output, Input}
use Rattle.f77_grammar.specs.declared.syntax.statements.Entity.{Entity}
use Rattle.f77_grammar.specs.declared.syntax.statements.Stmt77.{Stmt77}
use Rattle.f77_grammar.specs.declared.syntax.statements.Stmt77.TheVariants as stmts
use Rattle.f77_grammar.specs.syntax.Views.{statement_of}
use Rattle.f77_grammar.proofs.syntax.Equations.{statement_of-program, statement_of-implicit_none, statement_of-declare, statement_of-dimension, statement_of-constants, statement_of-assign, statement_of-go, statement_of-test, statement_of-if, statement_of-else_if, statement_of-else, statement_of-end_if, statement_of-do, statement_of-end_do, statement_of-continue, statement_of-stop, statement_of-read, statement_of-print, statement_of-end}
use Rattle.f77_structure.specs.jumps.Misuses.{is_round, sets_round, reads_round, value_sets_round, is_wrong_round, misuses_item, misuses_items, misuses_statement}

-- ---- targets

sets_bare : (round : List ℕ → Bool) (lists : List (List ℕ)) (x : List ℕ) (ss : List Sub) → ss ≡ [] → sets_round round lists x (subscripts (map subscript_of ss)) ≡ is_round round lists x
sets_bare round lists x [] h = refl
sets_bare round lists x (s ∷ ss) h = cc

sets_element : (round : List ℕ → Bool) (lists : List (List ℕ)) (x : List ℕ) (ss : List Sub) → ss ≢ [] → sets_round round lists x (subscripts (map subscript_of ss)) ≡ false
sets_element round lists x [] h = absurd (h refl)
sets_element round lists x (s ∷ ss) h = refl

pub target-bare : (round : List ℕ → Bool) (lists : List (List ℕ)) (r : Ref) → (out-Ref r).subs ≡ []
    → sets_round round lists (reference_of r).name (reference_of r).subscripts ≡ is_round round lists (out-Ref r).name
target-bare round lists r h =
    ap (λ (q : Reference). sets_round round lists q.name q.subscripts) (reference_of-is r) ∙ sets_bare round lists (out-Ref r).name (out-Ref r).subs h

pub target-element : (round : List ℕ → Bool) (lists : List (List ℕ)) (r : Ref) → (out-Ref r).subs ≢ []
    → sets_round round lists (reference_of r).name (reference_of r).subscripts ≡ false
target-element round lists r h =
    ap (λ (q : Reference). sets_round round lists q.name q.subscripts) (reference_of-is r) ∙ sets_element round lists (out-Ref r).name (out-Ref r).subs h

pub reads-item : (round : List ℕ → Bool) (lists : List (List ℕ)) (r : Ref)
    → reads_round round lists (expression_of (exprs.Item r)) ≡ sets_round round lists (reference_of r).name (reference_of r).subscripts
reads-item round lists r = ap (reads_round round lists) (expression_of-item r)

pub reads-int : (round : List ℕ → Bool) (lists : List (List ℕ)) (n : ℤ) → reads_round round lists (expression_of (exprs.Int n)) ≡ false
reads-int round lists n = ap (reads_round round lists) (expression_of-int n)

pub reads-truth : (round : List ℕ → Bool) (lists : List (List ℕ)) (b : Bool) → reads_round round lists (expression_of (exprs.Truth b)) ≡ false
reads-truth round lists b = ap (reads_round round lists) (expression_of-truth b)

pub reads-un : (round : List ℕ → Bool) (lists : List (List ℕ)) (o : Op) (a : Box Expr Global) → reads_round round lists (expression_of (exprs.Un o a)) ≡ false
reads-un round lists o a = ap (reads_round round lists) (expression_of-un o a)

pub reads-bin : (round : List ℕ → Bool) (lists : List (List ℕ)) (o : Op) (a b : Box Expr Global) → reads_round round lists (expression_of (exprs.Bin o a b)) ≡ false
reads-bin round lists o a b = ap (reads_round round lists) (expression_of-bin o a b)

pub reads-call : (round : List ℕ → Bool) (lists : List (List ℕ)) (f : Fun) (es : Seq Expr) → reads_round round lists (expression_of (exprs.Call f es)) ≡ false
reads-call round lists f es = ap (reads_round round lists) (expression_of-call f es)

pub reads-list : (round : List ℕ → Bool) (lists : List (List ℕ)) (es : Seq Expr) (ls : Seq Turn) → reads_round round lists (expression_of (exprs.List es ls)) ≡ false
reads-list round lists es ls = ap (reads_round round lists) (expression_of-list es ls)

pub reads-spread : (round : List ℕ → Bool) (lists : List (List ℕ)) (a : Box Expr Global) (d : ℕ) (n : Box Expr Global) → reads_round round lists (expression_of (exprs.Spread a d n)) ≡ false
reads-spread round lists a d n = ap (reads_round round lists) (expression_of-spread a d n)

pub reads-transpose : (round : List ℕ → Bool) (lists : List (List ℕ)) (a : Box Expr Global) → reads_round round lists (expression_of (exprs.Transpose a)) ≡ false
reads-transpose round lists a = ap (reads_round round lists) (expression_of-transpose a)

pub reads-reshape : (round : List ℕ → Bool) (lists : List (List ℕ)) (a : Box Expr Global) (es : Seq Expr) → reads_round round lists (expression_of (exprs.Reshape a es)) ≡ false
reads-reshape round lists a es = ap (reads_round round lists) (expression_of-reshape a es)

pub reads-reduce : (round : List ℕ → Bool) (lists : List (List ℕ)) (r : Red) (a : Box Expr Global) → reads_round round lists (expression_of (exprs.Reduce r a)) ≡ false
reads-reduce round lists r a = ap (reads_round round lists) (expression_of-reduce r a)

pub ruleset target_laws = (target-bare, target-element, reads-item, reads-int, reads-truth, reads-un, reads-bin, reads-call, reads-list, reads-spread, reads-transpose, reads-reshape, reads-reduce)

-- ---- items

module _ (scalar round : List ℕ → Bool) (lists : List (List ℕ)) where
  pub item-one : (d : Direction) (e : Expr) → misuses_item scalar round d (item_of (variants.One e)) lists ≡ value_sets_round round d lists (expression_of e)
  item-one d e = ap (λ i. misuses_item scalar round d i lists) (item_of-one e)

  pub item-text : (d : Direction) (t : Seq ℕ) → misuses_item scalar round d (item_of (variants.Text t)) lists ≡ false
  item-text d t = ap (λ i. misuses_item scalar round d i lists) (item_of-text t)

  pub item-turns : (d : Direction) (is : Seq Item') (x : Name) (a b c : Expr) → misuses_item scalar round d (item_of (variants.Turns is x a b c)) lists
      ≡ (is_wrong_round scalar round x lists || misuses_items scalar round d (items (map item_of is)) (lists ++ x ∷ []))
  item-turns d is x a b c = ap (λ i. misuses_item scalar round d i lists) (item_of-turns is x a b c)

pub ruleset item_laws = (item-one, item-text, item-turns)

items_left : (list : List Item') (i : ℕ) (x : Item') → i < length list → x ≡ get_or list i x → drop i list ≡ x ∷ drop (i + 1) list
items_left list i x h e = rw (add-one, drop-cons list i x h, sym e) refl

pub list_left : (scalar round : List ℕ → Bool) (d : Direction) (lists : List (List ℕ)) (list : List Item') (i : ℕ) (x : Item') → i < length list → x ≡ get_or list i x
    → misuses_items scalar round d (items (map item_of (drop i list))) lists
    ≡ (misuses_item scalar round d (item_of x) lists || misuses_items scalar round d (items (map item_of (drop (i + 1) list))) lists)
list_left scalar round d lists list i x h e = ap (λ xs. misuses_items scalar round d (items (map item_of xs)) lists) (items_left list i x h e)

-- ---- a list, item by item: `lists` are the DO variables round it, kept as `kept`

module _ (scalar round : List ℕ → Bool) (d : Direction) (lists kept : List (List ℕ)) (list : List Item') (i : ℕ) (x : Item') (whole wrong : Bool) where
  list_at : i < length list → x ≡ get_or list i x → whole ≡ misuses_items scalar round d (items (map item_of (drop i list))) lists
      → kept ≡ lists → wrong ≡ misuses_item scalar round d (item_of x) kept
      → whole ≡ (wrong || misuses_items scalar round d (items (map item_of (drop (i + 1) list))) lists)
  list_at h e w k r =
      w ∙ list_left scalar round d lists list i x h e
      ∙ ap (λ b. b || misuses_items scalar round d (items (map item_of (drop (i + 1) list))) lists) (ap (misuses_item scalar round d (item_of x)) (sym k) ∙ sym r)

  pub item_stops : i < length list → x ≡ get_or list i x → whole ≡ misuses_items scalar round d (items (map item_of (drop i list))) lists
      → kept ≡ lists → wrong ≡ misuses_item scalar round d (item_of x) kept → wrong ≡ true → true ≡ whole
  item_stops h e w k r g = sym (list_at h e w k r ∙ ap (λ b. b || misuses_items scalar round d (items (map item_of (drop (i + 1) list))) lists) g)

  pub item_goes_on : i < length list → x ≡ get_or list i x → whole ≡ misuses_items scalar round d (items (map item_of (drop i list))) lists
      → kept ≡ lists → wrong ≡ misuses_item scalar round d (item_of x) kept → wrong ≡ false
      → whole ≡ misuses_items scalar round d (items (map item_of (drop (i + 1) list))) lists
  item_goes_on h e w k r g = list_at h e w k r ∙ ap (λ b. b || misuses_items scalar round d (items (map item_of (drop (i + 1) list))) lists) g

pub list_ends : (scalar round : List ℕ → Bool) (d : Direction) (lists : List (List ℕ)) (list : List Item') (i : ℕ) (whole : Bool) → length list ≤ i
    → whole ≡ misuses_items scalar round d (items (map item_of (drop i list))) lists → false ≡ whole
list_ends scalar round d lists list i whole h w = sym (w ∙ ap (λ xs. misuses_items scalar round d (items (map item_of xs)) lists) (drop_all i list h))

-- ---- statements

module _ (scalar round : List ℕ → Bool) where
  pub statement-program : (x : Name) → misuses_statement scalar round (statement_of (stmts.Program x)) ≡ false
  statement-program x = ap (misuses_statement scalar round) (statement_of-program x)

  pub statement-declare : (k : Kind) (es : Seq Entity) → misuses_statement scalar round (statement_of (stmts.Declare k es)) ≡ false
  statement-declare k es = ap (misuses_statement scalar round) (statement_of-declare k es)

  pub statement-dimension : (es : Seq Entity) → misuses_statement scalar round (statement_of (stmts.Dimension es)) ≡ false
  statement-dimension es = ap (misuses_statement scalar round) (statement_of-dimension es)

  pub statement-constants : (ds : Seq (Name × Expr)) → misuses_statement scalar round (statement_of (stmts.Constants ds)) ≡ false
  statement-constants ds = ap (misuses_statement scalar round) (statement_of-constants ds)

  pub statement-assign : (left : Ref) (e : Expr) → misuses_statement scalar round (statement_of (stmts.Assign left e)) ≡ sets_round round [] (reference_of left).name (reference_of left).subscripts
  statement-assign left e = ap (misuses_statement scalar round) (statement_of-assign left e)

  pub statement-implicit_none : misuses_statement scalar round (statement_of stmts.ImplicitNone) ≡ false
  statement-implicit_none = ap (misuses_statement scalar round) statement_of-implicit_none

  pub statement-go : (n : ℕ) → misuses_statement scalar round (statement_of (stmts.Go n)) ≡ false
  statement-go n = ap (misuses_statement scalar round) (statement_of-go n)

  pub statement-test : (c : Expr) (s : Box Stmt77 Global) → misuses_statement scalar round (statement_of (stmts.Test c s)) ≡ false
  statement-test c s = ap (misuses_statement scalar round) (statement_of-test c s)

  pub statement-if : (c : Expr) → misuses_statement scalar round (statement_of (stmts.If c)) ≡ false
  statement-if c = ap (misuses_statement scalar round) (statement_of-if c)

  pub statement-else_if : (c : Expr) → misuses_statement scalar round (statement_of (stmts.ElseIf c)) ≡ false
  statement-else_if c = ap (misuses_statement scalar round) (statement_of-else_if c)

  pub statement-else : misuses_statement scalar round (statement_of stmts.Else) ≡ false
  statement-else = ap (misuses_statement scalar round) statement_of-else

  pub statement-end_if : misuses_statement scalar round (statement_of stmts.EndIf) ≡ false
  statement-end_if = ap (misuses_statement scalar round) statement_of-end_if

  pub statement-do : (n : Option ℕ) (x : Name) (a b c : Expr) → misuses_statement scalar round (statement_of (stmts.Do n x a b c)) ≡ is_wrong_round scalar round x []
  statement-do n x a b c = ap (misuses_statement scalar round) (statement_of-do n x a b c)

  pub statement-end_do : misuses_statement scalar round (statement_of stmts.EndDo) ≡ false
  statement-end_do = ap (misuses_statement scalar round) statement_of-end_do

  pub statement-continue : misuses_statement scalar round (statement_of stmts.Continue) ≡ false
  statement-continue = ap (misuses_statement scalar round) statement_of-continue

  pub statement-stop : misuses_statement scalar round (statement_of stmts.Stop) ≡ false
  statement-stop = ap (misuses_statement scalar round) statement_of-stop

  pub statement-read : (is : Seq Item') → misuses_statement scalar round (statement_of (stmts.Read is)) ≡ misuses_items scalar round Input (items (map item_of is)) []
  statement-read is = ap (misuses_statement scalar round) (statement_of-read is)

  pub statement-print : (is : Seq Item') → misuses_statement scalar round (statement_of (stmts.Print is)) ≡ misuses_items scalar round Output (items (map item_of is)) []
  statement-print is = ap (misuses_statement scalar round) (statement_of-print is)

  pub statement-end : misuses_statement scalar round (statement_of stmts.End) ≡ false
  statement-end = ap (misuses_statement scalar round) statement_of-end

pub ruleset statement_laws = (statement-program, statement-implicit_none, statement-declare, statement-dimension, statement-constants, statement-assign, statement-go, statement-test, statement-if, statement-else_if, statement-else, statement-end_if, statement-do, statement-end_do, statement-continue, statement-stop, statement-read, statement-print, statement-end)
