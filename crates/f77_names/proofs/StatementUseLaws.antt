-- The uses of names in declarations and statements.
use Rattle.std.proofs.Common.{◌≡◌, ℕ, Option, suc, ◌+◌, ◌<◌, ◌≢◌, List, [], ◌∷◌, ◌++◌, map, take, length, get_or, refl, sym, ap, ◌∙◌, append_assoc, arith}
use Rattle.std.specs.declared.boxed.Box.{Box}
use Rattle.std.specs.declared.alloc.Global.{Global}
use Rattle.std.specs.List.{flat_map}
use Rattle.std.proofs.lemmas.Grind.{flat_map-append}
use Rattle.std.proofs.lemmas.List.{map-append, length-map, append-nil}
use Rattle.tree.specs.Plain.{Expression, items}
use Rattle.tree.specs.View.{expression_of, reference_of, item_of}
use Rattle.tree.specs.declared.names.Name.{Name}
use Rattle.tree.specs.declared.ops.Kind.{Kind}
use Rattle.tree.specs.declared.lists.Seq.{Seq}
use Rattle.tree.specs.declared.exprs.Expr.{Expr}
use Rattle.tree.specs.declared.exprs.Ref.{Ref}
use Rattle.tree.specs.declared.stmts.Item.{Item}
use Rattle.f77_grammar.specs.declared.directions.Direction.TheVariants.{Input, Output}
use Rattle.f77_grammar.specs.program.Uses as plain
use Rattle.f77_grammar.specs.declared.syntax.statements.Entity.{Entity}
use Rattle.f77_grammar.specs.declared.syntax.statements.Stmt77.{Stmt77}
use Rattle.f77_grammar.specs.declared.syntax.statements.Stmt77.TheVariants as stmts
use Rattle.f77_grammar.specs.declared.syntax.statements.Labelled.{Labelled as Labelled'}
use Rattle.f77_grammar.specs.Statement77.{Labelled}
use Rattle.f77_grammar.proofs.syntax.Walks.{text_within, text_at}
use Rattle.f77_grammar.specs.syntax.Views.{statement_of, labelled_of, text_of, bounds_of, entity_of, constant_of}
use Rattle.f77_grammar.proofs.syntax.Equations.{statement_of-program, statement_of-implicit_none, statement_of-declare, statement_of-dimension, statement_of-constants, statement_of-assign, statement_of-go, statement_of-test, statement_of-if, statement_of-else_if, statement_of-else, statement_of-end_if, statement_of-do, statement_of-end_do, statement_of-continue, statement_of-stop, statement_of-read, statement_of-print, statement_of-end}
use Rattle.f77_names.proofs.UseLaws.{one_more}

-- ---- bounds

bounds_append : (xs ys : List (Expression × Expression)) → plain.uses_in_bounds (xs ++ ys) ≡ plain.uses_in_bounds xs ++ plain.uses_in_bounds ys
bounds_append [] ys = refl
bounds_append (b ∷ xs) ys =
    ap (λ us. plain.uses77_in b.0 ++ plain.uses77_in b.1 ++ us) (bounds_append xs ys)
    ∙ sym (append_assoc (plain.uses77_in b.0 ++ plain.uses77_in b.1) (plain.uses_in_bounds xs) (plain.uses_in_bounds ys))

pub bounds_more : (list : List (Expr × Expr)) (i : ℕ) (x : Expr × Expr) → i < length list → x ≡ get_or list i x
    → plain.uses_in_bounds (map bounds_of (take (i + 1) list)) ≡ plain.uses_in_bounds (map bounds_of (take i list)) ++ (plain.uses77_in (expression_of x.0) ++ plain.uses77_in (expression_of x.1))
bounds_more list i x h e =
    ap (λ xs. plain.uses_in_bounds (map bounds_of xs)) (one_more list i x h e)
    ∙ ap plain.uses_in_bounds (map-append bounds_of (take i list) (x ∷ []))
    ∙ bounds_append (map bounds_of (take i list)) (bounds_of x ∷ [])
    ∙ ap (λ us. plain.uses_in_bounds (map bounds_of (take i list)) ++ us) (append-nil (plain.uses77_in (expression_of x.0) ++ plain.uses77_in (expression_of x.1)))

-- ---- lists of entities and constants

pub flat_more : {A B : Type 0} (f : B → List plain.Use77) (view : A → B) (list : List A) (i : ℕ) (x : A) → i < length list → x ≡ get_or list i x
    → flat_map f (map view (take (i + 1) list)) ≡ flat_map f (map view (take i list)) ++ f (view x)
flat_more f view list i x h e =
    ap (λ xs. flat_map f (map view xs)) (one_more list i x h e)
    ∙ ap (flat_map f) (map-append view (take i list) (x ∷ []))
    ∙ flat_map-append f (map view (take i list)) (view x ∷ [])
    ∙ ap (λ us. flat_map f (map view (take i list)) ++ us) (append-nil (f (view x)))

pub dimensioned_is : (x : List ℕ) (bs : List (Expr × Expr)) → bs ≢ [] → plain.bounded_uses x (map bounds_of bs) ≡ plain.use77_of x (plain.Bounded (length bs)) ∷ plain.uses_in_bounds (map bounds_of bs)
dimensioned_is x [] h = absurd (h refl)
dimensioned_is x (b ∷ bs) h = ap (λ n. plain.use77_of x (plain.Bounded (suc n)) ∷ plain.uses_in_bounds (map bounds_of (b ∷ bs))) (length-map bs bounds_of)

pub ruleset entity_laws = (dimensioned_is, append_assoc, append-nil)

-- ---- statements

pub uses-program : (x : Name) → plain.uses77_of (statement_of (stmts.Program x)) ≡ plain.use77_of x plain.Title ∷ []
uses-program x = ap plain.uses77_of (statement_of-program x)

pub uses-declare : (k : Kind) (es : Seq Entity) → plain.uses77_of (statement_of (stmts.Declare k es)) ≡ flat_map (plain.typed_uses k) (map entity_of es)
uses-declare k es = ap plain.uses77_of (statement_of-declare k es)

pub uses-dimension : (es : Seq Entity) → plain.uses77_of (statement_of (stmts.Dimension es)) ≡ flat_map plain.dimensioned_uses (map entity_of es)
uses-dimension es = ap plain.uses77_of (statement_of-dimension es)

pub uses-constants : (ds : Seq (Name × Expr)) → plain.uses77_of (statement_of (stmts.Constants ds)) ≡ flat_map plain.defined_uses (map constant_of ds)
uses-constants ds = ap plain.uses77_of (statement_of-constants ds)

pub uses-assign : (left : Ref) (e : Expr) → plain.uses77_of (statement_of (stmts.Assign left e)) ≡ plain.assignment_uses (reference_of left) (expression_of e)
uses-assign left e = ap plain.uses77_of (statement_of-assign left e)

pub uses-test : (c : Expr) (s : Box Stmt77 Global) → plain.uses77_of (statement_of (stmts.Test c s)) ≡ plain.uses77_in (expression_of c) ++ plain.uses77_of (statement_of s.value)
uses-test c s = ap plain.uses77_of (statement_of-test c s)

pub uses-if : (c : Expr) → plain.uses77_of (statement_of (stmts.If c)) ≡ plain.uses77_in (expression_of c)
uses-if c = ap plain.uses77_of (statement_of-if c)

pub uses-else_if : (c : Expr) → plain.uses77_of (statement_of (stmts.ElseIf c)) ≡ plain.uses77_in (expression_of c)
uses-else_if c = ap plain.uses77_of (statement_of-else_if c)

pub uses-do : (n : Option ℕ) (x : Name) (a b c : Expr) → plain.uses77_of (statement_of (stmts.Do n x a b c)) ≡ plain.control_uses x (expression_of a) (expression_of b) (expression_of c)
uses-do n x a b c = ap plain.uses77_of (statement_of-do n x a b c)

pub uses-read : (is : Seq Item) → plain.uses77_of (statement_of (stmts.Read is)) ≡ plain.uses_in_items Input (items (map item_of is))
uses-read is = ap plain.uses77_of (statement_of-read is)

pub uses-print : (is : Seq Item) → plain.uses77_of (statement_of (stmts.Print is)) ≡ plain.uses_in_items Output (items (map item_of is))
uses-print is = ap plain.uses77_of (statement_of-print is)

pub uses-implicit_none : plain.uses77_of (statement_of stmts.ImplicitNone) ≡ []
uses-implicit_none = ap plain.uses77_of statement_of-implicit_none

pub uses-go : (n : ℕ) → plain.uses77_of (statement_of (stmts.Go n)) ≡ []
uses-go n = ap plain.uses77_of (statement_of-go n)

pub uses-else : plain.uses77_of (statement_of stmts.Else) ≡ []
uses-else = ap plain.uses77_of statement_of-else

pub uses-end_if : plain.uses77_of (statement_of stmts.EndIf) ≡ []
uses-end_if = ap plain.uses77_of statement_of-end_if

pub uses-end_do : plain.uses77_of (statement_of stmts.EndDo) ≡ []
uses-end_do = ap plain.uses77_of statement_of-end_do

pub uses-continue : plain.uses77_of (statement_of stmts.Continue) ≡ []
uses-continue = ap plain.uses77_of statement_of-continue

pub uses-stop : plain.uses77_of (statement_of stmts.Stop) ≡ []
uses-stop = ap plain.uses77_of statement_of-stop

pub uses-end : plain.uses77_of (statement_of stmts.End) ≡ []
uses-end = ap plain.uses77_of statement_of-end

pub ruleset statement_use_laws = (uses-program, uses-declare, uses-dimension, uses-constants, uses-assign, uses-test, uses-if, uses-else_if, uses-do, uses-read, uses-print, uses-implicit_none, uses-go, uses-else, uses-end_if, uses-end_do, uses-continue, uses-stop, uses-end, append_assoc, append-nil)

-- ---- a text

pub text_more : (xs : List Labelled') (i : ℕ) (x : Labelled') → i < length xs → x ≡ get_or xs i x
    → plain.uses_in_text (take (i + 1) (text_of xs)) ≡ plain.uses_in_text (take i (text_of xs)) ++ plain.uses77_of (statement_of x.statement)
text_more xs i x h e =
    ap plain.uses_in_text (one_more (text_of xs) i (labelled_of x) (text_within xs i h) (sym (text_at xs i x h e)))
    ∙ flat_map-append (λ (y : Labelled). plain.uses77_of y.statement) (take i (text_of xs)) (labelled_of x ∷ [])
    ∙ ap (λ us. plain.uses_in_text (take i (text_of xs)) ++ us) (append-nil (plain.uses77_of (statement_of x.statement)))
