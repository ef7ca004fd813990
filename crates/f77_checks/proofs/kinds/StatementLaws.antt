-- What suits, for each kind of statement.
use Rattle.std.proofs.Common.{◌≡◌, ◌≢◌, ℕ, Option, zero, suc, ◌+◌, ◌<◌, Bool, true, false, not, ◌&&◌, ◌||◌, List, [], ◌∷◌, map, drop, length, get_or, refl, sym, ap, ◌∙◌, add-one}
use Rattle.std.proofs.Math.Seq.{drop-cons}
use Rattle.std.specs.List.{list_any}
use Rattle.std.specs.declared.boxed.Box.{Box}
use Rattle.std.specs.declared.alloc.Global.{Global}
use Rattle.std.proofs.lemmas.List.{length-map}
use Rattle.tree.specs.Plain.{Expression, Reference, items, subscripts}
use Rattle.tree.specs.View.{expression_of, subscript_of, reference_of, item_of}
use Rattle.tree.specs.declared.names.Name.{Name}
use Rattle.tree.specs.declared.ops.Kind.{Kind}
use Rattle.tree.specs.declared.ops.Kind.TheVariants.{Integer, Logical}
use Rattle.tree.specs.declared.lists.Seq.{Seq}
use Rattle.tree.specs.declared.exprs.Expr.{Expr}
use Rattle.tree.specs.declared.exprs.Ref.{Ref, out-Ref}
use Rattle.tree.specs.declared.stmts.Item.{Item}
use Rattle.tree.proofs.Equations.{reference_of-is}
use Rattle.f77_grammar.specs.Statement77 as plain
use Rattle.f77_grammar.specs.program.Uses.{Use77, uses77_of, uses_in_text, is_array_name, kind_of_name}
use Rattle.f77_grammar.specs.declared.directions.Direction.TheVariants.{Input, Output}
use Rattle.f77_grammar.specs.program.Kinds.{has_kind, are_integer_bounds, are_subscripts, is_stored_into, are_numbers, has_integer_bounds, suits_items, suits, calls_hidden, has_unsuited_kind}
use Rattle.f77_grammar.specs.declared.syntax.statements.Entity.{Entity}
use Rattle.f77_grammar.specs.declared.syntax.statements.Stmt77.{Stmt77}
use Rattle.f77_grammar.specs.declared.syntax.statements.Stmt77.TheVariants as stmts
use Rattle.f77_grammar.specs.syntax.Views.{statement_of, labelled_of, text_of, bounds_of, entity_of, constant_of}
use Rattle.f77_grammar.specs.declared.syntax.statements.Labelled.{Labelled as Labelled'}
use Rattle.f77_grammar.specs.syntax.Walk.{place_at}
use Rattle.f77_grammar.proofs.syntax.Equations.{statement_of-program, statement_of-implicit_none, statement_of-declare, statement_of-dimension, statement_of-constants, statement_of-assign, statement_of-go, statement_of-test, statement_of-if, statement_of-else_if, statement_of-else, statement_of-end_if, statement_of-do, statement_of-end_do, statement_of-continue, statement_of-stop, statement_of-read, statement_of-print, statement_of-end}
use Rattle.f77_names.proofs.UseLaws.{number_is}

-- ---- bounds, one after the other

pub bounds_left : (us : List Use77) (list : List (Expr × Expr)) (i : ℕ) (x : Expr × Expr) → i < length list → x ≡ get_or list i x
    → are_integer_bounds us (map bounds_of (drop i list))
    ≡ (are_integer_bounds us (bounds_of x ∷ []) && are_integer_bounds us (map bounds_of (drop (i + 1) list)))
bounds_left us list i x h e =
    ap (λ xs. are_integer_bounds us (map bounds_of xs)) (left list i x h e)
    ∙ two (has_kind us (bounds_of x).0 Integer && has_kind us (bounds_of x).1 Integer) (are_integer_bounds us (map bounds_of (drop (i + 1) list)))
  where
    left : (list : List (Expr × Expr)) (i : ℕ) (x : Expr × Expr) → i < length list → x ≡ get_or list i x → drop i list ≡ x ∷ drop (i + 1) list
    left list i x h e = rw (add-one, drop-cons list i x h, sym e) refl

    two : (a b : Bool) → (a && b) ≡ ((a && true) && b)
    two true b = refl
    two false b = refl

pub bounds_stop : (us : List Use77) (list : List (Expr × Expr)) (i : ℕ) (x : Expr × Expr) (whole suit : Bool) → i < length list → x ≡ get_or list i x
    → whole ≡ are_integer_bounds us (map bounds_of (drop i list)) → suit ≡ are_integer_bounds us (bounds_of x ∷ []) → suit ≡ false → false ≡ whole
bounds_stop us list i x whole suit h e w s f =
    sym (w ∙ bounds_left us list i x h e ∙ ap (λ b. b && are_integer_bounds us (map bounds_of (drop (i + 1) list))) (sym s ∙ f))

pub bounds_go_on : (us : List Use77) (list : List (Expr × Expr)) (i : ℕ) (x : Expr × Expr) (whole suit : Bool) → i < length list → x ≡ get_or list i x
    → whole ≡ are_integer_bounds us (map bounds_of (drop i list)) → suit ≡ are_integer_bounds us (bounds_of x ∷ []) → suit ≡ true
    → whole ≡ are_integer_bounds us (map bounds_of (drop (i + 1) list))
bounds_go_on us list i x whole suit h e w s f =
    w ∙ bounds_left us list i x h e ∙ ap (λ b. b && are_integer_bounds us (map bounds_of (drop (i + 1) list))) (sym s ∙ f)

-- ---- assignments

pub stored-scalar : (us : List Use77) (x : List ℕ) (n : ℕ) → n ≡ 0 → is_stored_into us x n ≡ not (is_array_name us x)
stored-scalar us x zero h = refl
stored-scalar us x (suc n) h = cc

pub stored-element : (us : List Use77) (x : List ℕ) (n : ℕ) → n ≢ 0 → is_stored_into us x n ≡ is_array_name us x
stored-element us x zero h = absurd (h refl)
stored-element us x (suc n) h = refl

pub ruleset stored_laws = (stored-scalar, stored-element)

pub assignment-is : (us : List Use77) (r : Ref) (e : Expression) → suits us (plain.Assign (reference_of r) e)
    ≡ (is_stored_into us (out-Ref r).name (length (out-Ref r).subs) && are_subscripts us (subscripts (map subscript_of (out-Ref r).subs)) && has_kind us e (kind_of_name us (out-Ref r).name))
assignment-is us r e =
    ap (λ (q : Reference). suits us (plain.Assign q e)) (reference_of-is r)
    ∙ ap (λ n. is_stored_into us (out-Ref r).name n && are_subscripts us (subscripts (map subscript_of (out-Ref r).subs)) && has_kind us e (kind_of_name us (out-Ref r).name))
    (number_is (map subscript_of (out-Ref r).subs) ∙ length-map (out-Ref r).subs subscript_of)

pub ruleset assignment_laws = (assignment-is)

-- ---- statements

pub suits-program : (us : List Use77) (x : Name) → suits us (statement_of (stmts.Program x)) ≡ true
suits-program us x = ap (suits us) (statement_of-program x)

pub suits-declare : (us : List Use77) (k : Kind) (es : Seq Entity) → suits us (statement_of (stmts.Declare k es)) ≡ has_integer_bounds us (map entity_of es)
suits-declare us k es = ap (suits us) (statement_of-declare k es)

pub suits-dimension : (us : List Use77) (es : Seq Entity) → suits us (statement_of (stmts.Dimension es)) ≡ has_integer_bounds us (map entity_of es)
suits-dimension us es = ap (suits us) (statement_of-dimension es)

pub suits-constants : (us : List Use77) (ds : Seq (Name × Expr)) → suits us (statement_of (stmts.Constants ds)) ≡ suits us (plain.Constants (map constant_of ds))
suits-constants us ds = ap (suits us) (statement_of-constants ds)

pub suits-assign : (us : List Use77) (left : Ref) (e : Expr) → suits us (statement_of (stmts.Assign left e)) ≡ suits us (plain.Assign (reference_of left) (expression_of e))
suits-assign us left e = ap (suits us) (statement_of-assign left e)

pub suits-test : (us : List Use77) (c : Expr) (s : Box Stmt77 Global) → suits us (statement_of (stmts.Test c s)) ≡ (has_kind us (expression_of c) Logical && suits us (statement_of s.value))
suits-test us c s = ap (suits us) (statement_of-test c s)

pub suits-if : (us : List Use77) (c : Expr) → suits us (statement_of (stmts.If c)) ≡ has_kind us (expression_of c) Logical
suits-if us c = ap (suits us) (statement_of-if c)

pub suits-else_if : (us : List Use77) (c : Expr) → suits us (statement_of (stmts.ElseIf c)) ≡ has_kind us (expression_of c) Logical
suits-else_if us c = ap (suits us) (statement_of-else_if c)

pub suits-do : (us : List Use77) (n : Option ℕ) (x : Name) (a b c : Expr) → suits us (statement_of (stmts.Do n x a b c)) ≡ are_numbers us (expression_of a) (expression_of b) (expression_of c)
suits-do us n x a b c = ap (suits us) (statement_of-do n x a b c)

pub suits-read : (us : List Use77) (is : Seq Item) → suits us (statement_of (stmts.Read is)) ≡ suits_items us Input (items (map item_of is))
suits-read us is = ap (suits us) (statement_of-read is)

pub suits-print : (us : List Use77) (is : Seq Item) → suits us (statement_of (stmts.Print is)) ≡ suits_items us Output (items (map item_of is))
suits-print us is = ap (suits us) (statement_of-print is)

pub suits-implicit_none : (us : List Use77) → suits us (statement_of stmts.ImplicitNone) ≡ true
suits-implicit_none us = ap (suits us) statement_of-implicit_none

pub suits-go : (us : List Use77) (n : ℕ) → suits us (statement_of (stmts.Go n)) ≡ true
suits-go us n = ap (suits us) (statement_of-go n)

pub suits-else : (us : List Use77) → suits us (statement_of stmts.Else) ≡ true
suits-else us = ap (suits us) statement_of-else

pub suits-end_if : (us : List Use77) → suits us (statement_of stmts.EndIf) ≡ true
suits-end_if us = ap (suits us) statement_of-end_if

pub suits-end_do : (us : List Use77) → suits us (statement_of stmts.EndDo) ≡ true
suits-end_do us = ap (suits us) statement_of-end_do

pub suits-continue : (us : List Use77) → suits us (statement_of stmts.Continue) ≡ true
suits-continue us = ap (suits us) statement_of-continue

pub suits-stop : (us : List Use77) → suits us (statement_of stmts.Stop) ≡ true
suits-stop us = ap (suits us) statement_of-stop

pub suits-end : (us : List Use77) → suits us (statement_of stmts.End) ≡ true
suits-end us = ap (suits us) statement_of-end

pub ruleset statement_laws = (suits-program, suits-declare, suits-dimension, suits-constants, suits-assign, suits-test, suits-if, suits-else_if, suits-do, suits-read, suits-print, suits-implicit_none, suits-go, suits-else, suits-end_if, suits-end_do, suits-continue, suits-stop, suits-end)

-- ---- the place of a statement

-- what is unsuited by the uses in the text is so at its place
pub unsuited_at : (xs : List Labelled') (i : ℕ) (x : Labelled') (us : List Use77) → us ≡ uses_in_text (text_of xs)
    → has_unsuited_kind (uses_in_text (text_of xs)) (place_at (text_of xs) i (labelled_of x))
    ≡ (not (suits us (statement_of x.statement)) || list_any (calls_hidden us) (uses77_of (statement_of x.statement)))
unsuited_at xs i x us e = sym (ap (λ vs. not (suits vs (statement_of x.statement)) || list_any (calls_hidden vs) (uses77_of (statement_of x.statement))) e)
