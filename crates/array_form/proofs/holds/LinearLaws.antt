-- Subscripts that are linear.
use Rattle.std.proofs.Common.{◌≡◌, ℕ, true, false, length, refl, ap, ◌∙◌, Option, Some, None}
use Rattle.tree.specs.View.{expression_of, subscript_of}
use Rattle.tree.specs.declared.exprs.Expr.{Expr}
use Rattle.tree.specs.declared.exprs.Sub.TheVariants as subs
use Rattle.tree.proofs.Equations.{subscript_of-one, subscript_of-part}
use Rattle.linear_forms.specs.Linear.{Form, form_of}
use Rattle.linear_forms.specs.Affines.{IsFound}
use Rattle.subscripts.specs.declared.affine.Affine.{Affine}
use Rattle.array_form.specs.forms.Statements.{is_linear_subscript}
use Rattle.array_form.specs.holds.View.{loop_names, surroundings_view}
use Rattle.array_form.specs.declared.holds.loops.Surroundings.{Surroundings}
use Rattle.array_form.proofs.holds.TripLaws.{names_viewed}

there : (n : ℕ) (o : Option Form) (a : Affine) → IsFound n o (Some a) → elim o [ Some f ↦ true | None ↦ false ] ≡ true
there n (Some f) a h = refl
there n None a h = absurd h

absent : (n : ℕ) (o : Option Form) → IsFound n o None → elim o [ Some f ↦ true | None ↦ false ] ≡ false
absent n (Some f) h = absurd h
absent n None h = refl

linear-one : (a : Surroundings) (e : Expr) → is_linear_subscript (surroundings_view a) (subscript_of (subs.One e))
    ≡ elim (form_of (loop_names a.loops) a.symbols (expression_of e)) [ Some f ↦ true | None ↦ false ]
linear-one a e =
    ap (is_linear_subscript (surroundings_view a)) (subscript_of-one e)
    ∙ ap (λ xs. elim (form_of xs a.symbols (expression_of e)) [ Some f ↦ true | None ↦ false ]) (names_viewed (length a.loops) a.loops)

pub linear-found : (n : ℕ) (a : Surroundings) (e : Expr) (f : Affine) → IsFound n (form_of (loop_names a.loops) a.symbols (expression_of e)) (Some f)
    → is_linear_subscript (surroundings_view a) (subscript_of (subs.One e)) ≡ true
linear-found n a e f h = linear-one a e ∙ there n (form_of (loop_names a.loops) a.symbols (expression_of e)) f h

pub linear-absent : (n : ℕ) (a : Surroundings) (e : Expr) → IsFound n (form_of (loop_names a.loops) a.symbols (expression_of e)) None
    → is_linear_subscript (surroundings_view a) (subscript_of (subs.One e)) ≡ false
linear-absent n a e h = linear-one a e ∙ absent n (form_of (loop_names a.loops) a.symbols (expression_of e)) h

pub linear-section : (a : Surroundings) (b c d : Expr) → is_linear_subscript (surroundings_view a) (subscript_of (subs.Part b c d)) ≡ false
linear-section a b c d = ap (is_linear_subscript (surroundings_view a)) (subscript_of-part b c d)

pub ruleset linear_laws = (linear-found, linear-absent, linear-section)
