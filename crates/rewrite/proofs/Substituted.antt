-- What a variable is replaced by keeps the value of an expression.
use Rattle.std.proofs.Common.{◌≡◌, refl, sym, ap, ◌∙◌, ℕ, Bool, true, false, cond, List, [], ◌∷◌, map, Result, Ok, Err}
use Rattle.std.specs.Prelude.{IfOk}
use Rattle.std.specs.Str.{bytes_eq}
use Rattle.std.proofs.lemmas.Slice.Eq.{bytes_eq-Decides}
use mathlib.Core.Path.{ap₂}
use Rattle.tree.specs.Operators.{apply, call, as_number}
use Rattle.tree.specs.Steps.{◌>>=◌}
use Rattle.tree.specs.declared.exprs.Expr.{Expr}
use Rattle.tree.specs.declared.exprs.Expr.TheVariants as exprs
use Rattle.tree.specs.declared.exprs.Sub.{Sub}
use Rattle.tree.specs.declared.exprs.Ref.{Ref, out-Ref}
use Rattle.tree.specs.declared.lists.Memory.{Memory}
use Rattle.tree.proofs.Equations.{expression_of-item, reference_of-is}
use Rattle.tree.specs.View.{expression_of, subscript_of}
use Rattle.tree.specs.Plain.{Expression, Number, Logic, Named, Unary, Binary, Apply, Constructor, Spread, Transpose, Reshape, Reduce, Expressions, no_expressions, expression, Subscript, Only, Section, Subscripts, no_subscripts, subscript, subscripts, Reference}
use Rattle.meaning.specs.Store.{Store, cell_at}
use Rattle.meaning.specs.Value.{value_of, values_of, subscript_values, subscript_value}
use Rattle.rewrite.specs.Following.{sequential}
use Rattle.rewrite.specs.Making.{made_expressions, made_subscripts, made_subscript}
use Rattle.rewrite.specs.Substituting.{is_variable_alone, substituting}
use Rattle.rewrite.specs.Substituted.{substituted, StandsFor}

module _ (bits : ℕ) (x : List ℕ) (by : Expression) (s : Store) (stands : StandsFor bits x by s) where
  scalar : (y : List ℕ) (b : Bool) → bytes_eq y x ≡ b → value_of (sequential bits) (cond b by (Named y no_subscripts)) s ≡ value_of (sequential bits) (Named y no_subscripts) s
  scalar y true e = stands ∙ ap (λ y. value_of (sequential bits) (Named y no_subscripts) s) (sym ((bytes_eq-Decides y x).0 e))
  scalar y false e = refl

  mutual
    pub value-substituted : (e : Expression) → value_of (sequential bits) (substituted x by e) s ≡ value_of (sequential bits) e s
    value-substituted (Number n) = refl
    value-substituted (Logic b) = refl
    value-substituted (Named y no_subscripts) = scalar y (bytes_eq y x) refl
    value-substituted (Named y (subscript p ps)) =
        ap (λ r. do is ← r; c ← cell_at y is s; Ok (s.held c)) (subscripts-substituted (subscript p ps))
    value-substituted (Unary o a) = ap (λ r. do v ← r; apply o v v) (value-substituted a)
    value-substituted (Binary o a b) = ap₂ (λ r q. do v ← r; w ← q; apply o v w) (value-substituted a) (value-substituted b)
    value-substituted (Apply f es) = ap (λ r. do vs ← r; call f vs) (values-substituted es)
    value-substituted (Constructor es ls) = refl
    value-substituted (Spread a k e) = refl
    value-substituted (Transpose a) = refl
    value-substituted (Reshape a es) = refl
    value-substituted (Reduce r a) = refl

    values-substituted : (es : Expressions) → values_of (sequential bits) (made_expressions (substituting x by) es) s ≡ values_of (sequential bits) es s
    values-substituted no_expressions = refl
    values-substituted (expression e es) = ap₂ (λ r q. do v ← r; vs ← q; Ok (v ∷ vs)) (value-substituted e) (values-substituted es)

    subscripts-substituted : (ps : Subscripts) → subscript_values (sequential bits) (made_subscripts (substituting x by) ps) s ≡ subscript_values (sequential bits) ps s
    subscripts-substituted no_subscripts = refl
    subscripts-substituted (subscript p ps) = ap₂ (λ r q. do i ← r; is ← q; Ok (i ∷ is)) (subscript-substituted p) (subscripts-substituted ps)

    subscript-substituted : (p : Subscript) → subscript_value (sequential bits) (made_subscript (substituting x by) p) s ≡ subscript_value (sequential bits) p s
    subscript-substituted (Only e) = ap (λ r. do v ← r; as_number v) (value-substituted e)
    subscript-substituted (Section a b c) = refl

pub kept_value : (x : List ℕ) (by e : Expression) (r : Result Expr Memory) → IfOk r (λ new. expression_of new ≡ substituted x by e)
    → IfOk r (λ new. (bits : ℕ) (s : Store) → StandsFor bits x by s → value_of (sequential bits) (expression_of new) s ≡ value_of (sequential bits) e s)
kept_value x by e (Ok new) h = λ bits s g. ap (λ e. value_of (sequential bits) e s) h ∙ value-substituted bits x by s g e
kept_value x by e (Err m) h = h

-- ---- a variable by itself

pub scalar_by_name : (x : List ℕ) (r : Ref) → (out-Ref r).subs ≡ [] → bytes_eq (out-Ref r).name x ≡ is_variable_alone x (expression_of (exprs.Item r))
scalar_by_name x r e =
    let parts = reference_of-is r ∙ ap (λ (ss : List Sub). let t : Reference = record { name = (out-Ref r).name; subscripts = subscripts (map subscript_of ss) } in t) e in
    sym (ap (is_variable_alone x) (expression_of-item r ∙ ap (λ (t : Reference). Named t.name t.subscripts) parts))

pub element_by_name : (x : List ℕ) (r : Ref) → ((out-Ref r).subs ≡ [] → ⊥) → false ≡ is_variable_alone x (expression_of (exprs.Item r))
element_by_name x r h = by (out-Ref r).subs refl
  where
    by : (ss : List Sub) → (out-Ref r).subs ≡ ss → false ≡ is_variable_alone x (expression_of (exprs.Item r))
    by [] e = absurd (h e)
    by (s ∷ ss) e =
        let parts = reference_of-is r ∙ ap (λ (ss : List Sub). let t : Reference = record { name = (out-Ref r).name; subscripts = subscripts (map subscript_of ss) } in t) e in
        sym (ap (is_variable_alone x) (expression_of-item r ∙ ap (λ (t : Reference). Named t.name t.subscripts) parts))
