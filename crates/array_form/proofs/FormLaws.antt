-- Array forms of expressions and subscripts, by their parts.
use Rattle.std.proofs.Common.{◌≡◌, ℕ, ℤ, Bool, cond, List, [], ◌∷◌, map, refl, sym, ap, ◌∙◌}
use Rattle.std.specs.declared.boxed.Box.{Box}
use Rattle.std.specs.declared.alloc.Global.{Global}
use Rattle.tree.specs.Plain.{Apply, Binary, Expression, Named, Only, Reference, Section, Subscript, Unary, expression, expressions, no_subscripts, subscript, subscripts}
use Rattle.tree.specs.View.{expression_of, reference_of, subscript_of}
use Rattle.tree.specs.declared.ops.Op.{Op}
use Rattle.tree.specs.declared.functions.Fun.{Fun}
use Rattle.tree.specs.declared.functions.Red.{Red}
use Rattle.tree.specs.declared.lists.Seq.{Seq}
use Rattle.tree.specs.declared.exprs.Expr.{Expr}
use Rattle.tree.specs.declared.exprs.Expr.TheVariants as exprs
use Rattle.tree.specs.declared.exprs.Ref.{Ref, out-Ref}
use Rattle.tree.specs.declared.exprs.Sub.{Sub}
use Rattle.tree.specs.declared.exprs.Sub.TheVariants as subs
use Rattle.tree.specs.declared.exprs.Turn.{Turn}
use Rattle.tree.proofs.Equations.{expression_of-int, expression_of-truth, expression_of-item, expression_of-un, expression_of-bin, expression_of-call, expression_of-list, expression_of-spread, expression_of-transpose, expression_of-reshape, expression_of-reduce, reference_of-is, subscript_of-one, subscript_of-part}
use Rattle.meaning.specs.Reads.{names_in}
use Rattle.array_form.specs.forms.Forms.{constructed, form, forms, placed_expression, subscript_form, subscript_forms}
use Rattle.array_form.specs.forms.Loops as loops
use Rattle.array_form.specs.Subscripts.{form_of_subscript, item_form, variable_form}

-- ---- expressions

module _ (a : loops.FormSurroundings) (D : List loops.FormLoop) where
  each_form : (es : List Expression) → forms a D (expressions es) ≡ expressions (map (form a D) es)
  each_form [] = refl
  each_form (e ∷ es) = ap (expression (form a D e)) (each_form es)

  pub form-int : (n : ℤ) → form a D (expression_of (exprs.Int n)) ≡ expression_of (exprs.Int n)
  form-int n = ap (form a D) (expression_of-int n) ∙ sym (expression_of-int n)

  pub form-truth : (b : Bool) → form a D (expression_of (exprs.Truth b)) ≡ expression_of (exprs.Truth b)
  form-truth b = ap (form a D) (expression_of-truth b) ∙ sym (expression_of-truth b)

  pub form-item : (r : Ref) → form a D (expression_of (exprs.Item r)) ≡ item_form a D (loops.loops_among D (names_in (expression_of (exprs.Item r)))) (reference_of r)
  form-item r =
      ap (form a D) (expression_of-item r)
      ∙ ap (λ e. item_form a D (loops.loops_among D (names_in e)) (reference_of r)) (sym (expression_of-item r))

  pub form-un : (o : Op) (x : Box Expr Global) → form a D (expression_of (exprs.Un o x)) ≡ Unary o (form a D (expression_of x.value))
  form-un o x = ap (form a D) (expression_of-un o x)

  pub form-bin : (o : Op) (x y : Box Expr Global) → form a D (expression_of (exprs.Bin o x y)) ≡ Binary o (form a D (expression_of x.value)) (form a D (expression_of y.value))
  form-bin o x y = ap (form a D) (expression_of-bin o x y)

  pub form-call : (f : Fun) (es : Seq Expr) → form a D (expression_of (exprs.Call f es)) ≡ Apply f (expressions (map (form a D) (map expression_of es)))
  form-call f es = ap (form a D) (expression_of-call f es) ∙ ap (Apply f) (each_form (map expression_of es))

  pub form-list : (es : Seq Expr) (ls : Seq Turn) → form a D (expression_of (exprs.List es ls)) ≡ expression_of (exprs.List es ls)
  form-list es ls = ap (form a D) (expression_of-list es ls) ∙ sym (expression_of-list es ls)

  pub form-spread : (x : Box Expr Global) (d : ℕ) (n : Box Expr Global) → form a D (expression_of (exprs.Spread x d n)) ≡ expression_of (exprs.Spread x d n)
  form-spread x d n = ap (form a D) (expression_of-spread x d n) ∙ sym (expression_of-spread x d n)

  pub form-transpose : (x : Box Expr Global) → form a D (expression_of (exprs.Transpose x)) ≡ expression_of (exprs.Transpose x)
  form-transpose x = ap (form a D) (expression_of-transpose x) ∙ sym (expression_of-transpose x)

  pub form-reshape : (x : Box Expr Global) (es : Seq Expr) → form a D (expression_of (exprs.Reshape x es)) ≡ expression_of (exprs.Reshape x es)
  form-reshape x es = ap (form a D) (expression_of-reshape x es) ∙ sym (expression_of-reshape x es)

  pub form-reduce : (r : Red) (x : Box Expr Global) → form a D (expression_of (exprs.Reduce r x)) ≡ expression_of (exprs.Reduce r x)
  form-reduce r x = ap (form a D) (expression_of-reduce r x) ∙ sym (expression_of-reduce r x)

  -- ---- subscripts

  pub each_subscript : (ps : List Subscript) → subscript_forms a D (subscripts ps) ≡ subscripts (map (form_of_subscript a D) ps)
  each_subscript [] = refl
  each_subscript (Only e ∷ ps) = ap (subscript (form_of_subscript a D (Only e))) (each_subscript ps)
  each_subscript (Section b c d ∷ ps) = ap (subscript (Section b c d)) (each_subscript ps)

  pub form_of-one : (e : Expr) → form_of_subscript a D (subscript_of (subs.One e))
      ≡ subscript_form a (loops.loops_among D (names_in (expression_of e))) (expression_of e) (form a (loops.loops_among D (names_in (expression_of e))) (expression_of e))
  form_of-one e = ap (form_of_subscript a D) (subscript_of-one e)

  pub form_of-part : (b c d : Expr) → form_of_subscript a D (subscript_of (subs.Part b c d)) ≡ Section (expression_of b) (expression_of c) (expression_of d)
  form_of-part b c d = ap (form_of_subscript a D) (subscript_of-part b c d)

  -- ---- references

  pub item_bare : (here : List loops.FormLoop) (r : Reference) → here ≡ [] → item_form a D here r ≡ Named r.name r.subscripts
  item_bare here r h = ap (λ ls. item_form a D ls r) h

  whole : (r : Ref) → reference_of r ≡ record { name = (out-Ref r).name; subscripts = subscripts (map subscript_of (out-Ref r).subs) }
  whole r = reference_of-is r

  pub item_variable : (here : List loops.FormLoop) (r : Ref) → (here ≡ [] → ⊥) → (out-Ref r).subs ≡ [] → item_form a D here (reference_of r) ≡ variable_form a D here (reference_of r)
  item_variable [] r h g = absurd (h refl)
  item_variable (l ∷ ls) r h g =
      let is : reference_of r ≡ record { name = (out-Ref r).name; subscripts = no_subscripts } =
      reference_of-is r ∙ ap (λ (ps : List Sub). let q : Reference = record { name = (out-Ref r).name; subscripts = subscripts (map subscript_of ps) } in q) g in
      ap (item_form a D (l ∷ ls)) is ∙ sym (ap (variable_form a D (l ∷ ls)) is)

  pub item_element : (here : List loops.FormLoop) (r : Ref) → (here ≡ [] → ⊥) → ((out-Ref r).subs ≡ [] → ⊥)
      → item_form a D here (reference_of r)
      ≡ cond (loops.one_each D (subscripts (map subscript_of (out-Ref r).subs)))
      (placed_expression a D (loops.loops_in_order D (subscripts (map subscript_of (out-Ref r).subs))) (Named (out-Ref r).name (subscript_forms a D (subscripts (map subscript_of (out-Ref r).subs))))
      (Named (reference_of r).name (reference_of r).subscripts))
      (constructed (loops.form_names_of a) D (Named (reference_of r).name (reference_of r).subscripts))
  item_element [] r h g = absurd (h refl)
  item_element (l ∷ ls) r h g =
      let is = reference_of-is r in
      ap (item_form a D (l ∷ ls)) is ∙ by (out-Ref r).subs g
      ∙ ap (λ (q : Reference). cond (loops.one_each D (subscripts (map subscript_of (out-Ref r).subs)))
      (placed_expression a D (loops.loops_in_order D (subscripts (map subscript_of (out-Ref r).subs))) (Named (out-Ref r).name (subscript_forms a D (subscripts (map subscript_of (out-Ref r).subs)))) (Named q.name q.subscripts))
      (constructed (loops.form_names_of a) D (Named q.name q.subscripts))) (sym is)
    where
      by : (ps : List Sub) → (ps ≡ [] → ⊥)
          → item_form a D (l ∷ ls) (record { name = (out-Ref r).name; subscripts = subscripts (map subscript_of ps) })
          ≡ cond (loops.one_each D (subscripts (map subscript_of ps)))
          (placed_expression a D (loops.loops_in_order D (subscripts (map subscript_of ps))) (Named (out-Ref r).name (subscript_forms a D (subscripts (map subscript_of ps)))) (Named (out-Ref r).name (subscripts (map subscript_of ps))))
          (constructed (loops.form_names_of a) D (Named (out-Ref r).name (subscripts (map subscript_of ps))))
      by [] k = absurd (k refl)
      by (p ∷ ps) k = refl

pub ruleset form_laws = (form-int, form-truth, form-item, form-un, form-bin, form-call, form-list, form-spread, form-transpose, form-reshape, form-reduce, expression_of-un, expression_of-bin, expression_of-call)

pub ruleset subscript_laws = (form_of-one, form_of-part, subscript_of-one, subscript_of-part)

pub ruleset name_laws = (item_bare, item_variable, item_element, expression_of-item)
