-- References over some of the loops.
use Rattle.std.proofs.Common.{◌≡◌, ℕ, ◌+◌, Bool, true, false, ◌&&◌, cond, List, ◌∷◌, length, sym, ap, ◌∙◌}
use mathlib.Core.Path.{ap₂}
use Rattle.std.specs.Cmp.Lexicographic.{pointwise}
use Rattle.std.specs.Str.{bytes_eq}
use Rattle.std.proofs.Common.{Result, Ok, Err}
use Rattle.std.specs.Prelude.{IfOk}
use Rattle.tree.specs.Plain.{Expression, Named, Reference, Spread, Transpose}
use Rattle.tree.specs.View.{expression_of, reference_of}
use Rattle.tree.specs.declared.exprs.Expr.TheVariants as exprs
use Rattle.tree.specs.declared.exprs.Ref.{Ref}
use Rattle.tree.proofs.Equations.{expression_of-item}
use Rattle.tree.specs.declared.exprs.Expr.{Expr}
use Rattle.tree.specs.declared.lists.Memory.{Memory}
use Rattle.array_form.specs.forms.Forms.{constructed, placed_expression, spread_over}
use Rattle.array_form.specs.forms.Loops as forms
use Rattle.array_form.specs.holds.View.{loop_names, surroundings_view}
use Rattle.array_form.specs.declared.holds.loops.CountedLoop.{CountedLoop}
use Rattle.array_form.specs.declared.holds.loops.Surroundings.{Surroundings}
use Rattle.array_form.proofs.holds.TripLaws.{names_viewed}
use Rattle.array_form.specs.Loops.{has_parts, is_exchanged, viewed}
use Rattle.array_form.specs.Texts.{extent_over}
use Rattle.array_form.proofs.LoopLaws.{exchange_viewed, part_viewed, same_viewed}

module _ (a : Surroundings) where
  pub spread_step : (here over rest : List CountedLoop) (first : CountedLoop) (k : ℕ) (e wider whole : Expression) → over ≡ first ∷ rest
      → wider ≡ cond (forms.is_among (loop_names here) first.var) e (Spread e k (extent_over a first))
      → whole ≡ spread_over (forms.form_names_of (surroundings_view a)) (viewed a here) (k + 1) (viewed a rest) wider
      → whole ≡ spread_over (forms.form_names_of (surroundings_view a)) (viewed a here) k (viewed a over) e
  spread_step here over rest first k e wider whole h g is =
      is
      ∙ ap (spread_over (forms.form_names_of (surroundings_view a)) (viewed a here) (k + 1) (viewed a rest))
      (g ∙ ap (λ xs. cond (forms.is_among xs first.var) e (Spread e k (extent_over a first))) (sym (names_viewed (length a.loops) here)))
      ∙ ap (λ ls. spread_over (forms.form_names_of (surroundings_view a)) (viewed a here) k (viewed a ls) e) (sym h)

  pub placed_is : (over here : List CountedLoop) (plain whole : Expression) → placed_expression (surroundings_view a) (viewed a over) (viewed a here) plain whole
      ≡ cond (pointwise bytes_eq (loop_names over) (loop_names here)) plain
      (cond (a.may_spread && has_parts over here) (spread_over (forms.form_names_of (surroundings_view a)) (viewed a here) 1 (viewed a over) plain)
      (cond (is_exchanged over here) (Transpose plain) (constructed (forms.form_names_of (surroundings_view a)) (viewed a over) whole)))
  placed_is over here plain whole =
      let n = length a.loops in
      let wide = spread_over (forms.form_names_of (surroundings_view a)) (viewed a here) 1 (viewed a over) plain in
      let made = constructed (forms.form_names_of (surroundings_view a)) (viewed a over) whole in
      ap (λ b. cond b plain (cond (a.may_spread && forms.is_part_of (viewed a over) (viewed a here)) wide (cond (forms.is_exchange_of (viewed a over) (viewed a here)) (Transpose plain) made))) (same_viewed n over here)
      ∙ ap₂ (λ b c. cond (pointwise bytes_eq (loop_names over) (loop_names here)) plain (cond (a.may_spread && b) wide (cond c (Transpose plain) made))) (part_viewed n over here) (exchange_viewed n over here)

pub ruleset spread_laws = (spread_step)

pub ruleset placing_laws = (placed_is)

pub spread_ok : (a : Surroundings) (here over rest : List CountedLoop) (first : CountedLoop) (k : ℕ) (e : Expression) (wider : Expr) (o : Result Expr Memory) → over ≡ first ∷ rest
    → expression_of wider ≡ cond (forms.is_among (loop_names here) first.var) e (Spread e k (extent_over a first))
    → IfOk o (λ x. expression_of x ≡ spread_over (forms.form_names_of (surroundings_view a)) (viewed a here) (k + 1) (viewed a rest) (expression_of wider))
    → IfOk o (λ x. expression_of x ≡ spread_over (forms.form_names_of (surroundings_view a)) (viewed a here) k (viewed a over) e)
spread_ok a here over rest first k e wider (Ok x) h g is = spread_step a here over rest first k e (expression_of wider) (expression_of x) h g is
spread_ok a here over rest first k e wider (Err m) h g is = is

-- ---- what is answered

module _ (a : Surroundings) (over here : List CountedLoop) (r w x : Bool) (same : r ≡ pointwise bytes_eq (loop_names over) (loop_names here)) (not_same : r ≡ false)
    (wide : w ≡ (a.may_spread && has_parts over here)) (not_wide : w ≡ false) (turned : x ≡ is_exchanged over here) where
  rest_is : (plain whole : Expression) → placed_expression (surroundings_view a) (viewed a over) (viewed a here) plain whole
      ≡ cond x (Transpose plain) (constructed (forms.form_names_of (surroundings_view a)) (viewed a over) whole)
  rest_is plain whole =
      let wider = spread_over (forms.form_names_of (surroundings_view a)) (viewed a here) 1 (viewed a over) plain in
      let made = constructed (forms.form_names_of (surroundings_view a)) (viewed a over) whole in
      placed_is a over here plain whole
      ∙ ap (λ b. cond b plain (cond (a.may_spread && has_parts over here) wider (cond (is_exchanged over here) (Transpose plain) made))) (sym same ∙ not_same)
      ∙ ap (λ b. cond b wider (cond (is_exchanged over here) (Transpose plain) made)) (sym wide ∙ not_wide)
      ∙ ap (λ b. cond b (Transpose plain) made) (sym turned)

  pub turned_is : (plain whole : Expression) → x ≡ true → Transpose plain ≡ placed_expression (surroundings_view a) (viewed a over) (viewed a here) plain whole
  turned_is plain whole t = sym (rest_is plain whole ∙ ap (λ b. cond b (Transpose plain) (constructed (forms.form_names_of (surroundings_view a)) (viewed a over) whole)) t)

  pub last_ok : (plain : Expression) (copy item : Ref) (o : Result Expr Memory) → x ≡ false → reference_of copy ≡ reference_of item
      → IfOk o (λ e. expression_of e ≡ constructed (forms.form_names_of (surroundings_view a)) (viewed a over) (expression_of (exprs.Item copy)))
      → IfOk o (λ e. expression_of e ≡ placed_expression (surroundings_view a) (viewed a over) (viewed a here) plain (Named (reference_of item).name (reference_of item).subscripts))
  last_ok plain copy item (Ok e) f c is =
      is ∙ ap (constructed (forms.form_names_of (surroundings_view a)) (viewed a over)) (expression_of-item copy ∙ ap (λ (q : Reference). Named q.name q.subscripts) c)
      ∙ sym (rest_is plain (Named (reference_of item).name (reference_of item).subscripts)
      ∙ ap (λ b. cond b (Transpose plain) (constructed (forms.form_names_of (surroundings_view a)) (viewed a over) (Named (reference_of item).name (reference_of item).subscripts))) f)
  last_ok plain copy item (Err m) f c is = is
