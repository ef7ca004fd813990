-- Constructors over loops.
use Rattle.std.proofs.Common.{◌≡◌, pos, List, [], ◌∷◌, map, length, refl, sym, ap, ◌∙◌, arith}
use mathlib.Core.Path.{ap₂}
use Rattle.std.specs.declared.boxed.Box.{Box}
use Rattle.std.specs.declared.alloc.Global.{Global}
use Rattle.tree.specs.Plain.{Expression, Constructor, Reshape, expression, expressions, no_expressions, loop, Number}
use Rattle.tree.specs.View.{expression_of, loop_of, constructor_loops}
use Rattle.tree.specs.declared.exprs.Expr.{Expr}
use Rattle.tree.specs.declared.exprs.Turn.{Turn}
use Rattle.tree.specs.declared.exprs.Expr.TheVariants as exprs
use Rattle.tree.specs.declared.lists.Seq.{Seq}
use Rattle.tree.proofs.Equations.{expression_of-list, expression_of-reshape}
use Rattle.array_form.specs.forms.Forms.{constructed, loops_over, shaped, form_trip_text}
use Rattle.array_form.specs.forms.Loops as forms
use Rattle.array_form.specs.holds.View.{surroundings_view}
use Rattle.array_form.specs.declared.holds.loops.CountedLoop.{CountedLoop}
use Rattle.array_form.specs.declared.holds.loops.Surroundings.{Surroundings}
use Rattle.array_form.specs.Loops.{viewed}
use Rattle.array_form.specs.Texts.{extent_over, turn_over}

module _ (a : Surroundings) where
  turns_viewed : (ls : List CountedLoop) → constructor_loops (map (turn_over a) ls) ≡ loops_over (forms.form_names_of (surroundings_view a)) (viewed a ls)
  turns_viewed [] = refl
  turns_viewed (l ∷ ls) = ap (loop l.var (Number (pos 1)) (extent_over a l)) (turns_viewed ls)

  extents_viewed : (ls : List CountedLoop) → map (extent_over a) ls ≡ map (λ (l : forms.FormLoop). form_trip_text (forms.form_names_of (surroundings_view a)) l.trip) (viewed a ls)
  extents_viewed [] = refl
  extents_viewed (l ∷ ls) = ap (λ es. extent_over a l ∷ es) (extents_viewed ls)

  listed : (ls : List CountedLoop) (e : Expr) (values : Seq Expr) (turns : Seq Turn) → values ≡ e ∷ [] → map loop_of turns ≡ map (turn_over a) ls
      → expression_of (exprs.List values turns) ≡ Constructor (expression (expression_of e) no_expressions) (loops_over (forms.form_names_of (surroundings_view a)) (viewed a ls))
  listed ls e values turns h g =
      expression_of-list values turns
      ∙ ap₂ (λ (es : List Expr) ts. Constructor (expressions (map expression_of es)) (constructor_loops ts)) h g
      ∙ ap (Constructor (expression (expression_of e) no_expressions)) (turns_viewed ls)

  pub over_one : (ls : List CountedLoop) (e : Expr) (values : Seq Expr) (turns : Seq Turn) → values ≡ e ∷ [] → map loop_of turns ≡ map (turn_over a) ls → length ls ≡ 1
      → expression_of (exprs.List values turns) ≡ constructed (forms.form_names_of (surroundings_view a)) (viewed a ls) (expression_of e)
  over_one [] e values turns h g one = absurd (omega arith)
  over_one (l ∷ []) e values turns h g one = listed (l ∷ []) e values turns h g
  over_one (l ∷ m ∷ ls) e values turns h g one = absurd (omega arith)

  pub over_others : (ls : List CountedLoop) (e : Expr) (values : Seq Expr) (turns : Seq Turn) (inner : Box Expr Global) (extents : Seq Expr)
      → values ≡ e ∷ [] → map loop_of turns ≡ map (turn_over a) ls → (length ls ≡ 1 → ⊥) → inner.value ≡ exprs.List values turns → map expression_of extents ≡ map (extent_over a) ls
      → expression_of (exprs.Reshape inner extents) ≡ constructed (forms.form_names_of (surroundings_view a)) (viewed a ls) (expression_of e)
  over_others ls e values turns inner extents h g many is k =
      expression_of-reshape inner extents
      ∙ ap₂ (λ x es. Reshape x (expressions es)) (ap expression_of is ∙ listed ls e values turns h g) (k ∙ extents_viewed ls)
      ∙ sym (shaped_others ls (Constructor (expression (expression_of e) no_expressions) (loops_over (forms.form_names_of (surroundings_view a)) (viewed a ls))) many)
    where
      shaped_others : (ls : List CountedLoop) (x : Expression) → (length ls ≡ 1 → ⊥)
          → shaped (forms.form_names_of (surroundings_view a)) (viewed a ls) x ≡ Reshape x (expressions (map (λ (l : forms.FormLoop). form_trip_text (forms.form_names_of (surroundings_view a)) l.trip) (viewed a ls)))
      shaped_others [] x many = refl
      shaped_others (l ∷ []) x many = absurd (many refl)
      shaped_others (l ∷ m ∷ ls) x many = refl

pub ruleset constructor_laws = (over_one, over_others)
