-- Conditions on trips.
use Rattle.std.proofs.Common.{◌≡◌, Bool, true, false, cond, List, ◌∷◌, length, Option, pos, sym, ap, ◌∙◌}
use Rattle.std.proofs.Common.{Result, Ok, Err}
use Rattle.std.specs.Prelude.{IfOk}
use Rattle.std.specs.Option.{option_map}
use Rattle.tree.specs.Plain.{Binary, Expression, Number}
use Rattle.tree.specs.View.{expression_of}
use Rattle.tree.specs.declared.exprs.Expr.{Expr}
use Rattle.tree.specs.declared.lists.Memory.{Memory}
use Rattle.tree.specs.declared.ops.Op.TheVariants.{Ge}
use Rattle.array_form.specs.forms.Loops as forms
use Rattle.array_form.specs.forms.Statements.{form_tests_of}
use Rattle.array_form.specs.holds.Surroundings.{form_trip_of}
use Rattle.array_form.specs.holds.View.{surroundings_view}
use Rattle.array_form.specs.declared.holds.loops.CountedLoop.{CountedLoop}
use Rattle.array_form.specs.declared.holds.loops.Surroundings.{Surroundings}
use Rattle.array_form.specs.Loops.{viewed}
use Rattle.array_form.specs.Texts.{and_also, extent_over, with_tests}

module _ (a : Surroundings) where
  abbrev tests : List CountedLoop → List Expression
  tests ls = form_tests_of (forms.form_names_of (surroundings_view a)) (viewed a ls)

  pub passed_over : (o p : Option Expression) (ls rest : List CountedLoop) (first : CountedLoop) (b : Bool) → ls ≡ first ∷ rest
      → b ≡ forms.is_positive_constant (form_trip_of (length a.loops) first.trip) → b ≡ true
      → p ≡ with_tests o (form_tests_of (forms.form_names_of (surroundings_view a)) (viewed a rest)) → p ≡ with_tests o (form_tests_of (forms.form_names_of (surroundings_view a)) (viewed a ls))
  passed_over o p ls rest first b h is t g =
      g ∙ ap (λ c. with_tests o (cond c (tests rest) (Binary Ge (extent_over a first) (Number (pos 1)) ∷ tests rest))) (sym t ∙ is)
      ∙ ap (λ ms. with_tests o (tests ms)) (sym h)

  pub joined : (o p q : Option Expression) (ls rest : List CountedLoop) (first : CountedLoop) (b : Bool) (e : Expression) → ls ≡ first ∷ rest
      → b ≡ forms.is_positive_constant (form_trip_of (length a.loops) first.trip) → b ≡ false
      → e ≡ Binary Ge (extent_over a first) (Number (pos 1)) → q ≡ and_also o e
      → p ≡ with_tests q (form_tests_of (forms.form_names_of (surroundings_view a)) (viewed a rest)) → p ≡ with_tests o (form_tests_of (forms.form_names_of (surroundings_view a)) (viewed a ls))
  joined o p q ls rest first b e h is f test also g =
      g ∙ ap (λ r. with_tests r (tests rest)) (also ∙ ap (and_also o) test)
      ∙ ap (λ c. with_tests o (cond c (tests rest) (Binary Ge (extent_over a first) (Number (pos 1)) ∷ tests rest))) (sym f ∙ is)
      ∙ ap (λ ms. with_tests o (tests ms)) (sym h)

pub ruleset condition_laws = (passed_over, joined)

-- ---- what is answered

pub passed_ok : (a : Surroundings) (o : Option Expression) (ls rest : List CountedLoop) (first : CountedLoop) (b : Bool) (r : Result (Option Expr) Memory) → ls ≡ first ∷ rest
    → b ≡ forms.is_positive_constant (form_trip_of (length a.loops) first.trip) → b ≡ true
    → IfOk r (λ p. option_map expression_of p ≡ with_tests o (form_tests_of (forms.form_names_of (surroundings_view a)) (viewed a rest)))
    → IfOk r (λ p. option_map expression_of p ≡ with_tests o (form_tests_of (forms.form_names_of (surroundings_view a)) (viewed a ls)))
passed_ok a o ls rest first b (Ok p) h is t g = passed_over a o (option_map expression_of p) ls rest first b h is t g
passed_ok a o ls rest first b (Err m) h is t g = g

pub joined_ok : (a : Surroundings) (o q : Option Expression) (ls rest : List CountedLoop) (first : CountedLoop) (b : Bool) (e : Expression) (r : Result (Option Expr) Memory) → ls ≡ first ∷ rest
    → b ≡ forms.is_positive_constant (form_trip_of (length a.loops) first.trip) → b ≡ false
    → e ≡ Binary Ge (extent_over a first) (Number (pos 1)) → q ≡ and_also o e
    → IfOk r (λ p. option_map expression_of p ≡ with_tests q (form_tests_of (forms.form_names_of (surroundings_view a)) (viewed a rest)))
    → IfOk r (λ p. option_map expression_of p ≡ with_tests o (form_tests_of (forms.form_names_of (surroundings_view a)) (viewed a ls)))
joined_ok a o q ls rest first b e (Ok p) h is f test also g = joined a o (option_map expression_of p) q ls rest first b e h is f test also g
joined_ok a o q ls rest first b e (Err m) h is f test also g = g
