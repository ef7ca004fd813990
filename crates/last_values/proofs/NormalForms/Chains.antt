-- The forms of a loop, step by step.
use Rattle.std.proofs.Common.{◌≡◌, sym, ap, ◌∙◌, subst, ℕ, pos, negsuc, List, [], ◌∷◌, length, Option, Some, None, Result, IfOk}
use Rattle.tree.specs.declared.lists.Memory.{Memory}
use Rattle.nest.specs.Plain.{Loop}
use Rattle.subscripts.specs.declared.affine.Affine.{Affine}
use Rattle.last_values.specs.declared.normal_forms.loops.NormalLoop.{NormalLoop}
use Rattle.last_values.specs.normal_forms.Steps.{◌>>=◌}
use Rattle.last_values.specs.normal_forms.Combinations.{times}
use Rattle.last_values.specs.normal_forms.NormalLoops.{bound_form, loop_form, plus_multiple, forms_by_trip, forms_by_first}

module _ (symbols : List (List ℕ)) (round : List NormalLoop) (l : Loop) (first below value top : Affine) where
  steps : plus_multiple (length symbols) below l.step (loop_form (length round)) ≡ Some value
      → bound_form symbols round l.last (times (negsuc 0) below ∷ []) ≡ Some top
      → forms_by_trip symbols l first below value top ≡ forms_by_first symbols round l first below
  unfolding forms_by_first
  steps e f =
      sym (ap (λ o. o >>= λ v. bound_form symbols round l.last (times (negsuc 0) below ∷ []) >>= λ t. forms_by_trip symbols l first below v t) e
      ∙ ap (λ o. o >>= λ t. forms_by_trip symbols l first below value t) f)

  pub by_first : (r : Result (Option NormalLoop) Memory) → plus_multiple (length symbols) below l.step (loop_form (length round)) ≡ Some value
      → bound_form symbols round l.last (times (negsuc 0) below ∷ []) ≡ Some top
      → IfOk r (λ normal. normal ≡ forms_by_trip symbols l first below value top) → IfOk r (λ normal. normal ≡ forms_by_first symbols round l first below)
  by_first r e f h = subst (λ o. IfOk r (λ normal. normal ≡ o)) (steps e f) h
