-- Whether a loop leaves the limits once the variables of the loops round it are replaced.
use Rattle.std.specs.Prelude.{ℕ, ◌+◌, ℤ, pos, Option, Some, None, Bool, true, not, List, length}
use Rattle.tree.specs.Plain.{Expression}
use Rattle.linear_forms.specs.Linear.{Form, constant_form}
use Rattle.nest_reasons.specs.Increments.{step_of}
use Rattle.find_nests.specs.bound_limits.Composed.{Outer, composed_bound}
use Rattle.find_nests.specs.bound_limits.Limits.{normal, all_keep_limits}

-- a bound without a linear form, and an increment that isn't suitable, leave the limits
abbrev pub leaves_with : ℕ → Option ℤ → Option Form → Option Form → Bool
leaves_with n (Some step) (Some first) (Some last) = not (all_keep_limits n step first last)
leaves_with n (Some step) (Some first) None = true
leaves_with n (Some step) None last = true
leaves_with n None first last = true

-- over these symbols, in the iterations of the loops round it
abbrev pub leaves_limits : List (List ℕ) → List Outer → Expression → Expression → Expression → Bool
leaves_limits symbols around first last step =
    leaves_with (length symbols) (step_of step) (composed_bound symbols around first)
    (composed_bound symbols around last)

abbrev pub normal_or_zero : ℕ → Option ℤ → Option Form → Form
normal_or_zero place (Some step) (Some first) = normal place step first
normal_or_zero place (Some step) None = constant_form (pos 0)
normal_or_zero place None first = constant_form (pos 0)

-- a loop as one round those in it, where it keeps the limits
abbrev pub as_outer : List (List ℕ) → List Outer → List ℕ → Expression → Expression → Outer
as_outer symbols around x first step = record {
  variable = x;
  form = normal_or_zero (length symbols + length around) (step_of step) (composed_bound symbols around first);
}
