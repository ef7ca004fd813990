-- Whether a loop has a flaw, or one in it.
use Rattle.std.specs.Prelude.{ℕ, nat_le, Bool, false, not, ◌&&◌, ◌||◌, is_some, List, length}
use Rattle.tree.specs.Limits.{nest_depth}
use Rattle.tree.specs.Plain.{Expression, Block}
use Rattle.linear_forms.specs.Linear.{form_of}
use Rattle.nest_reasons.specs.declared.flaws.Flaw.{Flaw}
use Rattle.nest_reasons.specs.declared.flaws.Flaw.TheVariants.{Exit, InnerIf, Bound, Step, Deep}
use Rattle.nest_reasons.specs.Flaws.{exits, loop_in_if, jumps_over_loop}
use Rattle.nest_reasons.specs.Increments.{step_of}
use Rattle.nest_reasons.specs.Marks.{marks_in_block}
use Rattle.nest_reasons.specs.Standing.{standing}

-- linear over these symbols and those of the loop variables that stand in it
abbrev pub is_linear : List (List ℕ) → List (List ℕ) → Expression → Bool
is_linear symbols around e = is_some (form_of (standing around e) symbols e)

-- a loop itself, by the variables of the loops round it, its bounds, its increment and its body
abbrev pub has_flaw : Flaw → List (List ℕ) → List (List ℕ) → Expression → Expression → Expression → Block → Bool
has_flaw Exit symbols around first last step body = exits (marks_in_block false body)
has_flaw InnerIf symbols around first last step body =
    loop_in_if (marks_in_block false body) || jumps_over_loop (marks_in_block false body)
has_flaw Bound symbols around first last step body =
    not (is_linear symbols around first && is_linear symbols around last)
has_flaw Step symbols around first last step body = not (is_some (step_of step))
has_flaw Deep symbols around first last step body = nat_le nest_depth (length around)
