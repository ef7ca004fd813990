-- The parts that give the variable of a loop its last value in place, before the loop and behind it.
use Rattle.std.specs.Prelude.{ℕ, if◌then◌else◌, List, [], ◌∷◌}
use Rattle.tree.specs.Plain.{Expression}
use Rattle.nest.specs.Plain.{Part, Choice, no_parts, parts, branch, no_branches}
use Rattle.last_values.specs.declared.normal_forms.loops.NormalLoop.{NormalLoop}
use Rattle.last_values.specs.normal_forms.NormalLoops.{is_positive, is_known}
use Rattle.last_values.specs.normal_forms.Texts.{at_least_one}
use Rattle.last_values.specs.InPlace.{assigned_part, end_part, first_text, own_trip_text}

-- an IF without an ELSE part
abbrev pub only_where_part : Expression → List Part → Part
only_where_part test ps = Choice (branch test (parts ps) no_branches) no_parts

-- before the loop
unfoldable pub parts_before : List (List ℕ) → ℕ → List NormalLoop → NormalLoop → List Part
parts_before symbols line round r =
    if is_positive r.trip then [] else assigned_part line r.variable (first_text symbols round r) ∷ []

-- and behind it
unfoldable pub parts_behind : List (List ℕ) → ℕ → List NormalLoop → NormalLoop → List Part
parts_behind symbols line round r =
    if is_positive r.trip then end_part symbols line round r ∷ []
    else if is_known r.trip then []
    else only_where_part (at_least_one (own_trip_text symbols round r)) (end_part symbols line round r ∷ []) ∷ []
