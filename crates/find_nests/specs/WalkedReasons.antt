-- The first reason that holds of a loop, as walks over its statements find it.
use Rattle.std.specs.Prelude.{ℕ, Option, Some, None, Bool, not, ◌&&◌, ◌||◌, if◌then◌else◌, List, [], ◌∷◌}
use Rattle.tree.specs.Plain.{Statement}
use Rattle.nest_reasons.specs.declared.flaws.Flaw.{Flaw}
use Rattle.nest_reasons.specs.declared.flaws.Flaw.TheVariants as flaws
use Rattle.nest_reasons.specs.Loops.{has_flaw}
use Rattle.nest_reasons.specs.Sizes.{is_large, pieces_in}
use Rattle.nest_reasons.specs.Walks.{any_loop}
use Rattle.find_nests.specs.bound_limits.Walks.{any_leaves}
use Rattle.find_nests.specs.declared.reasons.Reason.{Reason}
use Rattle.find_nests.specs.declared.reasons.Reason.TheVariants.{Exit, InnerIf, Bound, Step, Deep, Large}
use Rattle.find_nests.specs.Reasons.{reasons}

abbrev pub finds_flaw : Flaw → List (List ℕ) → Statement → Bool
finds_flaw f symbols c = any_loop (has_flaw f symbols) [] c

abbrev pub finds : Reason → List (List ℕ) → Statement → Bool
finds Exit symbols c = finds_flaw flaws.Exit symbols c
finds InnerIf symbols c = finds_flaw flaws.InnerIf symbols c
finds Bound symbols c =
    finds_flaw flaws.Bound symbols c || (not (finds_flaw flaws.Step symbols c) && any_leaves symbols [] c)
finds Step symbols c = finds_flaw flaws.Step symbols c
finds Deep symbols c = finds_flaw flaws.Deep symbols c
finds Large symbols c = is_large (pieces_in c)

abbrev pub first_found : List Reason → List (List ℕ) → Statement → Option Reason
first_found [] symbols c = None
first_found (r ∷ rs) symbols c = if finds r symbols c then Some r else first_found rs symbols c

abbrev pub walked_reason : List (List ℕ) → Statement → Option Reason
walked_reason symbols c = first_found reasons symbols c
