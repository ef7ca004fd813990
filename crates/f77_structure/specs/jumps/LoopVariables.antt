-- The DO variables of loops, each with the place at which the last of its loops ends.
use Rattle.std.specs.Prelude.{ℕ, Bool, Option, None, Some, if◌then◌else◌, List, [], ◌∷◌}
use Rattle.std.specs.Str.{bytes_eq}
use Rattle.indexmap.specs.IndexMap.{get}
use Rattle.f77_grammar.specs.Statement77.{Labelled, Statement77, Do}
use Rattle.f77_structure.specs.Openings.{is_from}
use Rattle.f77_names.specs.NameFacts.{facts_in}
use Rattle.f77_structure.specs.declared.jumps.do_variables.LoopVariables.{LoopVariables}
use Rattle.f77_structure.specs.jumps.Misuses.{is_scalar_by}
use Rattle.f77_structure.specs.jumps.Targets.{later}

abbrev pub last_in : LoopVariables → List ℕ → Option ℕ
last_in v x = get bytes_eq v.lasts x

abbrev pub scalar_in : LoopVariables → List ℕ → Bool
scalar_in v x = is_scalar_by (facts_in v.names.now x)

-- a loop with this variable ends at the j-th statement or later
abbrev pub round_at : LoopVariables → ℕ → List ℕ → Bool
round_at v j x = is_from j (last_in v x)

-- the label and the variable of a DO
abbrev pub loop_begun : Statement77 → Option (ℕ × List ℕ)
loop_begun (Do (Some n) x a b c) = Some (n, x)
loop_begun _ = None

-- where this loop ends, if it has the variable x; `ends` gives the place of the last statement with a label
abbrev pub end_with : (ℕ → Option ℕ) → Option (ℕ × List ℕ) → List ℕ → Option ℕ
end_with ends None x = None
end_with ends (Some d) x = if bytes_eq x d.1 then ends d.0 else None

-- the last such place, behind statements that stand with the nearest first
abbrev pub last_of : (ℕ → Option ℕ) → List Labelled → List ℕ → Option ℕ
last_of ends [] x = None
last_of ends (s ∷ ss) x = later (last_of ends ss x) (end_with ends (loop_begun s.statement) x)
