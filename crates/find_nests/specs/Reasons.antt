-- Why a loop is no nest.
use Rattle.std.specs.Prelude.{ℕ, Option, Some, None, Bool, not, ◌&&◌, ◌||◌, if◌then◌else◌, List, [], ◌∷◌, ◌++◌, map}
use Rattle.std.specs.List.{list_any}
use Rattle.tree.specs.Plain.{Statement}
use Rattle.nest_reasons.specs.declared.flaws.Flaw.{Flaw}
use Rattle.nest_reasons.specs.declared.flaws.Flaw.TheVariants as flaws
use Rattle.nest_reasons.specs.Loops.{has_flaw}
use Rattle.nest_reasons.specs.Sizes.{is_large, pieces_in}
use Rattle.find_nests.specs.Loops.{SurroundedLoop, SourceLoop, loops_in}
use Rattle.find_nests.specs.bound_limits.Composed.{Outer}
use Rattle.find_nests.specs.bound_limits.Loops.{as_outer, leaves_limits}
use Rattle.find_nests.specs.declared.reasons.Reason.{Reason}
use Rattle.find_nests.specs.declared.reasons.Reason.TheVariants.{Exit, InnerIf, Bound, Step, Deep, Large}

abbrev pub source_variables_of : List SourceLoop → List (List ℕ)
source_variables_of ls = map (λ (l : SourceLoop). l.variable) ls

-- over these symbols, a loop with the loops round it has the flaw
abbrev pub is_flawed : Flaw → List (List ℕ) → SurroundedLoop → Bool
is_flawed f symbols p =
    let l = p.loop.loop in has_flaw f symbols (source_variables_of p.around) l.first l.last l.step l.body

-- one of the loops of a statement has it
abbrev pub has_flawed : Flaw → List (List ℕ) → Statement → Bool
has_flawed f symbols c = list_any (is_flawed f symbols) (loops_in 0 [] c)

-- what stands for the variables of these loops, the first of which stand round the others
abbrev pub outers : List (List ℕ) → List Outer → List SourceLoop → List Outer
outers symbols around [] = around
outers symbols around (l ∷ ls) =
    outers symbols (around ++ as_outer symbols around l.variable l.first l.step ∷ []) ls

-- a loop leaves the limits, once the variables of the loops round it are replaced
abbrev pub loop_leaves_limits : List (List ℕ) → SurroundedLoop → Bool
loop_leaves_limits symbols p =
    let l = p.loop.loop in leaves_limits symbols (outers symbols [] p.around) l.first l.last l.step

-- Forms are looked at only where each increment is suitable
abbrev pub has_reason : Reason → List (List ℕ) → Statement → Bool
has_reason Exit symbols c = has_flawed flaws.Exit symbols c
has_reason InnerIf symbols c = has_flawed flaws.InnerIf symbols c
has_reason Bound symbols c =
    has_flawed flaws.Bound symbols c
    || (not (has_flawed flaws.Step symbols c) && list_any (loop_leaves_limits symbols) (loops_in 0 [] c))
has_reason Step symbols c = has_flawed flaws.Step symbols c
has_reason Deep symbols c = has_flawed flaws.Deep symbols c
has_reason Large symbols c = is_large (pieces_in c)

abbrev pub first_that_holds : List Reason → List (List ℕ) → Statement → Option Reason
first_that_holds [] symbols c = None
first_that_holds (r ∷ rs) symbols c = if has_reason r symbols c then Some r else first_that_holds rs symbols c

-- in this order
abbrev pub reasons : List Reason
reasons = Exit ∷ InnerIf ∷ Bound ∷ Step ∷ Deep ∷ Large ∷ []

abbrev pub reason_over : List (List ℕ) → Statement → Option Reason
reason_over symbols c = first_that_holds reasons symbols c
