-- How a run that is cut at a limit of steps stands to the whole run.
use Rattle.std.specs.Prelude.{◌≡◌, ◌≢◌, Option, Some, None, ℕ, ◌≤◌, ◌<◌, List, ◌++◌}
use Rattle.tree.specs.Plain.{Program}
use Rattle.meaning.specs.Run.{State, Cut, run}
use Rattle.meaning.specs.Dialect.{Dialect}

-- the late moment comes after the early one: more is written, less of the input is left, more steps are done
pub record IsFrontOf (early late : State) : Type 0 where
  pub written : (more : List ℕ) × (late.written ≡ early.written ++ more)
  pub input : (taken : List ℕ) × (early.input ≡ taken ++ late.input)
  pub steps : early.steps ≤ late.steps

-- a run that was cut after n steps, in the midst of the whole run
pub record IsCutAfter (n : ℕ) (part whole : State) : Type 0 where
  pub way : part.way ≡ Cut
  pub steps : part.steps ≡ n
  pub front : IsFrontOf part whole

abbrev pub IsAtMost : ℕ → Option ℕ → Type 0
IsAtMost n None = Unit {0}
IsAtMost n (Some m) = n ≤ m

-- The run cut at n, beside the run with a greater limit or none. Within n steps they are one state, store and all
pub record CutsRun (n : ℕ) (part whole : State) : Type 0 where
  pub within : whole.steps ≤ n → part ≡ whole
  pub beyond : n < whole.steps → IsCutAfter n part whole

abbrev pub CutRunIsFront : Type 0
CutRunIsFront = (lang : Dialect) (n : ℕ) (limit : Option ℕ) (p : Program) (input : List ℕ)
    → IsAtMost n limit → CutsRun n (run lang (Some n) p input) (run lang limit p input)

-- a run with a limit takes no more steps than that, and a run without a limit is never cut
abbrev pub LimitHolds : Type 0
LimitHolds = (lang : Dialect) (n : ℕ) (p : Program) (input : List ℕ) → (run lang (Some n) p input).steps ≤ n

abbrev pub WholeRunIsNotCut : Type 0
WholeRunIsNotCut = (lang : Dialect) (p : Program) (input : List ℕ) → (run lang None p input).way ≢ Cut
