-- How a loop begins.
use Rattle.std.specs.Prelude.{Result, Ok, Err, Option, ℕ, ℤ, pos, ◌+ℤ◌, if◌then◌else◌, List}
use Rattle.std.specs.Ordering.{int_eq}
use Rattle.tree.specs.Steps.{◌>>=◌}
use Rattle.tree.specs.Operators.{as_number}
use Rattle.tree.specs.Plain.{Expression}
use Rattle.tree.specs.declared.ops.Value.{Value}
use Rattle.tree.specs.declared.ops.Fault.{Fault}
use Rattle.tree.specs.declared.ops.Fault.TheVariants.{ZeroStep}
use Rattle.meaning.specs.Dialect.{Dialect}
use Rattle.meaning.specs.Value.{exact}
use Rattle.meaning.specs.Run.{loops, repeated, turn}
use Rattle.machine.specs.declared.steps.Turns.{Turns}
use Rattle.machine.specs.declared.progress.Halt.{Halt}
use Rattle.machine.specs.declared.progress.Left.{Left}
use Rattle.machine.specs.declared.progress.Left.TheVariants.{Halted}
use Rattle.machine.specs.Moments.{Seen}
use Rattle.machine.specs.Acts.{LimitedAct, Runs}

abbrev pub increased : Value → ℤ → Result ℤ Fault
increased v m3 = do
  z ← as_number v
  exact (z +ℤ m3)

abbrev pub nonzero : ℤ → Result ℤ Fault
nonzero z = if int_eq z (pos 0) then Err ZeroStep else Ok z

module _ (lang : Dialect) (line : ℕ) (x : List ℕ) (first last step : Expression) (old new : Seen) where
  -- what its turns do then is what the loop does
  abbrev pub GoesOn : Turns → Type 0
  GoesOn t = (body : LimitedAct) (input : List ℕ) (before now : Option (List ℕ)) (end : Seen)
      (r : Result (Unit {0}) Left)
      → Runs (λ limit. repeated t.count (turn lang limit line x t.step (body limit))) input new before end now r
      → Runs (λ limit. loops lang limit line x first last step (body limit)) input old before end now r

  -- its parameters, its variable or its number of turns have a fault
  abbrev pub HasFault : Halt → Type 0
  HasFault h = (body : LimitedAct) (input : List ℕ) (bytes : Option (List ℕ))
      → Runs (λ limit. loops lang limit line x first last step (body limit)) input old bytes new bytes (Err (Halted h))

  unfoldable pub BeginsLoop : Result Turns Halt → Type 0
  BeginsLoop (Ok t) = GoesOn t
  BeginsLoop (Err h) = HasFault h
