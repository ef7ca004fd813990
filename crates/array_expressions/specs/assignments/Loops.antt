-- How a loop begins.
use Rattle.std.specs.Prelude.{Result, Ok, Err, Option, ℕ, List}
use Rattle.tree.specs.Plain.{Expression}
use Rattle.meaning.specs.Dialect.{fortran90}
use Rattle.tree.specs.declared.width.Width.{Width}
use Rattle.meaning.specs.Run.{loops}
use Rattle.machine.specs.declared.steps.Turns.{Turns}
use Rattle.machine.specs.declared.progress.Left.TheVariants.{Unwritten}
use Rattle.machine.specs.Moments.{Seen}
use Rattle.machine.specs.Loops.{GoesOn, HasFault}
use Rattle.machine.specs.Acts.{LimitedAct, Runs}
use Rattle.machine.proofs.ActLaws.{Extends}
use Rattle.array_expressions.specs.declared.assignments.causes.Stuck.{Stuck}
use Rattle.array_expressions.specs.declared.assignments.causes.Stuck.TheVariants.{Halted, Memory}

module _ (width : Width) (line : ℕ) (x : List ℕ) (first last step : Expression) (old new : Seen) where
  -- there was no memory for its parameters
  abbrev pub IsLeft : Type 0
  IsLeft = (body : LimitedAct) (input : List ℕ) (bytes : Option (List ℕ)) → Extends body
      → Runs (λ limit. loops (fortran90 width) limit line x first last step (body limit)) input old bytes new bytes
      (Err Unwritten)

  unfoldable pub BeginsLoop : Result Turns Stuck → Type 0
  BeginsLoop (Ok t) = GoesOn (fortran90 width) line x first last step old new t
  BeginsLoop (Err (Halted h)) = HasFault (fortran90 width) line x first last step old new h
  BeginsLoop (Err Memory) = IsLeft
