-- Statements, as the machine does them.
use Rattle.std.specs.Prelude.{Result, Ok, Err, Option, Some, None, ℕ, Bool, true, false, List}
use Rattle.tree.specs.Plain.{Arms}
use Rattle.meaning.specs.Dialect.{fortran90}
use Rattle.tree.specs.declared.width.Width.{Width}
use Rattle.meaning.specs.Run.{chooses}
use Rattle.machine.specs.declared.progress.Halt.{Halt}
use Rattle.machine.specs.declared.progress.Halt.TheVariants.{Jump, Stop, Fault, Limit}
use Rattle.machine.specs.declared.progress.Left.{Left as Left'}
use Rattle.machine.specs.declared.progress.Left.TheVariants.{Halted, Unwritten}
use Rattle.machine.specs.Moments.{Seen}
use Rattle.machine.specs.Acts.{LimitedAct, Runs}
use Rattle.machine.proofs.ActLaws.{Extends}
use Rattle.array_expressions.specs.declared.assignments.causes.Stuck.{Stuck}
use Rattle.array_expressions.specs.declared.transfers.unfinished.Unfinished.{Unfinished}
use Rattle.array_expressions.specs.declared.transfers.unfinished.Unfinished.TheVariants.{Left, Memory}
use Rattle.array_expressions.specs.transfers.Unfinished.{unfinished_by, left_at}

abbrev pub unfinished : {A : Type 0} → Result A Stuck → Result A Unfinished
unfinished (Ok x) = Ok x
unfinished (Err e) = Err (unfinished_by e)

-- a block goes on at the label of a jump
abbrev pub caught : Halt → Result (Option ℕ) Unfinished
caught (Jump n) = Ok (Some n)
caught Stop = Err (Left (Halted Stop))
caught (Fault f line) = Err (Left (Halted (Fault f line)))
caught Limit = Err (Left (Halted Limit))

abbrev pub landed : Result (Unit {0}) Unfinished → Result (Option ℕ) Unfinished
landed (Ok x) = Ok None
landed (Err (Left (Halted h))) = caught h
landed (Err (Left Unwritten)) = Err (Left Unwritten)
landed (Err Memory) = Err Memory

-- The arms were gone through, whatever the ELSE part does: one was done; none, so that the ELSE part goes on from here;
-- or the run was left, or there was no memory
module _ (width : Width) (line : ℕ) (as' : Arms) (input : List ℕ) (old : Seen) (before : Option (List ℕ)) (new : Seen)
    (now : Option (List ℕ)) where
  unfoldable pub Chooses : Result Bool Unfinished → Type 0
  Chooses (Ok true) = (other : LimitedAct)
      → Runs (λ limit. chooses (fortran90 width) limit line as' (other limit)) input old before new now (Ok tt)
  Chooses (Ok false) = (other : LimitedAct) (end : Seen) (after : Option (List ℕ)) (r : Result (Unit {0}) Left')
      → Runs other input new now end after r
      → Runs (λ limit. chooses (fortran90 width) limit line as' (other limit)) input old before end after r
  Chooses (Err e) = (other : LimitedAct) → Extends other
      → Runs (λ limit. chooses (fortran90 width) limit line as' (other limit)) input old before new now (Err
      (left_at e))
