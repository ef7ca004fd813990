-- Why statements aren't done to their end.
use Rattle.std.specs.Prelude.{Result, Ok, Err}
use Rattle.machine.specs.declared.progress.Left.{Left}
use Rattle.machine.specs.declared.progress.Left.TheVariants as left
use Rattle.array_expressions.specs.declared.assignments.causes.Stuck.{Stuck}
use Rattle.array_expressions.specs.declared.assignments.causes.Stuck.TheVariants as stuck
use Rattle.array_expressions.specs.declared.transfers.unfinished.Unfinished.{Unfinished}
use Rattle.array_expressions.specs.declared.transfers.unfinished.Unfinished.TheVariants.{Left as Left', Memory}

abbrev pub unfinished_by : Stuck → Unfinished
unfinished_by (stuck.Halted h) = Left' (left.Halted h)
unfinished_by stuck.Memory = Memory

-- where there was no memory a run is left as it is where a write failed
abbrev pub left_at : Unfinished → Left
left_at (Left' l) = l
left_at Memory = left.Unwritten

abbrev pub ended_by : {A : Type 0} → Result A Unfinished → Result A Left
ended_by (Ok x) = Ok x
ended_by (Err e) = Err (left_at e)
