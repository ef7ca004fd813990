-- Jumps, and the labels where they end.
use Rattle.std.specs.Prelude.{Result, Ok, Err, Option, Some, None, ℕ, ◌==◌, if◌then◌else◌}
use Rattle.tree.specs.Plain.{Statement, Assignment, Where, If, Do, Label, GoTo, Stop, Read, Print, Allocate, Deallocate}
use Rattle.meaning.specs.Run.{Way, Going, Jumping}
use Rattle.machine.specs.declared.progress.Halt.{Halt}
use Rattle.machine.specs.declared.progress.Halt.TheVariants.{Jump, Stop as Stop', Fault, Limit}
use Rattle.machine.specs.declared.progress.Left.{Left}
use Rattle.machine.specs.declared.progress.Left.TheVariants.{Halted, Unwritten}

-- the way of a run that jumps to this label, or goes on
abbrev pub way_at : Option ℕ → Way
way_at None = Going
way_at (Some n) = Jumping n

-- what is left of a jump to the second label, at the first one
abbrev pub arrived : ℕ → ℕ → Option ℕ
arrived n m = if m == n then None else Some m

-- what is left of a jump to a label, behind a statement
abbrev pub passed : Statement → ℕ → Option ℕ
passed (Label n) m = arrived n m
passed (Assignment line mark left right) m = Some m
passed (Where line mark mask left right) m = Some m
passed (If line as' other) m = Some m
passed (Do line x a b c body) m = Some m
passed (GoTo line n) m = Some m
passed (Stop line) m = Some m
passed (Read line is) m = Some m
passed (Print line is) m = Some m
passed (Allocate line x es) m = Some m
passed (Deallocate line x) m = Some m

-- a block goes on at the label of a jump
abbrev pub caught : Halt → Result (Option ℕ) Left
caught (Jump n) = Ok (Some n)
caught Stop' = Err (Halted Stop')
caught (Fault f line) = Err (Halted (Fault f line))
caught Limit = Err (Halted Limit)

abbrev pub landed : Result (Unit {0}) Left → Result (Option ℕ) Left
landed (Ok x) = Ok None
landed (Err (Halted h)) = caught h
landed (Err Unwritten) = Err Unwritten
