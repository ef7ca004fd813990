-- What an act does where there may be no memory.
use Rattle.std.specs.Prelude.{◌≡◌, Result, Ok, Err, Option, ℕ, List}
use Rattle.tree.specs.declared.ops.Fault.{Fault}
use Rattle.machine.specs.declared.progress.Halt.TheVariants as halt
use Rattle.machine.specs.declared.progress.Left.{Left}
use Rattle.machine.specs.declared.progress.Left.TheVariants as left
use Rattle.machine.specs.Moments.{Seen, located}
use Rattle.machine.specs.Acts.{LimitedAct, Runs}
use Rattle.array_values.specs.declared.failure.Failure.{Failure}
use Rattle.array_values.specs.declared.failure.Failure.TheVariants as failure
use Rattle.array_expressions.specs.declared.assignments.causes.Stuck.{Stuck}
use Rattle.array_expressions.specs.declared.assignments.causes.Stuck.TheVariants.{Halted, Memory}

-- an answer with its fault at the line
abbrev pub at_line : {A : Type 0} → ℕ → Result A Failure → Result A Stuck
at_line line (Ok x) = Ok x
at_line line (Err (failure.Fault f)) = Err (Halted (halt.Fault f line))
at_line line (Err failure.Memory) = Err Memory

-- where there was no memory a run is left as it is where a write failed: at a moment after which no step was counted
abbrev pub left_by : Stuck → Left
left_by (Halted h) = left.Halted h
left_by Memory = left.Unwritten

abbrev pub outcome : {A : Type 0} → Result A Stuck → Result A Left
outcome (Ok x) = Ok x
outcome (Err e) = Err (left_by e)

-- what was done took the one moment to the other, as the act does, with nothing written
abbrev pub Does : LimitedAct → Seen → Seen → Result (Unit {0}) Stuck → Type 0
Does act old new r = (input : List ℕ) (bytes : Option (List ℕ)) → Runs act input old bytes new bytes (outcome r)

-- the same, over this input
abbrev pub DoesOver : List ℕ → LimitedAct → Seen → Seen → Result (Unit {0}) Stuck → Type 0
DoesOver input act old new r = (bytes : Option (List ℕ)) → Runs act input old bytes new bytes (outcome r)

-- what was asked for, as it is seen, or its fault at the line; where there was no memory nothing is said
abbrev pub AnswersAt : {A B : Type 0} → ℕ → (B → A) → Result A Fault → Result B Stuck → Type 0
AnswersAt line view q (Ok x) = q ≡ Ok (view x)
AnswersAt line view q (Err (Halted h)) = Err h ≡ located line q
AnswersAt line view q (Err Memory) = Unit {0}
