-- What a call answers, beside what it is asked.
use Rattle.std.specs.Prelude.{◌≡◌, Result, Ok, Err}
use Rattle.tree.specs.declared.ops.Fault.{Fault}
use Rattle.array_values.specs.declared.failure.Failure.{Failure}
use Rattle.array_values.specs.declared.failure.Failure.TheVariants as failure

-- what was asked for, as it is seen, or its fault; where there was no memory nothing is said
abbrev pub Answers : {A B : Type 0} → (B → A) → Result A Fault → Result B Failure → Type 0
Answers view q (Ok x) = q ≡ Ok (view x)
Answers view q (Err (failure.Fault f)) = q ≡ Err f
Answers view q (Err failure.Memory) = Unit {0}
