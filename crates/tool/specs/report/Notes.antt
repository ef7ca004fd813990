-- The status of each outcome, and its line for the notes.
use Rattle.std.specs.Prelude.{ℕ, List, [], ◌∷◌, ◌++◌, codes, decimal}
use Rattle.tree.specs.declared.ops.Fault.{Fault}
use Rattle.tree.specs.declared.refusals.Refusal.{Refusal}
use Rattle.tool.specs.declared.report.outcome.Outcome.{Outcome}
use Rattle.tool.specs.declared.report.outcome.Outcome.TheVariants.{Done, Usage, Refused, Faulted, StepLimit, ReadFault}
use Rattle.tool.specs.declared.report.outcome.Outcome.TheVariants.{WriteFault, OutOfMemory}
use Rattle.tool.specs.report.Names.{fault_number, fault_name, name_of_refusal, refusal_word}

abbrev pub status_of : Outcome → ℕ
status_of Done = 0
status_of Usage = 1
status_of (Refused r) = 2
status_of (Faulted fault line) = 3
status_of StepLimit = 4
status_of ReadFault = 5
status_of WriteFault = 6
status_of OutOfMemory = 7

-- a blank and the word, and nothing where there is no word
abbrev pub after_blank : List ℕ → List ℕ
after_blank [] = []
after_blank (c ∷ cs) = codes " " ++ c ∷ cs

abbrev pub refusal_line : Refusal → List ℕ
refusal_line r =
    codes "fvec: line " ++ decimal r.line ++ codes ": refused " ++ decimal r.number
    ++ after_blank (name_of_refusal r.number) ++ after_blank (refusal_word r.number r.word) ++ codes "\n"

abbrev pub fault_line : Fault → ℕ → List ℕ
fault_line fault line =
    codes "fvec: line " ++ decimal line ++ codes ": fault " ++ decimal (fault_number fault)
    ++ after_blank (fault_name fault) ++ codes "\n"

abbrev pub note_of : Outcome → List ℕ
note_of Done = []
note_of Usage =
    codes "fvec: usage: vectorise [--wide] | graph [--wide] | run77 [--wide] [--final] [--steps N]"
    ++ codes " | run90 [--wide] [--final] [--steps N] | make N\n"
note_of (Refused r) = refusal_line r
note_of (Faulted fault line) = fault_line fault line
note_of StepLimit = codes "fvec: step limit\n"
note_of ReadFault = codes "fvec: read fault\n"
note_of WriteFault = codes "fvec: write fault\n"
note_of OutOfMemory = codes "fvec: out of memory\n"
