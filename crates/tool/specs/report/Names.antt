-- The names that a line of the notes has for faults, refusals and their words.
use Rattle.std.specs.Prelude.{ℕ, List, [], ◌∷◌, ◌++◌, codes, if◌then◌else◌, ◌==◌}
use Rattle.tree.specs.declared.ops.Fault.{Fault}
use Rattle.tree.specs.declared.ops.Fault.TheVariants.{Overflow, ZeroDivide, Bounds, ZeroStep, TripCount, InputEnd}
use Rattle.tree.specs.declared.ops.Fault.TheVariants.{InputForm, Shape, Allocated}
use Rattle.tree.specs.Causes.{refusal_name, refusal_limit}
use Rattle.f77_grammar.specs.statements.Recognition.{words_left_out}

-- the name that a table has for a number, and nothing for a number that it doesn't have
abbrev pub name_at : ℕ → List (List ℕ × ℕ) → List ℕ
name_at number [] = []
name_at number (entry ∷ entries) = if number == entry.1 then entry.0 else name_at number entries

-- ---- faults

abbrev pub fault_number : Fault → ℕ
fault_number Overflow = 1
fault_number ZeroDivide = 2
fault_number Bounds = 3
fault_number ZeroStep = 4
fault_number TripCount = 5
fault_number InputEnd = 6
fault_number InputForm = 7
fault_number Shape = 8
fault_number Allocated = 9

abbrev pub fault_name : Fault → List ℕ
fault_name Overflow = codes "Overflow"
fault_name ZeroDivide = codes "ZeroDivide"
fault_name Bounds = codes "Bounds"
fault_name ZeroStep = codes "ZeroStep"
fault_name TripCount = codes "TripCount"
fault_name InputEnd = codes "InputEnd"
fault_name InputForm = codes "InputForm"
fault_name Shape = codes "Shape"
fault_name Allocated = codes "Allocated"

-- ---- refusals

-- the name of its cause
abbrev pub name_of_refusal : ℕ → List ℕ
name_of_refusal number = refusal_name number

-- ---- words of refusals

-- the words that the profile leaves out, and the forms that it leaves out
abbrev pub left_out : List (List ℕ × ℕ)
left_out = words_left_out ++ (codes "ARITHMETICIF", 32) ∷ (codes "COMPUTEDGOTO", 33) ∷ (codes "ASSIGNEDGOTO", 34) ∷ []

-- OutOfProfile has a word of what is left out, Limit has that of its limit, and no other refusal has a word
abbrev pub refusal_word : ℕ → ℕ → List ℕ
refusal_word number word = if number == 7 then name_at word left_out else refusal_limit number word
