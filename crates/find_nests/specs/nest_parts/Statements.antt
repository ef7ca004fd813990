-- The parts of a nest that statements are, by the number of the last loop before them in the program. Statements that
-- no nest has are left out.
use Rattle.std.specs.Prelude.{ℕ, ℤ, pos, Option, Some, None, List, [], ◌∷◌, ◌++◌}
use Rattle.tree.specs.Plain.{Expression, Statement, Assignment, Where, If, Do, Label, GoTo, Stop, Read, Print, Allocate}
use Rattle.tree.specs.Plain.{Deallocate, Arms, no_arms, arm, Block, no_statements, statement}
use Rattle.nest_reasons.specs.Increments.{step_of}
use Rattle.nest.specs.Plain.{Loop, Part, Run, Turns, Choice, Label as Label', Jump, parts, Branches, no_branches}
use Rattle.nest.specs.Plain.{branch}
use Rattle.find_nests.specs.nest_parts.Numbers.{next_loop_number, number_after, after_arms, after_block}

-- a loop of a nest has a suitable increment
abbrev pub step_or_zero : Option ℤ → ℤ
step_or_zero (Some z) = z
step_or_zero None = pos 0

abbrev pub source_loop : ℕ → List ℕ → Expression → Expression → Expression → Loop
source_loop n x first last step = record {
  number = n;
  variable = x;
  first = first;
  last = last;
  step = step_or_zero (step_of step);
  trip = None;
}

abbrev mutual
  pub parts_of : ℕ → Statement → List Part
  parts_of k (Assignment line mark left right) =
      Run (record { line = line; guard = None; left = left; right = right }) ∷ []
  parts_of k (Where line mark mask left right) = []
  parts_of k (If line arms other) =
      Choice (branches_of k arms) (parts (parts_of_block (after_arms k arms) other)) ∷ []
  parts_of k (Do line x a b c body) =
      Turns (source_loop (next_loop_number k) x a b c) (parts (parts_of_block (next_loop_number k) body)) ∷ []
  parts_of k (Label n) = Label' n ∷ []
  parts_of k (GoTo line n) = Jump n ∷ []
  parts_of k (Stop line) = []
  parts_of k (Read line is) = []
  parts_of k (Print line is) = []
  parts_of k (Allocate line x es) = []
  parts_of k (Deallocate line x) = []

  pub branches_of : ℕ → Arms → Branches
  branches_of k no_arms = no_branches
  branches_of k (arm test body arms) =
      branch test (parts (parts_of_block k body)) (branches_of (after_block k body) arms)

  pub parts_of_block : ℕ → Block → List Part
  parts_of_block k no_statements = []
  parts_of_block k (statement c cs) = parts_of k c ++ parts_of_block (number_after k c) cs
