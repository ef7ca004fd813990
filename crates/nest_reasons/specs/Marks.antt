-- What stands in a loop's own body: in its IFs too, but not in the loops in it.
use Rattle.std.specs.Prelude.{Bool, true, List, [], ◌∷◌, ◌++◌}
use Rattle.tree.specs.Plain.{Statement, Assignment, Where, If, Do, Label, GoTo, Stop, Read, Print, Allocate, Deallocate}
use Rattle.tree.specs.Plain.{Arms, no_arms, arm, Block, no_statements, statement}
use Rattle.nest_reasons.specs.declared.marks.Mark.{Mark}
use Rattle.nest_reasons.specs.declared.marks.Mark.TheVariants.{Halts, Jumps, Arrives, Turns}

-- by whether it stands in an IF of the body
abbrev mutual
  pub own_marks : Bool → Statement → List Mark
  own_marks b (Assignment line mark left right) = []
  own_marks b (Where line mark mask left right) = []
  own_marks b (If line arms other) = marks_in_arms arms ++ marks_in_block true other
  own_marks b (Do line x first last step body) = Turns b ∷ []
  own_marks b (Label n) = Arrives n ∷ []
  own_marks b (GoTo line n) = Jumps n ∷ []
  own_marks b (Stop line) = Halts ∷ []
  own_marks b (Read line is) = Halts ∷ []
  own_marks b (Print line is) = Halts ∷ []
  own_marks b (Allocate line x es) = []
  own_marks b (Deallocate line x) = []

  pub marks_in_arms : Arms → List Mark
  marks_in_arms no_arms = []
  marks_in_arms (arm test body arms) = marks_in_block true body ++ marks_in_arms arms

  pub marks_in_block : Bool → Block → List Mark
  marks_in_block b no_statements = []
  marks_in_block b (statement c cs) = own_marks b c ++ marks_in_block b cs
