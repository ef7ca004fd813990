-- The statements of a nest with their loops, and names that stand in a loop of a constructor.
use Rattle.std.specs.Prelude.{ℕ, List, ◌∷◌, ◌++◌, map}
use Rattle.meaning.specs.Reads.{names_in}
use Rattle.tree.specs.View.{ConstructorLoop}
use Rattle.nest.specs.Bodies as plain
use Rattle.nest.specs.Plain.{Loop}
use Rattle.nest.specs.View.{Branch, loop_of, guarded_of}
use Rattle.nest.specs.declared.statement_loops.standings.Standing.{Standing}

abbrev pub standing_of : Standing → plain.Standing
standing_of s = record { loops = map loop_of s.loops; statement = guarded_of s.stmt }

abbrev pub statements_in_branch : List Loop → Branch → List plain.Standing
statements_in_branch ls b = plain.statements_in_parts ls b.body

abbrev pub names_in_loop : ConstructorLoop → List (List ℕ)
names_in_loop l = l.variable ∷ names_in l.first ++ names_in l.last
