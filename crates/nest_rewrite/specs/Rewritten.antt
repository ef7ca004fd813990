-- What a rule makes of a nest: of each expression and each left side in it, with loops, labels and jumps as they are.
use Rattle.std.specs.Prelude.{◌≡◌, map}
use Rattle.rewrite.specs.Making.{Making, made}
use Rattle.rewrite.specs.MadeBlocks.{made_block}
use Rattle.nest.specs.Blocks.{numeral}
use Rattle.nest.specs.Plain.{Loop, Part, Run, Turns, Choice, Label, Jump, Parts, no_parts, part, Branches, no_branches}
use Rattle.nest.specs.Plain.{branch, Made, Nest}
use Rattle.nest.specs.View.{Branch}
use Rattle.nest_rewrite.specs.Statements.{rewritten_statement}

module _ (m : Making) where
  -- a loop keeps its variable, its increment and its trip
  abbrev pub rewritten_loop : Loop → Loop
  rewritten_loop l = record l { first = made m l.first; last = made m l.last }

  abbrev mutual
    pub rewritten : Part → Part
    rewritten (Run s) = Run (rewritten_statement m s)
    rewritten (Turns l ps) = Turns (rewritten_loop l) (rewritten_parts ps)
    rewritten (Choice bs ps) = Choice (rewritten_branches bs) (rewritten_parts ps)
    rewritten (Label n) = Label n
    rewritten (Jump n) = Jump n

    pub rewritten_parts : Parts → Parts
    rewritten_parts no_parts = no_parts
    rewritten_parts (part p ps) = part (rewritten p) (rewritten_parts ps)

    pub rewritten_branches : Branches → Branches
    rewritten_branches no_branches = no_branches
    rewritten_branches (branch test ps bs) = branch (made m test) (rewritten_parts ps) (rewritten_branches bs)

  -- an arm of a block IF
  abbrev pub rewritten_branch : Branch → Branch
  rewritten_branch b = record { test = made m b.test; body = rewritten_parts b.body }

  -- an array that a pass made
  abbrev pub rewritten_array : Made → Made
  rewritten_array a = record a { extents = map (made m) a.extents }

  abbrev pub rewritten_nest : Nest → Nest
  rewritten_nest n =
      record n { body = rewritten n.body; made = map rewritten_array n.made; after = made_block m n.after }

  -- The rule leaves the increments of the loops as they are: to a nest they are numbers, and no expressions
  abbrev mutual
    pub KeepsIncrements : Part → Type 0
    KeepsIncrements (Run s) = Unit {0}
    KeepsIncrements (Turns l ps) = (made m (numeral l.step) ≡ numeral l.step) × KeepsIncrementsOfEach ps
    KeepsIncrements (Choice bs ps) = KeepsIncrementsOfBranches bs × KeepsIncrementsOfEach ps
    KeepsIncrements (Label n) = Unit {0}
    KeepsIncrements (Jump n) = Unit {0}

    pub KeepsIncrementsOfEach : Parts → Type 0
    KeepsIncrementsOfEach no_parts = Unit {0}
    KeepsIncrementsOfEach (part p ps) = KeepsIncrements p × KeepsIncrementsOfEach ps

    pub KeepsIncrementsOfBranches : Branches → Type 0
    KeepsIncrementsOfBranches no_branches = Unit {0}
    KeepsIncrementsOfBranches (branch test ps bs) = KeepsIncrementsOfEach ps × KeepsIncrementsOfBranches bs
