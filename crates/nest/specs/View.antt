-- The nests of the program as plain nests.
use Rattle.std.specs.Prelude.{List, [], ◌∷◌, map}
use Rattle.std.specs.Option.{option_map}
use Rattle.tree.specs.Plain.{Expression}
use Rattle.tree.specs.View.{expression_of, reference_of, block_of, declaration_of}
use Rattle.nest.specs.declared.parts.Loop.{Loop as Loop'}
use Rattle.nest.specs.declared.parts.GuardedStmt.{GuardedStmt}
use Rattle.nest.specs.declared.parts.Part.{Part as Part', fold-Part}
use Rattle.nest.specs.declared.parts.NestArm.{NestArm, fold-NestArm}
use Rattle.nest.specs.declared.parts.Part.TheOpen.{Part-F, NestArm-F, Run as Run', Turns as Turns'}
use Rattle.nest.specs.declared.parts.Part.TheOpen.{Choice as Choice', Label as Label', Jump as Jump'}
use Rattle.nest.specs.declared.nests.Made.{Made as Made'}
use Rattle.nest.specs.declared.nests.Nest.{Nest as Nest'}
use Rattle.nest.specs.Plain.{Loop, Guarded, Part, Run, Turns, Choice, Label, Jump, Parts, parts, Branches}
use Rattle.nest.specs.Plain.{no_branches, branch, Made, Nest}

abbrev pub loop_of : Loop' → Loop
loop_of l = record {
  number = l.number;
  variable = l.var;
  first = expression_of l.first;
  last = expression_of l.last;
  step = l.step;
  trip = l.trip;
}

abbrev pub guarded_of : GuardedStmt → Guarded
guarded_of s = record {
  line = s.line;
  guard = option_map expression_of s.guard;
  left = reference_of s.left;
  right = expression_of s.right;
}

-- an arm of a block IF
pub record Branch : Type 0 where
  pub test : Expression
  pub body : Parts

abbrev pub branches : List Branch → Branches
branches [] = no_branches
branches (b ∷ bs) = branch b.test b.body (branches bs)

-- one layer of each, over the plain trees of its parts
abbrev pub part_step : Part-F Part Branch → Part
part_step (Run' s) = Run (guarded_of s)
part_step (Turns' l ps) = Turns (loop_of l) (parts ps)
part_step (Choice' bs ps) = Choice (branches bs) (parts ps)
part_step (Label' n) = Label n
part_step (Jump' n) = Jump n

abbrev pub branch_step : NestArm-F Part Branch → Branch
branch_step a = record { test = expression_of a.test; body = parts a.body }

unfoldable pub part_of : Part' → Part
part_of = fold-Part Part Branch part_step branch_step

unfoldable pub branch_of : NestArm → Branch
branch_of = fold-NestArm Part Branch part_step branch_step

-- ---- nests

abbrev pub made_of : Made' → Made
made_of m = record { name = m.name; kind = m.kind; extents = map expression_of m.extents }

abbrev pub nest_of : Nest' → Nest
nest_of n = record {
  number = n.number;
  line = n.line;
  title = n.title;
  body = part_of n.body;
  declarations = map declaration_of n.decls;
  symbols = n.symbols;
  made = map made_of n.made;
  after = block_of n.after;
  masks = n.masks;
  copies = n.copies;
}
