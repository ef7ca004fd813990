-- What a program is translated to, and its listing.
use Rattle.std.specs.Prelude.{ℕ, Option, List}
use Rattle.tree.specs.Plain.{Block, Declaration, Program}
use Rattle.translation.specs.nest_blocks.Answers.{AreAnswersFor}
use Rattle.translation.specs.placed_profile.Limits.{IsWithinLimits}
use Rattle.translation.specs.program_translation.Translated.{IsPlacedBy}

-- The lines are a listing of p; and q is p with the blocks in the place of its nests that are emitted by the graphs
-- that are listed and their made names declared, within the limits of Fortran 90
pub record IsVectorised (p : Program) (lines : List (List ℕ)) (q : Program) : Type 0 where
  pub blocks : List (Option Block)
  pub made : List Declaration
  pub answers : AreAnswersFor p lines blocks made
  pub placed : IsPlacedBy p blocks made q
  pub limits : IsWithinLimits q.body
