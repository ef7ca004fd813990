-- What a program is split to.
use Rattle.std.specs.Prelude.{◌≡◌, ◌<◌, ◌^◌, List}
use Rattle.find_nests.specs.Found.{found_in}
use Rattle.meaning.specs.Blocks.{statement_count_in}
use Rattle.tree.specs.Plain.{Program, block}
use Rattle.index_split.specs.Answers.{AreAnswersTo}
use Rattle.index_split.specs.Filled.{filled_in}
use Rattle.index_split.specs.declared.answers.Answer.{Answer}

-- each loop that stands in no nest has become what its answer says, and all else is as it was
pub record IsSplitTo (p q : Program) : Type 0 where
  pub answers : List Answer
  pub are : AreAnswersTo (found_in p) answers
  pub is : q ≡ record p { body = block (filled_in answers 0 p.body) }
  pub few : statement_count_in q.body < 2 ^ 31
