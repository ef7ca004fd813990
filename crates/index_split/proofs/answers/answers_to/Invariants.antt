-- The answers to all that was found so far.
use Rattle.std.proofs.Common.{map, take}
use Rattle.find_nests.specs.View.{found_of}
use Rattle.index_split.specs.Answers.{AreAnswersTo}
use Rattle.index_split.proofs.answers.answers_to.Given as goal

abbrev pub invariant-loop-found : goal.invariant-loop-found
invariant-loop-found l = AreAnswersTo (map found_of (take l.found-index l.found-items)) l.answers
