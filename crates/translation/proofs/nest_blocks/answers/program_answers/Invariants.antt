-- The answers to all that was found so far.
use Rattle.std.proofs.Common.{map, take}
use Rattle.f90_print.specs.Notes.{line_text}
use Rattle.find_nests.specs.View.{found_of}
use Rattle.translation.specs.loop_placing.Placing.{blocks_of}
use Rattle.translation.specs.made_declarations.Declaring.{declaration_of_name}
use Rattle.translation.proofs.NestBlocks.SoFar.{AreAnswersTo}
use Rattle.translation.proofs.nest_blocks.answers.program_answers.Given as goal

abbrev pub invariant-loop-found : goal.invariant-loop-found
invariant-loop-found l =
    AreAnswersTo (map found_of (take l.found-index l.found-items)) (map line_text l.lines.items)
    (blocks_of l.blocks.items) (map declaration_of_name l.made.items) l.counts
