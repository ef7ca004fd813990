-- A translated program is marked as its listing has it.
use Rattle.std.specs.Prelude.{Option, List}
use Rattle.tree.specs.Plain.{Block, Declaration, Program}
use Rattle.meaning.specs.Dialect.{fortran77}
use Rattle.tree.specs.declared.width.Width.{Width}
use Rattle.meaning.specs.Profile77.{IsProgram77}
use Rattle.translation.specs.nest_blocks.Answers.{AreAnswers, ArePlaced, nests_by}
use Rattle.translation.specs.program_translation.Translated.{IsPlacedBy}
use Rattle.translation.specs.nest_blocks.LoopAnswers.{LoopAnswer}
use Rattle.translation.specs.program_marks.Marks.{IsMarkedAsListed}

abbrev pub TranslationIsMarked : (width : Width) → Type 0
TranslationIsMarked width = (p q : Program) (answers : List LoopAnswer) (blocks : List (Option Block))
    (made : List Declaration)
    → IsProgram77 (fortran77 width) p → AreAnswers p answers → ArePlaced answers blocks → IsPlacedBy p blocks made q
    → IsMarkedAsListed (nests_by answers) blocks q.body
