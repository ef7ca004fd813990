use Rattle.std.proofs.Common.{ap, sym, subst, None, refl, map}
use Rattle.f90_print.specs.Notes.{line_text}
use Rattle.find_nests.specs.Found.{Found}
use Rattle.find_nests.specs.View.{found_of}
use Rattle.translation.specs.made_declarations.Declaring.{declaration_of_name}
use Rattle.translation.specs.nest_blocks.LoopAnswers.{IsAnswerTo}
use Rattle.translation.proofs.NestBlocks.Answering.{kept_as}
use Rattle.translation.proofs.nest_blocks.loop_answers.answer_to.Goals as goal

pub returns-in_ok-kept_loop-in-Kept : goal.returns-in_ok-kept_loop-in-Kept
returns-in_ok-kept_loop-in-Kept c =
    subst (λ (f : Found). IsAnswerTo c.args.counts f (map line_text c.in_ok-kept_loop-in-Kept.field-0) None
    (map declaration_of_name c.new.result) c.args.counts)
    (sym (ap found_of c.in-Kept.is))
    (kept_as c.args.counts c.in-Kept.line c.in-Kept.reason (map line_text c.in_ok-kept_loop-in-Kept.field-0) None
    (map declaration_of_name c.new.result) c.in_ok-kept_loop-in-Kept.ensures refl
    (ap (map declaration_of_name) c.new.ensures))
