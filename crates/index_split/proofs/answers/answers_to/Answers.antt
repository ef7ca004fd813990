use Rattle.std.proofs.Common.{map, ap, ◌∙◌, refl, arith}
use Rattle.find_nests.specs.View.{found_of}
use Rattle.tree.specs.View.{program_of}
use Rattle.index_split.proofs.AnswerLaws.{answers_all, answers_more, few_declarations, in_source}
use Rattle.index_split.proofs.answers.answers_to.Goals as goal

pub find_nests-requires : goal.find_nests-requires
find_nests-requires c = few_declarations (program_of c.args.program.now) c.args.program.now.decls refl c.requires

pub answer_to-requires : goal.answer_to-requires
answer_to-requires c =
    in_source (program_of c.args.program.now) c.as_slice-found-items.result.now c.loop-found.found-index c.found-item.result c.requires
    (ap (map found_of) c.as_slice-found-items.ensures ∙ c.in_ok-find_nests.ensures) (omega arith) c.found-item.is

pub loop-found-preserved : goal.loop-found-preserved
loop-found-preserved c =
    answers_more c.as_slice-found-items.result.now c.loop-found.found-index c.found-item.result c.loop-found.answers c.push.new.self
    c.in_ok-answer.answer (omega arith) c.found-item.is c.loop-found.invariant c.in_ok-answer.ensures c.in_ok-push.ensures.ok

pub returns : goal.returns
returns c =
    answers_all (program_of c.args.program.now) c.as_slice-found-items.result.now c.loop-found.found-index c.loop-found.answers (omega arith)
    (ap (map found_of) c.as_slice-found-items.ensures ∙ c.in_ok-find_nests.ensures) c.loop-found.invariant
