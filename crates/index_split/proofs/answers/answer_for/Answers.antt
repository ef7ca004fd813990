use Rattle.std.proofs.Common.{sym, ap, ◌∙◌}
use Rattle.std.specs.Option.{option_map}
use Rattle.nest.specs.View.{nest_of}
use Rattle.index_split.proofs.AnswerLaws.{few_of_source, normal_ready, normal_there}
use Rattle.index_split.proofs.answers.answer_for.Goals as goal

pub normalise-requires : goal.normalise-requires
normalise-requires c = few_of_source (nest_of c.args.nest.now) c.requires

pub nest_answer-requires-clause-symbols : goal.nest_answer-requires-clause-symbols
nest_answer-requires-clause-symbols c = few_of_source (nest_of c.args.nest.now) c.requires

pub nest_answer-requires-clause-ready : goal.nest_answer-requires-clause-ready
nest_answer-requires-clause-ready c =
    normal_ready (nest_of c.args.nest.now) (nest_of c.in-Some.normal) c.requires
    (sym c.in_ok-normal.ensures ∙ ap (option_map nest_of) c.in-Some.is)

pub unreachable-requires : goal.unreachable-requires
unreachable-requires c =
    normal_there (nest_of c.args.nest.now) c.requires (sym c.in_ok-normal.ensures ∙ ap (option_map nest_of) c.in-None.is)
