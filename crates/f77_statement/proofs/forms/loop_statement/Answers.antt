use Rattle.f77_statement.proofs.LoopLaws.{formed_loop, formed_plain}
use Rattle.f77_statement.proofs.forms.loop_statement.Goals as goal

pub returns-clause-labelled : goal.returns-clause-labelled
returns-clause-labelled c digits comma control n h w = formed_loop _ c.args.control _ digits comma control n h w

pub returns-clause-plain : goal.returns-clause-plain
returns-clause-plain c control n h w = formed_plain _ c.args.control _ control n h w
