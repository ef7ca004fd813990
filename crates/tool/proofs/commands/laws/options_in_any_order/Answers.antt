use Rattle.tool.proofs.commands.WordLaws.{request_of-order, request_of-wide_steps, request_of-wide_final}
use Rattle.tool.proofs.commands.laws.options_in_any_order.Goals as goal

pub returns-clause-final_steps : goal.returns-clause-final_steps
returns-clause-final_steps c = request_of-order

pub returns-clause-wide_steps : goal.returns-clause-wide_steps
returns-clause-wide_steps c = request_of-wide_steps

pub returns-clause-wide_final : goal.returns-clause-wide_final
returns-clause-wide_final c = request_of-wide_final
