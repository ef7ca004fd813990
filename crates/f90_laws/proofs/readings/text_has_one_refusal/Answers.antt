use Rattle.reading.proofs.refusal_order.Answered.{one_answer}
use Rattle.f90_grammar.specs.Refusals.{IsRefusable}
use Rattle.f90_laws.proofs.readings.text_has_one_refusal.Goals as goal

pub returns : goal.returns
returns c = λ text. one_answer (IsRefusable text)
