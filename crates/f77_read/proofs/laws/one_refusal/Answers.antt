use Rattle.f77_grammar.specs.Reading77.{HasCause77}
use Rattle.f77_grammar.proofs.Answered.{one_answer}
use Rattle.f77_read.proofs.SourceLaws.{one_source_refusal}
use Rattle.f77_read.proofs.laws.one_refusal.Goals as goal

pub returns : goal.returns
returns c = record { cards = (λ d cards r s f g. one_answer (HasCause77 d cards) r s f g); source = one_source_refusal }
