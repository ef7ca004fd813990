use Rattle.f77_read.proofs.one_answer.Sources as sources
use Rattle.f77_read.proofs.one_answer.Settled.{all_settled}
use Rattle.f77_read.proofs.one_answer.laws.source_is_read_or_refused.Goals as goal

pub returns : goal.returns
returns c = record {
  either = sources.either all_settled;
  not_both = sources.not_both all_settled;
  one_program = sources.one_program all_settled;
}
