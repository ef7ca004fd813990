use Rattle.f77_grammar.proofs.CardLaws.{read_or_refused, not_both, one_refusal}
use Rattle.f77_grammar.proofs.Grouping.{one_reading}
use Rattle.f77_grammar.proofs.cards.source_is_read_or_refused.Goals as goal

pub returns : goal.returns
returns c = record { either = read_or_refused; not_both = not_both; one_list = one_reading; one_refusal = one_refusal }
