use Rattle.meaning_laws.proofs.worked_programs.ArrayFunctions as worked
use Rattle.meaning_laws.proofs.worked_programs.worked_array_functions.Goals as goal

pub returns : goal.returns
returns c = record {
  spread_twice = worked.spread_twice;
  spread_beside_an_array = worked.spread_beside_an_array;
  spread_to_nothing = worked.spread_to_nothing;
  transposed = worked.transposed;
  reshaped_with_too_few = worked.reshaped_with_too_few;
  reductions_of_nothing = worked.reductions_of_nothing;
  partial_sum_past_128_bits = worked.partial_sum_past_128_bits;
}
