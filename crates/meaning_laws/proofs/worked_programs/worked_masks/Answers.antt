use Rattle.meaning_laws.proofs.worked_programs.Masks as worked
use Rattle.meaning_laws.proofs.worked_programs.worked_masks.Goals as goal

pub returns : goal.returns
returns c = record {
  guarded_division = worked.guarded_division;
  scalars_under_a_false_mask = worked.scalars_under_a_false_mask;
  scalars_under_a_true_mask = worked.scalars_under_a_true_mask;
  subscript_under_a_false_mask = worked.subscript_under_a_false_mask;
  sum_under_a_false_mask = worked.sum_under_a_false_mask;
  mask_is_known_first = worked.mask_is_known_first;
}
