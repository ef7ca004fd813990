use Rattle.meaning_laws.proofs.worked_programs.Stages as worked
use Rattle.meaning_laws.proofs.worked_programs.worked_stages.Goals as goal

pub returns : goal.returns
returns c = record {
  mask_before_left_side = worked.mask_before_left_side;
  left_side_before_right_side = worked.left_side_before_right_side;
  scalar_right_side_before_left_side = worked.scalar_right_side_before_left_side;
  step_before_shape = worked.step_before_shape;
  mask_against_left_side = worked.mask_against_left_side;
  operands_against_one_another = worked.operands_against_one_another;
  right_side_in_whole_before_mask_values = worked.right_side_in_whole_before_mask_values;
  right_side_shape_before_mask_values = worked.right_side_shape_before_mask_values;
  mask_values_before_operations = worked.mask_values_before_operations;
  operations_before_range = worked.operations_before_range;
  range_before_stores = worked.range_before_stores;
  arguments_against_one_another = worked.arguments_against_one_another;
}
