-- Two faults in one statement: the one of the earlier stage ends the run, computed.
use Rattle.std.proofs.Common.{refl, []}
use Rattle.meaning.specs.declared.End.TheVariants.{Fault}
use Rattle.tree.specs.declared.ops.Fault.TheVariants.{Bounds, Overflow, Shape, ZeroDivide, ZeroStep}
use Rattle.meaning_laws.specs.worked_programs.Comes.{Comes}
use Rattle.meaning_laws.specs.worked_programs.Stages as decks
use Rattle.meaning_laws.proofs.worked_programs.Computing.{computed}

pub mask_before_left_side : Comes decks.mask_before_left_side [] [] (Fault ZeroStep 2) 1
unfolding computed
mask_before_left_side = record { written_is = refl; ending_is = refl; steps_are = refl }

pub left_side_before_right_side : Comes decks.left_side_before_right_side [] [] (Fault Bounds 2) 1
unfolding computed
left_side_before_right_side = record { written_is = refl; ending_is = refl; steps_are = refl }

pub scalar_right_side_before_left_side : Comes decks.scalar_right_side_before_left_side [] [] (Fault ZeroDivide 2) 1
unfolding computed
scalar_right_side_before_left_side = record { written_is = refl; ending_is = refl; steps_are = refl }

pub step_before_shape : Comes decks.step_before_shape [] [] (Fault ZeroStep 2) 1
unfolding computed
step_before_shape = record { written_is = refl; ending_is = refl; steps_are = refl }

pub mask_against_left_side : Comes decks.mask_against_left_side [] [] (Fault Shape 2) 1
unfolding computed
mask_against_left_side = record { written_is = refl; ending_is = refl; steps_are = refl }

pub operands_against_one_another : Comes decks.operands_against_one_another [] [] (Fault Shape 2) 1
unfolding computed
operands_against_one_another = record { written_is = refl; ending_is = refl; steps_are = refl }

pub right_side_in_whole_before_mask_values : Comes decks.right_side_in_whole_before_mask_values [] [] (Fault Bounds 2) 1
unfolding computed
right_side_in_whole_before_mask_values = record { written_is = refl; ending_is = refl; steps_are = refl }

pub right_side_shape_before_mask_values : Comes decks.right_side_shape_before_mask_values [] [] (Fault Shape 2) 1
unfolding computed
right_side_shape_before_mask_values = record { written_is = refl; ending_is = refl; steps_are = refl }

pub mask_values_before_operations : Comes decks.mask_values_before_operations [] [] (Fault ZeroDivide 2) 1
unfolding computed
mask_values_before_operations = record { written_is = refl; ending_is = refl; steps_are = refl }

pub operations_before_range : Comes decks.operations_before_range [] [] (Fault ZeroDivide 4) 7
unfolding computed
operations_before_range = record { written_is = refl; ending_is = refl; steps_are = refl }

pub range_before_stores : Comes decks.range_before_stores [] [] (Fault Overflow 3) 5
unfolding computed
range_before_stores = record { written_is = refl; ending_is = refl; steps_are = refl }

pub arguments_against_one_another : Comes decks.arguments_against_one_another [] [] (Fault Shape 2) 1
unfolding computed
arguments_against_one_another = record { written_is = refl; ending_is = refl; steps_are = refl }
